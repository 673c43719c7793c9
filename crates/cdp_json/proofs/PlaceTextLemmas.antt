-- The texts of places, piece by piece.
use Rattle.std.proofs.Common.{◌≡◌, ℕ, List, [], ◌∷◌, ◌++◌, codes, decimal, refl, sym, ◌∙◌}
use Rattle.std.specs.Char.{encode_utf8}
use Rattle.std.specs.Char.Utf16.{utf16_chars}
use Rattle.json.specs.Print.{escape_byte}
use Rattle.cdp_text.specs.Units.{utf8_of}
use Rattle.cdp_text.specs.declared.position.Place.{Place}
use Rattle.cdp_json.specs.Compact.{compact_text, string_text}
use Rattle.cdp_json.specs.Parts.{location, place_pairs}
use Rattle.cdp_json.specs.Pieces.{object_in_order}
use Rattle.cdp_json.proofs.PieceLemmas.{object-is}

place_pieces : (c l s : List ℕ)
    → object_in_order ((codes "columnNumber", c) ∷ (codes "lineNumber", l) ∷ (codes "scriptId", s) ∷ [])
    ≡ codes "{\"columnNumber\":" ++
    (c ++ (codes ",\"lineNumber\":" ++ (l ++ (codes ",\"scriptId\":" ++ (s ++ codes "}")))))
unfolding utf8_of utf16_chars encode_utf8 escape_byte
place_pieces c l s = refl

pub place-written : (p : Place)
    → codes "{\"columnNumber\":" ++
    (decimal p.pos.col ++
    (codes ",\"lineNumber\":" ++
    (decimal p.pos.line ++ (codes ",\"scriptId\":" ++ (string_text (decimal p.script) ++ codes "}")))))
    ≡ compact_text (location p)
place-written p =
    sym (object-is (place_pairs p)
    ((codes "columnNumber", decimal p.pos.col) ∷ (codes "lineNumber", decimal p.pos.line)
    ∷ (codes "scriptId", string_text (decimal p.script)) ∷ []) refl
    ∙ place_pieces (decimal p.pos.col) (decimal p.pos.line) (string_text (decimal p.script)))
