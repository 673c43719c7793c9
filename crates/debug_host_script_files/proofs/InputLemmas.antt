-- The lines of a text, one after another.
use Rattle.std.proofs.Common.{◌≡◌, ◌≢◌, ℕ, ◌<◌, ◌==◌, Bool, true, false, List, [], ◌∷◌, ◌++◌, length, get_or, map, Option, Ok, refl, sym, ap, ◌∙◌, append_assoc, append-nil, arith}
use Rattle.std.specs.Prelude.{IsUtf8}
use Rattle.std.specs.Str.{is_utf8}
use Rattle.std.specs.declared.vec.Vec.{Vec}
use Rattle.std.specs.declared.alloc.Global.{Global}
use Rattle.std.proofs.lemmas.Bool.{eqb-true}
use Rattle.std.proofs.lemmas.Str.{IsUtf8-from_is_utf8, is_utf8-from_IsUtf8}
use Rattle.std.proofs.lemmas.List.Elements.{All-from_get_or}
use Rattle.cdp_edge.specs.Outside.{NamedFile, IfTold, Tells, HandsIn, Given, one_file, with_file}
use Rattle.cdp_edge.proofs.HandedLemmas.{hands_one}
use Rattle.cdp_text.specs.Lines.{IsOneLine}
use Rattle.cdp_text.specs.Units.{utf16_of}
use Rattle.cdp_text.proofs.LinesLemmas.{lines_of-line, lines_of-last}
use Rattle.debug_host_script_files.specs.declared.fault.TextFault.TheVariants as refusals
use Rattle.debug_host_script_files.specs.Input.{input_of, HoldsInput, HoldsNoText}

one_line : (text : List ℕ) → ((i : ℕ) → i < length text → get_or text i 0 ≢ 10) → IsOneLine text
one_line text h = All-from_get_or (λ b. b ≢ 10) text 0 h

line_first : (text front back : List ℕ)
    → text ≡ front ++ 10 ∷ back
    → ((i : ℕ) → i < length front → get_or front i 0 ≢ 10)
    → input_of text ≡ utf16_of front ∷ input_of back
line_first text front back is h =
    ap input_of is ∙ ap (λ ls. map utf16_of ls) (lines_of-line front back (one_line front h))

-- a line that is cut off makes the lines so far longer
pub line_next : (now : List (List ℕ)) (text front back : List ℕ) (new : List (List ℕ)) (u : List ℕ)
    (all : List (List ℕ))
    → text ≡ front ++ 10 ∷ back
    → ((i : ℕ) → i < length front → get_or front i 0 ≢ 10)
    → new ≡ now ++ u ∷ [] → u ≡ utf16_of front → now ++ input_of text ≡ all → new ++ input_of back ≡ all
line_next now text front back new u all is h added unit so =
    ap (λ ls. ls ++ input_of back) (added ∙ ap (λ v. now ++ v ∷ []) unit)
    ∙ append_assoc now (utf16_of front ∷ []) (input_of back)
    ∙ ap (λ ls. now ++ ls) (sym (line_first text front back is h))
    ∙ so

-- a text without LF is one line, unless it is empty
pub line_last : (text : List ℕ)
    → ((i : ℕ) → i < length text → get_or text i 0 ≢ 10)
    → text ≢ []
    → input_of text ≡ utf16_of text ∷ []
line_last [] h some = absurd (some refl)
line_last (byte ∷ text) h some = ap (λ ls. map utf16_of ls) (lines_of-last byte text (one_line (byte ∷ text) h))

is_nothing : (text : List ℕ) → (length text == 0) ≡ true → text ≡ []
is_nothing [] e = refl
is_nothing (byte ∷ text) e =
    let z : length (byte ∷ text) ≡ 0 = eqb-true (length (byte ∷ text)) 0 e in absurd (omega (arith, z))

-- the line behind the last LF, if there is one
pub line_behind : (now : List (List ℕ)) (text : List ℕ) (new : List (List ℕ)) (u : List ℕ) (all : List (List ℕ))
    (empty : Bool)
    → ((i : ℕ) → i < length text → get_or text i 0 ≢ 10)
    → empty ≡ (length text == 0)
    → empty ≡ false
    → new ≡ now ++ u ∷ [] → u ≡ utf16_of text → now ++ input_of text ≡ all → new ≡ all
line_behind now text new u all empty h is some added unit so =
    let there : text ≢ [] = λ e. let n : false ≡ true = sym some ∙ is ∙ ap (λ (t : List ℕ). length t == 0) e in cc in
    added ∙ ap (λ v. now ++ v ∷ []) unit ∙ ap (λ ls. now ++ ls) (sym (line_last text h there)) ∙ so

pub no_line_behind : (now : List (List ℕ)) (text : List ℕ) (new all : List (List ℕ)) (empty : Bool)
    → empty ≡ (length text == 0)
    → empty ≡ true
    → new ≡ now
    → now ++ input_of text ≡ all
    → new ≡ all
no_line_behind now text new all empty is none same so =
    let nothing : text ≡ [] = is_nothing text (sym is ∙ none) in
    same ∙ sym (append-nil now) ∙ ap (λ t. now ++ input_of t) (sym nothing) ∙ so

-- ---- files

test_utf8 : (bs : List ℕ) (b : Bool) → is_utf8 bs ≡ b → ¬ (IsUtf8 bs) → b ≡ false
test_utf8 bs true e h = absurd (h (IsUtf8-from_is_utf8 bs e))
test_utf8 bs false e h = refl

pub no_utf8 : (bs : List ℕ) → ¬ (IsUtf8 bs) → is_utf8 bs ≡ false
no_utf8 bs h = test_utf8 bs (is_utf8 bs) refl h

pub given_no_text : (told : Option (List NamedFile)) (old new : List NamedFile) (bytes : Vec ℕ Global) (name text : List ℕ)
    → IfTold told (λ all. Tells (Ok bytes) name all)
    → new ≡ with_file old name bytes.items
    → text ≡ bytes.items
    → ¬ (IsUtf8 text)
    → Given (HandsIn told old new) (λ given. HoldsNoText given name refusals.NotUtf8)
given_no_text told old new bytes name text h log e isnt = (
  one_file name bytes.items,
  hands_one told old new name bytes h log,
  record { bytes = bytes.items; there = refl; utf8 = ap is_utf8 (sym e) ∙ no_utf8 text isnt; told = refl },
)

pub given_input : (told : Option (List NamedFile)) (old new : List NamedFile) (bytes : Vec ℕ Global)
    (name text taken : List ℕ) (lines : List (List ℕ))
    → IfTold told (λ all. Tells (Ok bytes) name all)
    → new ≡ with_file old name bytes.items
    → text ≡ bytes.items
    → taken ≡ text
    → IsUtf8 text
    → lines ≡ input_of taken
    → Given (HandsIn told old new) (λ given. HoldsInput given name lines)
given_input told old new bytes name text taken lines h log e f u is = (
  one_file name bytes.items,
  hands_one told old new name bytes h log,
  record {
    bytes = bytes.items;
    there = refl;
    utf8 = ap is_utf8 (sym e)
        ∙ is_utf8-from_IsUtf8 text u;
    are = is
        ∙ ap input_of (f ∙ e);
  },
)
