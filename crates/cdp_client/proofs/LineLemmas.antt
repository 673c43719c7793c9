-- A line is text.
use Rattle.std.proofs.Common.{◌≡◌, ℕ, List, None, refl}
use Rattle.std.specs.Str.{IsUtf8, is_utf8}
use Rattle.std.proofs.lemmas.Str.{is_utf8-from_IsUtf8, IsUtf8-from_is_utf8}
use Rattle.std.proofs.lemmas.Bool.{false_from_ne_true}
use Rattle.cdp_client.specs.Lines.{line_of, line_of_text}

pub line_of-utf8 : (id : ℕ) (bytes : List ℕ) → IsUtf8 bytes → line_of id bytes ≡ line_of_text id bytes
line_of-utf8 id bytes is = rw (is_utf8-from_IsUtf8 bytes is) refl

pub line_of-other : (id : ℕ) (bytes : List ℕ) → ¬ (IsUtf8 bytes) → line_of id bytes ≡ None
line_of-other id bytes isnt =
    rw (false_from_ne_true (is_utf8 bytes) (λ is. isnt (IsUtf8-from_is_utf8 bytes is))) refl
