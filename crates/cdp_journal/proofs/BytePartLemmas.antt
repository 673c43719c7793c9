-- The parts of bytes are those of texts.
use Rattle.std.proofs.Common.{◌≡◌, ◌≢◌, ℕ, ◌+◌, List, ◌++◌, length, take, drop, nat_eq, true, false, Option, Some, None, sym, Bor}
use Rattle.std.specs.Cmp.Lexicographic.{pointwise}
use Rattle.std.specs.Option.{MatchOption, option_map}
use Rattle.std.proofs.lemmas.Bool.Decides.{Decides-eqb}
use Rattle.std.proofs.lemmas.Slice.Eq.{strip_prefix_is}
use Rattle.cdp_text.specs.Parts.{behind}
use Rattle.cdp_text.proofs.PartsLemmas.{behind-append, behind-some, none_from_some}

behind-stripped : (front bytes : List ℕ) (r : Option (Bor (List ℕ)))
    → MatchOption r ((rest : List ℕ) → bytes ≢ front ++ rest) (λ x. bytes ≡ front ++ x.now)
    → option_map (λ rest. rest.now) r ≡ behind front bytes
behind-stripped front bytes None lacks =
    sym (none_from_some (behind front bytes) (λ rest is. lacks rest (behind-some front bytes rest is)))
behind-stripped front bytes (Some x) is = sym (rw is (behind-append front x.now))

-- what the bytes' own call says
pub behind-prefix : (front bytes : List ℕ) (r : Option (Bor (List ℕ)))
    → MatchOption r (pointwise nat_eq (take (length front) bytes) front ≡ false)
    (λ x. (pointwise nat_eq (take (length front) bytes) front ≡ true) × (x.now ≡ drop (length front) bytes)
    × (length x.now + length front ≡ length bytes))
    → option_map (λ rest. rest.now) r ≡ behind front bytes
behind-prefix front bytes r cases = behind-stripped front bytes r (strip_prefix_is Decides-eqb bytes front r cases)
