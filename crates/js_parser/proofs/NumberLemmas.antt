-- The numbers of a source's nodes.
use Rattle.std.proofs.Common.{◌≡◌, ℕ, zero, suc, ◌+◌, ◌≤◌, List, [], ◌∷◌, length, refl, ap, subst, arith}
use Rattle.std.specs.List.{range_with_len}
use Rattle.js_tree.specs.declared.node.Span.{Span}
use Rattle.js_parser_language.specs.Places.{FlatPlace, stands, stands_maybe, opens, closes, numbers_of}
use Rattle.js_parser_readers.specs.Placed.{AreNumbered}

no_lower : (first next : ℕ) (ps : List FlatPlace) → AreNumbered first ps next → first ≤ next
no_lower first next [] h = omega (arith, h)
no_lower first next (stands s ∷ ps) h = no_lower first next ps h
no_lower first next (stands_maybe k ∷ ps) h = no_lower first next ps h
no_lower first next (opens n ∷ ps) h = no_lower first next ps h
no_lower first next (closes n ∷ ps) h = omega (arith, no_lower (suc first) next ps h.1)

one_by_one : (first next k : ℕ) (ps : List FlatPlace)
    → AreNumbered first ps next
    → first + k ≡ next
    → numbers_of ps ≡ range_with_len first k
one_by_one first next zero [] h e = refl
one_by_one first next (suc k) [] h e = absurd (omega (arith, h, e))
one_by_one first next k (stands s ∷ ps) h e = one_by_one first next k ps h e
one_by_one first next k (stands_maybe j ∷ ps) h e = one_by_one first next k ps h e
one_by_one first next k (opens n ∷ ps) h e = one_by_one first next k ps h e
one_by_one first next zero (closes n ∷ ps) h e = absurd (omega (arith, no_lower (suc first) next ps h.1, e))
one_by_one first next (suc k) (closes n ∷ ps) h e =
    let on : suc first ≡ first + 1 = omega arith in
    rw h.0 (ap (λ (ns : List ℕ). first ∷ ns)
    (subst (λ m. numbers_of ps ≡ range_with_len m k) on (one_by_one (suc first) next k ps h.1 (omega (arith, e)))))

-- where there was no node before
pub from_zero : (old new : List Span) (ps : List FlatPlace) (count : ℕ)
    → old ≡ []
    → AreNumbered (length old) ps (length new)
    → count ≡ length new
    → numbers_of ps ≡ range_with_len 0 count
from_zero old new ps count none h e = one_by_one 0 count count ps (rw e (rw none at h)) (omega arith)
