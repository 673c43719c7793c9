-- The order of places, and which place is among others.
use Rattle.std.proofs.Common.{◌≡◌, Bool, true, false, ◌&&◌, ◌||◌, not, List, [], ◌∷◌, ℕ, nat_eq, nat_cmp, is_eq, refl, sym, ap, ap₂, ◌∙◌, arith}
use Rattle.std.specs.List.{list_any}
use Rattle.std.specs.BTreeMap.{is_at}
use Rattle.std.specs.BTreeSet.{insert_key}
use Rattle.std.specs.Set.{remove_key}
use Rattle.std.specs.Cmp.{IsTotalOrder, both_tied, Equal-is}
use Rattle.std.specs.List.Sorted.{IsStrictlySortedBy}
use Rattle.std.proofs.lemmas.Bool.Decides.{nat_tests}
use Rattle.std.proofs.lemmas.Cmp.{nat_cmp_total, on_total, then_total}
use Rattle.cdp_text.specs.declared.position.Place.{Place}
use Rattle.breakpoints.specs.declared.breakpoint.Breakpoint.{Breakpoint}
use Rattle.breakpoints.specs.Hits.{same_place, has_place, stands_at}
use Rattle.breakpoints.specs.PlaceOrder.{place_cmp}
use Rattle.breakpoints.proofs.AscendingLemmas.{has-put, has-taken}

pub place_total : IsTotalOrder place_cmp
place_total =
    then_total (on_total (λ (p : Place). p.script) nat_cmp_total)
    (then_total (on_total (λ (p : Place). p.pos.line) nat_cmp_total) (on_total (λ (p : Place). p.pos.col) nat_cmp_total))

tied : (a b : ℕ) → nat_eq a b ≡ is_eq (nat_cmp b a)
tied a b = grind (arith, nat_tests)

and_assoc : (a b c : Bool) → (a && b && c) ≡ (a && (b && c))
and_assoc true b c = refl
and_assoc false b c = refl

pub same-tied : (p q : Place) → same_place p q ≡ is_eq (place_cmp q p)
same-tied p q =
    and_assoc (nat_eq p.script q.script) (nat_eq p.pos.line q.pos.line) (nat_eq p.pos.col q.pos.col)
    ∙ both_tied _ _ _ _ (tied p.script q.script)
    (both_tied _ _ _ _ (tied p.pos.line q.pos.line) (tied p.pos.col q.pos.col))

-- what a search by that order finds
pub has-contains : (place : Place) (places : List Place)
    → has_place place places ≡ list_any (is_at (place_cmp place)) places
has-contains place [] = refl
has-contains place (p ∷ ps) = ap₂ (λ a b. a || b) (same-tied p place) (has-contains place ps)

-- ---- one place in place of another that is the same

-- what is the same as one is the same as the other
pub same-right : (r p q : Place) → same_place p q ≡ true → same_place r p ≡ same_place r q
same-right r p q same =
    same-tied r p
    ∙ ap is_eq (sym (place_total.congr q p r ((Equal-is (place_cmp q p)).0 (sym (same-tied p q) ∙ same))))
    ∙ sym (same-tied r q)

pub any-alike : {X : Type 0} (f g : X → Bool) → ((x : X) → f x ≡ g x) → (xs : List X) → list_any f xs ≡ list_any g xs
any-alike f g h [] = refl
any-alike f g h (x ∷ xs) = ap₂ (λ a b. a || b) (h x) (any-alike f g h xs)

pub has-alike : (p q : Place) (places : List Place) → same_place p q ≡ true → has_place p places ≡ has_place q places
has-alike p q places same = any-alike (λ r. same_place r p) (λ r. same_place r q) (λ r. same-right r p q same) places

pub stand-alike : (p q : Place) (bs : List Breakpoint)
    → same_place p q ≡ true
    → list_any (stands_at p) bs ≡ list_any (stands_at q) bs
stand-alike p q bs same = any-alike (stands_at p) (stands_at q) (λ b. has-alike p q b.places same) bs

-- ---- a place more, a place less

pub has-more : (p q : Place) (places : List Place)
    → has_place q (insert_key place_cmp places p) ≡ (same_place p q || has_place q places)
has-more p q places =
    has-contains q (insert_key place_cmp places p)
    ∙ has-put place_total places p q
    ∙ ap₂ (λ a b. a || b) (sym (same-tied p q)) (sym (has-contains q places))

pub has-less : (p q : Place) (places : List Place)
    → IsStrictlySortedBy place_cmp places
    → has_place q (remove_key (is_at (place_cmp p)) places) ≡ (has_place q places && not (same_place p q))
has-less p q places s =
    has-contains q (remove_key (is_at (place_cmp p)) places)
    ∙ has-taken place_total places p q s
    ∙ ap₂ (λ a b. a && not b) (sym (has-contains q places)) (sym (same-tied p q))
