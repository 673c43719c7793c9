-- Where breakpoints are hit.
use Rattle.std.proofs.Common.{◌≡◌, ◌≢◌, ◌↔◌, Bool, true, false, ◌&&◌, ◌||◌, List, [], ◌∷◌, cond, filter, IsTrue, refl}
use Rattle.std.specs.Prelude.{if◌then◌else◌}
use Rattle.std.specs.List.{list_any}
use Rattle.std.proofs.lemmas.Bool.{true_from_ne_false}
use Rattle.cdp_text.specs.declared.position.Place.{Place}
use Rattle.breakpoints.specs.declared.breakpoint.Breakpoint.{Breakpoint}
use Rattle.breakpoints.specs.Hits.{hits_in, stands_at}
use Rattle.breakpoints.specs.Breakpoints.{HeldBreakpoints, hits_at, is_hit}

-- ---- a test and the filter by it

one-stays : {X : Type 0} (passes others : Bool) (x : X) (kept : List X)
    → (others ≡ true → kept ≢ [])
    → (passes || others) ≡ true
    → cond passes (x ∷ kept) kept ≢ []
one-stays true others x kept ih h e = cc
one-stays false others x kept ih h e = ih h e

some-stay : {X : Type 0} (test : X → Bool) (xs : List X) → list_any test xs ≡ true → filter test xs ≢ []
some-stay test [] h e = cc
some-stay test (x ∷ xs) h e = one-stays (test x) (list_any test xs) x (filter test xs) (some-stay test xs) h e

none-more : {X : Type 0} (passes others : Bool) (x : X) (kept : List X)
    → (others ≡ false → kept ≡ [])
    → (passes || others) ≡ false
    → cond passes (x ∷ kept) kept ≡ []
none-more true others x kept ih h = cc
none-more false others x kept ih h = ih h

none-stay : {X : Type 0} (test : X → Bool) (xs : List X) → list_any test xs ≡ false → filter test xs ≡ []
none-stay test [] h = refl
none-stay test (x ∷ xs) h = none-more (test x) (list_any test xs) x (filter test xs) (none-stay test xs) h

-- ---- hits

hit-where : (active : Bool) (place : Place) (bs : List Breakpoint)
    → (active && list_any (stands_at place) bs) ≡ true
    → (if active then hits_in place bs else []) ≢ []
hit-where true place bs h e = some-stay (stands_at place) bs h e
hit-where false place bs h e = cc

none-where : (active : Bool) (place : Place) (bs : List Breakpoint)
    → (active && list_any (stands_at place) bs) ≡ false
    → (if active then hits_in place bs else []) ≡ []
none-where true place bs h = none-stay (stands_at place) bs h
none-where false place bs h = refl

pub is_hit-some : (place : Place) (s : HeldBreakpoints) → is_hit place s ≡ true → hits_at place s ≢ []
is_hit-some place s h = hit-where s.active place s.set h

pub is_hit-none : (place : Place) (s : HeldBreakpoints) → is_hit place s ≡ false → hits_at place s ≡ []
is_hit-none place s h = none-where s.active place s.set h

-- a place is hit exactly where a breakpoint at it is
pub is_hit-iff : (place : Place) (s : HeldBreakpoints) → IsTrue (is_hit place s) ↔ (hits_at place s ≢ [])
is_hit-iff place s = (is_hit-some place s, λ h. true_from_ne_false (is_hit place s) (λ e. h (is_hit-none place s e)))
