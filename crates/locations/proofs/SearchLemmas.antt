-- The search among locations in ascending order.
use Rattle.std.proofs.Common.{◌≡◌, ℕ, zero, suc, ◌-◌, ◌↔◌, Bool, true, false, not, ◌&&◌, cond, List, [], ◌∷◌, length, get_or, take, drop, Option, Some, None, refl, sym, ap, subst, ◌∙◌, arith, inl, inr, length-drop, if◌then◌else◌}
use Rattle.std.specs.Prelude.{All, IsTrue, IsNone, is_some, filter, slice_get}
use Rattle.std.specs.List.Sorted.{IsPartitionedBy, IsPartitionPoint}
use Rattle.std.proofs.lemmas.Bool.{cases_lt, false≢true}
use Rattle.std.proofs.lemmas.List.Elements.{All-nil}
use Rattle.std.proofs.lemmas.List.{take_all}
use Rattle.std.proofs.lemmas.Bool.Decides.{nat_tests}
use Rattle.cdp_text.specs.declared.position.Pos.{Pos}
use Rattle.cdp_text.specs.Position.{IsBefore}
use Rattle.locations.specs.declared.spot.Spot.{Spot}
use Rattle.locations.specs.Order.{IsAscending}
use Rattle.locations.specs.Search.{is_before, first_from, is_before_end, is_between}

-- ---- the order of positions

pub before_true : (p q : Pos) → is_before p q ≡ true → IsBefore p q
before_true p q e = grind (arith, nat_tests)

pub true_before : (p q : Pos) → IsBefore p q → is_before p q ≡ true
true_before p q (inl h) = grind (arith, nat_tests)
true_before p q (inr h) = grind (arith, nat_tests)

before_before : (p q r : Pos) → IsBefore p q → IsBefore q r → IsBefore p r
before_before p q r (inl h) (inl k) = inl (omega arith)
before_before p q r (inl h) (inr k) = inl (omega (arith, k.0))
before_before p q r (inr h) (inl k) = inl (omega (arith, h.0))
before_before p q r (inr h) (inr k) = inr (h.0 ∙ k.0, omega (arith, h.1, k.1))

decided_by : (b c : Bool) (P : Type 0) → (IsTrue b ↔ P) → (c ≡ true → P) → (P → c ≡ true) → b ≡ c
decided_by true true P h f g = refl
decided_by false false P h f g = refl
decided_by true false P h f g = sym (g (h.0 refl))
decided_by false true P h f g = h.1 (f refl)

pub decided : (b : Bool) (p q : Pos) → (IsTrue b ↔ IsBefore p q) → b ≡ is_before p q
decided b p q h = decided_by b (is_before p q) (IsBefore p q) h (before_true p q) (true_before p q)

-- ---- those before a position stand first

pub partitioned : (spots : List Spot) (pos : Pos) → IsAscending spots → IsPartitionedBy (λ s. is_before s.pos pos) spots
partitioned spots pos h i j d l m e =
    elim (cases_lt i j) [
      | inl lt ↦ true_before (get_or spots i d).pos pos
          (before_before (get_or spots i d).pos (get_or spots j d).pos pos (h i j d lt m)
          (before_true (get_or spots j d).pos pos e))
      | inr ge ↦ let same : j ≡ i = omega arith in subst (λ (k : ℕ). is_before (get_or spots k d).pos pos ≡ true) same e
    ]

-- the tests at the places before and from a place
abbrev pub Splits : (Spot → Bool) → List Spot → ℕ → Type 0
Splits p spots n = IsPartitionPoint (λ s. p s ≡ true) (λ s. p s ≡ false) spots n

first_splits : (p : Spot → Bool) (s : Spot) (ss : List Spot) (n : ℕ) → Splits p (s ∷ ss) (suc n) → p s ≡ true
first_splits p s ss n h = h.0 0 s (omega arith) (omega arith)

rest_splits : (p : Spot → Bool) (s : Spot) (ss : List Spot) (n : ℕ) → Splits p (s ∷ ss) (suc n) → Splits p ss n
rest_splits p s ss n h =
    (λ k d a b. h.0 (suc k) d (omega arith) (omega arith), λ k d a b. h.1 (suc k) d (omega arith) (omega arith))

none_splits : (p : Spot → Bool) (s : Spot) (ss : List Spot) → Splits p (s ∷ ss) 0 → p s ≡ false
none_splits p s ss h = h.1 0 s (omega arith) (omega arith)

others_split : (p : Spot → Bool) (s : Spot) (ss : List Spot) → Splits p (s ∷ ss) 0 → Splits p ss 0
others_split p s ss h = (λ k d a b. absurd (omega arith), λ k d a b. h.1 (suc k) d (omega arith) (omega arith))

pub first_at : (pos : Pos) (spots : List Spot) (n : ℕ)
    → Splits (λ s. is_before s.pos pos) spots n
    → slice_get spots n ≡ first_from pos spots
first_at pos [] n h = refl
first_at pos (s ∷ ss) zero h =
    ap (λ b. if b then first_from pos ss else Some s) (sym (none_splits (λ (x : Spot). is_before x.pos pos) s ss h))
first_at pos (s ∷ ss) (suc n) h =
    first_at pos ss n (rest_splits (λ (x : Spot). is_before x.pos pos) s ss n h)
    ∙ ap (λ b. if b then first_from pos ss else Some s)
    (sym (first_splits (λ (x : Spot). is_before x.pos pos) s ss n h))

-- ---- none, where each is before

none_more : (pos : Pos) (s : Spot) (ss : List Spot) (b : Bool)
    → is_before s.pos pos ≡ b
    → IsNone (if b then first_from pos ss else Some s)
    → (IsNone (first_from pos ss) → All (λ x. IsBefore x.pos pos) ss)
    → All (λ x. IsBefore x.pos pos) (s ∷ ss)
none_more pos s ss true e h f zero d l = before_true s.pos pos e
none_more pos s ss true e h f (suc k) d l = f h k d (omega arith)
none_more pos s ss false e h f k d l = absurd (false≢true (sym h))

each_before : (pos : Pos) (spots : List Spot) → IsNone (first_from pos spots) → All (λ s. IsBefore s.pos pos) spots
each_before pos [] h = All-nil (λ (s : Spot). IsBefore s.pos pos)
each_before pos (s ∷ ss) h = none_more pos s ss (is_before s.pos pos) refl h (each_before pos ss)

before_each : (pos : Pos) (spots : List Spot) → All (λ s. IsBefore s.pos pos) spots → IsNone (first_from pos spots)
before_each pos [] h = refl
before_each pos (s ∷ ss) h =
    let e : is_before s.pos pos ≡ true = true_before s.pos pos (h 0 s (omega arith)) in
    let rest : IsNone (first_from pos ss) = before_each pos ss (λ k d l. h (suc k) d (omega arith)) in
    ap (λ b. is_some (if b then first_from pos ss else Some s)) e ∙ rest

pub none_first : (pos : Pos) (spots : List Spot) (o : Option Spot)
    → o ≡ first_from pos spots
    → IsNone o ↔ All (λ s. IsBefore s.pos pos) spots
none_first pos spots o e =
    (λ h. each_before pos spots (ap is_some (sym e) ∙ h), λ h. ap is_some e ∙ before_each pos spots h)

-- ---- those between two positions

between_all : (start : Pos) (end : Option Pos) (spots : List Spot)
    → Splits (λ s. is_before s.pos start) spots 0
    → filter (is_between start end) spots ≡ filter (λ s. is_before_end end s.pos) spots
between_all start end [] h = refl
between_all start end (s ∷ ss) h =
    ap (λ b. cond (not b && is_before_end end s.pos) (s ∷ filter (is_between start end) ss)
    (filter (is_between start end) ss))
    (none_splits (λ (x : Spot). is_before x.pos start) s ss h)
    ∙ ap (λ rest. cond (is_before_end end s.pos) (s ∷ rest) rest)
    (between_all start end ss (others_split (λ (x : Spot). is_before x.pos start) s ss h))

pub between_from : (start : Pos) (end : Option Pos) (spots : List Spot) (n : ℕ)
    → Splits (λ s. is_before s.pos start) spots n
    → filter (is_between start end) spots ≡ filter (λ s. is_before_end end s.pos) (drop n spots)
between_from start end spots zero h = between_all start end spots h
between_from start end [] (suc n) h = refl
between_from start end (s ∷ ss) (suc n) h =
    ap (λ b. cond (not b && is_before_end end s.pos) (s ∷ filter (is_between start end) ss)
    (filter (is_between start end) ss))
    (first_splits (λ (x : Spot). is_before x.pos start) s ss n h)
    ∙ between_from start end ss n (rest_splits (λ (x : Spot). is_before x.pos start) s ss n h)

pub to_the_end : (spots : List Spot) → filter (λ s. is_before_end None s.pos) spots ≡ spots
to_the_end [] = refl
to_the_end (s ∷ ss) = ap (λ rest. s ∷ rest) (to_the_end ss)

none_before : (end : Pos) (spots : List Spot)
    → Splits (λ s. is_before s.pos end) spots 0
    → filter (λ s. is_before_end (Some end) s.pos) spots ≡ []
none_before end [] h = refl
none_before end (s ∷ ss) h =
    ap (λ b. cond b (s ∷ filter (λ (x : Spot). is_before_end (Some end) x.pos) ss)
    (filter (λ (x : Spot). is_before_end (Some end) x.pos) ss))
    (none_splits (λ (x : Spot). is_before x.pos end) s ss h)
    ∙ none_before end ss (others_split (λ (x : Spot). is_before x.pos end) s ss h)

pub up_to : (end : Pos) (spots : List Spot) (n : ℕ)
    → Splits (λ s. is_before s.pos end) spots n
    → filter (λ s. is_before_end (Some end) s.pos) spots ≡ take n spots
up_to end spots zero h = none_before end spots h
up_to end [] (suc n) h = refl
up_to end (s ∷ ss) (suc n) h =
    ap (λ b. cond b (s ∷ filter (λ (x : Spot). is_before_end (Some end) x.pos) ss)
    (filter (λ (x : Spot). is_before_end (Some end) x.pos) ss))
    (first_splits (λ (x : Spot). is_before x.pos end) s ss n h)
    ∙ ap (λ rest. s ∷ rest) (up_to end ss n (rest_splits (λ (x : Spot). is_before x.pos end) s ss n h))

-- the slice from a place on
pub slice_from : (spots : List Spot) (n : ℕ) → take (length spots - n) (drop n spots) ≡ drop n spots
slice_from spots n = take_all (length spots - n) (drop n spots) (omega (arith, length-drop n spots))

pub between_none : (start : Pos) (end : Option Pos) (spots rest : List Spot) (n : ℕ)
    → end ≡ None
    → rest ≡ drop n spots
    → Splits (λ s. is_before s.pos start) spots n
    → rest ≡ filter (is_between start end) spots
between_none start end spots rest n is same h =
    same
    ∙ sym (ap (λ o. filter (is_between start o) spots) is
    ∙ between_from start None spots n h
    ∙ to_the_end (drop n spots))

pub between_some : (start e : Pos) (end : Option Pos) (spots rest : List Spot) (n m : ℕ)
    → end ≡ Some e
    → rest ≡ drop n spots
    → Splits (λ s. is_before s.pos start) spots n
    → Splits (λ s. is_before s.pos e) rest m
    → take m rest ≡ filter (is_between start end) spots
between_some start e end spots rest n m is same h k =
    sym (ap (λ o. filter (is_between start o) spots) is
    ∙ between_from start (Some e) spots n h
    ∙ ap (filter (λ (s : Spot). is_before_end (Some e) s.pos)) (sym same)
    ∙ up_to e rest m k)
