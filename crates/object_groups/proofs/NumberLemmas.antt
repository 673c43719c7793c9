-- The order of numbers, as handles are added at the end and taken out.
use Rattle.std.proofs.Common.{◌≡◌, ℕ, ◌+◌, ◌<◌, ◌≤◌, Bool, true, false, not, ◌||◌, cond, List, [], ◌∷◌, ◌++◌, length, refl, ap, ◌∙◌, arith, true≢false, Bor}
use Rattle.std.specs.Prelude.{filter, nat_eq, Option, Some, None}
use Rattle.std.specs.List.{find, list_any}
use Rattle.std.specs.Option.{is_some, option_copied}
use Rattle.std.proofs.lemmas.Bool.Decides.{nat_tests}
use Rattle.object_groups.specs.declared.handle.Handle.{Handle}
use Rattle.object_groups.specs.Handles.{has_number, has_another_number}
use Rattle.object_groups.specs.Numbers.{AllBelow, AllAbove, IsAscending}

pub below-weaker : (m n : ℕ) (hs : List Handle) → m ≤ n → AllBelow m hs → AllBelow n hs
below-weaker m n [] le a = tt
below-weaker m n (h ∷ hs) le a = (omega (arith, a.0), below-weaker m n hs le a.1)

pub below-push : (n : ℕ) (hs : List Handle) (h : Handle) → AllBelow n hs → h.number < n → AllBelow n (hs ++ h ∷ [])
below-push n [] h a lt = (lt, tt)
below-push n (x ∷ hs) h a lt = (a.0, below-push n hs h a.1 lt)

pub below-filter : (n : ℕ) (p : Handle → Bool) (hs : List Handle) → AllBelow n hs → AllBelow n (filter p hs)
below-filter n p [] a = tt
below-filter n p (h ∷ hs) a =
    let rest = below-filter n p hs a.1 in
    elim (p h) as (λ b. AllBelow n (cond b (h ∷ filter p hs) (filter p hs))) [ true ↦ (a.0, rest) | false ↦ rest ]

pub above-push : (n : ℕ) (hs : List Handle) (h : Handle) → AllAbove n hs → n < h.number → AllAbove n (hs ++ h ∷ [])
above-push n [] h a lt = (lt, tt)
above-push n (x ∷ hs) h a lt = (a.0, above-push n hs h a.1 lt)

pub above-filter : (n : ℕ) (p : Handle → Bool) (hs : List Handle) → AllAbove n hs → AllAbove n (filter p hs)
above-filter n p [] a = tt
above-filter n p (h ∷ hs) a =
    let rest = above-filter n p hs a.1 in
    elim (p h) as (λ b. AllAbove n (cond b (h ∷ filter p hs) (filter p hs))) [ true ↦ (a.0, rest) | false ↦ rest ]

pub ascending-push : (hs : List Handle) (h : Handle)
    → AllBelow h.number hs
    → IsAscending hs
    → IsAscending (hs ++ h ∷ [])
ascending-push [] h b a = (tt, tt)
ascending-push (x ∷ hs) h b a = (above-push x.number hs h a.0 b.0, ascending-push hs h b.1 a.1)

pub ascending-filter : (p : Handle → Bool) (hs : List Handle) → IsAscending hs → IsAscending (filter p hs)
ascending-filter p [] a = tt
ascending-filter p (h ∷ hs) a =
    let rest = ascending-filter p hs a.1 in
    elim (p h) as (λ b. IsAscending (cond b (h ∷ filter p hs) (filter p hs)))
    [ true ↦ (above-filter h.number p hs a.0, rest) | false ↦ rest ]

-- ---- numbers that no handle has

pub unused-below : (n : ℕ) (hs : List Handle) → AllBelow n hs → list_any (has_number n) hs ≡ false
unused-below n [] a = refl
unused-below n (h ∷ hs) a =
    let other : nat_eq n h.number ≡ false = grind (arith, nat_tests, a.0) in
    ap (λ b. b || list_any (has_number n) hs) other ∙ unused-below n hs a.1

pub unused-above : (m n : ℕ) (hs : List Handle) → AllAbove m hs → n ≤ m → list_any (has_number n) hs ≡ false
unused-above m n [] a le = refl
unused-above m n (h ∷ hs) a le =
    let other : nat_eq n h.number ≡ false = grind (arith, nat_tests, a.0) in
    ap (λ b. b || list_any (has_number n) hs) other ∙ unused-above m n hs a.1 le

-- what isn't there can be taken out
pub without-unused : (n : ℕ) (hs : List Handle)
    → list_any (has_number n) hs ≡ false
    → filter (has_another_number n) hs ≡ hs
without-unused n [] u = refl
without-unused n (h ∷ hs) u = at (λ v. without-unused n hs v) (has_number n h) u
  where
    at : (list_any (has_number n) hs ≡ false → filter (has_another_number n) hs ≡ hs)
        → (b : Bool)
        → (b || list_any (has_number n) hs) ≡ false
        → cond (not b) (h ∷ filter (has_another_number n) hs) (filter (has_another_number n) hs) ≡ h ∷ hs
    at rest true v = absurd (true≢false v)
    at rest false v = ap (λ xs. h ∷ xs) (rest v)

pub find-any : (n : ℕ) (hs : List Handle) → is_some (find (has_number n) hs) ≡ list_any (has_number n) hs
find-any n [] = refl
find-any n (h ∷ hs) =
    elim (has_number n h) as
    (λ b. is_some (cond b (Some h) (find (has_number n) hs)) ≡ (b || list_any (has_number n) hs))
    [ true ↦ refl | false ↦ find-any n hs ]

-- at most one handle has a number
pub length-without : (n : ℕ) (hs : List Handle)
    → IsAscending hs
    → length (filter (has_another_number n) hs) + cond (list_any (has_number n) hs) 1 0 ≡ length hs
length-without n [] a = refl
length-without n (h ∷ hs) a = at (length-without n hs a.1) (has_number n h) refl
  where
    at : length (filter (has_another_number n) hs) + cond (list_any (has_number n) hs) 1 0 ≡ length hs
        → (b : Bool)
        → has_number n h ≡ b
        → length (cond (not b) (h ∷ filter (has_another_number n) hs) (filter (has_another_number n) hs)) + cond
        (b || list_any (has_number n) hs) 1 0 ≡ length (h ∷ hs)
    at less true e =
        let rest = ap length (without-unused n hs (unused-above h.number n hs a.0 (grind (arith, nat_tests)))) in
        omega (arith, rest)
    at less false e = omega (arith, less)

pub copied-some : {X : Type 0} (o : Option (Bor X)) → is_some o ≡ is_some (option_copied o)
copied-some None = refl
copied-some (Some x) = refl
