-- Tables that go on.
use Rattle.std.proofs.Common.{◌≡◌, ℕ, zero, suc, ◌+◌, ◌<◌, ◌≤◌, Bool, true, false, List, [], ◌∷◌, ◌++◌, length, take, Option, Some, None, refl, sym, ap, subst, ◌∙◌, ◌⊎◌, inl, inr, arith, length-append, if◌then◌else◌}
use Rattle.std.specs.Prelude.{slice_get, unwrap_or, nat_lt}
use Rattle.js_heap.specs.Keys.{same_units}
use Rattle.js_heap_memory.specs.Names.{spare, name_of, Differ, text_place, number_of}
use Rattle.js_heap_memory.proofs.TableLemmas.{same-refl, same-only}
use Rattle.js_heap.proofs.PlaceLemmas.{one_plus}
use Rattle.std.proofs.lemmas.List.{take_more}
use Rattle.std.proofs.lemmas.Option.{slice_get_within, get_or_from_slice_get}
use Rattle.std.proofs.lemmas.Bool.{ltb-true, le-ltb, lt-ltb}

-- ---- texts that stay

or_first : (ts us : List (List ℕ)) (n : ℕ) (d e : List ℕ)
    → n < length ts
    → unwrap_or (slice_get (ts ++ us) n) d ≡ unwrap_or (slice_get ts n) e
or_first [] us n d e h = absurd (omega arith)
or_first (t ∷ ts) us zero d e h = refl
or_first (t ∷ ts) us (suc n) d e h = or_first ts us n d e (omega arith)

pub name-stays : (ts us : List (List ℕ)) (n : ℕ) → n < length ts → name_of (ts ++ us) n ≡ name_of ts n
unfolding name_of
name-stays ts us n h = or_first ts us n (spare (ts ++ us) n) (spare ts n) h

-- ---- texts that are added

place_first_if : (t : Bool) (ts us : List (List ℕ)) (s : List ℕ)
    → (text_place ts s < length ts → text_place (ts ++ us) s ≡ text_place ts s)
    → (if t then 0 else 1 + text_place ts s) < suc (length ts)
    → (if t then 0 else 1 + text_place (ts ++ us) s) ≡ (if t then 0 else 1 + text_place ts s)
place_first_if true ts us s k h = refl
place_first_if false ts us s k h = ap (λ n. 1 + n) (k (omega arith))

pub place-first : (ts us : List (List ℕ)) (s : List ℕ)
    → text_place ts s < length ts
    → text_place (ts ++ us) s ≡ text_place ts s
place-first [] us s h = absurd (omega arith)
place-first (t ∷ ts) us s h = place_first_if (same_units t s) ts us s (place-first ts us s) h

place_other_if : (t : Bool) (ts us : List (List ℕ)) (s : List ℕ)
    → (length ts ≤ text_place ts s → text_place (ts ++ us) s ≡ length ts + text_place us s)
    → suc (length ts) ≤ (if t then 0 else 1 + text_place ts s)
    → (if t then 0 else 1 + text_place (ts ++ us) s) ≡ suc (length ts) + text_place us s
place_other_if true ts us s k h = absurd (omega arith)
place_other_if false ts us s k h = omega (arith, k (omega arith))

pub place-other : (ts us : List (List ℕ)) (s : List ℕ)
    → length ts ≤ text_place ts s
    → text_place (ts ++ us) s ≡ length ts + text_place us s
place-other [] us s h = omega arith
place-other (t ∷ ts) us s h = place_other_if (same_units t s) ts us s (place-other ts us s) h

-- a text at its place
place_get_if : (b : Bool) (t s : List ℕ) (ts : List (List ℕ))
    → same_units t s ≡ b
    → (text_place ts s < length ts → slice_get ts (text_place ts s) ≡ Some s)
    → (if b then 0 else 1 + text_place ts s) < suc (length ts)
    → slice_get (t ∷ ts) (if b then 0 else 1 + text_place ts s) ≡ Some s
place_get_if true t s ts e k h = ap (λ u. Some u) (same-only t s e)
place_get_if false t s ts e k h = rw (one_plus (text_place ts s)) (k (omega arith))

place_get : (ts : List (List ℕ)) (s : List ℕ) → text_place ts s < length ts → slice_get ts (text_place ts s) ≡ Some s
place_get [] s h = absurd (omega arith)
place_get (t ∷ ts) s h = place_get_if (same_units t s) t s ts refl (place_get ts s) h

text_some : (ts : List (List ℕ)) (n : ℕ) (s : List ℕ) → slice_get ts n ≡ Some s → name_of ts n ≡ s
unfolding name_of
text_some ts n s e = rw e refl

-- only a text that is nowhere is at no place
nowhere_if : (b : Bool) (t s : List ℕ) (ts : List (List ℕ)) (i : ℕ)
    → same_units t s ≡ b
    → suc (length ts) ≤ (if b then 0 else 1 + text_place ts s)
    → (length ts ≤ text_place ts s → (j : ℕ) → slice_get ts j ≡ Some s → ⊥)
    → slice_get (t ∷ ts) i ≡ Some s
    → ⊥
nowhere_if true t s ts i e h k g = absurd (omega arith)
nowhere_if false t s ts zero e h k g = let f : t ≡ s = cc in let r : same_units t s ≡ true = rw f (same-refl s) in cc
nowhere_if false t s ts (suc i) e h k g = k (omega arith) i g

nowhere : (ts : List (List ℕ)) (s : List ℕ) → length ts ≤ text_place ts s → (i : ℕ) → slice_get ts i ≡ Some s → ⊥
nowhere [] s h i g = cc
nowhere (t ∷ ts) s h i g = nowhere_if (same_units t s) t s ts i refl h (nowhere ts s) g

last_or : (ts : List (List ℕ)) (s t : List ℕ) (i : ℕ)
    → slice_get (ts ++ s ∷ []) i ≡ Some t
    → (slice_get ts i ≡ Some t) ⊎ ((i ≡ length ts) × (s ≡ t))
last_or [] s t zero e = inr (refl, cc)
last_or [] s t (suc i) e = absurd cc
last_or (u ∷ ts) s t zero e = inl e
last_or (u ∷ ts) s t (suc i) e = last_more (last_or ts s t i e)
  where
    last_more : (slice_get ts i ≡ Some t) ⊎ ((i ≡ length ts) × (s ≡ t))
        → (slice_get ts i ≡ Some t) ⊎ ((suc i ≡ suc (length ts)) × (s ≡ t))
    last_more (inl f) = inl f
    last_more (inr p) = inr (ap suc p.0, p.1)

differ_more : (ts : List (List ℕ)) (s : List ℕ) → Differ ts → length ts ≤ text_place ts s → Differ (ts ++ s ∷ [])
differ_more ts s d h i j t e f = both_ends (last_or ts s t i e) (last_or ts s t j f)
  where
    both_ends : (slice_get ts i ≡ Some t) ⊎ ((i ≡ length ts) × (s ≡ t))
        → (slice_get ts j ≡ Some t) ⊎ ((j ≡ length ts) × (s ≡ t))
        → i ≡ j
    both_ends (inl g) (inl k) = d i j t g k
    both_ends (inl g) (inr p) = absurd (nowhere ts s h i (g ∙ ap (λ u. Some u) (sym p.1)))
    both_ends (inr p) (inl k) = absurd (nowhere ts s h j (k ∙ ap (λ u. Some u) (sym p.1)))
    both_ends (inr p) (inr q) = p.0 ∙ sym q.0

get_last : (ts : List (List ℕ)) (s : List ℕ) → slice_get (ts ++ s ∷ []) (length ts) ≡ Some s
get_last [] s = refl
get_last (t ∷ ts) s = get_last ts s

-- ---- numbers of texts

some_if : (b : Bool) (m n l : ℕ) → nat_lt m l ≡ b → (if b then Some m else None) ≡ Some n → (n ≡ m) × (m < l)
some_if true m n l e f = let g : m ≡ n = cc in (sym g, grind arith)
some_if false m n l e f = absurd cc

none_if : (b : Bool) (m l : ℕ) → nat_lt m l ≡ b → (if b then Some m else None) ≡ None → l ≤ m
none_if true m l e f = absurd cc
none_if false m l e f = grind arith

-- a number that a text has
pub number-text : (ts : List (List ℕ)) (t : List ℕ) (n : ℕ)
    → number_of ts t ≡ Some n
    → (name_of ts n ≡ t) × (n < length ts)
number-text ts t n e =
    let p = some_if (nat_lt (text_place ts t) (length ts)) (text_place ts t) n (length ts) refl e in
    let P : ℕ → Type 0 = λ i. (name_of ts i ≡ t) × (i < length ts) in
    subst P (sym p.0) (text_some ts (text_place ts t) t (place_get ts t p.1), p.1)

pub number-none : (ts : List (List ℕ)) (t : List ℕ) → number_of ts t ≡ None → length ts ≤ text_place ts t
number-none ts t e = none_if (nat_lt (text_place ts t) (length ts)) (text_place ts t) (length ts) refl e

pub last-text : (ts : List (List ℕ)) (t : List ℕ) → name_of (ts ++ t ∷ []) (length ts) ≡ t
last-text ts t = text_some (ts ++ t ∷ []) (length ts) t (get_last ts t)

pub differ-more : (ts : List (List ℕ)) (t : List ℕ) → Differ ts → number_of ts t ≡ None → Differ (ts ++ t ∷ [])
differ-more ts t d e = differ_more ts t d (number-none ts t e)

abbrev numbered : ℕ → ℕ → Option ℕ
numbered m l = if nat_lt m l then Some m else None

pub false_le : (m n : ℕ) → nat_lt m n ≡ false → n ≤ m
false_le m n e = grind arith

numbered_in : (m l : ℕ) → m < l → numbered m l ≡ Some m
numbered_in m l h = rw (lt-ltb m l h) refl

numbered_out : (m l : ℕ) → l ≤ m → numbered m l ≡ None
numbered_out m l h = rw (le-ltb m l h) refl

numbered_same : (b : Bool) (m n l k : ℕ)
    → nat_lt m l ≡ b
    → (m < l → n ≡ m)
    → (l ≤ m → k ≤ n)
    → l ≤ k
    → numbered n k ≡ numbered m l
numbered_same true m n l k e f g h =
    let i : m < l = ltb-true m l e in
    let j : n ≡ m = f i in
    numbered_in n k (omega (arith, i, j, h)) ∙ ap (λ x. Some x) j ∙ sym (numbered_in m l i)
numbered_same false m n l k e f g h =
    let i : l ≤ m = false_le m l e in
    numbered_out n k (g i) ∙ sym (numbered_out m l i)

length_one : (ts : List (List ℕ)) (t : List ℕ) → length (ts ++ t ∷ []) ≡ length ts + 1
length_one ts t = length-append ts (t ∷ [])

-- the numbers of other texts stay
pub number-other : (ts : List (List ℕ)) (t u : List ℕ)
    → same_units t u ≡ false
    → number_of (ts ++ t ∷ []) u ≡ number_of ts u
number-other ts t u e =
    let f : text_place (t ∷ []) u ≡ 1 = rw e refl in
    numbered_same (nat_lt (text_place ts u) (length ts)) (text_place ts u) (text_place (ts ++ t ∷ []) u) (length ts)
    (length (ts ++ t ∷ [])) refl
    (λ h. place-first ts (t ∷ []) u h)
    (λ h. omega (arith, place-other ts (t ∷ []) u h, f, length_one ts t))
    (omega (arith, length_one ts t))

-- the number of the text that was added
pub number-last : (ts : List (List ℕ)) (t : List ℕ)
    → number_of ts t ≡ None
    → number_of (ts ++ t ∷ []) t ≡ Some (length ts)
number-last ts t e =
    let f : text_place (t ∷ []) t ≡ 0 = rw (same-refl t) refl in
    let g : text_place (ts ++ t ∷ []) t ≡ length ts = omega (arith, place-other ts (t ∷ []) t (number-none ts t e), f)
    in
    numbered_in (text_place (ts ++ t ∷ []) t) (length (ts ++ t ∷ [])) (omega (arith, g, length_one ts t))
    ∙ ap (λ x. Some x) g

-- ---- tables that are cut

get_more : (ts us : List (List ℕ)) (i : ℕ) (t : List ℕ) → slice_get ts i ≡ Some t → slice_get (ts ++ us) i ≡ Some t
get_more [] us i t e = absurd cc
get_more (u ∷ ts) us zero t e = e
get_more (u ∷ ts) us (suc i) t e = get_more ts us i t e

pub differ-less : (ts : List (List ℕ)) (t : List ℕ) → Differ (ts ++ t ∷ []) → Differ ts
differ-less ts t d i j s e f = d i j s (get_more ts (t ∷ []) i s e) (get_more ts (t ∷ []) j s f)

gone_if : (b : Bool) (ts : List (List ℕ)) (t : List ℕ)
    → nat_lt (text_place ts t) (length ts) ≡ b
    → ((i : ℕ) → slice_get ts i ≡ Some t → ⊥)
    → (if b then Some (text_place ts t) else None) ≡ None
gone_if false ts t e f = refl
gone_if true ts t e f = absurd (f (text_place ts t) (place_get ts t (ltb-true (text_place ts t) (length ts) e)))

number_gone : (ts : List (List ℕ)) (t : List ℕ) → ((i : ℕ) → slice_get ts i ≡ Some t → ⊥) → number_of ts t ≡ None
number_gone ts t f = gone_if (nat_lt (text_place ts t) (length ts)) ts t refl f

slice_below : (ts : List (List ℕ)) (i : ℕ) (t : List ℕ) → slice_get ts i ≡ Some t → i < length ts
slice_below [] i t e = absurd cc
slice_below (u ∷ ts) zero t e = omega arith
slice_below (u ∷ ts) (suc i) t e = omega (arith, slice_below ts i t e)

-- the last text is none of those before it
pub number-gone : (ts : List (List ℕ)) (t : List ℕ) → Differ (ts ++ t ∷ []) → number_of ts t ≡ None
number-gone ts t d =
    number_gone ts t
    (λ i e. omega (arith, slice_below ts i t e, d i (length ts) t (get_more ts (t ∷ []) i t e) (get_last ts t)))

get_taken : (n : ℕ) (ts : List (List ℕ)) (i : ℕ) (t : List ℕ)
    → slice_get (take n ts) i ≡ Some t
    → (slice_get ts i ≡ Some t) × (i < n)
get_taken zero ts i t e = absurd cc
get_taken (suc n) [] i t e = absurd cc
get_taken (suc n) (u ∷ ts) zero t e = (e, omega arith)
get_taken (suc n) (u ∷ ts) (suc i) t e = let p = get_taken n ts i t e in (p.0, omega (arith, p.1))

-- the text at a place is none of those before it
pub number-next : (ts : List (List ℕ)) (n : ℕ) (t : List ℕ)
    → Differ ts
    → slice_get ts n ≡ Some t
    → number_of (take n ts) t ≡ None
number-next ts n t d e =
    number_gone (take n ts) t (λ i f. let p = get_taken n ts i t f in omega (arith, p.1, d i n t p.0 e))

-- one text more of a table
pub take-next : (ts : List (List ℕ)) (n : ℕ) (t : List ℕ)
    → slice_get ts n ≡ Some t
    → take (n + 1) ts ≡ take n ts ++ t ∷ []
take-next ts n t e =
    take_more ts n t (slice_get_within ts n t e)
    ∙ ap (λ u. take n ts ++ u ∷ []) (get_or_from_slice_get ts n t t e)
