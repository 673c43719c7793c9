-- Two numbers have the same text only if they are one number.
use Rattle.std.proofs.Common.{◌≡◌, ℕ, zero, suc, ◌+◌, ◌≤◌, Bool, true, false, List, [], ◌∷◌, length, Option, Some, None, refl, sym, ap, ◌∙◌, arith}
use Rattle.std.proofs.lemmas.List.{length-replicate}
use Rattle.std.specs.Prelude.{slice_get, unwrap_or, nat_eq}
use Rattle.js_heap.specs.Keys.{same_units}
use Rattle.js_heap_memory.specs.Names.{total, spare, name_of, Differ}
use Rattle.std.proofs.lemmas.Bool.{and_parts, eqb-true, eq-eqb}

-- ---- same units

pub same-refl : (us : List ℕ) → same_units us us ≡ true
same-refl [] = refl
same-refl (u ∷ us) = rw (eq-eqb u u refl, same-refl us) refl

pub same-only : (us vs : List ℕ) → same_units us vs ≡ true → us ≡ vs
same-only [] [] e = refl
same-only [] (v ∷ vs) e = absurd cc
same-only (u ∷ us) [] e = absurd cc
same-only (u ∷ us) (v ∷ vs) e =
    let b = and_parts (nat_eq u v) (same_units us vs) e in
    rw (eqb-true u v b.0, same-only us vs b.1) refl

-- ---- the table

get_total : (ts : List (List ℕ)) (i : ℕ) (t : List ℕ) → slice_get ts i ≡ Some t → length t ≤ total ts
get_total [] i t e = absurd cc
get_total (u ∷ ts) zero t e = let f : u ≡ t = cc in omega (arith, ap length f)
get_total (u ∷ ts) (suc i) t e = omega (arith, get_total ts i t e)

spare_long : (ts : List (List ℕ)) (n : ℕ) → length (spare ts n) ≡ suc (total ts + n)
spare_long ts n = length-replicate (suc (total ts + n)) 0

one_number : (ts : List (List ℕ)) (m n : ℕ) (o p : Option (List ℕ))
    → slice_get ts m ≡ o
    → slice_get ts n ≡ p
    → Differ ts
    → unwrap_or o (spare ts m) ≡ unwrap_or p (spare ts n)
    → m ≡ n
one_number ts m n (Some t) (Some u) e f d h = d m n t e (let h' : t ≡ u = h in f ∙ ap (λ s. Some s) (sym h'))
one_number ts m n (Some t) None e f d h =
    let l : length t ≡ length (spare ts n) = ap length h in
    absurd (omega (arith, l, get_total ts m t e, spare_long ts n))
one_number ts m n None (Some u) e f d h =
    let l : length (spare ts m) ≡ length u = ap length h in
    absurd (omega (arith, l, get_total ts n u f, spare_long ts m))
one_number ts m n None None e f d h =
    let l : length (spare ts m) ≡ length (spare ts n) = ap length h in
    omega (arith, l, spare_long ts m, spare_long ts n)

pub name-once : (ts : List (List ℕ)) (m n : ℕ) → Differ ts → name_of ts m ≡ name_of ts n → m ≡ n
unfolding name_of
name-once ts m n d h = one_number ts m n (slice_get ts m) (slice_get ts n) refl refl d h

both : (b c : Bool) → (b ≡ true → c ≡ true) → (c ≡ true → b ≡ true) → c ≡ b
both true c f g = f refl
both false true f g = sym (g refl)
both false false f g = refl

-- texts are compared by their numbers
pub same-names : (ts : List (List ℕ)) (m n : ℕ) → Differ ts → same_units (name_of ts m) (name_of ts n) ≡ nat_eq m n
same-names ts m n d =
    both (nat_eq m n) (same_units (name_of ts m) (name_of ts n))
    (λ e. let f : m ≡ n = eqb-true m n e in rw f (same-refl (name_of ts n)))
    (λ e. let f : m ≡ n = name-once ts m n d (same-only (name_of ts m) (name_of ts n) e) in rw f (eq-eqb n n refl))
