-- What changes of properties and names count.
use Rattle.std.proofs.Common.{◌≡◌, ℕ, zero, suc, drop, min, ◌^◌, ◌+◌, ◌-◌, ◌<◌, ◌≤◌, Bool, true, false, List, [], ◌∷◌, length, Option, Some, None, refl, sym, ap, ◌∙◌, arith, if◌then◌else◌}
use Rattle.std.specs.Borrow.{Bor}
use Rattle.std.specs.Prelude.{is_some, option_copied, slice_get, nat_lt, not, ◌||◌, ◌&&◌}
use Rattle.js_heap.specs.declared.value.Value.{Value}
use Rattle.js_heap.specs.declared.cell.Property.{Property}
use Rattle.js_heap.specs.declared.cell.Binding.{Binding}
use Rattle.js_heap.specs.Keys.{same_units, stands_before, index_of_key, property_at, has_key, with_value, placed, without_key, put_property, assigned}
use Rattle.js_heap.specs.Cells.{properties_weight, bound}
use Rattle.js_heap_memory.specs.Changes.{Moves, Exceeds}
use Rattle.js_heap_memory.proofs.TableLemmas.{same-only}
use Rattle.std.proofs.lemmas.Bool.{ltb-true, lt-ltb, and_parts, not-true}

-- ---- whether there is one

some_if : (b : Bool) (p : Property) (o : Option Property) (c : Bool)
    → is_some o ≡ c
    → is_some (if b then Some p else o) ≡ (b || c)
some_if true p o c e = refl
some_if false p o c e = e

pub some-has : (ps : List Property) (key : List ℕ) → is_some (property_at ps key) ≡ has_key ps key
some-has [] key = refl
some-has (p ∷ ps) key = some_if (same_units p.key key) p (property_at ps key) (has_key ps key) (some-has ps key)

pub has-found : (o : Option (Bor Property)) (ps : List Property) (key : List ℕ) (b : Bool)
    → option_copied o ≡ property_at ps key
    → b ≡ is_some o
    → b ≡ has_key ps key
has-found (Some p) ps key b e f = f ∙ ap is_some e ∙ some-has ps key
has-found None ps key b e f = f ∙ ap is_some e ∙ some-has ps key

and_not : (a b : Bool) → (a && not b) ≡ false → a ≡ true → b ≡ true
and_not true true e f = refl
and_not true false e f = absurd cc
and_not false b e f = absurd cc

-- where there is room, or the key is there
pub has-room : (u n : ℕ) (b c : Bool) → c ≡ (nat_lt u n && not b) → c ≡ false → u < n → b ≡ true
has-room u n b c e f h = and_not (nat_lt u n) b (sym e ∙ f) (lt-ltb u n h)

pub lacks : (u n : ℕ) (b c : Bool) → c ≡ (nat_lt u n && not b) → c ≡ true → (u < n) × (b ≡ false)
lacks u n b c e f = let p = and_parts (nat_lt u n) (not b) (sym e ∙ f) in (ltb-true u n p.0, not-true b p.1)

-- ---- another value

with_if : (b : Bool) (p : Property) (ps qs : List Property) (v : Value)
    → (properties_weight qs ≡ properties_weight ps) × (length qs ≡ length ps)
    → (properties_weight (if b then record p { value = v } ∷ ps else p ∷ qs) ≡ properties_weight (p ∷ ps))
    × (length (if b then record p { value = v } ∷ ps else p ∷ qs) ≡ suc (length ps))
with_if true p ps qs v e = (refl, refl)
with_if false p ps qs v e = (omega (arith, e.0), omega (arith, e.1))

with_counts : (ps : List Property) (key : List ℕ) (v : Value)
    → (properties_weight (with_value ps key v) ≡ properties_weight ps) × (length (with_value ps key v) ≡ length ps)
with_counts [] key v = (refl, refl)
with_counts (p ∷ ps) key v = with_if (same_units p.key key) p ps (with_value ps key v) v (with_counts ps key v)

placed_if : (b : Bool) (p new : Property) (ps qs : List Property)
    → (properties_weight qs ≡ properties_weight (new ∷ ps)) × (length qs ≡ suc (length ps))
    → (properties_weight (if b then new ∷ p ∷ ps else p ∷ qs) ≡ properties_weight (new ∷ p ∷ ps))
    × (length (if b then new ∷ p ∷ ps else p ∷ qs) ≡ suc (suc (length ps)))
placed_if true p new ps qs e = (refl, refl)
placed_if false p new ps qs e = (omega (arith, e.0), omega (arith, e.1))

placed_counts : (ps : List Property) (new : Property)
    → (properties_weight (placed ps new) ≡ properties_weight (new ∷ ps)) × (length (placed ps new) ≡ suc (length ps))
placed_counts [] new = (refl, refl)
placed_counts (p ∷ ps) new =
    placed_if (stands_before (index_of_key new.key) (index_of_key p.key)) p new ps (placed ps new)
    (placed_counts ps new)

-- what properties count with a key
put_if : (b : Bool) (ps : List Property) (key : List ℕ) (v : Value)
    → let qs : List Property = if b then with_value ps key v else placed ps (assigned key v) in
    (properties_weight qs ≡ properties_weight ps + (if b then 0 else 8 + length key))
    × (length qs ≡ length ps + (if b then 0 else 1))
put_if true ps key v = let e = with_counts ps key v in (omega (arith, e.0), omega (arith, e.1))
put_if false ps key v = let e = placed_counts ps (assigned key v) in (omega (arith, e.0), omega (arith, e.1))

put_counts : (ps : List Property) (key : List ℕ) (v : Value)
    → (properties_weight (put_property ps key v) ≡ properties_weight ps +
    (if has_key ps key then 0 else 8 + length key))
    × (length (put_property ps key v) ≡ length ps + (if has_key ps key then 0 else 1))
put_counts ps key v = put_if (has_key ps key) ps key v

same_if : (b : Bool) (w x l m n : ℕ) → w ≡ x + (if b then 0 else n) → l ≡ m + (if b then 0 else 1) → l ≡ m → w ≡ x
same_if true w x l m n e f g = omega (arith, e)
same_if false w x l m n e f g = absurd (omega (arith, f, g))

more_if : (b : Bool) (w x l m n u : ℕ)
    → w ≡ x + (if b then 0 else n)
    → l ≡ m + (if b then 0 else 1)
    → (l ≡ m → ⊥)
    → (u < n → b ≡ true)
    → (w ≡ x + n) × (n ≤ u)
more_if true w x l m n u e f g h = absurd (g (omega (arith, f)))
more_if false w x l m n u e f g h = (omega (arith, e), grind (arith, h))

-- the same length: the key was there
pub put-same : (ps qs : List Property) (key : List ℕ) (v : Value) (u : ℕ)
    → qs ≡ put_property ps key v
    → length qs ≡ length ps
    → Moves properties_weight ps (Some (put_property ps key v)) u u qs
put-same ps qs key v u e f =
    let c = put_counts ps key v in
    let g : length (put_property ps key v) ≡ length ps = rw (← e) f in
    let w : properties_weight (put_property ps key v) ≡ properties_weight ps = same_if (has_key ps key)
    (properties_weight (put_property ps key v)) (properties_weight ps) (length (put_property ps key v)) (length ps)
    (8 + length key) c.0 c.1 g in
    (e, omega (arith, w))

-- another length: the key is new
pub put-more : (ps qs : List Property) (key : List ℕ) (v : Value) (u : ℕ)
    → qs ≡ put_property ps key v
    → (length qs ≡ length ps → ⊥)
    → (u < 8 + length key → has_key ps key ≡ true)
    → (8 + length key ≤ u) × Moves properties_weight ps (Some (put_property ps key v)) u (u - (8 + length key)) qs
put-more ps qs key v u e f h =
    let c = put_counts ps key v in
    let g : length (put_property ps key v) ≡ length ps → ⊥ = λ i. f (rw e i) in
    let w = more_if (has_key ps key) (properties_weight (put_property ps key v)) (properties_weight ps)
    (length (put_property ps key v)) (length ps) (8 + length key) u c.0 c.1 g h in
    (w.1, (e, omega (arith, w.0, w.1)))

pub put-exceeds : (ps : List Property) (key : List ℕ) (v : Value) (u : ℕ)
    → has_key ps key ≡ false
    → u < 8 + length key
    → Exceeds properties_weight ps (Some (put_property ps key v)) u
put-exceeds ps key v u e h =
    let c = put_counts ps key v in
    let n : (if has_key ps key then 0 else 8 + length key) ≡ 8 + length key = rw e refl in
    omega (arith, c.0, n, h)

-- ---- without a key

without_if : (b : Bool) (p : Property) (ps qs : List Property) (key : List ℕ)
    → same_units p.key key ≡ b
    → (length qs ≡ length ps → properties_weight qs ≡ properties_weight ps)
    × ((length qs ≡ length ps → ⊥) → properties_weight qs + (8 + length key) ≡ properties_weight ps)
    → let rs : List Property = if b then ps else p ∷ qs in
    (length rs ≡ suc (length ps) → properties_weight rs ≡ properties_weight (p ∷ ps))
    × ((length rs ≡ suc (length ps) → ⊥) → properties_weight rs + (8 + length key) ≡ properties_weight (p ∷ ps))
without_if true p ps qs key e f =
    let l : length p.key ≡ length key = ap length (same-only p.key key e) in
    (λ g. absurd (omega (arith, g)), λ g. omega (arith, l))
without_if false p ps qs key e f =
    (λ g. omega (arith, f.0 (omega (arith, g))), λ g. omega (arith, f.1 (λ h. g (ap suc h))))

without_counts : (ps : List Property) (key : List ℕ)
    → (length (without_key ps key) ≡ length ps → properties_weight (without_key ps key) ≡ properties_weight ps)
    × ((length (without_key ps key) ≡ length ps → ⊥)
    → properties_weight (without_key ps key) + (8 + length key) ≡ properties_weight ps)
without_counts [] key = (λ g. refl, λ g. absurd (g refl))
without_counts (p ∷ ps) key =
    without_if (same_units p.key key) p ps (without_key ps key) key refl (without_counts ps key)

pub without-same : (ps qs : List Property) (key : List ℕ) (u : ℕ)
    → qs ≡ without_key ps key
    → length qs ≡ length ps
    → Moves properties_weight ps (Some (without_key ps key)) u u qs
without-same ps qs key u e f =
    let g : length (without_key ps key) ≡ length ps = rw (← e) f in
    (e, omega (arith, (without_counts ps key).0 g))

pub without-less : (ps qs : List Property) (key : List ℕ) (u left : ℕ)
    → qs ≡ without_key ps key
    → (length qs ≡ length ps → ⊥)
    → left ≡ u + (8 + length key)
    → Moves properties_weight ps (Some (without_key ps key)) u left qs
without-less ps qs key u left e f l =
    let g : length (without_key ps key) ≡ length ps → ⊥ = λ i. f (rw e i) in
    (e, omega (arith, l, (without_counts ps key).1 g))

-- ---- names

bound_length_if : (t : Bool) (b : Binding) (bs : List Binding) (n : List ℕ) (v : Value)
    → length (bound bs n v) ≡ length bs
    → length (if t then record b { value = Some v } ∷ bs else b ∷ bound bs n v) ≡ suc (length bs)
bound_length_if true b bs n v e = refl
bound_length_if false b bs n v e = ap suc e

pub bound-length : (bs : List Binding) (n : List ℕ) (v : Value) → length (bound bs n v) ≡ length bs
bound-length [] n v = refl
bound-length (b ∷ bs) n v = bound_length_if (same_units b.name n) b bs n v (bound-length bs n v)

-- ---- one property after the other

drop_get : (ps : List Property) (i : ℕ) (p : Property) → Some p ≡ slice_get ps i → drop i ps ≡ p ∷ drop (suc i) ps
drop_get [] i p e = absurd cc
drop_get (q ∷ ps) zero p e = let f : q ≡ p = cc in rw f refl
drop_get (q ∷ ps) (suc i) p e = drop_get ps i p e

get_none : (ps : List Property) (i : ℕ) → None ≡ slice_get ps i → i < length ps → ⊥
get_none [] i e h = omega arith
get_none (p ∷ ps) zero e h = cc
get_none (p ∷ ps) (suc i) e h = get_none ps i e (omega arith)

pub default-past : (o : Option (Bor Property)) (ps : List Property) (i : ℕ)
    → ((x : Bor Property) → o ≡ Some x → ⊥)
    → option_copied o ≡ slice_get ps i
    → i < length ps
    → ⊥
default-past (Some x) ps i n e h = n x refl
default-past None ps i n e h = get_none ps i e h

step_min : (t n w x m l : ℕ) → n ≡ min (t + (8 + l)) m → w ≡ 8 + l + x → min (n + x) m ≡ min (t + w) m
step_min t n w x m l e f = grind arith

least : (t n l : ℕ) → n ≡ min (t + (8 + l)) (2 ^ 64 - 1) → n < 2 ^ 64
least t n l e = grind arith

pub weight-step : (ps : List Property) (i : ℕ) (p : Property) (total next : ℕ)
    → Some p ≡ slice_get ps i
    → next ≡ min (total + (8 + length p.key)) (2 ^ 64 - 1)
    → (total < 2 ^ 64)
    × (min (total + properties_weight (drop i ps)) (2 ^ 64 - 1) ≡ min (properties_weight ps) (2 ^ 64 - 1))
    → (next < 2 ^ 64)
    × (min (next + properties_weight (drop (i + 1) ps)) (2 ^ 64 - 1) ≡ min (properties_weight ps) (2 ^ 64 - 1))
weight-step ps i p total next e f h =
    let o : suc i ≡ i + 1 = omega arith in
    let w : properties_weight (drop i ps) ≡ 8 + length p.key + properties_weight (drop (i + 1) ps)
    = ap properties_weight (drop_get ps i p e ∙ ap (λ j. p ∷ drop j ps) o) in (
      least total next (length p.key) f,
      step_min total next (properties_weight (drop i ps)) (properties_weight (drop (i + 1) ps)) (2 ^ 64 - 1)
          (length p.key) f w
          ∙ h.1,
    )
