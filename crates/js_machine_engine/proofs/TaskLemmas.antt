-- The tasks of a stack one by one, from the innermost one.
use Rattle.std.proofs.Common.{◌≡◌, ℕ, zero, suc, ◌-◌, ◌<◌, ◌≤◌, List, [], ◌∷◌, length, take, drop, reverse, None, Some, slice_get, slice_index_or, refl, sym, ap, ◌∙◌, arith}
use Rattle.std.proofs.lemmas.List.{length-reverse, get_or-reverse}
use Rattle.std.proofs.lemmas.Option.{slice_get_past, slice_get-get_or}
use Rattle.js_heap.specs.declared.value.Value.{Value}
use Rattle.js_machine_engine.specs.declared.task.Task.{Task}
use Rattle.js_machine_engine.specs.declared.task.Extra.{Extra}
use Rattle.js_machine_engine.specs.Tasks.{Wide}
use Rattle.js_machine_engine.specs.Stacks.{has_extra, wide, values_of, extra_of, other_extras, widened, widened_back}

widened_length : (ts : List Task) (vs : List Value) (es : List Extra) → length (widened ts vs es) ≡ length ts
widened_length [] vs es = refl
widened_length (t ∷ ts) vs es =
    ap (λ n. suc n) (widened_length ts (take t.base vs) (other_extras (has_extra t.op t.info) es))

widened_at : (ts : List Task) (vs : List Value) (es : List Extra) (i : ℕ) (t : Task)
    → slice_get ts i ≡ Some t
    → slice_get (widened ts vs es) i ≡ Some
    (wide t (values_of (drop i (widened ts vs es))) (extra_of (drop i (widened ts vs es))))
widened_at [] vs es i t h = cc
widened_at (u ∷ ts) vs es zero t h = cc
widened_at (u ∷ ts) vs es (suc i) t h = widened_at ts (take u.base vs) (other_extras (has_extra u.op u.info) es) i t h

-- as many tasks as are kept
pub view-length : (ts : List Task) (vs : List Value) (es : List Extra) (ws : List Wide)
    → widened_back ts vs es ≡ ws
    → length ts ≡ length ws
view-length ts vs es ws e =
    sym (length-reverse ts) ∙ sym (widened_length (reverse ts) vs (reverse es)) ∙ ap (λ (xs : List Wide). length xs) e

back_get : (ts : List Task) (i : ℕ) (t : Task)
    → i < length ts
    → t ≡ slice_index_or ts (length ts - 1 - i) t
    → slice_get (reverse ts) i ≡ Some t
back_get ts i t h e =
    let k : i < length (reverse ts) = omega (arith, length-reverse ts) in
    slice_get-get_or (reverse ts) i t k ∙ ap (λ u. Some u) (get_or-reverse ts i t h ∙ sym e)

-- the one of a number, which is kept behind the others
pub view-at : (ts : List Task) (vs : List Value) (es : List Extra) (ws : List Wide) (i n : ℕ) (t : Task)
    → n ≡ length ts
    → i < n
    → t ≡ slice_index_or ts (n - 1 - i) t
    → widened_back ts vs es ≡ ws
    → slice_get ws i ≡ Some (wide t (values_of (drop i ws)) (extra_of (drop i ws)))
view-at ts vs es ws i n t l h g e =
    let k : i < length ts = omega arith in
    let q : t ≡ slice_index_or ts (length ts - 1 - i) t = g ∙ ap (λ m. slice_index_or ts (m - 1 - i) t) l in
    ap (λ xs. slice_get xs i) (sym e)
    ∙ widened_at (reverse ts) vs (reverse es) i t (back_get ts i t k q)
    ∙ ap (λ xs. Some (wide t (values_of (drop i xs)) (extra_of (drop i xs)))) e

pub view-past : (ts : List Task) (vs : List Value) (es : List Extra) (ws : List Wide) (i : ℕ)
    → length ts ≤ i
    → widened_back ts vs es ≡ ws
    → slice_get ws i ≡ None
view-past ts vs es ws i h e = slice_get_past ws i (omega (arith, view-length ts vs es ws e))
