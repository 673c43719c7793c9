-- The answers of a wire in memory, one more.
use Rattle.std.proofs.Common.{◌≡◌, ℕ, zero, suc, ◌+◌, ◌-◌, List, [], ◌∷◌, ◌++◌, length, take, replicate, flat_map, refl, ap, sym, ◌∙◌, append_assoc, append-nil, arith}
use Rattle.std.proofs.lemmas.List.{replicate-append-replicate}
use Rattle.std.specs.Prelude.{slice_index_or}
use Rattle.cdp_edge_wire.specs.Arrived.{Arrived, arrived_of}
use Rattle.cdp_edge_wire.specs.Arrived as arrived
use Rattle.cdp_edge_wire.specs.declared.wire.Taken.{Taken}
use Rattle.cdp_edge_wire.specs.declared.wire.Taken.TheVariants.{End}

-- the first so many of what a wire was made with, and the end after them
abbrev answers_to : List Taken → ℕ → List Arrived
answers_to given n = flat_map arrived_of (take n given) ++ replicate (n - length given) arrived.End

-- all that a wire that was made with nothing gives
answers-none : (n : ℕ) → answers_to [] n ≡ replicate n arrived.End
answers-none zero = refl
answers-none (suc n) =
    let e : suc n - 0 ≡ suc n = omega arith in
    ap (λ k. replicate k arrived.End) e

-- no end yet
first-answer : (g : Taken) (given : List Taken) → answers_to (g ∷ given) 1 ≡ answers_to (g ∷ given) 0 ++ arrived_of g
first-answer g given =
    let later : 1 - length (g ∷ given) ≡ 0 = omega arith in
    let now : 0 - length (g ∷ given) ≡ 0 = omega arith in
    ap (λ k. (arrived_of g ++ []) ++ replicate k arrived.End) later
    ∙ append-nil (arrived_of g ++ [])
    ∙ append-nil (arrived_of g)
    ∙ ap (λ k. replicate k arrived.End ++ arrived_of g) (sym now)

-- what comes after the first is what comes with one less
after-first : (g : Taken) (given : List Taken) (n : ℕ)
    → answers_to (g ∷ given) (suc n) ≡ arrived_of g ++ answers_to given n
after-first g given n =
    let e : suc n - length (g ∷ given) ≡ n - length given = omega arith in
    ap (λ k. (arrived_of g ++ flat_map arrived_of (take n given)) ++ replicate k arrived.End) e
    ∙ append_assoc (arrived_of g) (flat_map arrived_of (take n given)) (replicate (n - length given) arrived.End)

-- one answer more is the next one
answers-suc : (given : List Taken) (n : ℕ)
    → answers_to given (suc n) ≡ answers_to given n ++ arrived_of (slice_index_or given n End)
answers-suc [] n =
    let e : n + 1 ≡ suc n = omega arith in
    answers-none (suc n)
    ∙ ap (λ k. replicate k arrived.End) (sym e)
    ∙ sym (replicate-append-replicate n 1 arrived.End)
    ∙ ap (λ t. t ++ arrived.End ∷ []) (sym (answers-none n))
answers-suc (g ∷ given) zero = first-answer g given
answers-suc (g ∷ given) (suc n) =
    after-first g given (suc n)
    ∙ ap (λ t. arrived_of g ++ t) (answers-suc given n)
    ∙ sym (append_assoc (arrived_of g) (answers_to given n) (arrived_of (slice_index_or given n End)))
    ∙ ap (λ t. t ++ arrived_of (slice_index_or given n End)) (sym (after-first g given n))

-- the same for a place that is counted
pub answers-next : (given : List Taken) (n : ℕ)
    → flat_map arrived_of (take (n + 1) given) ++ replicate (n + 1 - length given) arrived.End
    ≡ (flat_map arrived_of (take n given) ++ replicate (n - length given) arrived.End)
    ++ arrived_of (slice_index_or given n End)
answers-next given n =
    let e : n + 1 ≡ suc n = omega arith in
    ap (λ k. answers_to given k) e ∙ answers-suc given n

-- for a wire in memory
pub ruleset given = (answers-next)
