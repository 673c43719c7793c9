use Rattle.std.proofs.Common.{◌≡◌, ◌++◌, List, Bor, ℕ, map}
use Rattle.std.specs.List.{range_with_len}
use Rattle.cdp_json.specs.KeyOrder.{in_order, key_at}
use Rattle.cdp_json.proofs.OrderLemmas.{Placed}
use Rattle.cdp_json.proofs.key_order.key_order.Given as goal

abbrev pub invariant-loop-place : goal.invariant-loop-place
invariant-loop-place l =
    (map (λ k. k.1) l.ordered.keys ≡ in_order (key_at (map (λ m. m.key) l.members)) (range_with_len 0 l.place))
    × Placed (map (λ m. m.key) l.members) l.place l.ordered.keys

abbrev pub invariant-loop-entry : goal.invariant-loop-entry
invariant-loop-entry l =
    (done : List (Bor (List ℕ) × ℕ))
    × (l.initial.entry-iterator ≡ done ++ l.entry-iterator)
    × (l.places.items ≡ map (λ k. k.1) done)
