use Rattle.std.proofs.Common.{◌≡◌, ◌∷◌, map, length}
use Rattle.cdp_json.specs.KeyOrder.{ascends}
use Rattle.cdp_json.proofs.key_order.ascends.Given as goal

-- what is left to see
abbrev pub invariant-loop-member : goal.invariant-loop-member
invariant-loop-member l = ascends (map (λ m. m.key) l.members) ≡ ascends (l.last.key ∷ map (λ m. m.key) l.rest)

abbrev pub decreases-loop-member : goal.decreases-loop-member
decreases-loop-member l = length l.rest
