-- The order of break locations.
use Rattle.std.specs.Prelude.{List}
use Rattle.std.specs.List.{AllPairs, Contains}
use Rattle.cdp_text.specs.declared.position.Pos.{Pos}
use Rattle.locations.specs.declared.spot.SpotKind.{SpotKind}
use Rattle.cdp_text.specs.Position.{IsBefore}
use Rattle.locations.specs.declared.spot.Spot.{Spot}

-- each location stands before those that follow it, so none stands twice
abbrev pub IsAscending : List Spot → Type 0
IsAscending spots = AllPairs (λ s t. IsBefore s.pos t.pos) spots

-- one of the locations stands at a position
abbrev pub IsAt : List Spot → Pos → Type 0
IsAt spots pos = (kind : SpotKind) × Contains spots (record { pos = pos; kind = kind })
