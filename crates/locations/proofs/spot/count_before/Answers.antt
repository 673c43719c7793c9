use Rattle.std.proofs.Common.{rules}
use Rattle.std.proofs.lemmas.List.Sorted.{IsPartitionPoint-from_clause}
use Rattle.locations.specs.declared.spot.Spot.{Spot}
use Rattle.locations.specs.Search.{is_before}
use Rattle.locations.proofs.SearchLemmas.{partitioned}
use Rattle.locations.proofs.spot.count_before.Goals as goal

pub returns-clause-split : goal.returns-clause-split
returns-clause-split c =
    IsPartitionPoint-from_clause (λ (s : Spot). is_before s.pos c.args.pos)
    c.args.spots.now c.partition_point.result c.partition_point.ensures.partitioned
    (partitioned c.args.spots.now c.args.pos c.requires) (λ a r f' k. search rules)
