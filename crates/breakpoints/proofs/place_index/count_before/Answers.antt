use Rattle.std.proofs.Common.{rules}
use Rattle.std.proofs.lemmas.List.Sorted.{IsPartitionPoint-from_clause}
use Rattle.breakpoints.specs.PlaceIndex.{is_before}
use Rattle.breakpoints.proofs.HoldingLemmas.{before-first}
use Rattle.breakpoints.proofs.place_index.count_before.Goals as goal

pub returns-clause-split : goal.returns-clause-split
returns-clause-split c =
    IsPartitionPoint-from_clause (is_before c.args.place)
    c.args.pairs.now c.partition_point.result c.partition_point.ensures.partitioned
    (before-first c.args.pairs.now c.args.place c.requires) (λ a r f' k. search rules)
