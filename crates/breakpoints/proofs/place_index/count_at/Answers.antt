use Rattle.std.proofs.Common.{rules, sym, ◌∙◌}
use Rattle.std.proofs.lemmas.List.Sorted.{IsPartitionPoint-from_clause}
use Rattle.breakpoints.specs.PlaceIndex.{is_at_place}
use Rattle.breakpoints.proofs.HoldingLemmas.{at-first, none-start}
use Rattle.breakpoints.proofs.ListLemmas.{split-taken}
use Rattle.breakpoints.proofs.place_index.count_at.Goals as goal

pub returns-clause-all : goal.returns-clause-all
returns-clause-all c =
    sym (split-taken (is_at_place c.args.place) c.args.pairs.now c.partition_point.result
    (IsPartitionPoint-from_clause (is_at_place c.args.place)
    c.args.pairs.now c.partition_point.result c.partition_point.ensures.partitioned
    (at-first c.args.pairs.now c.args.place c.requires.ordered c.requires.first) (λ a r f' k. search rules)))

pub returns-then-not-starts_at-clause-all : goal.returns-then-not-starts_at-clause-all
returns-then-not-starts_at-clause-all c =
    none-start c.args.place c.args.pairs.now
    (at-first c.args.pairs.now c.args.place c.requires.ordered c.requires.first)
    (sym c.starts_at.ensures ∙ c.if-not-starts_at.true)
