use Rattle.std.proofs.Common.{◌-◌, length, take, drop}
use Rattle.locations.proofs.SearchLemmas.{slice_from, between_none, between_some}
use Rattle.locations.proofs.spot.spots_between.Goals as goal

pub returns-in-None : goal.returns-in-None
returns-in-None c =
    let rest = take (length c.args.spots.now - c.count_before.result) (drop c.count_before.result c.args.spots.now) in
    between_none c.args.start c.args.end c.args.spots.now rest c.count_before.result c.in-None.is
    (slice_from c.args.spots.now c.count_before.result) c.count_before.ensures.split

pub returns-in-Some : goal.returns-in-Some
returns-in-Some c =
    let rest = take (length c.args.spots.now - c.count_before.result) (drop c.count_before.result c.args.spots.now) in
    between_some c.args.start c.in-Some.end c.args.end c.args.spots.now rest c.count_before.result
    c.count_before-in-Some.result c.in-Some.is
    (slice_from c.args.spots.now c.count_before.result)
    c.count_before.ensures.split c.count_before-in-Some.ensures.split
