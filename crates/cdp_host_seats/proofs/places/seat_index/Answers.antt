use Rattle.cdp_host_seats.proofs.PlacedLemmas.{placed, unplaced}
use Rattle.cdp_host_seats.proofs.places.seat_index.Goals as goal

pub returns-then-index-seats-clause-some : goal.returns-then-index-seats-clause-some
returns-then-index-seats-clause-some g c =
    let at = c.in_ok-index.ensures in
    placed c.args.s c.in_ok-index.index c.args.seats.now at.0 at.1 c.if-index-seats.true

pub returns-else-index-seats-clause-none : goal.returns-else-index-seats-clause-none
returns-else-index-seats-clause-none g c =
    unplaced c.args.s c.in_ok-index.index c.args.seats.now (c.in_ok-index.ensures).1 c.if-index-seats.false
