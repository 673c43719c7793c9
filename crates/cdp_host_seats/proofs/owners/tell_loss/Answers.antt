use Rattle.std.proofs.Common.{ap, sym, ◌∙◌}
use Rattle.cdp_host_isolation.specs.Seats.{seat_of}
use Rattle.cdp_host_seats.specs.Losses.{owner_told}
use Rattle.cdp_host_seats.proofs.PlacedLemmas.{put-same}
use Rattle.cdp_host_seats.proofs.owners.tell_loss.Goals as goal

pub returns-in-None-clause-seats : goal.returns-in-None-clause-seats
returns-in-None-clause-seats g c =
    let none = c.in-None.ensures.none in
    sym (put-same c.args.s (owner_told (seat_of c.args.s c.args.seats.now)) c.args.seats.now
    (none ∙ ap owner_told (sym none)))
