use Rattle.std.proofs.Common.{sym}
use Rattle.cdp_host_isolation.specs.declared.seat.Seat.TheVariants.{Left}
use Rattle.cdp_host_seats.proofs.PlacedLemmas.{put-same}
use Rattle.cdp_host_seats.proofs.places.leave.Goals as goal

pub returns-in_default : goal.returns-in_default
returns-in_default g c = sym (put-same c.args.s Left c.args.seats.now c.in_default.ensures.none)
