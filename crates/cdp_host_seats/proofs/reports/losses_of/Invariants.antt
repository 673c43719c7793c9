use Rattle.std.proofs.Common.{◌≡◌, take}
use Rattle.cdp_host_seats.specs.Losses.{losses_from}
use Rattle.cdp_host_seats.proofs.reports.losses_of.Given as goal

abbrev pub invariant-loop-seat : goal.invariant-loop-seat
invariant-loop-seat g l = record {
  counted : l.session ≡ l.seat-index;
  items : l.losses.items ≡ losses_from 1 (take l.seat-index l.seats);
}
