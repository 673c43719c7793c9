use Rattle.std.proofs.Common.{◌≡◌, ◌≤◌, take, vec_capacity, vec_len}
use Rattle.cdp_host_isolation.specs.Seats.{each, fallen}
use Rattle.cdp_host_seats.specs.Losses.{losses_from}
use Rattle.cdp_host_seats.proofs.fallback.fill_losses.Given as goal

abbrev pub invariant-loop-seat : goal.invariant-loop-seat
invariant-loop-seat g l = record {
  counted : l.session ≡ l.seat-index;
  made : l.losses.items ≡ losses_from 1 (take l.seat-index (each fallen l.seats));
  count : vec_len l.losses ≤ l.seat-index;
  room : vec_capacity l.fn.losses ≤ vec_capacity l.losses;
}
