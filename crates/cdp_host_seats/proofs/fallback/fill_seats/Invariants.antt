use Rattle.std.proofs.Common.{◌≡◌, ◌≤◌, take, vec_capacity, vec_len}
use Rattle.cdp_host_isolation.specs.Seats.{each}
use Rattle.cdp_host_isolation.specs.Standing.{broken_seat}
use Rattle.cdp_host_seats.proofs.fallback.fill_seats.Given as goal

abbrev pub invariant-loop-seat : goal.invariant-loop-seat
invariant-loop-seat g l = record {
  made : l.broken.items ≡ take l.seat-index (each broken_seat l.seats);
  count : vec_len l.broken ≡ l.seat-index;
  room : vec_capacity l.fn.broken ≤ vec_capacity l.broken;
}
