use Rattle.std.proofs.Common.{◌≡◌, take, false}
use Rattle.cdp_host.specs.Indexing.{is_wanted}
use Rattle.cdp_host.proofs.advance.some_want.Given as goal

abbrev pub invariant-loop-seat : goal.invariant-loop-seat
invariant-loop-seat l = is_wanted l.arrival (take l.seat-index l.seats) ≡ false
