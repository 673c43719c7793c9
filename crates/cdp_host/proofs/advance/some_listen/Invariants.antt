use Rattle.std.proofs.Common.{◌≡◌, take, false}
use Rattle.stepping.specs.declared.arrival.Arrival.{Arrival}
use Rattle.cdp_host.specs.Ran.{may_stop}
use Rattle.cdp_host.proofs.advance.some_listen.Given as goal

abbrev pub invariant-loop-seat : goal.invariant-loop-seat
invariant-loop-seat l = (a : Arrival) → may_stop a (take l.seat-index l.seats) ≡ false
