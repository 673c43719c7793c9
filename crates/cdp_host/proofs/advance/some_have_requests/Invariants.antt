use Rattle.std.proofs.Common.{◌≡◌, take, false}
use Rattle.cdp_host_isolation.specs.Seats.{some}
use Rattle.cdp_host.specs.Indexing.{has_request_in}
use Rattle.cdp_host.proofs.advance.some_have_requests.Given as goal

abbrev pub invariant-loop-seat : goal.invariant-loop-seat
invariant-loop-seat l = some has_request_in (take l.seat-index l.seats) ≡ false
