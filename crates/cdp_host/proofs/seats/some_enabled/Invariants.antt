use Rattle.std.proofs.Common.{◌≡◌, List, take, false}
use Rattle.js_tree.specs.declared.script.Script.{Script}
use Rattle.cdp_host_isolation.specs.Meanings.{is_enabled_seat}
use Rattle.cdp_host_isolation.specs.Seats.{some}
use Rattle.cdp_host.specs.Protocols.{protocol}
use Rattle.cdp_host.proofs.seats.some_enabled.Given as goal

abbrev pub invariant-loop-seat : goal.invariant-loop-seat
invariant-loop-seat l =
    (scripts : List Script) → some (is_enabled_seat (protocol scripts)) (take l.seat-index l.seats) ≡ false
