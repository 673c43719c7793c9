use Rattle.std.proofs.Common.{List}
use Rattle.cdp_host_isolation.specs.Passes.{GoesOn, HearsOn}
use Rattle.js_tree.specs.declared.script.Script.{Script}
use Rattle.cdp_host.specs.Protocols.{protocol}
use Rattle.cdp_host.proofs.seats.resume_all.Given as goal

abbrev pub invariant-loop-seat : goal.invariant-loop-seat
invariant-loop-seat l = (scripts : List Script) → GoesOn (HearsOn (protocol scripts)) l.seat-index l.fn.seats l.seats
