use Rattle.std.proofs.Common.{◌≡◌, [], length, true, None, is_some, sym, ap}
use Rattle.js_heap_memory.specs.Heaps.{heap_world}
use Rattle.js_machine_engine.specs.Stepping.{finish_of}
use Rattle.js_machine.specs.Machines.{state_of}
use Rattle.cdp_host.specs.Hosts.{machine_run}
use Rattle.cdp_host.proofs.DebuggeeLemmas.{standing-over, standing-ended, standing-count}
use Rattle.cdp_host.proofs.debuggee.DebuggeeProgram.frame_count.Goals as goal

pub returns-in-Some : goal.returns-in-Some
returns-in-Some c =
    let d = c.args.self.now in
    let m = d.machine.now in
    let w = heap_world m.names d.heap.now in
    sym (ap length (standing-over d.scripts.now (machine_run m d.heap.now []) (finish_of c.in-Some.field-0)
    (state_of m w []) (c.in-Some.ensures.over w [])))

pub returns-in-Some-end : goal.returns-in-Some-end
returns-in-Some-end c =
    let d = c.args.self.now in
    let ended : is_some d.machine.now.ended ≡ true = ap is_some (sym c.in-Some-end.ensures) in
    sym (ap length (standing-ended d.scripts.now d.machine.now d.heap.now d.kept ended))

pub returns-in-None-end : goal.returns-in-None-end
returns-in-None-end c =
    let d = c.args.self.now in
    let m = d.machine.now in
    let going : m.ended ≡ None = sym c.in-None-end.ensures in
    standing-count d.scripts.now m d.heap.now c.frame_count.result c.context.result.now c.frame_count.ensures
    c.context.ensures going (c.in-None.ensures.left going (heap_world m.names d.heap.now) [])
