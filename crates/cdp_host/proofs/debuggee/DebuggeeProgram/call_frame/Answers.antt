use Rattle.std.proofs.Common.{◌≡◌, [], true, None, slice_get, is_some, sym, ap, ◌∙◌}
use Rattle.std.proofs.lemmas.Result.{IfOk-weaker}
use Rattle.js_heap_memory.specs.Heaps.{heap_world}
use Rattle.js_machine_engine.specs.Stepping.{finish_of}
use Rattle.js_machine.specs.Machines.{state_of}
use Rattle.cdp_host.specs.Hosts.{machine_run, machine_standing}
use Rattle.cdp_host.proofs.DebuggeeLemmas.{none-at, standing-over, standing-ended, standing-going}
use Rattle.cdp_host.proofs.debuggee.DebuggeeProgram.call_frame.Goals as goal

pub returns-in-Some : goal.returns-in-Some
returns-in-Some c =
    let d = c.args.self.now in
    let m = d.machine.now in
    let w = heap_world m.names d.heap.now in
    none-at (machine_standing d.scripts.now m d.heap.now).frames c.args.depth
    (standing-over d.scripts.now (machine_run m d.heap.now []) (finish_of c.in-Some.field-0) (state_of m w [])
    (c.in-Some.ensures.over w []))

pub returns-in-Some-end : goal.returns-in-Some-end
returns-in-Some-end c =
    let d = c.args.self.now in
    let ended : is_some d.machine.now.ended ≡ true = ap is_some (sym c.in-Some-end.ensures) in
    none-at (machine_standing d.scripts.now d.machine.now d.heap.now).frames c.args.depth
    (standing-ended d.scripts.now d.machine.now d.heap.now d.kept ended)

pub returns-in-None-end : goal.returns-in-None-end
returns-in-None-end c =
    let d = c.args.self.now in
    let m = d.machine.now in
    let going : m.ended ≡ None = sym c.in-None-end.ensures in
    IfOk-weaker c.walked_at.result _ _
    (λ frame same. same
    ∙ sym (ap (λ fs. slice_get fs c.args.depth) (standing-going d.scripts.now m d.heap.now going
    (c.in-None.ensures.left going (heap_world m.names d.heap.now) []))))
    c.walked_at.ensures
