use Rattle.std.proofs.Common.{sym, ap, ◌∙◌}
use Rattle.js_heap_memory.specs.Heaps.{heap_world}
use Rattle.cdp_host.proofs.DebuggeeLemmas.{standing-world}
use Rattle.cdp_host.proofs.debuggee.DebuggeeProgram.cells.Goals as goal

pub returns : goal.returns
returns c =
    let d = c.args.self.now in
    ap (λ names. heap_world names d.heap.now) c.names.ensures
    ∙ sym (standing-world d.scripts.now d.machine.now d.heap.now)
