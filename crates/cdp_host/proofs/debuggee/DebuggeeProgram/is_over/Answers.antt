use Rattle.std.proofs.Common.{[], sym, ◌∙◌}
use Rattle.cdp_host.proofs.DebuggeeLemmas.{standing-end}
use Rattle.cdp_host.proofs.debuggee.DebuggeeProgram.is_over.Goals as goal

pub returns : goal.returns
returns c =
    let d = c.args.self.now in
    c.is_over.ensures d.kept d.heap.now [] ∙ sym (standing-end d.scripts.now d.machine.now d.heap.now)
