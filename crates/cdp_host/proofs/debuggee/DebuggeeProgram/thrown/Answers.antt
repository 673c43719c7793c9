use Rattle.std.proofs.Common.{sym, ap, ◌∙◌}
use Rattle.std.specs.Option.{option_map}
use Rattle.cdp_host.specs.Standings.{value_of}
use Rattle.cdp_host.proofs.DebuggeeLemmas.{standing-thrown}
use Rattle.cdp_host.proofs.debuggee.DebuggeeProgram.thrown.Goals as goal

pub returns : goal.returns
returns c =
    let d = c.args.self.now in
    c.value_of.ensures
    ∙ ap (option_map value_of) c.thrown.ensures
    ∙ sym (standing-thrown d.scripts.now d.machine.now d.heap.now d.kept)
