use Rattle.std.proofs.Common.{sym, ◌∙◌}
use Rattle.debug_host_commands.proofs.LossLemmas.{memory-more}
use Rattle.debug_host_commands.proofs.act.some_for_memory.Goals as goal

pub loop-lost-preserved : goal.loop-lost-preserved
loop-lost-preserved c =
    memory-more c.args.losses.now c.loop-lost.lost-index _ c.loop-lost-test.true c.loop-lost.invariant
    (sym c.is_for_memory.ensures ∙ c.if-is_for_memory.false)
