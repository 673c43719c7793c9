use Rattle.std.proofs.Common.{◌∙◌, Some, refl}
use Rattle.debug_host_commands.proofs.DrillLemmas.{drilled}
use Rattle.debug_host_commands.proofs.drill.replay_over.Goals as goal

pub returns-in-Refused-clause-fault : goal.returns-in-Refused-clause-fault
returns-in-Refused-clause-fault c = (
  c.replay.new.out.bytes.items,
  drilled c.args.number c.args.script.now _ _ _ _ _ (Some c.in-Refused.line) c.from_ref.ensures.value c.new.ensures.items
      (c.as_bytes-lines.ensures.value ∙ c.in-Ok.ensures) c.new-transcript.ensures
      (c.in-Refused.ensures.refused c.in-Refused.line refl),
)
