use Rattle.std.proofs.Common.{◌∙◌, ap, Err, inr}
use Rattle.cdp_journal.specs.Summaries.{summary}
use Rattle.debug_host_commands.proofs.DrillLemmas.{unplayed, whole-part, wrote-all, wrote-less, wrote-part}
use Rattle.debug_host_commands.proofs.drill.drill.Goals as goal

pub returns-in-Err-replay_over-clause-cause : goal.returns-in-Err-replay_over-clause-cause
returns-in-Err-replay_over-clause-cause g c =
    unplayed c.in-Err-replay_over.end c.args.number _ _ c.in-Ok.script c.in-Ok.ensures.script
    c.in-Err-replay_over.ensures.fault

-- ---- the summary is written

pub returns-in-Ok-put_text-clause-cause : goal.returns-in-Ok-put_text-clause-cause
returns-in-Ok-put_text-clause-cause g c = (
  c.in-Ok-put_text.ensures.quiet,
  wrote-all c.args.number c.in-Ok.script c.in-Ok-replay_over.transcript.bytes.items c.deref.result.now _ _
      c.in-Ok.ensures.script c.in-Ok-replay_over.ensures.output
      (c.deref.ensures.value ∙ c.in-Ok-summary.ensures ∙ ap summary c.bytes.ensures) c.in-Ok-put_text.ensures.ok,
)

pub returns-in-Ok-put_text-clause-part : goal.returns-in-Ok-put_text-clause-part
returns-in-Ok-put_text-clause-part g c =
    inr (whole-part c.args.number _ _
    (wrote-all c.args.number c.in-Ok.script c.in-Ok-replay_over.transcript.bytes.items c.deref.result.now _ _
    c.in-Ok.ensures.script c.in-Ok-replay_over.ensures.output
    (c.deref.ensures.value ∙ c.in-Ok-summary.ensures ∙ ap summary c.bytes.ensures) c.in-Ok-put_text.ensures.ok))

-- ---- not all of it is

pub returns-in-Err-Failed-clause-cause : goal.returns-in-Err-Failed-clause-cause
returns-in-Err-Failed-clause-cause g c = (
  c.in-Err-Failed.ensures.failed (ap (λ fault. Err fault) c.in-Err-Failed.field-0-is),
  wrote-less c.args.number c.in-Ok.script c.in-Ok-replay_over.transcript.bytes.items c.deref.result.now _ _
      c.in-Ok.ensures.script c.in-Ok-replay_over.ensures.output
      (c.deref.ensures.value ∙ c.in-Ok-summary.ensures ∙ ap summary c.bytes.ensures) c.in-Err-Failed.ensures.err,
)

pub returns-in-Err-Failed-clause-part : goal.returns-in-Err-Failed-clause-part
returns-in-Err-Failed-clause-part g c =
    inr (wrote-part c.args.number c.in-Ok.script c.in-Ok-replay_over.transcript.bytes.items c.deref.result.now _ _
    c.in-Ok.ensures.script c.in-Ok-replay_over.ensures.output
    (c.deref.ensures.value ∙ c.in-Ok-summary.ensures ∙ ap summary c.bytes.ensures) c.in-Err-Failed.ensures.err)

pub returns-clause-cause : goal.returns-clause-cause
returns-clause-cause g c = (
  c.in-Err-Memory.ensures.memory (ap (λ fault. Err fault) c.in-Err-Memory.field-0-is),
  inr (wrote-part c.args.number c.in-Ok.script c.in-Ok-replay_over.transcript.bytes.items c.deref.result.now _ _
      c.in-Ok.ensures.script c.in-Ok-replay_over.ensures.output
      (c.deref.ensures.value ∙ c.in-Ok-summary.ensures ∙ ap summary c.bytes.ensures) c.in-Err-Memory.ensures.err),
)

pub returns-clause-part : goal.returns-clause-part
returns-clause-part g c =
    inr (wrote-part c.args.number c.in-Ok.script c.in-Ok-replay_over.transcript.bytes.items c.deref.result.now _ _
    c.in-Ok.ensures.script c.in-Ok-replay_over.ensures.output
    (c.deref.ensures.value ∙ c.in-Ok-summary.ensures ∙ ap summary c.bytes.ensures) c.in-Err-Memory.ensures.err)
