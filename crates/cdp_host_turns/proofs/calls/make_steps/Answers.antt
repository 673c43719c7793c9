use Rattle.cdp_host_turns.specs.Entries.{lost_for_memory}
use Rattle.cdp_host_turns.proofs.calls.make_steps.Goals as goal

pub returns-in-Ok-clause-runs : goal.returns-in-Ok-clause-runs
returns-in-Ok-clause-runs g c = λ h stands.
    let ran = c.in-Ok.field-0 in (
      ran.steps,
      lost_for_memory ran.lost.items,
      c.in-Ok.ensures.longest c.requires.ready h stands,
      c.ran.ensures,
      c.in-Ok.ensures.printed h stands,
    )
