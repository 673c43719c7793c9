use Rattle.debug_host_options.specs.Held.{replay_held}
use Rattle.debug_host_commands.proofs.ReplayLemmas.{played, played-part}
use Rattle.debug_host_commands.proofs.replay.replay.Goals as goal

pub returns-in-Ok-read_sources-clause-cause : goal.returns-in-Ok-read_sources-clause-cause
returns-in-Ok-read_sources-clause-cause g c =
    let e = c.replay-end.ensures in
    let sources = c.in-Ok-read_sources.ensures in
    rw c.outcome_of_replay.ensures
    (played c.replay-end.result (replay_held c.args.request.now) _ _ _ _ _ _ _ _ _ _ _ _ c.in-Ok.bytes.items c.deref-in-Ok-read_sources.result.now
    c.in-Ok-read_sources.program.scripts.items c.deref.result.now c.in-Ok-read_sources.program.input.items
    c.in-Ok.ensures.content c.in-Ok.ensures.quiet c.in-Ok.ensures.files sources.holds sources.quiet
    c.deref-in-Ok-read_sources.ensures.value c.deref.ensures.value
    (record { done = e.done; refused = e.refused; part = e.part; less = e.less; quiet = e.quiet; failed = e.failed }))

pub returns-in-Ok-read_sources-clause-part : goal.returns-in-Ok-read_sources-clause-part
returns-in-Ok-read_sources-clause-part g c =
    played-part (replay_held c.args.request.now) _ _ _ _ _ _ _ c.in-Ok.bytes.items c.deref-in-Ok-read_sources.result.now
    c.in-Ok-read_sources.program.scripts.items c.deref.result.now c.in-Ok-read_sources.program.input.items
    c.in-Ok.ensures.content c.in-Ok.ensures.files c.in-Ok-read_sources.ensures.holds c.deref-in-Ok-read_sources.ensures.value
    c.deref.ensures.value c.replay-end.ensures.part
