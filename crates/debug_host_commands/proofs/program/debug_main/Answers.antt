use Rattle.std.proofs.Common.{inl, inr, refl, sym}
use Rattle.cdp_edge.proofs.HandedLemmas.{hands_nothing}
use Rattle.debug_host_options.specs.Held.{replay_held, run_held, send_held, serve_held}
use Rattle.debug_host_commands.specs.declared.outcome.CommandEnd.TheVariants as ends
use Rattle.debug_host_commands.proofs.ReportLemmas as reports
use Rattle.debug_host_commands.proofs.RunLemmas as runs
use Rattle.debug_host_commands.proofs.ReplayLemmas as replays
use Rattle.debug_host_commands.proofs.ServeLemmas as serves
use Rattle.debug_host_commands.proofs.StoredLemmas as stores
use Rattle.debug_host_commands.proofs.DecidedLemmas as decided
use Rattle.debug_host_commands.proofs.ClientLemmas as clients
use Rattle.debug_host_commands.proofs.DrillLemmas as drills
use Rattle.debug_host_commands.proofs.UnaskedLemmas.{unread_replay, unread_run, unread_send, unread_serve}
use Rattle.debug_host_commands.proofs.program.debug_main.Goals as goal

pub returns-in-Ok-Some-Run-clause-run_decided : goal.returns-in-Ok-Some-Run-clause-run_decided
returns-in-Ok-Some-Run-clause-run_decided g c =
    runs.taken_given _ (run_held c.in-Ok-Some-Run.request) _ c.run-outcome.result _ _ _ _ _ _ c.end_explained-in-Ok-Some-Run.result
    (sym (rw c.in-Ok-Some-Run.field-0-0-is at (rw c.in-Ok-Some-Run.field-0-is at c.in-Ok-Some-Run.ensures.value))) c.end_explained-in-Ok-Some-Run.ensures.status c.run-outcome.ensures.cause

pub returns-in-Ok-Some-Run-clause-run_exact : goal.returns-in-Ok-Some-Run-clause-run_exact
returns-in-Ok-Some-Run-clause-run_exact g c =
    runs.left_given _ (run_held c.in-Ok-Some-Run.request) _ c.run-outcome.result _ _ _ _ _ _ c.end_explained-in-Ok-Some-Run.result
    (sym (rw c.in-Ok-Some-Run.field-0-0-is at (rw c.in-Ok-Some-Run.field-0-is at c.in-Ok-Some-Run.ensures.value))) c.end_explained-in-Ok-Some-Run.ensures.status c.run-outcome.ensures.cause

pub returns-in-Ok-Some-Replay-clause-replay_decided : goal.returns-in-Ok-Some-Replay-clause-replay_decided
returns-in-Ok-Some-Replay-clause-replay_decided g c =
    replays.taken_given _ (replay_held c.in-Ok-Some-Replay.request)
    _ c.replay-outcome.result _ _ _ _ _ _ c.end_explained-in-Ok-Some-Replay.result
    (sym (rw c.in-Ok-Some-Replay.field-0-0-is at (rw c.in-Ok-Some-Replay.field-0-is at c.in-Ok-Some-Replay.ensures.value)))
    c.end_explained-in-Ok-Some-Replay.ensures.status c.replay-outcome.ensures.cause

pub returns-in-Ok-Some-Replay-clause-replay_exact : goal.returns-in-Ok-Some-Replay-clause-replay_exact
returns-in-Ok-Some-Replay-clause-replay_exact g c =
    replays.left_given _ (replay_held c.in-Ok-Some-Replay.request)
    _ c.replay-outcome.result _ _ _ _ _ _ c.end_explained-in-Ok-Some-Replay.result
    (sym (rw c.in-Ok-Some-Replay.field-0-0-is at (rw c.in-Ok-Some-Replay.field-0-is at c.in-Ok-Some-Replay.ensures.value)))
    c.end_explained-in-Ok-Some-Replay.ensures.status c.replay-outcome.ensures.cause

pub returns-in-Ok-Some-Serve-clause-serve_decided : goal.returns-in-Ok-Some-Serve-clause-serve_decided
returns-in-Ok-Some-Serve-clause-serve_decided g c =
    decided.taken_given (serve_held c.in-Ok-Some-Serve.request) _ _ _ _ _ _ _ _ c.serve-outcome.ensures.part _
    c.serve-outcome.result c.end_explained-in-Ok-Some-Serve.result
    (sym (rw c.in-Ok-Some-Serve.field-0-0-is at (rw c.in-Ok-Some-Serve.field-0-is at c.in-Ok-Some-Serve.ensures.value)))
    c.end_explained-in-Ok-Some-Serve.ensures.status c.serve-outcome.ensures.cause

pub returns-in-Ok-Some-Serve-clause-serve_exact : goal.returns-in-Ok-Some-Serve-clause-serve_exact
returns-in-Ok-Some-Serve-clause-serve_exact g c =
    decided.left_given (serve_held c.in-Ok-Some-Serve.request) _ _ _ _ _ _ _ _ c.serve-outcome.ensures.part _
    c.serve-outcome.result c.end_explained-in-Ok-Some-Serve.result
    (sym (rw c.in-Ok-Some-Serve.field-0-0-is at (rw c.in-Ok-Some-Serve.field-0-is at c.in-Ok-Some-Serve.ensures.value)))
    c.end_explained-in-Ok-Some-Serve.ensures.status c.serve-outcome.ensures.cause

pub returns-in-Ok-Some-Serve-clause-serve_threw : goal.returns-in-Ok-Some-Serve-clause-serve_threw
returns-in-Ok-Some-Serve-clause-serve_threw g c =
    serves.threw_given _ c.serve-outcome.result (serve_held c.in-Ok-Some-Serve.request) _ _ _ _ _ _ _ _ _ _ c.end_explained-in-Ok-Some-Serve.result
    (sym (rw c.in-Ok-Some-Serve.field-0-0-is at (rw c.in-Ok-Some-Serve.field-0-is at c.in-Ok-Some-Serve.ensures.value))) c.end_explained-in-Ok-Some-Serve.ensures.status
    c.serve-outcome.ensures.cause (reports.serve-says c.args.words.now (serve_held c.in-Ok-Some-Serve.request) _ _ _ (sym (rw c.in-Ok-Some-Serve.field-0-0-is at (rw c.in-Ok-Some-Serve.field-0-is at c.in-Ok-Some-Serve.ensures.value))) c.end_explained-in-Ok-Some-Serve.ensures.says)

pub returns-in-Ok-Some-Serve-clause-serve_part : goal.returns-in-Ok-Some-Serve-clause-serve_part
returns-in-Ok-Some-Serve-clause-serve_part g c =
    serves.part_given _ (serve_held c.in-Ok-Some-Serve.request) _ _ _ _ _ _ _ _ c.serve-outcome.result
    (sym (rw c.in-Ok-Some-Serve.field-0-0-is at (rw c.in-Ok-Some-Serve.field-0-is at c.in-Ok-Some-Serve.ensures.value))) c.serve-outcome.ensures.part

pub returns-in-Ok-Some-Serve-clause-serves : goal.returns-in-Ok-Some-Serve-clause-serves
returns-in-Ok-Some-Serve-clause-serves g c =
    serves.served_given _ (serve_held c.in-Ok-Some-Serve.request) _ _ _ _ _ _ _ _ c.serve-outcome.result c.end_explained-in-Ok-Some-Serve.result
    (sym (rw c.in-Ok-Some-Serve.field-0-0-is at (rw c.in-Ok-Some-Serve.field-0-is at c.in-Ok-Some-Serve.ensures.value))) c.end_explained-in-Ok-Some-Serve.ensures.status
    c.serve-outcome.ensures.part

pub returns-in-Ok-Some-Drill-clause-drill_line : goal.returns-in-Ok-Some-Drill-clause-drill_line
returns-in-Ok-Some-Drill-clause-drill_line g c =
    drills.line_given _ c.in-Ok-Some-Drill.number c.drill.result _ _ _ _ _ _ _ c.end-in-Ok-Some-Drill.result
    (sym (rw c.in-Ok-Some-Drill.field-0-0-is at (rw c.in-Ok-Some-Drill.field-0-is at c.in-Ok-Some-Drill.ensures.value))) c.end-in-Ok-Some-Drill.ensures.status
    c.drill.ensures.cause (c.end-in-Ok-Some-Drill.ensures.says _)

pub returns-in-Ok-Some-Send-clause-send_closed : goal.returns-in-Ok-Some-Send-clause-send_closed
returns-in-Ok-Some-Send-clause-send_closed g c =
    clients.closed_given (send_held c.in-Ok-Some-Send.request) _ _ _ _ _ _ _ _ c.send-outcome.result
    c.end_explained-in-Ok-Some-Send.result (sym (rw c.in-Ok-Some-Send.field-0-0-is at (rw c.in-Ok-Some-Send.field-0-is at c.in-Ok-Some-Send.ensures.value)))
    c.end_explained-in-Ok-Some-Send.ensures.status c.send-outcome.ensures.cause _ _ _ (reports.send-says c.args.words.now (send_held c.in-Ok-Some-Send.request) _ _ _ (sym (rw c.in-Ok-Some-Send.field-0-0-is at (rw c.in-Ok-Some-Send.field-0-is at c.in-Ok-Some-Send.ensures.value))) c.end_explained-in-Ok-Some-Send.ensures.says)

pub returns-in-Ok-Some-Send-clause-send_line : goal.returns-in-Ok-Some-Send-clause-send_line
returns-in-Ok-Some-Send-clause-send_line g c =
    clients.line_given (send_held c.in-Ok-Some-Send.request) _ _ _ _ _ _ _ _ c.send-outcome.result
    c.end_explained-in-Ok-Some-Send.result (sym (rw c.in-Ok-Some-Send.field-0-0-is at (rw c.in-Ok-Some-Send.field-0-is at c.in-Ok-Some-Send.ensures.value)))
    c.end_explained-in-Ok-Some-Send.ensures.status c.send-outcome.ensures.cause _ _ _ (reports.send-says c.args.words.now (send_held c.in-Ok-Some-Send.request) _ _ _ (sym (rw c.in-Ok-Some-Send.field-0-0-is at (rw c.in-Ok-Some-Send.field-0-is at c.in-Ok-Some-Send.ensures.value))) c.end_explained-in-Ok-Some-Send.ensures.says)

pub returns-in-Ok-Some-Send-clause-send_read : goal.returns-in-Ok-Some-Send-clause-send_read
returns-in-Ok-Some-Send-clause-send_read g c =
    clients.read_given (send_held c.in-Ok-Some-Send.request) _ _ _ _ _ _ _ _ c.send-outcome.result
    c.end_explained-in-Ok-Some-Send.result (sym (rw c.in-Ok-Some-Send.field-0-0-is at (rw c.in-Ok-Some-Send.field-0-is at c.in-Ok-Some-Send.ensures.value)))
    c.end_explained-in-Ok-Some-Send.ensures.status c.send-outcome.ensures.cause _ _ _ (reports.send-says c.args.words.now (send_held c.in-Ok-Some-Send.request) _ _ _ (sym (rw c.in-Ok-Some-Send.field-0-0-is at (rw c.in-Ok-Some-Send.field-0-is at c.in-Ok-Some-Send.ensures.value))) c.end_explained-in-Ok-Some-Send.ensures.says)

pub returns-in-Ok-Some-Send-clause-send_decided : goal.returns-in-Ok-Some-Send-clause-send_decided
returns-in-Ok-Some-Send-clause-send_decided g c =
    clients.taken_given (send_held c.in-Ok-Some-Send.request) _ _ _ _ _ _ _ _ c.send-outcome.result
    c.end_explained-in-Ok-Some-Send.result (sym (rw c.in-Ok-Some-Send.field-0-0-is at (rw c.in-Ok-Some-Send.field-0-is at c.in-Ok-Some-Send.ensures.value)))
    c.end_explained-in-Ok-Some-Send.ensures.status c.send-outcome.ensures.cause

pub returns-in-Ok-Some-Send-clause-send_exact : goal.returns-in-Ok-Some-Send-clause-send_exact
returns-in-Ok-Some-Send-clause-send_exact g c =
    clients.left_given (send_held c.in-Ok-Some-Send.request) _ _ _ _ _ _ _ _ c.send-outcome.result
    c.end_explained-in-Ok-Some-Send.result (sym (rw c.in-Ok-Some-Send.field-0-0-is at (rw c.in-Ok-Some-Send.field-0-is at c.in-Ok-Some-Send.ensures.value)))
    c.end_explained-in-Ok-Some-Send.ensures.status c.send-outcome.ensures.cause

pub returns-in-Ok-Some-Send-clause-sends : goal.returns-in-Ok-Some-Send-clause-sends
returns-in-Ok-Some-Send-clause-sends g c =
    clients.sent_given _ (send_held c.in-Ok-Some-Send.request) _ _ _ _ _ c.send-outcome.result c.end_explained-in-Ok-Some-Send.result
    (sym (rw c.in-Ok-Some-Send.field-0-0-is at (rw c.in-Ok-Some-Send.field-0-is at c.in-Ok-Some-Send.ensures.value))) c.end_explained-in-Ok-Some-Send.ensures.status
    c.send-outcome.ensures.part

pub returns-in-Ok-Some-Run-clause-run_read : goal.returns-in-Ok-Some-Run-clause-run_read
returns-in-Ok-Some-Run-clause-run_read g c =
    runs.read_given _ (run_held c.in-Ok-Some-Run.request) _ c.run-outcome.result _ _ _ _ _ _ _ _ _ c.end_explained-in-Ok-Some-Run.result
    (sym (rw c.in-Ok-Some-Run.field-0-0-is at (rw c.in-Ok-Some-Run.field-0-is at c.in-Ok-Some-Run.ensures.value)))
    c.end_explained-in-Ok-Some-Run.ensures.status c.run-outcome.ensures.cause (reports.run-says c.args.words.now (run_held c.in-Ok-Some-Run.request) _ _ _ (sym (rw c.in-Ok-Some-Run.field-0-0-is at (rw c.in-Ok-Some-Run.field-0-is at c.in-Ok-Some-Run.ensures.value))) c.end_explained-in-Ok-Some-Run.ensures.says)

pub returns-in-Ok-Some-Replay-clause-replay_read : goal.returns-in-Ok-Some-Replay-clause-replay_read
returns-in-Ok-Some-Replay-clause-replay_read g c =
    replays.read_given _ (replay_held c.in-Ok-Some-Replay.request) _ c.replay-outcome.result _ _ _ _ _ _ _ _ _
    c.end_explained-in-Ok-Some-Replay.result
    (sym (rw c.in-Ok-Some-Replay.field-0-0-is at (rw c.in-Ok-Some-Replay.field-0-is at c.in-Ok-Some-Replay.ensures.value)))
    c.end_explained-in-Ok-Some-Replay.ensures.status c.replay-outcome.ensures.cause (reports.replay-says c.args.words.now (replay_held c.in-Ok-Some-Replay.request) _ _ _ (sym (rw c.in-Ok-Some-Replay.field-0-0-is at (rw c.in-Ok-Some-Replay.field-0-is at c.in-Ok-Some-Replay.ensures.value))) c.end_explained-in-Ok-Some-Replay.ensures.says)

pub returns-in-Ok-Some-Serve-clause-serve_read : goal.returns-in-Ok-Some-Serve-clause-serve_read
returns-in-Ok-Some-Serve-clause-serve_read g c =
    serves.read_given (serve_held c.in-Ok-Some-Serve.request) _ _ _ _ _ _ _ _ c.serve-outcome.result
    c.end_explained-in-Ok-Some-Serve.result
    (sym (rw c.in-Ok-Some-Serve.field-0-0-is at (rw c.in-Ok-Some-Serve.field-0-is at c.in-Ok-Some-Serve.ensures.value)))
    c.end_explained-in-Ok-Some-Serve.ensures.status c.serve-outcome.ensures.cause _ _ _ (reports.serve-says c.args.words.now (serve_held c.in-Ok-Some-Serve.request) _ _ _ (sym (rw c.in-Ok-Some-Serve.field-0-0-is at (rw c.in-Ok-Some-Serve.field-0-is at c.in-Ok-Some-Serve.ensures.value))) c.end_explained-in-Ok-Some-Serve.ensures.says)

pub returns-in-Ok-Some-Serve-clause-serve_opened : goal.returns-in-Ok-Some-Serve-clause-serve_opened
returns-in-Ok-Some-Serve-clause-serve_opened g c =
    serves.opened_given (serve_held c.in-Ok-Some-Serve.request) _ _ _ _ _ _ _ _ c.serve-outcome.result
    c.end_explained-in-Ok-Some-Serve.result
    (sym (rw c.in-Ok-Some-Serve.field-0-0-is at (rw c.in-Ok-Some-Serve.field-0-is at c.in-Ok-Some-Serve.ensures.value)))
    c.end_explained-in-Ok-Some-Serve.ensures.status c.serve-outcome.ensures.cause

pub returns-in-Ok-Some-Send-clause-send_dialled : goal.returns-in-Ok-Some-Send-clause-send_dialled
returns-in-Ok-Some-Send-clause-send_dialled g c =
    clients.dialled_given (send_held c.in-Ok-Some-Send.request) _ _ _ _ _ _ _ _ c.send-outcome.result
    c.end_explained-in-Ok-Some-Send.result
    (sym (rw c.in-Ok-Some-Send.field-0-0-is at (rw c.in-Ok-Some-Send.field-0-is at c.in-Ok-Some-Send.ensures.value)))
    c.end_explained-in-Ok-Some-Send.ensures.status c.send-outcome.ensures.cause

pub returns-in-Ok-Some-Drill-clause-drill_done : goal.returns-in-Ok-Some-Drill-clause-drill_done
returns-in-Ok-Some-Drill-clause-drill_done g c =
    drills.done_given _ c.in-Ok-Some-Drill.number c.drill.result _ _ _ _ c.end-in-Ok-Some-Drill.result
    (sym (rw c.in-Ok-Some-Drill.field-0-0-is at (rw c.in-Ok-Some-Drill.field-0-is at c.in-Ok-Some-Drill.ensures.value)))
    c.end-in-Ok-Some-Drill.ensures.status c.drill.ensures.cause

pub returns-in-Ok-Some-Drill-clause-drill_offered : goal.returns-in-Ok-Some-Drill-clause-drill_offered
returns-in-Ok-Some-Drill-clause-drill_offered g c =
    drills.short_given _ c.in-Ok-Some-Drill.number c.drill.result _ _ _ _ c.end-in-Ok-Some-Drill.result
    (sym (rw c.in-Ok-Some-Drill.field-0-0-is at (rw c.in-Ok-Some-Drill.field-0-is at c.in-Ok-Some-Drill.ensures.value)))
    c.end-in-Ok-Some-Drill.ensures.status c.drill.ensures.cause

pub returns-in-Ok-Some-Drill-clause-drill_refused : goal.returns-in-Ok-Some-Drill-clause-drill_refused
returns-in-Ok-Some-Drill-clause-drill_refused g c =
    drills.refusal_given _ c.in-Ok-Some-Drill.number c.drill.result _ _ _ _ c.end-in-Ok-Some-Drill.result
    (sym (rw c.in-Ok-Some-Drill.field-0-0-is at (rw c.in-Ok-Some-Drill.field-0-is at c.in-Ok-Some-Drill.ensures.value)))
    c.end-in-Ok-Some-Drill.ensures.status c.drill.ensures.cause _ _ _ (c.end-in-Ok-Some-Drill.ensures.says _)

pub returns-in-Err-clause-serves : goal.returns-in-Err-clause-serves
returns-in-Err-clause-serves g c = serves.unasked _ _ _ _ _ _ c.end.result (hands_nothing _ _ _ refl) c.end.ensures.status

pub returns-in-Err-clause-sends : goal.returns-in-Err-clause-sends
returns-in-Err-clause-sends g c = clients.unasked _ _ _ _ c.end.result (hands_nothing _ _ _ refl) c.end.ensures.status

pub returns-in-Err-clause-text_part : goal.returns-in-Err-clause-text_part
returns-in-Err-clause-text_part g c = clients.untold _ _

pub returns-in-Ok-Some-Run-clause-run_threw : goal.returns-in-Ok-Some-Run-clause-run_threw
returns-in-Ok-Some-Run-clause-run_threw g c =
    runs.threw_given _ (run_held c.in-Ok-Some-Run.request) _ c.run-outcome.result _ _ _ _ _ _ _ _ _ c.end_explained-in-Ok-Some-Run.result
    (sym (rw c.in-Ok-Some-Run.field-0-0-is at (rw c.in-Ok-Some-Run.field-0-is at c.in-Ok-Some-Run.ensures.value)))
    c.end_explained-in-Ok-Some-Run.ensures.status c.run-outcome.ensures.cause (reports.run-says c.args.words.now (run_held c.in-Ok-Some-Run.request) _ _ _ (sym (rw c.in-Ok-Some-Run.field-0-0-is at (rw c.in-Ok-Some-Run.field-0-is at c.in-Ok-Some-Run.ensures.value))) c.end_explained-in-Ok-Some-Run.ensures.says)

pub returns-in-Ok-Some-Serve-clause-serve_refused : goal.returns-in-Ok-Some-Serve-clause-serve_refused
returns-in-Ok-Some-Serve-clause-serve_refused g c =
    serves.refusal_given (serve_held c.in-Ok-Some-Serve.request) _ _ _ _ _ _ _ _ c.serve-outcome.result
    c.end_explained-in-Ok-Some-Serve.result
    (sym (rw c.in-Ok-Some-Serve.field-0-0-is at (rw c.in-Ok-Some-Serve.field-0-is at c.in-Ok-Some-Serve.ensures.value)))
    c.end_explained-in-Ok-Some-Serve.ensures.status c.serve-outcome.ensures.cause _ _ _ (reports.serve-says c.args.words.now (serve_held c.in-Ok-Some-Serve.request) _ _ _ (sym (rw c.in-Ok-Some-Serve.field-0-0-is at (rw c.in-Ok-Some-Serve.field-0-is at c.in-Ok-Some-Serve.ensures.value))) c.end_explained-in-Ok-Some-Serve.ensures.says)

pub returns-in-Err-clause-says : goal.returns-in-Err-clause-says
returns-in-Err-clause-says g c = (ends.OutOfMemory, c.end.ensures.status, c.end.ensures.says _)

pub returns-in-Err-clause-serve_part : goal.returns-in-Err-clause-serve_part
returns-in-Err-clause-serve_part g c = serves.unwritten _ _ _ (hands_nothing _ _ _ refl)

pub returns-in-Ok-None-clause-says : goal.returns-in-Ok-None-clause-says
returns-in-Ok-None-clause-says g c = (
  ends.Usage,
  c.end_explained.ensures.status,
  reports.none-says c.args.words.now _ _ _ _ (sym (rw c.in-Ok-None.field-0-is at c.in-Ok-None.ensures.value))
      c.names_explain-explains.ensures c.end_explained.ensures.says,
)

pub returns-in-Err-clause-run_decided : goal.returns-in-Err-clause-run_decided
returns-in-Err-clause-run_decided g c =
    unread_run _ _ _ _ refl _ (λ request scripts input holds. inr (inr (inl c.end.ensures.status)))

pub returns-in-Err-clause-run_exact : goal.returns-in-Err-clause-run_exact
returns-in-Err-clause-run_exact g c =
    unread_run _ _ _ _ refl _ (λ request name refusal refused. inr (inl c.end.ensures.status))

pub returns-in-Err-clause-run_part : goal.returns-in-Err-clause-run_part
returns-in-Err-clause-run_part g c =
    unread_run _ _ _ _ refl _ (λ request. inl refl)

pub returns-in-Err-clause-replay_decided : goal.returns-in-Err-clause-replay_decided
returns-in-Err-clause-replay_decided g c =
    unread_replay _ _ _ _ refl _ (λ request journal scripts input holds. inr (inr (inl c.end.ensures.status)))

pub returns-in-Err-clause-replay_exact : goal.returns-in-Err-clause-replay_exact
returns-in-Err-clause-replay_exact g c =
    unread_replay _ _ _ _ refl _ (λ request name refusal refused. inr (inl c.end.ensures.status))

pub returns-in-Err-clause-headline : goal.returns-in-Err-clause-headline
returns-in-Err-clause-headline g c =
    unread_replay _ _ _ _ refl _ (λ request. inl refl)

pub returns-in-Err-clause-serve_decided : goal.returns-in-Err-clause-serve_decided
returns-in-Err-clause-serve_decided g c =
    unread_serve _ _ _ _ refl _ (λ request scripts input holds. inr (inr (inl c.end.ensures.status)))

pub returns-in-Err-clause-serve_exact : goal.returns-in-Err-clause-serve_exact
returns-in-Err-clause-serve_exact g c =
    unread_serve _ _ _ _ refl _ (λ request name refusal refused. inr (inl c.end.ensures.status))

pub returns-in-Err-clause-send_decided : goal.returns-in-Err-clause-send_decided
returns-in-Err-clause-send_decided g c =
    unread_send _ _ _ _ refl _ (λ request lines holds. inr (inr (inl c.end.ensures.status)))

pub returns-in-Err-clause-send_exact : goal.returns-in-Err-clause-send_exact
returns-in-Err-clause-send_exact g c =
    unread_send _ _ _ _ refl _ (λ request line refused. inr (inl c.end.ensures.status))

pub returns-in-Ok-Some-Run-clause-run_done : goal.returns-in-Ok-Some-Run-clause-run_done
returns-in-Ok-Some-Run-clause-run_done g c =
    runs.done_given _ (run_held c.in-Ok-Some-Run.request) _ c.run-outcome.result _ _ _ _ _ _ c.end_explained-in-Ok-Some-Run.result
    (sym (rw c.in-Ok-Some-Run.field-0-0-is at (rw c.in-Ok-Some-Run.field-0-is at c.in-Ok-Some-Run.ensures.value)))
    c.end_explained-in-Ok-Some-Run.ensures.status c.run-outcome.ensures.cause

pub returns-in-Ok-Some-Run-clause-run_refused : goal.returns-in-Ok-Some-Run-clause-run_refused
returns-in-Ok-Some-Run-clause-run_refused g c =
    runs.refusal_given _ (run_held c.in-Ok-Some-Run.request) _ c.run-outcome.result _ _ _ _ _ _ _ _ _ c.end_explained-in-Ok-Some-Run.result
    (sym (rw c.in-Ok-Some-Run.field-0-0-is at (rw c.in-Ok-Some-Run.field-0-is at c.in-Ok-Some-Run.ensures.value)))
    c.end_explained-in-Ok-Some-Run.ensures.status c.run-outcome.ensures.cause (reports.run-says c.args.words.now (run_held c.in-Ok-Some-Run.request) _ _ _ (sym (rw c.in-Ok-Some-Run.field-0-0-is at (rw c.in-Ok-Some-Run.field-0-is at c.in-Ok-Some-Run.ensures.value))) c.end_explained-in-Ok-Some-Run.ensures.says)

pub returns-in-Ok-Some-Run-clause-run_offered : goal.returns-in-Ok-Some-Run-clause-run_offered
returns-in-Ok-Some-Run-clause-run_offered g c =
    runs.short_given _ (run_held c.in-Ok-Some-Run.request) _ c.run-outcome.result _ _ _ _ _ _ c.end_explained-in-Ok-Some-Run.result
    (sym (rw c.in-Ok-Some-Run.field-0-0-is at (rw c.in-Ok-Some-Run.field-0-is at c.in-Ok-Some-Run.ensures.value)))
    c.end_explained-in-Ok-Some-Run.ensures.status c.run-outcome.ensures.cause

pub returns-in-Ok-Some-Replay-clause-replay_done : goal.returns-in-Ok-Some-Replay-clause-replay_done
returns-in-Ok-Some-Replay-clause-replay_done g c =
    replays.done_given _ (replay_held c.in-Ok-Some-Replay.request) _ c.replay-outcome.result _ _ _ _ _ _ c.end_explained-in-Ok-Some-Replay.result
    (sym (rw c.in-Ok-Some-Replay.field-0-0-is at (rw c.in-Ok-Some-Replay.field-0-is at c.in-Ok-Some-Replay.ensures.value)))
    c.end_explained-in-Ok-Some-Replay.ensures.status c.replay-outcome.ensures.cause

pub returns-in-Ok-Some-Replay-clause-replay_line : goal.returns-in-Ok-Some-Replay-clause-replay_line
returns-in-Ok-Some-Replay-clause-replay_line g c =
    replays.line_given _ (replay_held c.in-Ok-Some-Replay.request) _ c.replay-outcome.result _ _ _ _ _ _ _ _ _ c.end_explained-in-Ok-Some-Replay.result
    (sym (rw c.in-Ok-Some-Replay.field-0-0-is at (rw c.in-Ok-Some-Replay.field-0-is at c.in-Ok-Some-Replay.ensures.value)))
    c.end_explained-in-Ok-Some-Replay.ensures.status c.replay-outcome.ensures.cause (reports.replay-says c.args.words.now (replay_held c.in-Ok-Some-Replay.request) _ _ _ (sym (rw c.in-Ok-Some-Replay.field-0-0-is at (rw c.in-Ok-Some-Replay.field-0-is at c.in-Ok-Some-Replay.ensures.value))) c.end_explained-in-Ok-Some-Replay.ensures.says)

pub returns-in-Ok-Some-Replay-clause-replay_refused : goal.returns-in-Ok-Some-Replay-clause-replay_refused
returns-in-Ok-Some-Replay-clause-replay_refused g c =
    replays.refusal_given _ (replay_held c.in-Ok-Some-Replay.request) _ c.replay-outcome.result _ _ _ _ _ _ _ _ _ c.end_explained-in-Ok-Some-Replay.result
    (sym (rw c.in-Ok-Some-Replay.field-0-0-is at (rw c.in-Ok-Some-Replay.field-0-is at c.in-Ok-Some-Replay.ensures.value)))
    c.end_explained-in-Ok-Some-Replay.ensures.status c.replay-outcome.ensures.cause (reports.replay-says c.args.words.now (replay_held c.in-Ok-Some-Replay.request) _ _ _ (sym (rw c.in-Ok-Some-Replay.field-0-0-is at (rw c.in-Ok-Some-Replay.field-0-is at c.in-Ok-Some-Replay.ensures.value))) c.end_explained-in-Ok-Some-Replay.ensures.says)

pub returns-in-Ok-Some-Replay-clause-replay_offered : goal.returns-in-Ok-Some-Replay-clause-replay_offered
returns-in-Ok-Some-Replay-clause-replay_offered g c =
    replays.short_given _ (replay_held c.in-Ok-Some-Replay.request) _ c.replay-outcome.result _ _ _ _ _ _ c.end_explained-in-Ok-Some-Replay.result
    (sym (rw c.in-Ok-Some-Replay.field-0-0-is at (rw c.in-Ok-Some-Replay.field-0-is at c.in-Ok-Some-Replay.ensures.value)))
    c.end_explained-in-Ok-Some-Replay.ensures.status c.replay-outcome.ensures.cause

pub returns-in-Ok-Some-Serve-clause-serve_done : goal.returns-in-Ok-Some-Serve-clause-serve_done
returns-in-Ok-Some-Serve-clause-serve_done g c =
    serves.done_given (serve_held c.in-Ok-Some-Serve.request) _ _ _ _ _ _ _ _ c.serve-outcome.result
    c.end_explained-in-Ok-Some-Serve.result
    (sym (rw c.in-Ok-Some-Serve.field-0-0-is at (rw c.in-Ok-Some-Serve.field-0-is at c.in-Ok-Some-Serve.ensures.value)))
    c.end_explained-in-Ok-Some-Serve.ensures.status c.serve-outcome.ensures.cause

pub returns-in-Ok-Some-Send-clause-send_done : goal.returns-in-Ok-Some-Send-clause-send_done
returns-in-Ok-Some-Send-clause-send_done g c =
    clients.done_given (send_held c.in-Ok-Some-Send.request) _ _ _ _ _ _ _ _ c.send-outcome.result
    c.end_explained-in-Ok-Some-Send.result
    (sym (rw c.in-Ok-Some-Send.field-0-0-is at (rw c.in-Ok-Some-Send.field-0-is at c.in-Ok-Some-Send.ensures.value)))
    c.end_explained-in-Ok-Some-Send.ensures.status c.send-outcome.ensures.cause

pub returns-in-Ok-Some-Send-clause-send_offered : goal.returns-in-Ok-Some-Send-clause-send_offered
returns-in-Ok-Some-Send-clause-send_offered g c =
    clients.short_given (send_held c.in-Ok-Some-Send.request) _ _ _ _ _ _ _ _ c.send-outcome.result
    c.end_explained-in-Ok-Some-Send.result
    (sym (rw c.in-Ok-Some-Send.field-0-0-is at (rw c.in-Ok-Some-Send.field-0-is at c.in-Ok-Some-Send.ensures.value)))
    c.end_explained-in-Ok-Some-Send.ensures.status c.send-outcome.ensures.cause

-- the journal of a server
pub returns-in-Ok-Some-Serve-clause-serve_journal : goal.returns-in-Ok-Some-Serve-clause-serve_journal
returns-in-Ok-Some-Serve-clause-serve_journal g c =
    stores.journal_given _ (serve_held c.in-Ok-Some-Serve.request) _ _ _ _ _ _ _ _ c.serve-outcome.result c.end_explained-in-Ok-Some-Serve.result
    (sym (rw c.in-Ok-Some-Serve.field-0-0-is at (rw c.in-Ok-Some-Serve.field-0-is at c.in-Ok-Some-Serve.ensures.value)))
    c.end_explained-in-Ok-Some-Serve.ensures.status c.serve-outcome.ensures.part

pub returns-in-Ok-Some-Serve-clause-unstored : goal.returns-in-Ok-Some-Serve-clause-unstored
returns-in-Ok-Some-Serve-clause-unstored g c =
    stores.unstored_given _ (serve_held c.in-Ok-Some-Serve.request) _ _ _ _ _ _ _ _ c.serve-outcome.result c.end_explained-in-Ok-Some-Serve.result
    (sym (rw c.in-Ok-Some-Serve.field-0-0-is at (rw c.in-Ok-Some-Serve.field-0-is at c.in-Ok-Some-Serve.ensures.value)))
    c.end_explained-in-Ok-Some-Serve.ensures.status c.serve-outcome.ensures.part

pub returns-in-Ok-Some-Serve-clause-unwritten : goal.returns-in-Ok-Some-Serve-clause-unwritten
returns-in-Ok-Some-Serve-clause-unwritten g c = λ at.
    stores.unwritten_given _ (serve_held c.in-Ok-Some-Serve.request) _ _ _ _ _ _ _ c.end_explained-in-Ok-Some-Serve.result
    (sym (rw c.in-Ok-Some-Serve.field-0-0-is at (rw c.in-Ok-Some-Serve.field-0-is at c.in-Ok-Some-Serve.ensures.value)))
    _ c.serve-outcome.result c.end_explained-in-Ok-Some-Serve.ensures.status at c.serve-outcome.ensures.unbegun
    c.serve-outcome.ensures.cause

pub returns-in-Ok-Some-Serve-clause-reads : goal.returns-in-Ok-Some-Serve-clause-reads
returns-in-Ok-Some-Serve-clause-reads g c = λ at.
    stores.reads_given _ (serve_held c.in-Ok-Some-Serve.request) _ _ _ _ _ _ _ c.end_explained-in-Ok-Some-Serve.result
    (sym (rw c.in-Ok-Some-Serve.field-0-0-is at (rw c.in-Ok-Some-Serve.field-0-is at c.in-Ok-Some-Serve.ensures.value)))
    c.serve-outcome.result c.end_explained-in-Ok-Some-Serve.ensures.status at c.serve-outcome.ensures.cause

pub returns-in-Ok-Some-Serve-clause-writes : goal.returns-in-Ok-Some-Serve-clause-writes
returns-in-Ok-Some-Serve-clause-writes g c = λ at.
    stores.writes_given _ (serve_held c.in-Ok-Some-Serve.request) _ _ _ _ _ _ _ c.end_explained-in-Ok-Some-Serve.result
    (sym (rw c.in-Ok-Some-Serve.field-0-0-is at (rw c.in-Ok-Some-Serve.field-0-is at c.in-Ok-Some-Serve.ensures.value)))
    c.serve-outcome.result c.end_explained-in-Ok-Some-Serve.ensures.status at c.serve-outcome.ensures.cause
