use Rattle.std.proofs.Common.{rules, ◌≡◌, false}
use Rattle.cdp_session_messages.specs.Outboxes.{fits}
use Rattle.cdp_session.specs.Situations.{seen}
use Rattle.cdp_host.specs.Steps.{print_told}
use Rattle.cdp_host.specs.Watching.{step_seen}
use Rattle.cdp_host.proofs.WatchLemmas.{print-over}
use Rattle.cdp_host.proofs.watching.tell_step.Goals as goal

pub returns-in_err-tell_print-clause-over : goal.returns-in_err-tell_print-clause-over
returns-in_err-tell_print-clause-over g c = λ is.
    let s = seen g.P.Program.standing c.args.situation.now in
    let step = step_seen g.P.Program.standing c.args.situation.now c.args.step.now in
    let over : fits (print_told s step.values c.args.moment c.args.session.now).outbox ≡ false = search rules in
    print-over s c.args.moment step c.args.session.now over
