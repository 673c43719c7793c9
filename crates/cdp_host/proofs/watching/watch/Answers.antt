use Rattle.std.proofs.Common.{rules, ◌≡◌, true, false, ap, subst, sym, ◌∙◌}
use Rattle.cdp_session_messages.specs.Outboxes.{fits}
use Rattle.cdp_session.specs.Situations.{seen}
use Rattle.cdp_session.specs.Stops.{AreHits, cause_of, stopped}
use Rattle.cdp_host.specs.Steps.{names_stop, told}
use Rattle.cdp_host.specs.Watching.{step_seen}
use Rattle.cdp_host.proofs.WatchLemmas.{behind-named, behind-passed, names-told, told-over}
use Rattle.cdp_host.proofs.watching.watch.Goals as goal

pub returns-in_err-tell_step-clause-over : goal.returns-in_err-tell_step-clause-over
returns-in_err-tell_step-clause-over g c = λ is.
    let s = seen g.P.Program.standing c.args.situation.now in
    let step = step_seen g.P.Program.standing c.args.situation.now c.args.step.now in
    let over : fits (told s c.args.moment step c.args.session.now).outbox ≡ false = search rules in
    told-over s c.args.number c.args.moment step c.args.session.now over

pub names_stop-named-requires : goal.names_stop-named-requires
names_stop-named-requires g c =
    let s = (seen g.P.Program.standing c.args.situation.now).standing in
    c.in_ok-cause.ensures.cause ∙ ap (cause_of s c.args.step.now.arrival) (sym c.in_ok-cause.ensures.kept)

-- ---- it names no stop

pub returns-then-not-named-clause-named : goal.returns-then-not-named-clause-named
returns-then-not-named-clause-named g c =
    let s = seen g.P.Program.standing c.args.situation.now in
    let step = step_seen g.P.Program.standing c.args.situation.now c.args.step.now in
    let said = c.names_stop-named.ensures ∙ ap (names_stop step) c.in_ok-cause.ensures.kept in
    let named = names-told s c.args.moment step c.args.session.now c.tell_step.new.session
    c.names_stop-named.result false
    c.in_ok-tell_step.ensures.session said c.if-not-named.true in
    sym named

pub returns-then-not-named-clause-session : goal.returns-then-not-named-clause-session
returns-then-not-named-clause-session g c =
    let s = seen g.P.Program.standing c.args.situation.now in
    let step = step_seen g.P.Program.standing c.args.situation.now c.args.step.now in
    let said = c.names_stop-named.ensures ∙ ap (names_stop step) c.in_ok-cause.ensures.kept in
    let named = names-told s c.args.moment step c.args.session.now c.tell_step.new.session
    c.names_stop-named.result false
    c.in_ok-tell_step.ensures.session said c.if-not-named.true in
    c.in_ok-cause.ensures.kept
    ∙ c.in_ok-tell_step.ensures.session
    ∙ behind-passed s c.args.number c.args.moment step c.args.session.now named

pub returns-then-not-named-clause-fits : goal.returns-then-not-named-clause-fits
returns-then-not-named-clause-fits g c = λ fit.
    let s = seen g.P.Program.standing c.args.situation.now in
    let step = step_seen g.P.Program.standing c.args.situation.now c.args.step.now in
    let said = c.names_stop-named.ensures ∙ ap (names_stop step) c.in_ok-cause.ensures.kept in
    let named = names-told s c.args.moment step c.args.session.now c.tell_step.new.session
    c.names_stop-named.result false
    c.in_ok-tell_step.ensures.session said c.if-not-named.true in
    ap (λ y. fits y.outbox) (sym (behind-passed s c.args.number c.args.moment step c.args.session.now named))
    ∙ c.in_ok-tell_step.ensures.fits fit

-- ---- it names one

pub stopped-requires : goal.stopped-requires
stopped-requires g c =
    let s = (seen g.P.Program.standing c.args.situation.now).standing in
    subst (λ y. AreHits s c.args.step.now.arrival y c.in_ok-cause.field-0.hits.items) (sym c.in_ok-cause.ensures.kept)
    c.in_ok-cause.ensures.hits

pub returns-in_err-stopped-clause-over : goal.returns-in_err-stopped-clause-over
returns-in_err-stopped-clause-over g c = λ is.
    let s = seen g.P.Program.standing c.args.situation.now in
    let step = step_seen g.P.Program.standing c.args.situation.now c.args.step.now in
    let said = c.names_stop-named.ensures ∙ ap (names_stop step) c.in_ok-cause.ensures.kept in
    let named = names-told s c.args.moment step c.args.session.now c.tell_step.new.session
    c.names_stop-named.result true
    c.in_ok-tell_step.ensures.session said c.if-not-named.false in
    let there = c.in_ok-cause.ensures.kept ∙ c.in_ok-tell_step.ensures.session in
    let over : fits
    (stopped s c.args.number c.args.step.now.arrival c.names.new.self).outbox ≡ false = search rules in
    ap (λ y. fits y.outbox)
    (sym (ap (stopped s c.args.number c.args.step.now.arrival) there
    ∙ behind-named s c.args.number c.args.moment step c.args.session.now named))
    ∙ over

pub returns-clause-named : goal.returns-clause-named
returns-clause-named g c =
    let s = seen g.P.Program.standing c.args.situation.now in
    let step = step_seen g.P.Program.standing c.args.situation.now c.args.step.now in
    let said = c.names_stop-named.ensures ∙ ap (names_stop step) c.in_ok-cause.ensures.kept in
    let named = names-told s c.args.moment step c.args.session.now c.tell_step.new.session
    c.names_stop-named.result true
    c.in_ok-tell_step.ensures.session said c.if-not-named.false in
    sym named

pub returns-clause-session : goal.returns-clause-session
returns-clause-session g c =
    let s = seen g.P.Program.standing c.args.situation.now in
    let step = step_seen g.P.Program.standing c.args.situation.now c.args.step.now in
    let said = c.names_stop-named.ensures ∙ ap (names_stop step) c.in_ok-cause.ensures.kept in
    let named = names-told s c.args.moment step c.args.session.now c.tell_step.new.session
    c.names_stop-named.result true
    c.in_ok-tell_step.ensures.session said c.if-not-named.false in
    let there = c.in_ok-cause.ensures.kept ∙ c.in_ok-tell_step.ensures.session in
    c.in_ok-stopped.ensures.session
    ∙ ap (stopped s c.args.number c.args.step.now.arrival) there
    ∙ behind-named s c.args.number c.args.moment step c.args.session.now named

pub returns-clause-fits : goal.returns-clause-fits
returns-clause-fits g c = λ fit.
    let s = seen g.P.Program.standing c.args.situation.now in
    let step = step_seen g.P.Program.standing c.args.situation.now c.args.step.now in
    let said = c.names_stop-named.ensures ∙ ap (names_stop step) c.in_ok-cause.ensures.kept in
    let named = names-told s c.args.moment step c.args.session.now c.tell_step.new.session
    c.names_stop-named.result true
    c.in_ok-tell_step.ensures.session said c.if-not-named.false in
    let there = c.in_ok-cause.ensures.kept ∙ c.in_ok-tell_step.ensures.session in
    let fit_there = ap (λ y. fits y.outbox) there ∙ c.in_ok-tell_step.ensures.fits fit in
    ap (λ y. fits y.outbox)
    (sym (ap (stopped s c.args.number c.args.step.now.arrival) there
    ∙ behind-named s c.args.number c.args.moment step c.args.session.now named))
    ∙ c.in_ok-stopped.ensures.fits fit_there
