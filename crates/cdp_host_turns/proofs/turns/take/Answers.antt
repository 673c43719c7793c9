use Rattle.std.proofs.Common.{Bool, ap, map, string_bytes, sym, subst}
use Rattle.std.proofs.lemmas.Result.{IfOk-at_ok}
use Rattle.cdp_host_turns.specs.Turns.{IsOverIf, IsTakenAs}
use Rattle.cdp_host_turns.proofs.TurnLemmas.{Turn, finds, hands, over-if, still-owns, take-entry, take-leaves, take-there, turn}
use Rattle.cdp_host_turns.proofs.turns.take.Goals as goal

pub leave-requires-clause-stands : goal.leave-requires-clause-stands
leave-requires-clause-stands g c =
    let p = c.args.p.now in
    let m = c.enter.new.p in
    let opened = c.in_ok-turn.ensures in
    let stood = subst (λ host. g.H.Standing.stands host m.seen) (sym c.state-host.ensures.state) opened.state in
    let owns = still-owns p m c.args.session opened.seen c.enter.ensures.same c.requires.session in
    c.take-answer.ensures.stands m.number m.seen stood owns

pub returns-in-Ok-clause-takes : goal.returns-in-Ok-clause-takes
returns-in-Ok-clause-takes g c =
    let d = g.H.Hosted.debugs in
    let s = c.args.session in
    let p = c.args.p.now in
    let m = c.enter.new.p in
    let opened = c.in_ok-turn.ensures in
    let stood = subst (λ host. g.H.Standing.stands host m.seen) (sym c.state-host.ensures.state) opened.state in
    let owns = still-owns p m s opened.seen c.enter.ensures.same c.requires.session in
    let q = c.leave.new.p in
    let r = c.take-answer.result in
    let after = c.take-answer.ensures.stands m.number m.seen stood owns in
    let t = turn d p m q r.entry opened.seen c.enter.ensures.same c.enter.ensures.named c.leave.ensures.seen
    c.leave.ensures.free c.leave.ensures.same (c.state-after.ensures.history _ after) in
    let took = subst (Turn d p m q) (take-entry _ s r.answer c.in-Ok.texts r.entry c.in-Ok.is c.take-answer.ensures.entry) t in
    let over = subst (λ (b : Bool). IsOverIf d b m.seen) (sym c.taken.ensures.over)
    (over-if d c.state-before.result m.seen (c.state-before.ensures.state m.seen stood)) in
    let there = take-there _ d s m.seen r.answer c.in-Ok.texts c.in-Ok.is (c.take-answer.ensures.finds m.seen stood) in
    let waits = IfOk-at_ok _ c.in-Ok.is c.take-answer.ensures.texts m.seen stood in (
      finds d (IsTakenAs d s c.taken.result.is_over) p m q _ took (there, over),
      hands d s p m q _ _ took c.requires.session (ap (λ texts. map string_bytes texts.items) c.taken.ensures.texts) waits,
    )

pub returns-clause-takes : goal.returns-clause-takes
returns-clause-takes g c =
    let d = g.H.Hosted.debugs in
    let s = c.args.session in
    let p = c.args.p.now in
    let m = c.enter.new.p in
    let opened = c.in_ok-turn.ensures in
    let stood = subst (λ host. g.H.Standing.stands host m.seen) (sym c.state-host.ensures.state) opened.state in
    let owns = still-owns p m s opened.seen c.enter.ensures.same c.requires.session in
    let q = c.leave.new.p in
    let r = c.take-answer.result in
    let after = c.take-answer.ensures.stands m.number m.seen stood owns in
    let t = turn d p m q r.entry opened.seen c.enter.ensures.same c.enter.ensures.named c.leave.ensures.seen
    c.leave.ensures.free c.leave.ensures.same (c.state-after.ensures.history _ after) in
    take-leaves _ d s p m q r.answer c.in-Err.gone r.entry t c.in-Err.is c.take-answer.ensures.entry
    (c.take-answer.ensures.finds m.seen stood)
