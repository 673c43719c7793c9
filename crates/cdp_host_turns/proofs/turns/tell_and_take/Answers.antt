use Rattle.std.proofs.Common.{◌≡◌, None, Bool, ap, map, rules, string_bytes, sym, subst, ◌∙◌}
use Rattle.std.proofs.lemmas.Result.{IfOk-at_ok}
use Rattle.cdp_host_turns.specs.Turns.{IsOverIf, IsTakenAs, unless_kept}
use Rattle.cdp_host_turns.proofs.TurnLemmas.{Turn, finds, first-turn, hands, midway, over-if, owns-midway, second-turn, still-owns, take-entry, take-leaves, take-there, tells, tells-alone, tells-kept, turn}
use Rattle.cdp_host_turns.proofs.turns.tell_and_take.Goals as goal

pub leave_once-requires-clause-stands : goal.leave_once-requires-clause-stands
leave_once-requires-clause-stands g c =
    let d = g.H.Hosted.debugs in
    let s = c.args.session in
    let p = c.args.p.now in
    let m = c.enter_twice.new.p in
    let opened = c.in-Some.ensures in
    let stood = subst (λ host. g.H.Standing.stands host m.seen) (sym c.state-host.ensures.state) opened.state in
    let owns = still-owns p m s opened.seen c.enter_twice.ensures.same c.requires.session in
    let r = c.tell-answer.result in
    let first = c.tell-answer.ensures.stands m.number m.seen stood owns in
    first

pub returns-in-Some-unless_kept-clause-answers : goal.returns-in-Some-unless_kept-clause-answers
returns-in-Some-unless_kept-clause-answers g c =
    let d = g.H.Hosted.debugs in
    let s = c.args.session in
    let p = c.args.p.now in
    let m = c.enter_twice.new.p in
    let opened = c.in-Some.ensures in
    let stood = subst (λ host. g.H.Standing.stands host m.seen) (sym c.state-host.ensures.state) opened.state in
    let owns = still-owns p m s opened.seen c.enter_twice.ensures.same c.requires.session in
    let r = c.tell-answer.result in
    let first = c.tell-answer.ensures.stands m.number m.seen stood owns in
    let text = string_bytes c.args.text in
    let q = c.leave_once.new.p in
    let t = turn d p m q r.entry opened.seen c.enter_twice.ensures.same c.enter_twice.ensures.named c.leave_once.ensures.seen
    c.leave_once.ensures.free c.leave_once.ensures.same (c.state-between.ensures.history _ first) in
    let told = tells d s text p m q r.answer r.entry t c.tell-answer.ensures.entry
    (c.tell-answer.ensures.finds m.seen stood) (c.tell-answer.ensures.fits m.seen stood) in
    tells-alone d s text p q r.answer c.in-Some-unless_kept.ended told (sym c.unless_kept.ensures ∙ c.in-Some-unless_kept.is)

pub leave_twice-requires-clause-stands : goal.leave_twice-requires-clause-stands
leave_twice-requires-clause-stands g c =
    let d = g.H.Hosted.debugs in
    let s = c.args.session in
    let p = c.args.p.now in
    let m = c.enter_twice.new.p in
    let opened = c.in-Some.ensures in
    let stood = subst (λ host. g.H.Standing.stands host m.seen) (sym c.state-host.ensures.state) opened.state in
    let owns = still-owns p m s opened.seen c.enter_twice.ensures.same c.requires.session in
    let r = c.tell-answer.result in
    let first = c.tell-answer.ensures.stands m.number m.seen stood owns in
    c.take-found.ensures.stands m.number (midway m r.entry).seen first
    (owns-midway p m s r.entry opened.seen c.enter_twice.ensures.same c.requires.session)

pub returns-in-Ok-clause-answers : goal.returns-in-Ok-clause-answers
returns-in-Ok-clause-answers g c =
    let d = g.H.Hosted.debugs in
    let s = c.args.session in
    let p = c.args.p.now in
    let m = c.enter_twice.new.p in
    let opened = c.in-Some.ensures in
    let stood = subst (λ host. g.H.Standing.stands host m.seen) (sym c.state-host.ensures.state) opened.state in
    let owns = still-owns p m s opened.seen c.enter_twice.ensures.same c.requires.session in
    let r = c.tell-answer.result in
    let first = c.tell-answer.ensures.stands m.number m.seen stood owns in
    let text = string_bytes c.args.text in
    let q = c.leave_twice.new.p in
    let half = midway m r.entry in
    let owned = owns-midway p m s r.entry opened.seen c.enter_twice.ensures.same c.requires.session in
    let t = first-turn d p m r.entry opened.seen c.enter_twice.ensures.same c.enter_twice.ensures.named
    (c.state-between.ensures.history _ first) in
    let none : unless_kept r.answer ≡ None = search rules in
    let told = tells-kept d s text p m r.answer r.entry t none c.tell-answer.ensures.entry
    (c.tell-answer.ensures.finds m.seen stood) (c.tell-answer.ensures.fits m.seen stood) in
    let f = c.take-found.result in
    let second = c.take-found.ensures.stands m.number half.seen first owned in
    let u = second-turn d m q r.entry f.entry c.enter_twice.ensures.named c.leave_twice.ensures.seen c.leave_twice.ensures.free
    c.leave_twice.ensures.same (c.state-after.ensures.history _ second) in
    let took = subst (Turn d half half q) (take-entry _ s f.answer c.in-Ok.texts f.entry c.in-Ok.is c.take-found.ensures.entry) u in
    let over = subst (λ (b : Bool). IsOverIf d b half.seen) (sym c.taken.ensures.over)
    (over-if d c.state-between.result half.seen (c.state-between.ensures.state half.seen first)) in
    let there = take-there _ d s half.seen f.answer c.in-Ok.texts c.in-Ok.is
    (c.take-found.ensures.finds half.seen first) in
    let waits = IfOk-at_ok _ c.in-Ok.is c.take-found.ensures.texts half.seen first in (
      half,
      told,
      (
        finds d (IsTakenAs d s c.taken.result.is_over) half half q _ took (there, over),
        hands d s half half q _ _ took owned (ap (λ texts. map string_bytes texts.items) c.taken.ensures.texts) waits,
      ),
    )

pub returns-clause-answers : goal.returns-clause-answers
returns-clause-answers g c =
    let d = g.H.Hosted.debugs in
    let s = c.args.session in
    let p = c.args.p.now in
    let m = c.enter_twice.new.p in
    let opened = c.in-Some.ensures in
    let stood = subst (λ host. g.H.Standing.stands host m.seen) (sym c.state-host.ensures.state) opened.state in
    let owns = still-owns p m s opened.seen c.enter_twice.ensures.same c.requires.session in
    let r = c.tell-answer.result in
    let first = c.tell-answer.ensures.stands m.number m.seen stood owns in
    let text = string_bytes c.args.text in
    let q = c.leave_twice.new.p in
    let half = midway m r.entry in
    let owned = owns-midway p m s r.entry opened.seen c.enter_twice.ensures.same c.requires.session in
    let t = first-turn d p m r.entry opened.seen c.enter_twice.ensures.same c.enter_twice.ensures.named
    (c.state-between.ensures.history _ first) in
    let none : unless_kept r.answer ≡ None = search rules in
    let told = tells-kept d s text p m r.answer r.entry t none c.tell-answer.ensures.entry
    (c.tell-answer.ensures.finds m.seen stood) (c.tell-answer.ensures.fits m.seen stood) in
    let f = c.take-found.result in
    let second = c.take-found.ensures.stands m.number half.seen first owned in
    let u = second-turn d m q r.entry f.entry c.enter_twice.ensures.named c.leave_twice.ensures.seen c.leave_twice.ensures.free
    c.leave_twice.ensures.same (c.state-after.ensures.history _ second) in (
      half,
      told,
      take-leaves _ d s half half q f.answer c.in-Err.gone f.entry u c.in-Err.is c.take-found.ensures.entry
          (c.take-found.ensures.finds half.seen first),
    )
