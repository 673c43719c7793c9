use Rattle.std.proofs.Common.{◌≡◌, None, Ok, rules, string_bytes, sym, subst, ◌∙◌}
use Rattle.cdp_host_isolation.specs.Histories.{Entry, Tell}
use Rattle.history_lock.specs.Passes.{PassState}
use Rattle.cdp_host_turns.specs.Turns.{Takes, Tells, unless_kept}
use Rattle.cdp_host_turns.specs.declared.answers.Told.TheVariants.{Kept}
use Rattle.cdp_host_turns.proofs.TurnLemmas.{is-kept, owns-after, tells-alone}
use Rattle.cdp_host_turns.proofs.turns.tell_then_take.Goals as goal

pub take-requires-clause-session : goal.take-requires-clause-session
take-requires-clause-session g c =
    let d = g.H.Hosted.debugs in
    let s = c.args.session in
    let text = string_bytes c.args.text in
    let p = c.args.p.now in
    let m = c.tell.new.p in
    let none : unless_kept c.in_ok-answer.answer ≡ None = search rules in
    let kept = is-kept c.in_ok-answer.answer none in
    owns-after d s p m (Tell s text) (subst (Tells d s text p m) kept c.in_ok-answer.ensures.tells).0 c.requires.session

pub returns-in-Some-clause-answers : goal.returns-in-Some-clause-answers
returns-in-Some-clause-answers g c =
    tells-alone g.H.Hosted.debugs c.args.session (string_bytes c.args.text) c.args.p.now c.tell.new.p
    c.in_ok-answer.answer c.in-Some.ended c.in_ok-answer.ensures.tells (sym c.unless_kept.ensures ∙ c.in-Some.is)

pub returns-in-Ok-Ok-clause-answers : goal.returns-in-Ok-Ok-clause-answers
returns-in-Ok-Ok-clause-answers g c =
    let d = g.H.Hosted.debugs in
    let s = c.args.session in
    let m = c.tell.new.p in
    let none : unless_kept c.in_ok-answer.answer ≡ None = search rules in (
      m,
      subst (Tells d s (string_bytes c.args.text) c.args.p.now m) (is-kept c.in_ok-answer.answer none)
          c.in_ok-answer.ensures.tells,
      subst (Takes d s m c.take.new.p) c.in-Ok-Ok.field-0-is c.in-Ok-Ok.ensures.takes,
    )

pub returns-in-Ok-Err-clause-answers : goal.returns-in-Ok-Err-clause-answers
returns-in-Ok-Err-clause-answers g c =
    let d = g.H.Hosted.debugs in
    let s = c.args.session in
    let m = c.tell.new.p in
    let none : unless_kept c.in_ok-answer.answer ≡ None = search rules in (
      m,
      subst (Tells d s (string_bytes c.args.text) c.args.p.now m) (is-kept c.in_ok-answer.answer none)
          c.in_ok-answer.ensures.tells,
      subst (Takes d s m c.take.new.p) c.in-Ok-Err.field-0-is c.in-Ok-Err.ensures.takes,
    )

pub returns-in-Err-clause-answers : goal.returns-in-Err-clause-answers
returns-in-Err-clause-answers g c =
    let d = g.H.Hosted.debugs in
    let s = c.args.session in
    let text = string_bytes c.args.text in
    let p = c.args.p.now in
    let m = c.tell.new.p in
    let none : unless_kept c.in_ok-answer.answer ≡ None = search rules in
    let told = subst (Tells d s text p m) (is-kept c.in_ok-answer.answer none) c.in_ok-answer.ensures.tells in (
      m,
      told,
      c.in-Err.ensures.none,
      c.in-Err.ensures.spent,
    )
