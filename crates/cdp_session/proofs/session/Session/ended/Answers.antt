use Rattle.std.proofs.Common.{rules, ◌≡◌, ◌++◌, ◌∷◌, [], false}
use Rattle.cdp_session_messages.specs.Ends.{context_destroyed_text}
use Rattle.cdp_session.specs.Endings.{ended, ending_told}
use Rattle.cdp_session_messages.specs.Outboxes.{fits}
use Rattle.cdp_session.specs.Situations.{seen}
use Rattle.cdp_session_messages.proofs.OutboxSizes.{unfit-as}
use Rattle.cdp_session.proofs.session.Session.ended.Goals as goal

pub returns-in_err-tell_ending-clause-over : goal.returns-in_err-tell_ending-clause-over
returns-in_err-tell_ending-clause-over g c = λ is.
    let s = seen g.P.Program.standing c.args.situation.now in
    let told = ending_told s c.args.ending c.args.moment c.args.self.now in
    let unfit : fits told.outbox ≡ false = search rules in
    let more :
    (ended s c.args.ending c.args.moment c.args.self.now).outbox ≡ told.outbox ++ context_destroyed_text ∷ [] = search
    rules in
    unfit-as _ _ _ more unfit
