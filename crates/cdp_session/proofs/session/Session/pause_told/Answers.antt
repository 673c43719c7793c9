use Rattle.std.proofs.Common.{codes, ap, ◌∙◌}
use Rattle.std.proofs.lemmas.Result.{IfOk-weaker}
use Rattle.cdp_json.specs.Messages.{event_text}
use Rattle.cdp_session.specs.Pauses.{sight_for, sight_of, value_told}
use Rattle.cdp_session.specs.PauseTexts.{pause_params}
use Rattle.cdp_session.specs.Situations.{seen}
use Rattle.cdp_session.proofs.session.Session.pause_told.Goals as goal

pub returns-clause-made : goal.returns-clause-made
returns-clause-made g c =
    let s = seen g.P.Program.standing c.args.situation.now in
    let value = value_told c.args.cause s.standing.thrown in
    IfOk-weaker c.pause_text.result _ _
    (λ text is. is
    ∙ (ap (λ hits. event_text (codes "Debugger.paused")
    (pause_params (sight_for s c.self.inside.number) c.args.number s.standing.frames value hits c.args.cause
    c.self.inside.handles).made) c.as_slice.ensures.value
    ∙ ap (λ x. event_text (codes "Debugger.paused")
    (pause_params (sight_of s x) c.args.number s.standing.frames value c.args.hits.items c.args.cause x.handles).made)
    c.self.view_is))
    c.pause_text.ensures.made
