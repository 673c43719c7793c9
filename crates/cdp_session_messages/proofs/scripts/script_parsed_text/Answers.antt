use Rattle.std.proofs.Common.{codes, ap, ◌∙◌}
use Rattle.std.proofs.lemmas.Result.{IfOk-weaker}
use Rattle.cdp_json.specs.Messages.{event_text}
use Rattle.cdp_session_messages.specs.Scripts.{script_parsed_text}
use Rattle.cdp_session_messages.proofs.scripts.script_parsed_text.Goals as goal

pub returns : goal.returns
unfolding script_parsed_text
returns c =
    IfOk-weaker c.event_text.result _ _
    (λ text is. is ∙ ap (event_text (codes "Debugger.scriptParsed")) c.in_ok-params.ensures)
    c.event_text.ensures
