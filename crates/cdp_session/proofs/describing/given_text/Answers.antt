use Rattle.cdp_json.specs.Views.{json_view}
use Rattle.cdp_session.proofs.ResultTextLemmas.{spelt-told}
use Rattle.cdp_session.proofs.describing.given_text.Goals as goal

pub returns : goal.returns
returns c = spelt-told (json_view c.args.given.now) c.in_ok-pen.ensures c.in_ok-json.ensures c.finish.ensures
