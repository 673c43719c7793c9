use Rattle.std.proofs.Common.{map, take, string_bytes, ◌∙◌}
use Rattle.ws_service.proofs.SendLemmas.{first-texts}
use Rattle.ws_service.proofs.session.send_all.Goals as goal

pub returns-in-Err-clause-part : goal.returns-in-Err-clause-part
returns-in-Err-clause-part g c = (
  map string_bytes (take c.loop-text.text-index c.args.texts.now),
  first-texts c.loop-text.text-index c.args.texts.now,
  c.in-Err.ensures.nothing ∙ c.loop-text.invariant.sent,
)
