use Rattle.cdp_json.proofs.PieceLemmas.{on-written, written-as}
use Rattle.remote_objects.proofs.RemoteTextLemmas.{undefined-text}
use Rattle.remote_objects.proofs.remote_text.write_undefined.Goals as goal

pub returns : goal.returns
returns c = on-written c.put.result c.put.ensures.put (λ e. written-as undefined-text e)
