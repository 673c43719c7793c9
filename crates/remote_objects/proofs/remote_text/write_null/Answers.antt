use Rattle.cdp_json.proofs.PieceLemmas.{on-written, written-as}
use Rattle.remote_objects.proofs.RemoteTextLemmas.{null-text}
use Rattle.remote_objects.proofs.remote_text.write_null.Goals as goal

pub returns : goal.returns
returns c = on-written c.put.result c.put.ensures.put (λ e. written-as null-text e)
