use Rattle.cdp_json.proofs.PieceLemmas.{on-written, written-as}
use Rattle.remote_objects.proofs.PreviewTextLemmas.{short-object}
use Rattle.remote_objects.proofs.preview_text.write_shown_object.Goals as goal

pub returns : goal.returns
returns c = on-written c.put.result c.put.ensures.put (λ e. written-as short-object e)
