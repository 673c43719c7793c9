use Rattle.cdp_json.proofs.PieceLemmas.{on-written, written-as}
use Rattle.remote_objects.proofs.PreviewTextLemmas.{short-nothing}
use Rattle.remote_objects.proofs.preview_text.write_shown_function.Goals as goal

pub returns : goal.returns
returns c = on-written c.put.result c.put.ensures.put (λ e. written-as short-nothing e)
