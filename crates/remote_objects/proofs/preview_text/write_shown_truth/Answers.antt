use Rattle.std.proofs.Common.{sym, ap, ◌∙◌}
use Rattle.js_heap.specs.Values.{bool_text}
use Rattle.cdp_json.specs.Compact.{string_text}
use Rattle.cdp_json.proofs.PieceLemmas.{on-written, written-as}
use Rattle.remote_objects.specs.Previews.{shortened}
use Rattle.remote_objects.proofs.PreviewTextLemmas.{short-false, short-true}
use Rattle.remote_objects.proofs.preview_text.write_shown_truth.Goals as goal

pub returns-then-truth : goal.returns-then-truth
returns-then-truth c =
    on-written c.put.result c.put.ensures.put
    (λ e. written-as (short-true ∙ ap (λ b. string_text (shortened (bool_text b))) (sym c.if-truth.true)) e)

pub returns-else-truth : goal.returns-else-truth
returns-else-truth c =
    on-written c.put-else-truth.result c.put-else-truth.ensures.put
    (λ e. written-as (short-false ∙ ap (λ b. string_text (shortened (bool_text b))) (sym c.if-truth.false)) e)
