use Rattle.std.proofs.Common.{◌≡◌, ◌∙◌}
use Rattle.cdp_edge.proofs.Gains.{gains-next, OnErr-GainsLess-behind}
use Rattle.cdp_edge_printing.proofs.PrintingLemmas.{lines-more, lines-at}
use Rattle.cdp_edge_printing.proofs.put_texts.Goals as goal

pub returns-in_err-put_text-clause-err : goal.returns-in_err-put_text-clause-err
returns-in_err-put_text-clause-err g c =
    let text : c.as_slice.result.now ≡ c.text-item.result = c.as_slice.ensures in
    let at = lines-at c.args.texts.now c.loop-text.text-index c.text-item.result c.loop-text-test.true c.text-item.is in
    OnErr-GainsLess-behind c.from_residual.result _ _ _ _ _ _ _ c.loop-text.invariant.taken (rw (← text) at at)
    c.in_err-put_text.ensures.err

pub loop-text-preserved : goal.loop-text-preserved
loop-text-preserved g c =
    let text : c.as_slice.result.now ≡ c.text-item.result = c.as_slice.ensures in
    let more = lines-more c.args.texts.now c.loop-text.text-index c.text-item.result c.loop-text-test.true
    c.text-item.is in
    record {
      taken = gains-next _ _ _ _ _ _ c.loop-text.invariant.taken c.in_ok-put_text.ensures.ok (rw (← text) at more);
      quiet = c.in_ok-put_text.ensures.quiet ∙ c.loop-text.invariant.quiet;
    }
