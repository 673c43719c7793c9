use Rattle.std.proofs.Common.{◌≡◌, ◌∙◌, string_bytes}
use Rattle.cdp_edge.proofs.Gains.{gains-next, OnErr-GainsLess-behind}
use Rattle.debug_host_commands.proofs.PlayLemmas.{joined-more, joined-at}
use Rattle.debug_host_commands.proofs.journal.put_lines.Goals as goal

pub returns-in_err-put-clause-err : goal.returns-in_err-put-clause-err
returns-in_err-put-clause-err g c =
    let bytes : c.as_bytes.result.now ≡ string_bytes c.line-item.result = c.as_bytes.ensures.value in
    let at = joined-at string_bytes c.args.lines.now c.loop-line.line-index c.line-item.result c.loop-line-test.true
    c.line-item.is in
    OnErr-GainsLess-behind c.from_residual.result _ _ _ _ _ _ _ c.loop-line.invariant.taken (rw (← bytes) at at)
    c.in_err-put.ensures.err

pub loop-line-preserved : goal.loop-line-preserved
loop-line-preserved g c =
    let bytes : c.as_bytes.result.now ≡ string_bytes c.line-item.result = c.as_bytes.ensures.value in
    let more = joined-more string_bytes c.args.lines.now c.loop-line.line-index c.line-item.result c.loop-line-test.true
    c.line-item.is in
    record {
      taken = gains-next _ _ _ _ _ _ c.loop-line.invariant.taken c.in_ok-put.ensures.ok (rw (← bytes) at more);
      quiet = c.in_ok-put.ensures.quiet ∙ c.loop-line.invariant.quiet;
    }
