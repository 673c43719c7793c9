use Rattle.std.proofs.Common.{◌++◌, ◌∙◌, sym, ap, refl, append_assoc}
use Rattle.cdp_edge.proofs.Gains.{gains-next, OnErr-GainsLess-behind}
use Rattle.debug_host_commands.proofs.drill.put_text.Goals as goal

pub returns-in_err-put-clause-err : goal.returns-in_err-put-clause-err
returns-in_err-put-clause-err g c =
    let (done, is, taken) = c.loop-rest.invariant.taken in
    let line = c.split_at.result.0.now in
    let after = c.split_at.result.1.now in
    OnErr-GainsLess-behind c.from_residual.result _ _ _ done line after _ taken
    (is ∙ ap (λ rest. done ++ rest) c.split_at.ensures.by_index.0 ∙ sym (append_assoc done line after))
    c.in_err-put.ensures.err

pub loop-rest-preserved : goal.loop-rest-preserved
loop-rest-preserved g c =
    let (done, is, taken) = c.loop-rest.invariant.taken in
    let line = c.split_at.result.0.now in
    let after = c.split_at.result.1.now in
    record {
      taken = (
        done ++ line,
        is ∙ ap (λ rest. done ++ rest) c.split_at.ensures.by_index.0 ∙ sym (append_assoc done line after),
        gains-next _ _ _ done line (done ++ line) taken c.in_ok-put.ensures.ok (refl),
      );
      quiet = c.in_ok-put.ensures.quiet ∙ c.loop-rest.invariant.quiet;
    }
