use Rattle.std.proofs.Common.{Some, option_map, ap, sym, ◌∙◌, arith}
use Rattle.serde_json.specs.View.{view}
use Rattle.cdp_json.specs.ArgumentViews.{argument_view}
use Rattle.cdp_json.specs.Arguments.{argument_of}
use Rattle.cdp_json.proofs.SafeLemmas.{arguments_more, arguments_all}
use Rattle.cdp_json.proofs.calls.listed.Goals as goal

pub loop-value-preserved : goal.loop-value-preserved
loop-value-preserved c =
    arguments_more c.args.values.now c.loop-value.value-index c.value-item.result c.loop-value.items.items _
    c.in-Some.item
    (omega arith)
    (ap (option_map argument_view) (sym c.in-Some.is)
    ∙ c.in_ok-item.ensures
    ∙ ap (λ v. argument_of (view v)) c.value-item.is)
    c.in_ok-push-in-Some.ensures.items
    ∙ c.loop-value.invariant

pub returns : goal.returns
returns c =
    ap Some c.from_vec.ensures
    ∙ arguments_all c.args.values.now c.loop-value.value-index c.loop-value.items.items (omega arith)
    ∙ c.loop-value.invariant
