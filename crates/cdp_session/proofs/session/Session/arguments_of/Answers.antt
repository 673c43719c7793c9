use Rattle.std.proofs.Common.{option_map, ap, sym, ◌∙◌, arith}
use Rattle.cdp_json.specs.ArgumentViews.{argument_view}
use Rattle.pure_eval.specs.Arguments as passed
use Rattle.cdp_session.specs.Calls.{argument_of}
use Rattle.cdp_session.proofs.CallLemmas.{behind-more, behind-all}
use Rattle.cdp_session.proofs.session.Session.arguments_of.Goals as goal

pub loop-argument-preserved : goal.loop-argument-preserved
loop-argument-preserved c =
    let x = c.args.self.now in
    behind-more x c.args.arguments.now c.loop-argument.argument-index c.argument-item.result c.loop-argument.given.items
    _ c.in-Some.passed
    (omega arith)
    (ap (option_map passed.argument_of) (sym c.in-Some.is)
    ∙ c.in_ok-passed.ensures
    ∙ ap (λ a. argument_of x (argument_view a)) c.argument-item.is)
    c.in_ok-push-in-Some.ensures.items
    ∙ c.loop-argument.invariant

pub returns : goal.returns
returns c =
    behind-all c.args.self.now c.args.arguments.now c.loop-argument.argument-index c.loop-argument.given.items
    (omega arith)
    ∙ c.loop-argument.invariant
