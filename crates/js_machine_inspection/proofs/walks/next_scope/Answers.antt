use Rattle.std.proofs.Common.{◌∙◌}
use Rattle.js_machine_inspection.proofs.WalkLemmas.{scope-next, scope-gone}
use Rattle.js_machine_inspection.proofs.walks.next_scope.Goals as goal

pub returns-in_err-walked : goal.returns-in_err-walked
returns-in_err-walked c =
    c.from_residual.ensures
    ∙ scope-gone c.args.root c.args.stack.now c.args.walked c.requires c.in_err-walked.was

pub returns : goal.returns
returns c =
    scope-next c.args.root c.args.stack.now c.args.walked c.in_ok-walked.field-0 c.scope_at.result c.requires
    c.in_ok-walked.was c.scope_at.ensures
