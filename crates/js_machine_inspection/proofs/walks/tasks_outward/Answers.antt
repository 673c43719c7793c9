use Rattle.std.proofs.Common.{drop, sym, ap, ◌∙◌}
use Rattle.js_machine_inspection.specs.Walks.{scopes_behind}
use Rattle.js_machine_inspection.proofs.walks.tasks_outward.Goals as goal

pub returns-in_err-tasks : goal.returns-in_err-tasks
returns-in_err-tasks c = λ root.
    ap (λ o. drop 1 (scopes_behind root c.args.stack.now o)) c.in_err-tasks.was
    ∙ sym (ap (scopes_behind root c.args.stack.now) c.from_residual.ensures)

pub returns : goal.returns
returns c = λ root.
    ap (λ o. drop 1 (scopes_behind root c.args.stack.now o)) c.in_ok-tasks.was ∙ c.tasks_to_call.ensures root
