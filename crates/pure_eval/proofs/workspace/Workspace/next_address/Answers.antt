use Rattle.std.proofs.Common.{sym, ap, ◌∙◌}
use Rattle.js_semantics.specs.Evaluation.{next_kept}
use Rattle.pure_eval.specs.Held.{HeldWorkspace}
use Rattle.pure_eval.proofs.EvaluatorLemmas.{next-same}
use Rattle.pure_eval.proofs.workspace.Workspace.next_address.Goals as goal

pub returns : goal.returns
returns c =
    c.next_address.ensures
    ∙ sym (next-same c.self.inside.code.value.evaluator.names c.self.inside.scratch)
    ∙ ap (λ (h : HeldWorkspace). next_kept h.workspace.scratch) c.self.view_is
