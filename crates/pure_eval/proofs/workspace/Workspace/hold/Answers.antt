use Rattle.std.proofs.Common.{[], ◌∷◌, ◌++◌, ap, ◌∙◌}
use Rattle.std.proofs.lemmas.Result.{IfOk-weaker}
use Rattle.js_semantics.specs.Evaluation.{next_kept}
use Rattle.pure_eval.specs.Holding.{source_for}
use Rattle.pure_eval.specs.Workspaces.{Workspace}
use Rattle.pure_eval.proofs.HoldLemmas.{holds-too}
use Rattle.pure_eval.proofs.workspace.Workspace.hold.Goals as goal

pub returns-clause-workspace : goal.returns-clause-workspace
returns-clause-workspace c =
    IfOk-weaker c.hold_more.result _ _ (λ w e. e ∙ c.with_room.ensures.workspace) c.hold_more.ensures.workspace

pub returns-clause-names : goal.returns-clause-names
returns-clause-names c =
    IfOk-weaker c.hold_more.result _ _ (λ w e. e ∙ c.with_room.ensures.names) c.hold_more.ensures.names

pub returns-clause-held : goal.returns-clause-held
returns-clause-held c =
    let room = c.with_room.result in
    let p = c.args.prepared.now in
    IfOk-weaker c.hold_more.result _ _
    (λ w e. holds-too _ _ room.held w.held c.with_room.ensures.held
    (e ∙ ap (λ (x : Workspace). room.held ++ source_for (next_kept x.scratch) p ∷ []) c.with_room.ensures.workspace))
    c.hold_more.ensures.held
