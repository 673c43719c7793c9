use Rattle.pure_eval.proofs.workspace.OpenWorkspace.evaluate.Goals as goal

pub returns-clause-answer : goal.returns-clause-answer
returns-clause-answer g c = λ e prepared. c.evaluate_ready.ensures.answer e.source e.tree prepared tt
