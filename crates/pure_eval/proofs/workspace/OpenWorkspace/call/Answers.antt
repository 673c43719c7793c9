use Rattle.std.proofs.Common.{sym, subst}
use Rattle.js_semantics.specs.Evaluation.{Answer}
use Rattle.js_semantics.specs.Sources.{expression_source}
use Rattle.pure_eval.specs.Arguments.{arguments_of}
use Rattle.pure_eval.specs.Workspaces.{EvaluatesTo}
use Rattle.pure_eval.proofs.EvaluatorLemmas.{call-is}
use Rattle.pure_eval.proofs.workspace.OpenWorkspace.call.Goals as goal

pub returns-clause-answer : goal.returns-clause-answer
returns-clause-answer g c = λ f prepared.
    let old = c.args.self.now.workspace in
    let new = c.evaluate_ready.new.self.workspace in
    let P : Answer → Type 0 = λ a. EvaluatesTo a (expression_source f.tree) c.evaluate_ready.result old new in
    subst P (sym
    (call-is old.behind.program old.world old.behind.scratch f c.args.receiver (arguments_of c.args.arguments.now)))
    (c.evaluate_ready.ensures.answer f.source f.tree prepared tt)
