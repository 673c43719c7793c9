use Rattle.std.proofs.Common.{refl}
use Rattle.js_semantics.specs.Evaluation.{next_kept, with_source}
use Rattle.js_semantics.specs.Sources.{expression_source}
use Rattle.js_machine_terms.specs.Views.{term_view}
use Rattle.js_heap_memory.specs.Heaps.{heap_world}
use Rattle.js_heap_memory.specs.Overlays.{space_of, next_of}
use Rattle.pure_eval.specs.Holding.{code_term}
use Rattle.pure_eval.proofs.EvaluatorLemmas.{stands-with, evaluator-leaves, runs-after, ready-made, ready-leaves}
use Rattle.pure_eval.proofs.ReturnLemmas.{went-after, came-after, code-after}
use Rattle.pure_eval.proofs.evaluator.Evaluator.evaluate_ready.Goals as goal

pub returns-clause-answer : goal.returns-clause-answer
returns-clause-answer g c = λ p source tree runs i same.
    let old = c.args.self.now in
    let mid = c.add.new.self in
    let a = c.in-Ok.added in
    let has = c.in-Ok.ensures in
    let x = code_term old.names old.table (term_view c.args.prepared.now.term) c.args.held in
    let at = next_kept (space_of old.names c.args.scratch) in
    let e = expression_source tree in
    let order = c.as_slice.result.now in
    let literals = c.as_slice-2.result.now in
    let world = heap_world old.names c.args.base.now in
    let out = c.evaluate_known-outcome.result in
    let made = ready-made at source tree c.args.prepared.now x order literals same c.as_slice.ensures.value
    c.as_slice-2.ensures.value i in
    ready-leaves p world (space_of old.names c.args.scratch) (space_of c.keep.new.self.names out.scratch)
    c.args.work at source tree c.args.prepared.now order out.end c.as_slice.ensures.value i
    (evaluator-leaves old.names mid.names c.keep.new.self.names old.table mid.table old.next a.next a.node x p world
    c.args.scratch out.scratch (next_of c.args.scratch)
    c.args.work e c.args.prepared.now.source order literals out.end runs refl has.behind has.source made
    (c.evaluate_known-outcome.ensures old.names has.source.goes_on has.base_known has.scratch_known)
    c.keep.ensures.names)

pub returns-clause-program : goal.returns-clause-program
returns-clause-program g c = λ p source tree runs i same.
    let old = c.args.self.now in
    let mid = c.add.new.self in
    let a = c.in-Ok.added in
    let has = c.in-Ok.ensures in
    let x = code_term old.names old.table (term_view c.args.prepared.now.term) c.args.held in
    let at = next_kept (space_of old.names c.args.scratch) in
    let e = expression_source tree in
    let order = c.as_slice.result.now in
    let literals = c.as_slice-2.result.now in
    let made = ready-made at source tree c.args.prepared.now x order literals same c.as_slice.ensures.value
    c.as_slice-2.ensures.value i in
    let more = with_source p (space_of old.names c.args.scratch) e in
    let stands = stands-with old.names mid.names old.table mid.table old.next a.next a.node x p c.args.scratch
    (next_of c.args.scratch)
    e order literals runs refl has.behind has.source made in
    runs-after old.names mid.names old.table mid.table old.next mid.next a.node x p more (next_of c.args.scratch)
    a.mark a.next c.evaluate_known-outcome.result.end c.keep.new.self has.next runs has.source stands has.marked
    c.keep.ensures.names c.keep.ensures.kept c.keep.ensures.cut

pub returns-clause-goes_on : goal.returns-clause-goes_on
returns-clause-goes_on g c =
    let old = c.args.self.now in
    went-after c.evaluate_known-outcome.result.end old c.add.new.self c.keep.new.self c.args.base.now c.args.scratch
    (code_term old.names old.table (term_view c.args.prepared.now.term) c.args.held)
    c.in-Ok.added c.requires.whole c.in-Ok.ensures c.keep.ensures.names c.keep.ensures.kept c.keep.ensures.cut

pub returns-clause-came : goal.returns-clause-came
returns-clause-came g c = λ m p came.
    let old = c.args.self.now in
    came-after c.evaluate_known-outcome.result.end m p old c.keep.new.self
    (went-after c.evaluate_known-outcome.result.end old c.add.new.self c.keep.new.self c.args.base.now c.args.scratch
    (code_term old.names old.table (term_view c.args.prepared.now.term) c.args.held)
    c.in-Ok.added c.requires.whole c.in-Ok.ensures c.keep.ensures.names c.keep.ensures.kept c.keep.ensures.cut)
    came

pub returns-clause-code : goal.returns-clause-code
returns-clause-code g c = λ code.
    let old = c.args.self.now in
    code-after c.evaluate_known-outcome.result.end old c.add.new.self c.keep.new.self c.args.base.now c.args.scratch
    (code_term old.names old.table (term_view c.args.prepared.now.term) c.args.held)
    c.in-Ok.added code c.in-Ok.ensures c.keep.ensures.names c.keep.ensures.kept c.keep.ensures.cut

pub evaluate_known-outcome-requires-clause-table : goal.evaluate_known-outcome-requires-clause-table
evaluate_known-outcome-requires-clause-table g c = c.in-Ok.ensures.source.whole.table

pub evaluate_known-outcome-requires-clause-functions : goal.evaluate_known-outcome-requires-clause-functions
evaluate_known-outcome-requires-clause-functions g c = c.in-Ok.ensures.source.whole.functions

pub evaluate_known-outcome-requires-clause-call : goal.evaluate_known-outcome-requires-clause-call
evaluate_known-outcome-requires-clause-call g c = c.if-not-is_call.ensures refl
