use Rattle.std.proofs.Common.{Some, ap, sym, ◌∙◌}
use Rattle.js_semantics.specs.Frames.{active}
use Rattle.js_machine_engine.specs.Points.{term_at}
use Rattle.js_machine_inspection.specs.Kinds.{opened_by}
use Rattle.js_machine_inspection.specs.Shown.{at_script}
use Rattle.js_machine_inspection.proofs.ShownLemmas.{bottom-shown, other-shown, depth-count}
use Rattle.js_machine_inspection.proofs.frames.script_shown.Goals as goal

pub returns-then-d-depth : goal.returns-then-d-depth
returns-then-d-depth c = λ ts f h.
    let a = active (term_at ts c.args.table.now c.args.stack.now c.args.point) in
    let fs = c.args.context.now.frames in
    bottom-shown a fs c.args.d f (c.if-d-depth.true ∙ depth-count c.depth.result c.args.context.now c.depth.ensures) h
    ∙ ap (λ o. Some (at_script o f)) (ap opened_by (c.next_reduced.ensures ts) ∙ sym c.script_of.ensures)

pub returns : goal.returns
returns c = λ ts f h.
    let a = active (term_at ts c.args.table.now c.args.stack.now c.args.point) in
    other-shown a c.args.context.now.frames c.args.d f
    (λ e. c.if-d-depth.false (e ∙ sym (depth-count c.depth.result c.args.context.now c.depth.ensures))) h
