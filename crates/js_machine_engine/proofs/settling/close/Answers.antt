use Rattle.std.proofs.Common.{◌∙◌}
use Rattle.js_machine_engine.specs.Settling.{settled_row, Comes}
use Rattle.js_machine_engine.specs.declared.closing.Next.TheVariants as nexts
use Rattle.js_machine_engine.proofs.DescentLemmas.{row-task, row-settles, part-settles}
use Rattle.js_machine_engine.proofs.settling.close.Goals as goal

pub inner_scope-inner-requires : goal.inner_scope-inner-requires
inner_scope-inner-requires c = row-task c.args.stack.now c.requires.row

pub returns-in-Row : goal.returns-in-Row
returns-in-Row c =
    rw c.set_row.ensures
    (row-settles c.args.table.now c.args.stack.now c.finish.new.stack
    (λ ts. settled_row ts c.args.table.now c.args.stack.now)
    (rw c.in-Row.is at c.in_ok-finish.ensures))

pub returns-in-Value : goal.returns-in-Value
returns-in-Value c = rw c.in-Value.is at c.in_ok-finish.ensures

pub returns-in_ok-descend-in-Part : goal.returns-in_ok-descend-in-Part
returns-in_ok-descend-in-Part c =
    let t = c.args.table.now in
    let old = c.args.stack.now in
    let p : Comes t old c.finish.new.stack (λ ts. settled_row ts t old) (nexts.Part c.in-Part.part)
    = rw c.in-Part.is at c.in_ok-finish.ensures in
    part-settles t old c.finish.new.stack c.descend.new.stack (λ ts. settled_row ts t old) c.in-Part.part
    c.inner_scope-inner.result c.descend.new.point p (λ root. p.stands.inner root ∙ c.inner_scope-inner.ensures root)
    c.in_ok-descend-in-Part.ensures.term c.in_ok-descend-in-Part.ensures.at c.in_ok-descend-in-Part.ensures.scoped
