use Rattle.js_machine_engine.specs.Stacks.{wide, values_of, extra_of, outer_of}
use Rattle.js_machine_inspection.proofs.ActiveLemmas.{row-kind, leaf-kind, stands-kind, done-kind}
use Rattle.js_machine_inspection.proofs.reducing.next_reduced.Goals as goal

pub returns-in_ok-task-in-Row : goal.returns-in_ok-task-in-Row
returns-in_ok-task-in-Row c = λ ts.
    let ws = c.args.stack.now in
    row-kind ts c.args.table.now ws (outer_of ws) (wide c.in_ok-task-in-Row.task (values_of ws) (extra_of ws))
    c.args.point c.in-Row.is c.in_ok-task-in-Row.ensures.some

pub returns-in_ok-node-in-Leaf : goal.returns-in_ok-node-in-Leaf
returns-in_ok-node-in-Leaf c = λ ts.
    leaf-kind ts c.args.table.now c.args.stack.now c.in-Leaf.n c.in_ok-node-in-Leaf.node c.args.point c.in-Leaf.is
    c.in_ok-node-in-Leaf.ensures c.requires.table c.requires.at

pub returns-in-Stands : goal.returns-in-Stands
returns-in-Stands c =
    λ ts. stands-kind ts c.args.table.now c.args.stack.now c.in-Stands.field-0 c.in-Stands.field-1 c.args.point
    c.in-Stands.is

pub returns-in-Done : goal.returns-in-Done
returns-in-Done c =
    λ ts. done-kind ts c.args.table.now c.args.stack.now c.in-Done.field-0 c.args.point c.in-Done.is c.requires.at
