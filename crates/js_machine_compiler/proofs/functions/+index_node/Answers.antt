use Rattle.std.proofs.Common.{◌≡◌, ◌∙◌, ◌<◌, ◌-◌, sym, arith}
use Rattle.std.proofs.lemmas.Result.{on_ok_weaker}
use Rattle.js_machine_nodes.specs.Trees.{kid_at}
use Rattle.js_machine_nodes.proofs.TreeLemmas.{node-at}
use Rattle.js_machine_compiler.proofs.IndexLemmas.{kid_below}
use Rattle.js_machine_compiler.proofs.FillLemmas.{filled_none, filled_literal, parts_none, parts_before, filled_node}
use Rattle.js_machine_compiler.proofs.functions.+index_node.Goals as goal

pub returns-in_default : goal.returns-in_default
returns-in_default t c =
    filled_none c.args.table.now c.args.number c.node.result c.args.index.now.items c.node.ensures c.in_default.not-Some

pub returns-then-is_literal : goal.returns-then-is_literal
returns-then-is_literal t c =
    filled_literal c.args.table.now c.args.number c.in-Some.node c.args.index.now.items (sym c.in-Some.ensures)
    (sym c.is_literal.ensures ∙ c.if-is_literal.true)

pub loop-place-init : goal.loop-place-init
loop-place-init t c =
    let w = node-at c.args.table.now c.args.number c.in-Some.node c.requires.table (sym c.in-Some.ensures) in
    record {
      begins = omega (arith, w.now, w.later);
      finds = parts_none c.args.table.now c.in-Some.node.end c.in-Some.node.end c.args.index.now.items (omega arith);
    }

pub index_node-requires : goal.index_node-requires
index_node-requires t c =
    let below : kid_at c.args.table.now (c.loop-place.place - 1)
    < c.args.number = kid_below c.args.table.now c.args.number (c.loop-place.place - 1)
    c.in-Some.node c.requires.table (sym c.in-Some.ensures) (omega arith) (omega arith) in
    (omega (arith, below, c.kid.ensures), (c.requires.table, c.requires.places))

pub loop-place-preserved : goal.loop-place-preserved
loop-place-preserved t c = record {
  begins = omega arith;
  finds =
      parts_before c.args.table.now c.args.number (c.loop-place.place - 1)
      c.loop-place.place c.in-Some.node c.kid.result c.args.index.now.items c.loop-place.index.items
      c.index_node.new.index.items c.requires.table
      (sym c.in-Some.ensures) (omega arith) (omega arith)
      c.kid.ensures c.in_ok-index_node.ensures c.loop-place.invariant.finds;
}

pub returns : goal.returns
returns t c =
    let all : c.loop-place.place ≡ c.in-Some.node.first = omega arith in
    on_ok_weaker c.put_function.result
    (filled_node c.args.table.now c.args.number c.loop-place.place c.in-Some.node c.args.index.now.items
    c.loop-place.index.items c.put_function.new.index.items c.requires.table c.requires.places
    (sym c.in-Some.ensures) (sym c.is_literal.ensures ∙ c.if-is_literal.false) all c.loop-place.invariant.finds)
    c.put_function.ensures
