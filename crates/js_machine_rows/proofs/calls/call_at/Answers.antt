use Rattle.std.proofs.Common.{ap, sym, ◌∙◌}
use Rattle.std.specs.Prelude.{Some, None}
use Rattle.js_machine_nodes.specs.Trees.{program_of}
use Rattle.js_heap.specs.World.{read_cell}
use Rattle.js_semantics.specs.Functions.{not_a_function}
use Rattle.js_machine_rows.specs.Calls.{called_of, callee_view, view_of}
use Rattle.js_machine_rows.proofs.CallLemmas.{cell-acts, ends-in}
use Rattle.js_machine_rows.proofs.calls.call_at.Goals as goal

pub returns-in-Ok-Some : goal.returns-in-Ok-Some
returns-in-Ok-Some g c =
    let ts = c.args.code.now.names.now in
    let t = c.args.code.now.table.now in
    let a = c.args.given.now.arguments.now in
    let v = g.W.World.world c.args.code.now.names.now c.args.world.now in
    let p = program_of ts t in
    cell-acts ts t p a c.args.function (read_cell v c.args.function) (Some (view_of ts c.in-Ok-Some.callee))
    c.args.given.now.receiver v c.args.context.now c.call_callee.result
    (g.W.World.world c.args.code.now.names.now c.call_callee.new.world) c.call_callee.new.context
    (ap (λ k. callee_view ts k) (sym c.in-Ok-Some.field-0-is)
    ∙ c.in-Ok-Some.ensures ts
    ∙ ap (λ x. called_of x) (c.find.ensures ts))
    c.call_callee.ensures

pub returns-in-Ok-None : goal.returns-in-Ok-None
returns-in-Ok-None g c =
    let ts = c.args.code.now.names.now in
    let t = c.args.code.now.table.now in
    let a = c.args.given.now.arguments.now in
    let v = g.W.World.world c.args.code.now.names.now c.args.world.now in
    let p = program_of ts t in
    cell-acts ts t p a c.args.function (read_cell v c.args.function)
    None c.args.given.now.receiver v c.args.context.now c.stopped.result
    (g.W.World.world c.args.code.now.names.now c.not_a_function.new.world) c.args.context.now
    (ap (λ k. callee_view ts k) (sym c.in-Ok-None.field-0-is)
    ∙ c.in-Ok-None.ensures ts
    ∙ ap (λ x. called_of x) (c.find.ensures ts))
    (ends-in ts t a not_a_function v c.not_a_function.result
    (g.W.World.world c.args.code.now.names.now c.not_a_function.new.world)
    c.args.context.now c.stopped.result c.not_a_function.ensures c.stopped.ensures)
