use Rattle.std.proofs.Common.{sym}
use Rattle.js_machine_rows.proofs.PropertyLemmas.{element-written}
use Rattle.js_machine_rows.proofs.writing.put_index_value.Goals as goal

pub returns-then-has_place : goal.returns-then-has_place
returns-then-has_place g c =
    let v = g.W.World.world c.args.names.now c.args.world.now in
    element-written c.args.object c.args.index c.in-Object.a c.in-Some.at c.args.value v c.put_element.result
    (g.W.World.world c.args.names.now c.put_element.new.world)
    c.in-Object.is c.in-Some.ensures.number c.in-Some.ensures.small (sym c.if-has_place.ensures)
    c.put_element.ensures
