use Rattle.std.proofs.Common.{refl}
use Rattle.std.specs.Prelude.{option_copied}
use Rattle.js_heap.specs.Properties.{cell_property, property_of}
use Rattle.js_heap_memory.specs.Cells.{cell_at}
use Rattle.js_heap_memory.specs.Names.{name_of}
use Rattle.js_machine_rows.proofs.ReadingLemmas.{if-some-by, member-by}
use Rattle.js_machine_rows.proofs.reading.value_of_member.Goals as goal

pub returns : goal.returns
returns g c =
    let w = g.W.World.world c.args.names.now c.args.world.now in
    let n = name_of c.args.names.now c.args.key.number in
    let d = cell_at c.args.names.now (option_copied c.find.result) in
    if-some-by c.own_value.result (cell_property d c.in-Ok.text.now) (property_of w c.args.object n)
    (member-by w c.args.object c.in-Object.a d d c.in-Ok.text.now n c.in-Object.is refl
    (c.find.ensures c.args.names.now) c.in-Ok.ensures)
    (c.own_value.ensures c.args.names.now)
