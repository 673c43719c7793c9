use Rattle.std.specs.Prelude.{option_copied}
use Rattle.std.specs.Fmt.{decimal}
use Rattle.js_heap.specs.Values.{key_of}
use Rattle.js_heap.specs.Properties.{cell_property, property_of}
use Rattle.js_semantics.specs.References.{keyed_result}
use Rattle.js_heap_memory.specs.Cells.{cell_at}
use Rattle.js_machine_rows.proofs.ReadingLemmas.{if-some-by, index-by}
use Rattle.js_machine_rows.proofs.reading.value_of_index.Goals as goal

pub returns : goal.returns
returns g c =
    let w = g.W.World.world c.args.names.now c.args.world.now in
    let d = cell_at c.args.names.now (option_copied c.find.result) in
    if-some-by c.indexed_value.result (cell_property d (decimal c.in-Some.at))
    (keyed_result (key_of w c.args.index) (property_of w c.args.object))
    (index-by w c.args.object c.args.index c.in-Object.a c.in-Some.at d c.in-Object.is c.in-Some.ensures.number
    (c.find.ensures c.args.names.now))
    (c.indexed_value.ensures c.args.names.now)
