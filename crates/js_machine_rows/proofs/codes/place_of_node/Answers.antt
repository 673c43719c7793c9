use Rattle.std.specs.Prelude.{slice_get}
use Rattle.js_machine_rows.proofs.CodeLemmas.{node-placed}
use Rattle.js_machine_rows.proofs.codes.place_of_node.Goals as goal

pub returns-in-Some : goal.returns-in-Some
returns-in-Some c =
    λ ts. node-placed ts c.args.table.now c.args.node c.args.number c.in-Some.body
    (slice_get c.args.table.now.functions.items c.args.number) c.in-Some.ensures
