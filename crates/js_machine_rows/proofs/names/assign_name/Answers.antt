use Rattle.std.proofs.Common.{◌∙◌, sym}
use Rattle.js_heap.specs.declared.change.Change.TheVariants as changes
use Rattle.js_semantics.specs.References.{found, name_written}
use Rattle.js_heap_memory.specs.Names.{name_of}
use Rattle.js_machine_rows.proofs.AnswerLemmas.{change-reply}
use Rattle.js_machine_rows.proofs.NameLemmas.{open-written}
use Rattle.js_machine_rows.proofs.names.assign_name.Goals as goal

pub returns-in-Some : goal.returns-in-Some
returns-in-Some g c =
    let v = g.W.World.world c.args.names.now c.args.world.now in
    let w = g.W.World.world c.args.names.now c.bind_at-written.new.world in
    let n = name_of c.args.names.now c.args.name.number in
    let o = found v c.args.scope n in
    change-reply c.args.names.now (name_written n o c.args.value) c.in-Some.slot.scope (changes.Bind n c.args.value)
    c.args.value v c.bind_at-written.result w c.replied_with.result
    (open-written n c.lookup-found.result o c.in-Some.slot c.args.value c.lookup-found.ensures.value
    (sym c.open_slot.ensures ∙ c.in-Some.is))
    c.bind_at-written.ensures c.replied_with.ensures
