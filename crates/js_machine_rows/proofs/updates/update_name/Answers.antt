use Rattle.std.proofs.Common.{sym, ◌∙◌}
use Rattle.js_semantics.specs.References.{found}
use Rattle.js_heap_memory.specs.Names.{name_of}
use Rattle.js_machine_rows.specs.Updates.{name_updated}
use Rattle.js_machine_rows.proofs.AnswerLemmas.{replies-by}
use Rattle.js_machine_rows.proofs.NameLemmas.{open-written, open-value}
use Rattle.js_machine_rows.proofs.UpdateLemmas.{name-updated}
use Rattle.js_machine_rows.proofs.updates.update_name.Goals as goal

pub returns-in-Some-stepped : goal.returns-in-Some-stepped
returns-in-Some-stepped g c =
    let ts = c.args.code.now.names.now in
    let v = g.W.World.world c.args.code.now.names.now c.args.world.now in
    let n = name_of ts c.args.name.number in
    let p = found v c.args.scope n in
    let o = sym c.open_slot.ensures ∙ c.in-Some.is in
    name-updated ts c.args.how.operator n p c.in-Some.slot.scope c.args.how.prefix c.in-Some-value.old
    c.in-Some-stepped.new
    c.update_value-given.result v c.bind_at-written.result
    (g.W.World.world c.args.code.now.names.now c.bind_at-written.new.world) c.replied_with.result
    (open-value n c.lookup-found.result p c.in-Some.slot c.in-Some-value.old c.lookup-found.ensures.value o
    c.in-Some-value.is)
    c.in-Some-stepped.ensures c.update_value-given.ensures
    (open-written n c.lookup-found.result p c.in-Some.slot c.in-Some-stepped.new c.lookup-found.ensures.value o)
    c.bind_at-written.ensures c.replied_with.ensures

pub returns : goal.returns
returns g c =
    let ts = c.args.code.now.names.now in
    let v = g.W.World.world c.args.code.now.names.now c.args.world.now in
    let n = name_of ts c.args.name.number in
    let p = found v c.args.scope n in
    replies-by ts (name_updated c.args.how.operator c.args.how.prefix n p) v c.update_name_slowly.result
    (g.W.World.world c.args.code.now.names.now c.update_name_slowly.new.world)
    c.replied.result c.update_name_slowly.ensures c.replied.ensures
