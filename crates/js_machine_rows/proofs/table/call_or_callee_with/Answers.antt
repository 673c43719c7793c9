use Rattle.js_semantics.specs.References.{found, value_of_found}
use Rattle.js_heap_memory.specs.Names.{name_of}
use Rattle.js_machine_rows.specs.References.{member_result, index_result}
use Rattle.js_machine_rows.proofs.ArmLemmas.{call-index-row, call-member-row, call-name-row, call-row}
use Rattle.js_machine_rows.proofs.CalleeLemmas.{calls-by}
use Rattle.js_machine_rows.proofs.OpLemmas.{no-other-call}
use Rattle.js_machine_rows.proofs.table.call_or_callee_with.Goals as goal

pub returns-in-Call : goal.returns-in-Call
returns-in-Call g c =
    let ts = c.args.code.now.names.now in
    let v = g.W.World.world c.args.code.now.names.now c.args.world.now in
    call-row ts c.args.code.now.table.now c.args.form c.args.values.now c.args.entry v
    (g.W.World.world ts c.call.new.world)
    c.args.context.now c.call.new.context c.call.result c.in-Call.is c.requires.found c.call.ensures

pub returns-in-CallOfName : goal.returns-in-CallOfName
returns-in-CallOfName g c =
    let ts = c.args.code.now.names.now in
    let v = g.W.World.world c.args.code.now.names.now c.args.world.now in
    let w = g.W.World.world c.args.code.now.names.now c.name_value.new.world in
    let x = value_of_found (name_of ts c.args.entry.name.number) (found v c.args.form.inner (name_of ts c.args.entry.name.number)) in
    call-name-row ts c.args.code.now.table.now c.args.form c.args.values.now c.args.entry v w c.args.context.now c.calling.result
    c.in-CallOfName.is c.requires.found
    (calls-by ts x v c.name_value.result w c.calling.result c.name_value.ensures c.calling.ensures)

pub returns-in-CallOfMember : goal.returns-in-CallOfMember
returns-in-CallOfMember g c =
    let ts = c.args.code.now.names.now in
    let v = g.W.World.world c.args.code.now.names.now c.args.world.now in
    let w = g.W.World.world c.args.code.now.names.now c.read_member.new.world in
    let x = member_result v c.args.values.now (name_of ts c.args.entry.name.number) in
    call-member-row ts c.args.code.now.table.now c.args.form c.args.values.now c.args.entry v w c.args.context.now c.calling-in-CallOfMember.result
    c.in-CallOfMember.is c.requires.found
    (calls-by ts x v c.read_member.result w c.calling-in-CallOfMember.result c.read_member.ensures c.calling-in-CallOfMember.ensures)

pub returns-in-CallOfIndex : goal.returns-in-CallOfIndex
returns-in-CallOfIndex g c =
    let ts = c.args.code.now.names.now in
    let v = g.W.World.world c.args.code.now.names.now c.args.world.now in
    let w = g.W.World.world c.args.code.now.names.now c.read_index.new.world in
    let x = index_result v c.args.values.now in
    call-index-row ts c.args.code.now.table.now c.args.form c.args.values.now c.args.entry v w c.args.context.now c.calling-in-CallOfIndex.result
    c.in-CallOfIndex.is c.requires.found
    (calls-by ts x v c.read_index.result w c.calling-in-CallOfIndex.result c.read_index.ensures c.calling-in-CallOfIndex.ensures)

pub unreachable-requires : goal.unreachable-requires
unreachable-requires g c =
    no-other-call c.args.form.op c.requires.calls c.in_default.not-Call c.in_default.not-CallOfName
    c.in_default.not-CallOfMember c.in_default.not-CallOfIndex
