use Rattle.js_semantics.specs.References.{found, value_of_found}
use Rattle.js_heap_memory.specs.Names.{name_of}
use Rattle.js_machine_rows.specs.References.{member_result, index_result}
use Rattle.js_machine_rows.proofs.ArmLemmas.{compound-index-row, compound-member-row, compound-name-row}
use Rattle.js_machine_rows.proofs.CalleeLemmas.{assigns-by}
use Rattle.js_machine_rows.proofs.OpLemmas.{no-other-compound}
use Rattle.js_machine_rows.proofs.table.compound_with.Goals as goal

pub returns-in-CompoundName : goal.returns-in-CompoundName
returns-in-CompoundName g c =
    let ts = c.args.code.now.names.now in
    let v = g.W.World.world c.args.code.now.names.now c.args.world.now in
    let w = g.W.World.world c.args.code.now.names.now c.name_value.new.world in
    let x = value_of_found (name_of ts c.args.form.info) (found v c.args.form.inner (name_of ts c.args.form.info)) in
    compound-name-row ts c.args.code.now.table.now c.args.form c.args.values.now c.in-CompoundName.field-0 c.args.part v w c.args.context.now c.assigning.result
    c.in-CompoundName.is c.requires.part
    (assigns-by ts x v c.name_value.result w c.assigning.result c.name_value.ensures c.assigning.ensures)

pub returns-in-CompoundMember : goal.returns-in-CompoundMember
returns-in-CompoundMember g c =
    let ts = c.args.code.now.names.now in
    let v = g.W.World.world c.args.code.now.names.now c.args.world.now in
    let w = g.W.World.world c.args.code.now.names.now c.read_member.new.world in
    let x = member_result v c.args.values.now (name_of ts c.args.form.info) in
    compound-member-row ts c.args.code.now.table.now c.args.form c.args.values.now c.in-CompoundMember.field-0 c.args.part v w c.args.context.now c.assigning-in-CompoundMember.result
    c.in-CompoundMember.is c.requires.part
    (assigns-by ts x v c.read_member.result w c.assigning-in-CompoundMember.result c.read_member.ensures c.assigning-in-CompoundMember.ensures)

pub returns-in-CompoundIndex : goal.returns-in-CompoundIndex
returns-in-CompoundIndex g c =
    let ts = c.args.code.now.names.now in
    let v = g.W.World.world c.args.code.now.names.now c.args.world.now in
    let w = g.W.World.world c.args.code.now.names.now c.read_index.new.world in
    let x = index_result v c.args.values.now in
    compound-index-row ts c.args.code.now.table.now c.args.form c.args.values.now c.in-CompoundIndex.field-0 c.args.part v w c.args.context.now c.assigning-in-CompoundIndex.result
    c.in-CompoundIndex.is c.requires.part
    (assigns-by ts x v c.read_index.result w c.assigning-in-CompoundIndex.result c.read_index.ensures c.assigning-in-CompoundIndex.ensures)

pub unreachable-requires : goal.unreachable-requires
unreachable-requires g c =
    no-other-compound c.args.form.op c.requires.compound c.in_default.not-CompoundName c.in_default.not-CompoundMember
    c.in_default.not-CompoundIndex
