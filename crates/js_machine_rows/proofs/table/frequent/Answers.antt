use Rattle.js_heap_memory.specs.Names.{name_of}
use Rattle.js_machine_rows.specs.References.{member_result, index_result}
use Rattle.js_machine_rows.proofs.AnswerLemmas.{result-reply}
use Rattle.js_machine_rows.proofs.ArmLemmas.{assign-index-row, assign-name-row, binary-row, read-index-row, read-member-row, read-name-row, return-row, update-name-row}
use Rattle.js_machine_rows.proofs.TableLemmas.{choose-row, enter-row, testing-row}
use Rattle.js_machine_rows.proofs.table.frequent.Goals as goal

pub returns-in-ReadName : goal.returns-in-ReadName
returns-in-ReadName g c =
    let ts = c.args.code.now.names.now in
    let v = g.W.World.world c.args.code.now.names.now c.args.world.now in
    read-name-row ts c.args.code.now.table.now c.args.form c.args.values.now v
    (g.W.World.world ts c.read_name.new.world)
    c.args.context.now c.read_name.result c.in-ReadName.is c.read_name.ensures

pub returns-in-Binary : goal.returns-in-Binary
returns-in-Binary g c =
    let ts = c.args.code.now.names.now in
    let v = g.W.World.world c.args.code.now.names.now c.args.world.now in
    binary-row ts c.args.code.now.table.now c.args.form c.args.values.now c.in-Binary.operator v
    (g.W.World.world ts c.binary.new.world) c.args.context.now c.binary.result c.in-Binary.is c.binary.ensures

pub returns-in-Enter : goal.returns-in-Enter
returns-in-Enter g c =
    let ts = c.args.code.now.names.now in
    let v = g.W.World.world c.args.code.now.names.now c.args.world.now in
    λ outer before.
    enter-row ts c.args.code.now.table.now c.args.form c.args.values.now outer v c.args.context.now
    c.enter.new.context before
    c.enter.result c.in-Enter.is c.enter.ensures

pub returns-in-AssignName : goal.returns-in-AssignName
returns-in-AssignName g c =
    let ts = c.args.code.now.names.now in
    let v = g.W.World.world c.args.code.now.names.now c.args.world.now in
    assign-name-row ts c.args.code.now.table.now c.args.form c.args.values.now c.last_of.result v
    (g.W.World.world ts c.assign_name.new.world)
    c.args.context.now c.assign_name.result c.in-AssignName.is c.last_of.ensures c.assign_name.ensures

pub returns-in-UpdateName : goal.returns-in-UpdateName
returns-in-UpdateName g c =
    let ts = c.args.code.now.names.now in
    let v = g.W.World.world c.args.code.now.names.now c.args.world.now in
    update-name-row ts c.args.code.now.table.now c.args.form c.args.values.now c.in-UpdateName.kind
    c.rule_of.result.operator
    c.rule_of.result.prefix v
    (g.W.World.world ts c.update_name.new.world)
    c.args.context.now c.update_name.result c.in-UpdateName.is c.rule_of.ensures.operator c.rule_of.ensures.prefix
    c.update_name.ensures

pub returns-in-ReadMember : goal.returns-in-ReadMember
returns-in-ReadMember g c =
    let ts = c.args.code.now.names.now in
    let v = g.W.World.world c.args.code.now.names.now c.args.world.now in
    let w = g.W.World.world c.args.code.now.names.now c.read_member.new.world in
    read-member-row ts c.args.code.now.table.now c.args.form c.args.values.now v w
    c.args.context.now c.replied.result c.in-ReadMember.is
    (result-reply ts (member_result v c.args.values.now (name_of ts c.args.form.info)) v c.read_member.result w
    c.replied.result c.read_member.ensures c.replied.ensures)

pub returns-in-ReadIndex : goal.returns-in-ReadIndex
returns-in-ReadIndex g c =
    let ts = c.args.code.now.names.now in
    let v = g.W.World.world c.args.code.now.names.now c.args.world.now in
    let w = g.W.World.world c.args.code.now.names.now c.read_index.new.world in
    read-index-row ts c.args.code.now.table.now c.args.form c.args.values.now v w
    c.args.context.now c.replied-in-ReadIndex.result c.in-ReadIndex.is
    (result-reply ts (index_result v c.args.values.now) v c.read_index.result w
    c.replied-in-ReadIndex.result c.read_index.ensures c.replied-in-ReadIndex.ensures)

pub returns-in-AssignIndex : goal.returns-in-AssignIndex
returns-in-AssignIndex g c =
    let ts = c.args.code.now.names.now in
    let v = g.W.World.world c.args.code.now.names.now c.args.world.now in
    assign-index-row ts c.args.code.now.table.now c.args.form c.args.values.now v
    (g.W.World.world ts c.assign_index.new.world)
    c.args.context.now c.assign_index.result c.in-AssignIndex.is c.assign_index.ensures

pub returns-in-Choose : goal.returns-in-Choose
returns-in-Choose g c =
    let ts = c.args.code.now.names.now in
    let v = g.W.World.world c.args.code.now.names.now c.args.world.now in
    λ outer before.
    choose-row ts c.args.code.now.table.now c.args.form c.args.values.now outer v c.args.context.now before
    c.choose.result
    c.in-Choose.is c.choose.ensures

pub returns-in-LoopTesting : goal.returns-in-LoopTesting
returns-in-LoopTesting g c =
    let ts = c.args.code.now.names.now in
    let v = g.W.World.world c.args.code.now.names.now c.args.world.now in
    λ outer before.
    testing-row ts c.args.code.now.table.now c.args.form c.args.values.now outer v c.args.context.now before
    c.loop_test.result
    c.in-LoopTesting.is c.loop_test.ensures

pub returns-in-Return : goal.returns-in-Return
returns-in-Return g c =
    let ts = c.args.code.now.names.now in
    let v = g.W.World.world c.args.code.now.names.now c.args.world.now in
    return-row ts c.args.code.now.table.now c.args.form c.args.values.now v c.args.context.now c.returned.result
    c.in-Return.is
    c.returned.ensures
