use Rattle.js_machine_rows.proofs.ArmLemmas.{assign-member-row, delete-index-row, delete-member-row, delete-name-row, update-index-row, update-member-row}
use Rattle.js_machine_rows.proofs.table.writing.Goals as goal

pub returns-in-AssignMember : goal.returns-in-AssignMember
returns-in-AssignMember g c =
    let ts = c.args.code.now.names.now in
    let v = g.W.World.world c.args.code.now.names.now c.args.world.now in
    assign-member-row ts c.args.code.now.table.now c.args.form c.args.values.now v
    (g.W.World.world ts c.assign_member.new.world)
    c.args.context.now c.assign_member.result c.in-AssignMember.is c.assign_member.ensures

pub returns-in-UpdateMember : goal.returns-in-UpdateMember
returns-in-UpdateMember g c =
    let ts = c.args.code.now.names.now in
    let v = g.W.World.world c.args.code.now.names.now c.args.world.now in
    update-member-row ts c.args.code.now.table.now c.args.form c.args.values.now c.in-UpdateMember.kind
    c.rule_of.result.operator
    c.rule_of.result.prefix v
    (g.W.World.world ts c.update_member.new.world)
    c.args.context.now c.update_member.result c.in-UpdateMember.is c.rule_of.ensures.operator c.rule_of.ensures.prefix
    c.update_member.ensures

pub returns-in-UpdateIndex : goal.returns-in-UpdateIndex
returns-in-UpdateIndex g c =
    let ts = c.args.code.now.names.now in
    let v = g.W.World.world c.args.code.now.names.now c.args.world.now in
    update-index-row ts c.args.code.now.table.now c.args.form c.args.values.now c.in-UpdateIndex.kind
    c.rule_of-in-UpdateIndex.result.operator c.rule_of-in-UpdateIndex.result.prefix v
    (g.W.World.world ts c.update_index.new.world)
    c.args.context.now c.update_index.result c.in-UpdateIndex.is c.rule_of-in-UpdateIndex.ensures.operator
    c.rule_of-in-UpdateIndex.ensures.prefix c.update_index.ensures

pub returns-in-DeleteName : goal.returns-in-DeleteName
returns-in-DeleteName g c =
    let ts = c.args.code.now.names.now in
    let v = g.W.World.world c.args.code.now.names.now c.args.world.now in
    delete-name-row ts c.args.code.now.table.now c.args.form c.args.values.now v c.args.context.now c.in-DeleteName.is

pub returns-in-DeleteMember : goal.returns-in-DeleteMember
returns-in-DeleteMember g c =
    let ts = c.args.code.now.names.now in
    let v = g.W.World.world c.args.code.now.names.now c.args.world.now in
    delete-member-row ts c.args.code.now.table.now c.args.form c.args.values.now v
    (g.W.World.world ts c.delete_member.new.world)
    c.args.context.now c.delete_member.result c.in-DeleteMember.is c.delete_member.ensures

pub returns-in-DeleteIndex : goal.returns-in-DeleteIndex
returns-in-DeleteIndex g c =
    let ts = c.args.code.now.names.now in
    let v = g.W.World.world c.args.code.now.names.now c.args.world.now in
    delete-index-row ts c.args.code.now.table.now c.args.form c.args.values.now v
    (g.W.World.world ts c.delete_index.new.world)
    c.args.context.now c.delete_index.result c.in-DeleteIndex.is c.delete_index.ensures
