use Rattle.js_heap_memory.specs.Names.{name_of}
use Rattle.js_machine_rows.proofs.UpdateLemmas.{first-updated, no-first-updated}
use Rattle.js_machine_rows.proofs.updates.update_member.Goals as goal

pub returns-in-len1-up : goal.returns-in-len1-up
returns-in-len1-up g c =
    let ts = c.args.code.now.names.now in
    let vs = c.args.values.now in
    let v = g.W.World.world c.args.code.now.names.now c.args.world.now in
    first-updated ts c.args.how.operator c.args.how.prefix vs (name_of ts c.args.key.number) v
    c.update_member_of.result
    (g.W.World.world c.args.code.now.names.now c.update_member_of.new.world) c.in-len1-up.len_at_least
    c.update_member_of.ensures

pub returns-in-empty : goal.returns-in-empty
returns-in-empty g c =
    let ts = c.args.code.now.names.now in
    let vs = c.args.values.now in
    let v = g.W.World.world c.args.code.now.names.now c.args.world.now in
    no-first-updated ts c.args.how.operator c.args.how.prefix vs (name_of ts c.args.key.number) v c.not_numbers.result
    (g.W.World.world c.args.code.now.names.now c.not_numbers.new.world) c.stopped.result c.in-empty.len_below
    c.not_numbers.ensures c.stopped.ensures
