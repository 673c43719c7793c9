use Rattle.js_heap_memory.specs.Names.{name_of}
use Rattle.js_machine_actions.proofs.NameLemmas.{constant-fails}
use Rattle.js_machine_actions.proofs.names.put_slot.Goals as goal

pub returns-then-found : goal.returns-then-found
returns-then-found g c =
    constant-fails (name_of c.args.names.now c.args.name.number) c.args.found c.in-Some.found c.args.value
    (g.W.World.world c.args.names.now c.args.world.now) (g.W.World.world c.args.names.now c.fail_with.new.world)
    c.fail_with.result c.in-Some.is c.if-is_none.ensures c.if-found.true c.fail_with.ensures
