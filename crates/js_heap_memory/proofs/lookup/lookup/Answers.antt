use Rattle.js_heap_memory.specs.Names.{name_of}
use Rattle.js_heap_memory.proofs.FoundLemmas.{outward-step, nowhere-step}
use Rattle.js_heap_memory.proofs.lookup.lookup.Goals as goal

pub loop-i-preserved : goal.loop-i-preserved
loop-i-preserved g c =
    outward-step c.count-count.result c.loop-i._i (g.W.World.world c.args.names.now c.args.world.now)
    (name_of c.args.names.now c.args.name.number) c.loop-i.at c.in-Outward.a _ _ c.loop-i-test.true
    (c.find.ensures c.args.names.now) (c.in-Outward.ensures.value c.args.names.now c.len.ensures.differ)
    c.loop-i.invariant

pub returns-in-Nowhere-clause-value : goal.returns-in-Nowhere-clause-value
returns-in-Nowhere-clause-value g c =
    nowhere-step c.count-count.result c.loop-i._i (g.W.World.world c.args.names.now c.args.world.now)
    (name_of c.args.names.now c.args.name.number) c.loop-i.at c.args.scope _ c.loop-i-test.true
    (c.count-count.ensures c.args.names.now) (c.find.ensures c.args.names.now)
    (c.in-Nowhere.ensures.value c.args.names.now c.len.ensures.differ) c.loop-i.invariant
