use Rattle.std.proofs.Common.{arith}
use Rattle.js_heap_memory.proofs.PlaceIndexLemmas.{index-none, index-turn}
use Rattle.js_heap_memory.proofs.wide.places_of.Goals as goal

pub loop-i-init : goal.loop-i-init
loop-i-init c = index-none c.in_ok-places.places c.in_ok-places.ensures.empty

pub loop-i-preserved : goal.loop-i-preserved
loop-i-preserved c =
    index-turn c.args.slots.now c.loop-i.i _ c.loop-i.places c.enter.new.places (grind arith)
    c.in_ok-enter.ensures.entered c.loop-i.invariant
