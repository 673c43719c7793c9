use Rattle.std.proofs.Common.{arith}
use Rattle.js_heap_memory.proofs.PlaceIndexLemmas.{index-some, index-nothing}
use Rattle.js_heap_memory.proofs.wide.WideSlots.place.Goals as goal

pub returns-in-Some : goal.returns-in-Some
returns-in-Some c =
    rw (← c.self.view_is)
    (index-some c.self.inside.items.items c.self.inside.places c.args.name.number c.in-Some.place.now c.self.invariant
    c.in-Some.ensures.value)

pub returns-in-None : goal.returns-in-None
returns-in-None c =
    rw (← c.self.view_is)
    (grind (
      arith,
      index-nothing c.self.inside.items.items c.self.inside.places c.args.name.number c.self.invariant
          c.in-None.ensures.value,
    ))
