use Rattle.std.proofs.Common.{arith}
use Rattle.js_heap_memory.proofs.PropertyKeyLemmas.{keys-some, keys-none, place-le}
use Rattle.js_heap_memory.proofs.properties.named.NamedProperties.place.Goals as goal

pub returns-in-Some : goal.returns-in-Some
returns-in-Some c =
    let e = keys-some c.self.inside.keys.keys c.self.inside.items.items c.args.key.now c.in-Some.place c.self.invariant
    c.in-Some.ensures.index in
    let low = place-le c.self.inside.items.items c.args.key.now in
    rw (← c.self.view_is) (record { place = e; small = grind (arith, e) })

pub returns-in-None : goal.returns-in-None
returns-in-None c =
    let e = keys-none c.self.inside.keys.keys c.self.inside.items.items c.args.key.now c.self.invariant
    c.in-None.ensures.index in
    rw (← c.self.view_is) (record { place = grind (arith, e); small = grind arith })
