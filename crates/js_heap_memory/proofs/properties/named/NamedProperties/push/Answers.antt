use Rattle.js_heap_memory.proofs.PropertyKeyLemmas.{keys-push}
use Rattle.js_heap_memory.proofs.properties.named.NamedProperties.push.Goals as goal

pub invariant_of-self-2 : goal.invariant_of-self-2
invariant_of-self-2 c =
    let e = rw (c.unwrap.ensures, c.reserve.ensures.items) at c.push.ensures.items in
    let f = rw (← c.self.view_is) at c.requires in
    let k = rw c.as_slice.ensures at c.in_ok-key.ensures.items in
    rw e (keys-push c.self.inside.keys.keys c.insert_full.new.self.keys c.self.inside.items.items c.in_ok-key.key
    c.args.property c.self.invariant k f c.in_ok-insert_full.ensures.keys)
