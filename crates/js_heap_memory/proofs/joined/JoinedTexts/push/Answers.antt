use Rattle.std.proofs.Common.{arith}
use Rattle.js_heap_memory.proofs.JoinedLemmas.{stands, put-behind}
use Rattle.js_heap_memory.proofs.joined.JoinedTexts.push.Goals as goal

pub invariant_of-self-2 : goal.invariant_of-self-2
invariant_of-self-2 c =
    let units = c.self.inside.units.items in
    let ends = c.self.inside.ends.items in
    let e = rw (c.unwrap.ensures, c.reserve.ensures.items) at c.push.ensures.items in
    (put-behind units ends c.extend_from_slice.new.self.items c.push.new.self.items c.args.text.now c.args.self.now
    c.in-Ok.end
    (stands units ends c.args.self.now c.self.view_is c.self.invariant)
    c.in_ok-extend_from_slice.ensures.items e (grind arith)).0

pub returns-clause-more : goal.returns-clause-more
returns-clause-more c =
    let units = c.self.inside.units.items in
    let ends = c.self.inside.ends.items in
    let e = rw (c.unwrap.ensures, c.reserve.ensures.items) at c.push.ensures.items in
    (put-behind units ends c.extend_from_slice.new.self.items c.push.new.self.items c.args.text.now c.args.self.now
    c.in-Ok.end
    (stands units ends c.args.self.now c.self.view_is c.self.invariant)
    c.in_ok-extend_from_slice.ensures.items e (grind arith)).1
