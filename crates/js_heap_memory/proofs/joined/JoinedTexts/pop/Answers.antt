use Rattle.std.proofs.Common.{◌≡◌, ◌-◌, ◌∙◌, ap, arith, length, take, vec_len}
use Rattle.std.specs.List.{concat}
use Rattle.js_heap_memory.proofs.JoinedLemmas.{stands, taken-away}
use Rattle.js_heap_memory.proofs.joined.JoinedTexts.pop.Goals as goal

pub invariant_of-self : goal.invariant_of-self
invariant_of-self c =
    let units = c.self.inside.units.items in
    let ends = c.self.inside.ends.items in
    let all : vec_len c.self.inside.ends ≡ length ends = grind arith in
    let left : c.len.result ≡ length c.pop.new.self.items = grind arith in
    (taken-away units ends c.truncate.new.self.items c.pop.new.self.items c.args.self.now c.start.result
    (stands units ends c.args.self.now c.self.view_is c.self.invariant)
    (c.pop.ensures.rest ∙ ap (λ k. take (k - 1) ends) all)
    c.truncate.ensures.items
    (λ xs e. c.start.ensures xs (c.as_slice.ensures.value ∙ e) ∙ ap (λ k. length (concat (take k xs))) left)).0

pub returns : goal.returns
returns c =
    let units = c.self.inside.units.items in
    let ends = c.self.inside.ends.items in
    let all : vec_len c.self.inside.ends ≡ length ends = grind arith in
    let left : c.len.result ≡ length c.pop.new.self.items = grind arith in
    (taken-away units ends c.truncate.new.self.items c.pop.new.self.items c.args.self.now c.start.result
    (stands units ends c.args.self.now c.self.view_is c.self.invariant)
    (c.pop.ensures.rest ∙ ap (λ k. take (k - 1) ends) all)
    c.truncate.ensures.items
    (λ xs e. c.start.ensures xs (c.as_slice.ensures.value ∙ e) ∙ ap (λ k. length (concat (take k xs))) left)).1
