use Rattle.std.proofs.Common.{sym, ◌∙◌}
use Rattle.js_heap_memory.proofs.PlaceIndexLemmas.{index-known, index-fresh}
use Rattle.js_heap_memory.proofs.wide.enter.Goals as goal

pub returns-then-contains_key-clause-entered : goal.returns-then-contains_key-clause-entered
returns-then-contains_key-clause-entered c =
    let known = sym c.contains_key.ensures ∙ c.if-contains_key.true in
    λ ss e i. index-known ss c.args.places.now c.args.slot known i

pub returns-clause-entered : goal.returns-clause-entered
returns-clause-entered c =
    let fresh = sym c.contains_key.ensures ∙ c.if-contains_key.false in
    λ ss e i. index-fresh ss c.args.places.now c.insert.new.self c.args.slot c.args.place fresh
    c.in_ok-insert.ensures.updates e i
