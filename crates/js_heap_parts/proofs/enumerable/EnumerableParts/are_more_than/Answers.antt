use Rattle.std.proofs.Common.{refl, ◌∙◌}
use Rattle.std.proofs.lemmas.Iterator.Consumers.{YieldsList-from_first, nth_from_yields_List}
use Rattle.js_heap_parts.specs.Shown.{part_shown}
use Rattle.js_heap_parts.proofs.LeftLemmas.{is-there}
use Rattle.js_heap_parts.proofs.enumerable.EnumerableParts.are_more_than.Goals as goal

pub returns : goal.returns
returns c =
    let all = c.args.self in
    c.is_some.ensures
    ∙ is-there part_shown c.nth.result all c.args.most
    (nth_from_yields_List {v = part_shown} c.nth.result c.nth.new.self c.args.most c.nth.ensures.ran
    (YieldsList-from_first part_shown (λ left. left) all refl))
