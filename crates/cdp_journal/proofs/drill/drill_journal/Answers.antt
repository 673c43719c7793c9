use Rattle.std.proofs.Common.{◌≡◌, ◌+◌, ap, ◌∙◌, arith, codes, ◌++◌}
use Rattle.cdp_journal.specs.Drills.{drill_turn, evens}
use Rattle.cdp_journal.proofs.DrillLemmas.{text_of, turned-next, turned-last}
use Rattle.cdp_journal.proofs.drill.drill_journal.Goals as goal

pub loop-moment-preserved : goal.loop-moment-preserved
loop-moment-preserved c =
    c.in_ok-push_turn.ensures
    ∙ ap (λ xs. xs ++ text_of (drill_turn c.loop-moment.moment)) c.loop-moment.invariant
    ∙ turned-next c.loop-moment.moment (omega arith)

pub returns : goal.returns
returns c =
    let last : c.loop-moment.moment ≡ evens c.args.count + 2 = omega (arith, c.evens-moment-end.ensures.exact) in
    c.in_ok-push_str.ensures.bytes
    ∙ ap (λ xs. xs ++ codes "take 1\ntake 2\n") c.loop-moment.invariant
    ∙ turned-last c.args.count c.loop-moment.moment last
