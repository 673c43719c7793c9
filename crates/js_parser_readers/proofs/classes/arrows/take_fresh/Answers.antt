use Rattle.std.proofs.Common.{sym, ◌∙◌}
use Rattle.js_parser_readers.proofs.FreshLemmas.{not_fresh, fresh_on, taken_on}
use Rattle.js_parser_readers.proofs.classes.arrows.take_fresh.Goals as goal

pub returns-then-contains-clause-fresh : goal.returns-then-contains-clause-fresh
returns-then-contains-clause-fresh c =
    sym (c.loop-name.invariant.0
    ∙ not_fresh c.loop-name.taken c.args.names.now c.loop-name.name-index _ c.loop-name-test.true
    (sym c.contains.ensures ∙ c.if-contains.true))

pub loop-name-preserved : goal.loop-name-preserved
loop-name-preserved c =
    rw c.in_ok-insert.ensures.taken (
      c.loop-name.invariant.0
          ∙ fresh_on c.loop-name.taken c.args.names.now c.loop-name.name-index _ c.loop-name-test.true
          (sym c.contains.ensures ∙ c.if-contains.false),
      c.loop-name.invariant.1
          ∙ taken_on c.loop-name.taken c.args.names.now c.loop-name.name-index _ c.loop-name-test.true,
    )
