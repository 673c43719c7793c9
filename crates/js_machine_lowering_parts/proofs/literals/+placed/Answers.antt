use Rattle.std.proofs.Common.{ap, sym, ◌∙◌}
use Rattle.js_semantics.specs.Run as run
use Rattle.js_machine_terms.specs.Views.{listed_view}
use Rattle.js_machine_lowering_parts.specs.Literals.{literal_in}
use Rattle.js_machine_lowering_parts.specs.Spaces.{address}
use Rattle.js_machine_lowering_parts.proofs.LiteralLemmas.{always_ok, counted_literal, counted_parts, placed_step, counted_step, placed_all}
use Rattle.js_machine_lowering_parts.proofs.literals.+placed.Goals as goal
use Rattle.js_machine_lowering_parts.proofs.literals.+placed.Goals.{term_placed-in-Some+in_ok-literal_placed-in-Some, term_placed-in-None+in_ok-form-in-None+in_ok-now-in-None+in_ok-later-in-None}

pub items_placed-loop-item-preserved : goal.items_placed-loop-item-preserved
items_placed-loop-item-preserved t c =
    let items = c.deref-item-items.result.now in
    let i = c.loop-item.item-index in
    let x = c.item-item.result in record {
      placed =
          placed_step (address c.args.space)
          items i x c.loop-item-test.true c.item-item.is c.loop-item.placed.items c.push.new.self.items
          c.in_ok-term_placed.field-0 c.loop-item.next c.term_placed.new.next c.in_ok-push.ensures.items
          c.in_ok-term_placed.ensures.term c.in_ok-term_placed.ensures.next
          ∙ c.loop-item.invariant.placed;
      counted =
          counted_step items i x c.loop-item-test.true c.item-item.is c.loop-item.next c.term_placed.new.next
          c.in_ok-term_placed.ensures.next
          ∙ c.loop-item.invariant.counted;
    }

pub items_placed-returns-clause-term : goal.items_placed-returns-clause-term
items_placed-returns-clause-term t c =
    placed_all (address c.args.space)
    c.deref-item-items.result.now c.loop-item.item-index c.loop-item.placed.items c.args.next.now c.loop-item.next
    c.loop-item-test.false c.loop-item.invariant.placed
    ∙ ap (λ xs. run.all_with_literals (address c.args.space) c.args.next.now (listed_view xs))
    c.deref-item-items.ensures.value

pub term_placed-returns-after-branch-2-clause-next : goal.term_placed-returns-after-branch-2-clause-next
term_placed-returns-after-branch-2-clause-next t c = always_ok c.match-branch-2.result (elim c.match-branch-2.branch [
  | term_placed-in-Some+in_ok-literal_placed-in-Some w ↦ w.next-is
      ∙ counted_literal c.args.next.now w.literal_placed.new.next c.args.term.now c.in-Part.form c.in-Part.now
      c.in-Part.later _ c.in-Part.is
      (sym w.in-Some.is ∙ c.in_ok-literal_in-in-Part.ensures ∙ ap literal_in c.deref.ensures)
      w.in_ok-literal_placed-in-Some.ensures.next
  | term_placed-in-None+in_ok-form-in-None+in_ok-now-in-None+in_ok-later-in-None w ↦ w.next-is
      ∙ counted_parts c.args.next.now w.terms_placed.new.next w.terms_placed-in-None.new.next c.args.term.now
      c.in-Part.form c.in-Part.now c.in-Part.later c.in-Part.is
      (sym w.in-None.is ∙ c.in_ok-literal_in-in-Part.ensures ∙ ap literal_in c.deref.ensures)
      w.in_ok-now-in-None.ensures.next w.in_ok-later-in-None.ensures.next
])
