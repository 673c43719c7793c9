use Rattle.std.proofs.Common.{◌∙◌, ap, sym, subst}
use Rattle.std.specs.List.{list_any}
use Rattle.std.specs.List.Sorted.{IsStrictlyIncreasing}
use Rattle.std.specs.Prelude.{nat_eq}
use Rattle.breakpoints.specs.PlaceIndex.{AreInOrder, holders_at, is_before}
use Rattle.breakpoints.proofs.HoldingLemmas.{holders-lent, holders-exact, holders-ascend, order-dropped}
use Rattle.breakpoints.proofs.ListLemmas.{Splits, slice-from}
use Rattle.breakpoints.proofs.place_index.PlaceIndex.holders.Goals as goal

pub count_at-requires-clause-ordered : goal.count_at-requires-clause-ordered
count_at-requires-clause-ordered c =
    subst AreInOrder (sym (slice-from c.deref.result.now c.count_before-start.result))
    (order-dropped c.count_before-start.result c.deref.result.now
    (subst AreInOrder (sym c.deref.ensures.value) c.self.invariant.ordered))

pub returns-clause-value : goal.returns-clause-value
returns-clause-value c =
    holders-lent c.args.place c.self.inside.pairs.items c.deref.result.now c.self.inside.sessions.items
    c.deref-2.result.now c.count_before-start.result c.count_at.result c.deref.ensures.value c.deref-2.ensures.value
    c.self.invariant.beside
    (subst (λ hs. Splits (is_before c.args.place) hs c.count_before-start.result) c.as_slice.ensures.value
    c.count_before-start.ensures.split)
    c.count_at.ensures.all
    ∙ ap (holders_at c.args.place) c.self.view_is

pub returns-clause-exact : goal.returns-clause-exact
returns-clause-exact c = λ session.
    ap (list_any (nat_eq session)) (returns-clause-value c) ∙ holders-exact c.args.place c.args.self.now session

pub returns-clause-ascending : goal.returns-clause-ascending
returns-clause-ascending c =
    subst IsStrictlyIncreasing (sym (returns-clause-value c))
    (holders-ascend c.args.place c.args.self.now (subst AreInOrder c.self.view_is c.self.invariant.ordered))
