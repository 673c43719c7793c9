use Rattle.std.proofs.Common.{◌∙◌, length, subst, sym}
use Rattle.std.proofs.lemmas.Result.{IfOk-weaker}
use Rattle.locations.specs.Kinds.{kind_of}
use Rattle.locations.specs.Order.{IsAscending}
use Rattle.locations.proofs.CoverLemmas.{mark_found}
use Rattle.locations.proofs.OrderLemmas.{located, ascending_below}
use Rattle.locations.proofs.locations.break_locations.Goals as goal

pub returns-clause-exact : goal.returns-clause-exact
returns-clause-exact c =
    IfOk-weaker c.spots_of.result _ _
    (λ spots. λ e. located c.args.script.now c.as_slice.result.now c.deref.result.now c.in_ok-kinds.kinds.items
    c.deref-2.result.now c.as_slice.ensures
    (c.deref.ensures.value ∙ c.in_ok-marks.ensures)
    c.deref-2.ensures.value c.in_ok-kinds.ensures spots.items e)
    c.spots_of.ensures

pub returns-clause-ascending : goal.returns-clause-ascending
returns-clause-ascending c =
    IfOk-weaker c.spots_of.result _ _
    (λ spots. λ e. subst IsAscending (sym e)
    (ascending_below c.as_slice.result.now (kind_of c.deref-2.result.now) (length c.deref-2.result.now)))
    c.spots_of.ensures

pub returns-clause-covers : goal.returns-clause-covers
returns-clause-covers c =
    IfOk-weaker c.spots_of.result _ _
    (λ spots. λ e. mark_found c.args.script.now spots.items
    (located c.args.script.now c.as_slice.result.now c.deref.result.now c.in_ok-kinds.kinds.items c.deref-2.result.now
    c.as_slice.ensures
    (c.deref.ensures.value ∙ c.in_ok-marks.ensures)
    c.deref-2.ensures.value c.in_ok-kinds.ensures spots.items e))
    c.spots_of.ensures
