use Rattle.std.proofs.Common.{◌∙◌, ap, sym, true≢false}
use Rattle.std.proofs.lemmas.Bool.{false_from_ne_true}
use Rattle.breakpoints.specs.Hits.{has_place}
use Rattle.breakpoints.proofs.PlaceLemmas.{has-contains}
use Rattle.breakpoints.proofs.place_set.PlaceSet.has.Goals as goal

-- a place whose group isn't marked isn't there
pub returns-else-is_marked : goal.returns-else-is_marked
returns-else-is_marked c =
    let lacks = false_from_ne_true (has_place c.args.place c.self.inside.places.items)
    (λ has. true≢false (sym (c.self.invariant.marked c.args.place has) ∙ sym c.is_marked.ensures ∙ c.if-is_marked.false)) in
    c.if-is_marked.false ∙ sym lacks ∙ ap (has_place c.args.place) c.self.view_is

pub returns-then-is_marked : goal.returns-then-is_marked
returns-then-is_marked c =
    c.is_among.ensures
    ∙ sym (has-contains c.args.place c.as_slice.result.now)
    ∙ ap (has_place c.args.place) (c.as_slice.ensures.value ∙ c.self.view_is)
