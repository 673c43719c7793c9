use Rattle.std.proofs.Common.{◌≡◌, refl, sym, subst}
use Rattle.std.proofs.lemmas.List.Elements.{All-replicate}
use Rattle.breakpoints.specs.PlaceFilter.{AreBlank}
use Rattle.breakpoints.proofs.place_filter.PlaceFilter.clear.Goals as goal

pub returns-in-Ok : goal.returns-in-Ok
returns-in-Ok c =
    subst AreBlank (sym (c.in-Ok.ensures.items_if_clones_equal (λ y same. same)))
    (All-replicate (λ mark. mark ≡ 0) 4096 0 refl)
