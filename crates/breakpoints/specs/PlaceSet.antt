-- Sets of places as lists.
use Rattle.std.specs.Prelude.{◌≡◌, ℕ, not, ◌&&◌, ◌||◌, List}
use Rattle.cdp_text.specs.declared.position.Place.{Place}
use Rattle.breakpoints.specs.Hits.{same_place, has_place}
use Rattle.breakpoints.specs.PlaceFilter.{AreMarked}
use Rattle.breakpoints.specs.PlaceOrder.{AreAscending}

-- the places ascend, and the group of each is marked
pub record IsPlaceSet (places : List Place) (marks : List ℕ) : Type 0 where
  pub ascending : AreAscending places
  pub marked : AreMarked places marks

-- the new list has the places of the old one and these, and no others
abbrev pub HasBoth : List Place → List Place → List Place → Type 0
HasBoth more old new = (p : Place) → has_place p new ≡ (has_place p more || has_place p old)

-- the new list has the places of the old one but this, and no others
abbrev pub LacksOne : Place → List Place → List Place → Type 0
LacksOne place old new = (p : Place) → has_place p new ≡ (has_place p old && not (same_place place p))
