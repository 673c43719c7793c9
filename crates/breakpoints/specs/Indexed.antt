-- What the parts of a session's breakpoints are to one another.
use Rattle.std.specs.Prelude.{◌≡◌, ◌&&◌, ◌||◌, false, not, List}
use Rattle.std.specs.List.{AllPairs, list_any}
use Rattle.cdp_text.specs.declared.position.Place.{Place}
use Rattle.breakpoints.specs.declared.breakpoint.Breakpoint.{Breakpoint}
use Rattle.breakpoints.specs.Breakpoints.{has_id}
use Rattle.breakpoints.specs.Hits.{has_place, stands_at}

-- two breakpoints have different ids
abbrev pub DifferInId : Breakpoint → Breakpoint → Type 0
DifferInId b c = has_id c.id b ≡ false

-- these are exactly the places at which the breakpoints stand
abbrev pub ArePlacesOf : List Breakpoint → List Place → Type 0
ArePlacesOf bs places = (place : Place) → has_place place places ≡ list_any (stands_at place) bs

-- the new list has the places of the old one, but of these only those at which one of the breakpoints stands
abbrev pub KeepsStanding : List Place → List Breakpoint → List Place → List Place → Type 0
KeepsStanding places bs old new =
    (p : Place) → has_place p new ≡ (has_place p old && (not (has_place p places) || list_any (stands_at p) bs))

-- no two breakpoints have one id, and the places are those at which one stands
pub record IsIndexed (bs : List Breakpoint) (places : List Place) : Type 0 where
  pub apart : AllPairs DifferInId bs
  pub exact : ArePlacesOf bs places
