-- Where breakpoints resolve: at the first break location that isn't before the position that was asked for.
use Rattle.std.specs.Prelude.{ℕ, List, [], ◌∷◌, Option, None, nat_eq, bytes_eq, if◌then◌else◌, option_to_list, ◌++◌}
use Rattle.std.specs.Option.{option_map}
use Rattle.cdp_text.specs.declared.position.Pos.{Pos}
use Rattle.cdp_text.specs.declared.position.Place.{Place}
use Rattle.js_tree.specs.declared.script.Script.{Script}
use Rattle.locations.specs.declared.spot.Spot.{Spot}
use Rattle.locations.specs.Locations.{break_locations}
use Rattle.locations.specs.Search.{first_from}

-- the place of a location in a script of this number
abbrev pub place_in : ℕ → Spot → Place
place_in number spot = record { script = number; pos = spot.pos }

-- the place of the first location of a script that isn't before a position
abbrev pub resolved_in : Pos → Script → Option Place
resolved_in p s = option_map (place_in s.number) (first_from p (break_locations s))

-- the place to which a position of a URL resolves in a script, if the script is of this URL
abbrev pub resolved_of : List ℕ → Pos → Script → Option Place
resolved_of url p s = if bytes_eq s.url url then resolved_in p s else None

-- the places to which a position of a URL resolves, one in each script of the URL that has such a location, in order
abbrev pub resolved_by_url : List ℕ → Pos → List Script → List Place
resolved_by_url url p [] = []
resolved_by_url url p (s ∷ ss) = option_to_list (resolved_of url p s) ++ resolved_by_url url p ss

-- the place to which a place resolves, in the script of its number
abbrev pub resolved_at : Place → List Script → Option Place
resolved_at place [] = None
resolved_at place (s ∷ ss) = if nat_eq s.number place.script then resolved_in place.pos s else resolved_at place ss
