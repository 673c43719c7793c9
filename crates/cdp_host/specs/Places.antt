-- Where a program has arrived, in the words of its scripts' break locations.
use Rattle.std.specs.Prelude.{◌≡◌, List, Some}
use Rattle.std.specs.List.{Contains}
use Rattle.std.specs.Option.{option_map}
use Rattle.cdp_text.specs.declared.position.Place.{Place}
use Rattle.js_tree.specs.declared.script.Script.{Script}
use Rattle.js_semantics.specs.Terms.{Term}
use Rattle.js_semantics.specs.State.{State}
use Rattle.js_semantics.specs.Frames.{at}
use Rattle.js_semantics.specs.Run.{Run, running}
use Rattle.locations.specs.Locations.{break_locations}
use Rattle.locations.specs.Order.{IsAt}
use Rattle.locations_arrivals.specs.Arrivals.{RunsIn}
use Rattle.cdp_host.specs.Arrivals.{place_in}
use Rattle.cdp_host.specs.Programs.{arrival_of}

-- one of the scripts has the place's number and a break location at its position
abbrev pub IsBreakLocation : List Script → Place → Type 0
IsBreakLocation scripts place =
    (script : Script)
    × Contains scripts script
    × (script.number ≡ place.script)
    × IsAt (break_locations script) place.pos

-- where a run arrives is a break location of one of its scripts
pub record ArrivesAtLocations (scripts : List Script) (r : Run) : Type 0 where
  -- the place of an arrival is a break location
  pub at_a_location : (place : Place) → (arrival_of scripts r).place ≡ Some place → IsBreakLocation scripts place
  -- and it is that of the mark at which the next step arrives in the script of the top frame; where it arrives at none
  -- there is no place
  pub at_its_mark : (t : Term) (s : State) (script : Script)
      → r ≡ running t s
      → Contains scripts script
      → RunsIn script s
      → (arrival_of scripts r).place ≡ option_map (λ mark. place_in mark script) (at script.spans t)
