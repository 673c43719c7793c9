-- What a session sees of the program.
use Rattle.std.specs.Prelude.{◌≡◌, ℕ, Bool, List, [], ◌∷◌, map, Option, Some, None, bytes_eq, decimal, if◌then◌else◌}
use Rattle.js_heap.specs.World.{World}
use Rattle.js_heap.specs.declared.value.Value.{Value}
use Rattle.js_tree.specs.declared.script.Script.{Script}
use Rattle.locations.specs.Locations.{break_locations}
use Rattle.frames_scopes_types.specs.Frames.{ShownFrame}
use Rattle.cdp_session.specs.declared.situation.Pause.{Pause}
use Rattle.cdp_session.specs.declared.situation.Situation.{Situation as Held}

-- how it stands: its cells, its active frames from the top one outward, the value of a throw that stands, if one does,
-- and whether its run has ended
pub record Standing : Type 0 where
  pub world : World
  pub frames : List ShownFrame
  pub thrown : Option Value
  pub over : Bool

-- its scripts, where it is paused, if it is, and how it stands
pub record Situation : Type 0 where
  pub scripts : List Script
  pub paused : Option Pause
  pub standing : Standing

-- that which is lent, of a program that stands so
abbrev pub seen : {P : Type 0} → (P → Standing) → Held P → Situation
seen standing s = record { scripts = s.scripts.now; paused = s.paused; standing = standing s.program.now }

-- the break locations that are lent are those of the scripts
abbrev pub HasSpots : {P : Type 0} → Held P → Type 0
HasSpots s = s.spots.now ≡ map break_locations s.scripts.now

-- the first script of this id, which is its number as a decimal
abbrev pub script_of : List ℕ → List Script → Option Script
script_of id [] = None
script_of id (s ∷ ss) = if bytes_eq (decimal s.number) id then Some s else script_of id ss
