-- How the frames that a session is told of stand to where its program arrived.
use Rattle.std.specs.Prelude.{◌≡◌, ◌+◌, false, List, [], ◌∷◌, length, Some}
use Rattle.cdp_text.specs.declared.position.Place.{Place}
use Rattle.js_tree.specs.declared.script.Script.{Script}
use Rattle.js_semantics.specs.Run.{Run}
use Rattle.frames_scopes_types.specs.Frames.{ShownFrame}
use Rattle.cdp_host.specs.Programs.{arrival_of, is_over}
use Rattle.cdp_host.specs.Standings.{standing_of}

-- there are frames, and the first stands at a place
abbrev pub IsFirstAt : Place → List ShownFrame → Type 0
IsFirstAt place [] = ⊥
IsFirstAt place (f ∷ fs) = f.place ≡ place

-- a program that isn't over has one frame more than calls are active, and where it arrived at a place, the first one
-- stands there
pub record StandsAtTop (scripts : List Script) (r : Run) : Type 0 where
  pub depths : is_over r ≡ false → length (standing_of scripts r).frames ≡ (arrival_of scripts r).depth + 1
  pub first : (place : Place)
      → (arrival_of scripts r).place ≡ Some place
      → IsFirstAt place (standing_of scripts r).frames
