-- How the event `Debugger.paused` lists frames (Chrome DevTools Protocol 1.3, `Debugger.CallFrame`).
use Rattle.std.specs.Prelude.{◌≡◌, ℕ, List, [], ◌∷◌, length, slice_get, codes, Some}
use Rattle.object_groups.specs.Handles as handles
use Rattle.cdp_json.specs.Json.{Json, text}
use Rattle.cdp_json.specs.Messages.{event_text}
use Rattle.cdp_json.specs.Parts.{list_of, location}
use Rattle.frames_scopes_types.specs.Frames.{ShownFrame}
use Rattle.remote_objects.specs.CallFrames.{backtrace, scopes_made}
use Rattle.remote_objects.specs.Ids.{frame_id}
use Rattle.remote_objects.specs.Remote.{remote}
use Rattle.remote_objects.specs.Sights.{Sight}
use Rattle.cdp_session.specs.Pauses.{sight_of}
use Rattle.cdp_session.specs.Sessions.{Session}
use Rattle.cdp_session.specs.Situations.{Situation}
use Rattle.cdp_session_laws.specs.Members.{value_of}

-- A JSON value lists a frame as the one that is so far from the top one: it has the id of that frame, its name, its
-- place, its `this` and its scopes, each described with some handles held before.
pub record ListsFrame (s : Sight) (stop n : ℕ) (f : ShownFrame) (j : Json) : Type 0 where
  pub id : value_of (codes "callFrameId") j ≡ Some (text (frame_id s.session stop n))
  pub name : value_of (codes "functionName") j ≡ Some (text f.name)
  pub place : value_of (codes "location") j ≡ Some (location f.place)
  pub before : handles.HeldHandles
  pub scopes : value_of (codes "scopeChain") j ≡ Some (list_of (scopes_made s f.scopes before).made)
  pub receiver : value_of (codes "this") j
      ≡ Some (remote s (Some backtrace) f.receiver (scopes_made s f.scopes before).handles).made

-- one of a list of JSON values does, at its place from the top
abbrev pub IsListed : Sight → ℕ → ℕ → ShownFrame → List Json → Type 0
IsListed s stop n f listed = (j : Json) × (slice_get listed n ≡ Some j) × ListsFrame s stop n f j

-- A text is the event of the stop of this number: its member `callFrames` lists as many frames as the program has, the
-- n-th of them as the n-th from the top one.
pub record TellsFrames (s : Situation) (number : ℕ) (x : Session) (event : List ℕ) : Type 0 where
  pub params : Json
  pub is : event ≡ event_text (codes "Debugger.paused") params
  pub listed : List Json
  pub frames : value_of (codes "callFrames") params ≡ Some (list_of listed)
  pub count : length listed ≡ length s.standing.frames
  pub each : (n : ℕ) (f : ShownFrame)
      → slice_get s.standing.frames n ≡ Some f
      → IsListed (sight_of s x) number n f listed

-- so is the only one of these texts
abbrev pub TellsStop : Situation → ℕ → Session → List (List ℕ) → Type 0
TellsStop s number x [] = ⊥
TellsStop s number x (event ∷ []) = TellsFrames s number x event
TellsStop s number x (event ∷ more ∷ events) = ⊥
