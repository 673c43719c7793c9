-- What is written of a pause, piece by piece.
use Rattle.std.specs.Prelude.{ℕ, List, [], ◌∷◌, ◌++◌, codes, Option, Some}
use Rattle.js_heap.specs.declared.value.Value.{Value}
use Rattle.stepping.specs.declared.cause.Cause.{Cause}
use Rattle.stepping.specs.declared.cause.Cause.TheVariants as causes
use Rattle.frames_scopes_types.specs.Frames.{ShownFrame}
use Rattle.object_groups.specs.Handles as handles
use Rattle.cdp_json.specs.Json.{Json}
use Rattle.cdp_json.specs.Compact.{compact_text}
use Rattle.cdp_json.specs.Parts.{Pair}
use Rattle.remote_objects.specs.CallFrames.{frames_made}
use Rattle.remote_objects.specs.Making.{Made}
use Rattle.remote_objects.specs.Sights.{Sight}
use Rattle.cdp_session_messages.specs.Results.{paused_params}
use Rattle.cdp_session.specs.Pauses.{data_made, reason_of}

-- the value that was thrown, behind the frames
abbrev pub data_text : List Pair → List ℕ
data_text [] = []
data_text (p ∷ ps) = codes ",\"data\":" ++ compact_text p.1

-- what stands behind the breakpoints that were hit
abbrev pub reason_back : Option Cause → List ℕ
reason_back (Some causes.Exception) = codes "],\"reason\":\"exception\"}"
reason_back cause = codes "],\"reason\":\"other\"}"

-- what a pause says, with the handles behind it
abbrev pub pause_params : Sight → ℕ → List ShownFrame → Option Value → List (List ℕ) → Option Cause
    → handles.HeldHandles
    → Made Json
pause_params sight number frames value hits cause h = record {
  made =
      paused_params (frames_made sight number frames h).made
      (data_made sight value (frames_made sight number frames h).handles).made hits (reason_of cause);
  handles = (data_made sight value (frames_made sight number frames h).handles).handles;
}
