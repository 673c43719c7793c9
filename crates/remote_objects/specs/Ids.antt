-- Ids of objects and of frames (Chrome DevTools Protocol 1.3, `Runtime.RemoteObjectId` and `Debugger.CallFrameId`).
use Rattle.std.specs.Prelude.{◌≡◌, ℕ, ◌^◌, ◌<◌, List, [], ◌∷◌, ◌++◌, bytes_eq, decimal, if◌then◌else◌, Option, None, option_and_then}
use Rattle.cdp_text.specs.Decimal.{decimal_value}
use Rattle.cdp_text.specs.Parts.{Halves, halves}

-- the point between the parts of an id
abbrev pub point : List ℕ
point = 46 ∷ []

-- an object's id: the number of the session and that of the handle
abbrev pub object_id : ℕ → ℕ → List ℕ
object_id session number = decimal session ++ (point ++ decimal number)

-- a frame's id: the number of the session, that of the stop, and how far the frame is from the top one
abbrev pub frame_id : ℕ → ℕ → ℕ → List ℕ
frame_id session stop depth = decimal session ++ (point ++ (decimal stop ++ (point ++ decimal depth)))

-- the number behind the point of a session's id
abbrev pub number_behind : ℕ → Halves → Option ℕ
number_behind session parts = if bytes_eq parts.front (decimal session) then decimal_value parts.back else None

-- the number below 2^64 of the object whose id a text is, if it is one of the session
abbrev pub number_in_id : ℕ → List ℕ → Option ℕ
number_in_id session text = option_and_then (number_behind session) (halves 46 text)

-- a text is the id of a session's object of this number (`read_object_id`: value { result ≡ number_in_id session
-- text.now }, and that just the written ids are read)
pub record IsObjectId (session : ℕ) (text : List ℕ) (number : ℕ) : Type 0 where
  pub written : text ≡ object_id session number
  pub small : number < 2 ^ 64

-- a text is the id of the frame that is so far from the top one, at a stop of a session
pub record IsFrameId (session stop : ℕ) (text : List ℕ) (depth : ℕ) : Type 0 where
  pub written : text ≡ frame_id session stop depth
  pub small : depth < 2 ^ 64
