-- Which texts tell a session of an exception, and of which (Chrome DevTools Protocol 1.3, `Runtime.ExceptionDetails`).
use Rattle.std.specs.Prelude.{◌≡◌, ◌<◌, ℕ, pos, ◌+◌, ◌^◌, List, [], ◌∷◌, ◌++◌, nat_eq, codes, Bool, ◌&&◌, if◌then◌else◌}
use Rattle.cdp_json.specs.Json.{Json, number}
use Rattle.cdp_json.specs.Messages.{event_text, result_text}
use Rattle.cdp_json.specs.Parts.{Pair, object_of}
use Rattle.cdp_host_laws.specs.Events.{begins_with}

-- ---- replies that tell of one

-- a text from its first comma on
abbrev pub at_comma : List ℕ → List ℕ
at_comma [] = []
at_comma (unit ∷ shown) = if nat_eq unit 44 then unit ∷ shown else at_comma shown

-- a text is a reply whose result tells of an exception: `{"id":N,"result":{"exceptionDetails":..`
abbrev pub tells_exception : List ℕ → Bool
tells_exception shown =
    begins_with (codes "{\"id\":") shown
    && begins_with (codes ",\"result\":{\"exceptionDetails\":") (at_comma shown)

-- ---- which exception it is

-- details of the exception of this number
abbrev pub AreDetailsOf : ℕ → Json → Type 0
AreDetailsOf id details =
    (before : List Pair) × ((after : List Pair)
    × (details ≡ object_of (before ++ (codes "exceptionId", number (pos id)) ∷ after)))

-- the reply to a command, with details of the exception of this number
pub record IsReplyOf (id : ℕ) (shown : List ℕ) : Type 0 where
  pub command : ℕ
  pub details : Json
  pub others : List Pair
  pub told : shown ≡ result_text command (object_of ((codes "exceptionDetails", details) ∷ others))
  pub are : AreDetailsOf id details

-- the event of a throw at this moment, with details of the exception of this number
pub record IsEventOf (moment id : ℕ) (shown : List ℕ) : Type 0 where
  pub details : Json
  pub told : shown
      ≡ event_text (codes "Runtime.exceptionThrown") (object_of (
      (codes "exceptionDetails", details)
      ∷ (codes "timestamp", number (pos moment)) ∷ []))
  pub are : AreDetailsOf id details

-- ---- how many a session was told of

-- none of these texts tells of one, and it was told of as many as before; or one does, of the next one
abbrev pub Counts : (ℕ → List ℕ → Type 0) → ℕ → ℕ → List (List ℕ) → Type 0
Counts Is before after [] = after ≡ before
Counts Is before after (shown ∷ texts) =
    (before < 2 ^ 62 → after ≡ before + 1) × Is after shown × (texts ≡ [])
