-- What a door's answers say.
use Rattle.std.specs.Prelude.{◌≡◌, ◌+◌, ℕ, Option, Some, None, Bool, true}
use Rattle.cdp_edge_server.specs.Contents.{Spoken, IsUnused, becomes}
use Rattle.cdp_edge_server.specs.declared.door.DoorAnswer.{DoorAnswer}
use Rattle.cdp_edge_server.specs.declared.door.DoorAnswer.TheVariants as answers

-- a link that arrived is an unused one, by what it tells
abbrev pub IsArrived : {L : Type 0} → (L → Spoken) → DoorAnswer L → Type 0
IsArrived told (answers.Arrived link) = IsUnused (told link)
IsArrived told answers.Quiet = Unit {0}
IsArrived told answers.Failed = Unit {0}
IsArrived told answers.Memory = Unit {0}

-- one link fewer waits where one was given, and nobody waits where the door is quiet
abbrev pub AnswersWaiting : {L : Type 0} → DoorAnswer L → ℕ → ℕ → Type 0
AnswersWaiting (answers.Arrived link) old new = old ≡ new + 1
AnswersWaiting answers.Quiet old new = (old ≡ 0) × (new ≡ 0)
AnswersWaiting answers.Failed old new = new ≡ old
AnswersWaiting answers.Memory old new = new ≡ old

-- a door answers so, where it tells how many wait
abbrev pub AnswersOf : {L : Type 0} → DoorAnswer L → Option ℕ → Option ℕ → Type 0
AnswersOf answer None new = new ≡ None
AnswersOf answer (Some old) new = (left : ℕ) × (new ≡ Some left) × AnswersWaiting answer old left

-- whether a link is out behind an answer, where it is told
abbrev pub out_after : {L : Type 0} → DoorAnswer L → Option Bool → Option Bool
out_after (answers.Arrived link) old = becomes old true
out_after answers.Quiet old = old
out_after answers.Failed old = old
out_after answers.Memory old = old
