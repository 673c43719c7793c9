-- What a step tells, and what became of a text, as the code holds it.
use Rattle.std.specs.Prelude.{◌≡◌, ℕ, ◌-◌, List, [], ◌∷◌, Bool, true, false, Option, Result, Ok, Err}
use Rattle.std.specs.Option.{option_map}
use Rattle.cdp_host_isolation.specs.Seats.{put}
use Rattle.cdp_host_isolation.specs.declared.seat.Loss.{Loss}
use Rattle.cdp_host_isolation.specs.declared.seat.Loss.TheVariants.{Overrun, Memory}
use Rattle.cdp_host_isolation.specs.declared.seat.Seat.{Seat}
use Rattle.cdp_host_isolation.specs.declared.seat.Seat.TheVariants.{Attached, Lost, Left}
use Rattle.js_heap.specs.declared.value.Value.{Value}
use Rattle.js_tree.specs.declared.script.Script.{Script}
use Rattle.js_semantics.specs.Run.{Run}
use Rattle.cdp_session_messages.specs.declared.session_end.SessionEnd.{SessionEnd}
use Rattle.cdp_session_messages.specs.declared.session_end.SessionEnd.TheVariants as ends
use Rattle.cdp_session.specs.declared.asks.Asks.{Asks}
use Rattle.cdp_session.specs.declared.situation.Situation.{Situation as Held}
use Rattle.cdp_session_messages.specs.Outboxes.{fits}
use Rattle.cdp_session.specs.Replies.{AnsweredText}
use Rattle.cdp_session.specs.Sessions.{Session}
use Rattle.cdp_session.specs.Situations.{Standing}
use Rattle.cdp_host.specs.Programs.{nexts, prints_next}
use Rattle.cdp_host.specs.Steps.{Step, names_stop}
use Rattle.cdp_host.specs.declared.watching.Step.{Step as HeldStep}

-- ---- steps

-- the values that the last of so many steps prints, if it prints
abbrev pub prints_last : List Script → ℕ → Run → Option (List Value)
prints_last scripts k r = prints_next scripts (nexts scripts (k - 1) r)

-- what a step tells of a program that stands so behind it
abbrev pub step_held : Standing → HeldStep → Step
step_held s t =
    record {
      standing = s;
      arrival = t.arrival;
      values = option_map (λ vs. vs.items) t.values;
      ending = t.ending;
      first = t.first;
    }

-- what a step tells of a program that is lent to the session
abbrev pub step_seen : {P : Type 0} → (P → Standing) → Held P → HeldStep → Step
step_seen standing s t = step_held (standing s.program.now) t

-- ---- who named it

-- the session that is attached there, if it isn't flagged, names no stop
abbrev pub IsFlagged : Step → Seat Session → Bool → Type 0
IsFlagged t (Attached x) flag = flag ≡ false → names_stop t x ≡ false
IsFlagged t (Lost loss is_reported is_told) flag = Unit {0}
IsFlagged t Left flag = Unit {0}

-- so of all seats, with their flags
abbrev pub AreFlagged : Step → List (Seat Session) → List Bool → Type 0
AreFlagged t [] flags = Unit {0}
AreFlagged t (seat ∷ seats) [] = ⊥
AreFlagged t (seat ∷ seats) (flag ∷ flags) = IsFlagged t seat flag × AreFlagged t seats flags

-- ---- losses

-- why a session is lost that ended so
abbrev pub loss_of : SessionEnd → Loss
loss_of ends.Overrun = Overrun
loss_of ends.Memory = Memory

-- ---- one seat among others

-- what became of a text with this answer, and the seat of its session
abbrev pub AnswersAs : Result Asks SessionEnd → AnsweredText → Seat Session → Type 0
AnswersAs (Ok asks) answer new =
    (new ≡ Attached answer.session) × (asks ≡ answer.asks) × (fits answer.session.outbox ≡ true)
AnswersAs (Err ends.Overrun) answer new = (new ≡ Left) × (fits answer.session.outbox ≡ false)
AnswersAs (Err ends.Memory) answer new = new ≡ Left

-- what became of a text with this answer, and of the seats of all sessions
abbrev pub AnswersIn : Result Asks SessionEnd
    → AnsweredText
    → ℕ
    → List (Seat Session)
    → List (Seat Session)
    → Type 0
AnswersIn (Ok asks) answer s old new =
    (new ≡ put s (Attached answer.session) old) × (asks ≡ answer.asks) × (fits answer.session.outbox ≡ true)
AnswersIn (Err ends.Overrun) answer s old new = (new ≡ put s Left old) × (fits answer.session.outbox ≡ false)
AnswersIn (Err ends.Memory) answer s old new = new ≡ put s Left old
