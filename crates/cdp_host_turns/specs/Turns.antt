-- What a turn of a pass leaves.
use Rattle.std.specs.Prelude.{◌≡◌, ◌≢◌, ◌+◌, ℕ, List, [], ◌∷◌, ◌++◌, length, map, string_bytes, Bool, true, false, Option, Some, None, Result, Ok, Err}
use Rattle.cdp_host_isolation.specs.Histories.{Entry, Attach, Take, Detach, Ran, steps_made}
use Rattle.cdp_host_isolation.specs.Makers.{Owns, by, entries_of}
use Rattle.cdp_host_isolation.specs.Stops.{plain}
use Rattle.history_lock.specs.Histories.{has, limit}
use Rattle.history_lock.specs.Passes.{PassState, IsSamePass, refused_pass}
use Rattle.cdp_host_turns.specs.Debuggings.{Debugging, IsHistory, IsLongest, IsNew, handed, meaning}
use Rattle.cdp_host_turns.specs.Entries.{told_entry}
use Rattle.cdp_host_turns.specs.Presences.{IsGoneAs, IsThere, IsToldAs}
use Rattle.cdp_host_turns.specs.States.{HasState, IsOver, IsShut}
use Rattle.cdp_host_turns.specs.declared.answers.Answered.{Answered}
use Rattle.cdp_host_turns.specs.declared.answers.Answered.TheVariants as answered
use Rattle.cdp_host_turns.specs.declared.answers.Attached.{Attached}
use Rattle.cdp_host_turns.specs.declared.answers.Attached.TheVariants as attached
use Rattle.cdp_host_turns.specs.declared.answers.Gone.{Gone}
use Rattle.cdp_host_turns.specs.declared.answers.Progress.{Progress}
use Rattle.cdp_host_turns.specs.declared.answers.Progress.TheVariants as progress
use Rattle.cdp_host_turns.specs.declared.answers.HandedOut.{HandedOut}
use Rattle.cdp_host_turns.specs.declared.answers.Told.{Told}
use Rattle.cdp_host_turns.specs.declared.answers.Told.TheVariants.{Kept, Overrun, Memory}
use Rattle.cdp_host_turns.specs.declared.state.State.TheVariants as states

-- ---- calls of a host

-- what became of a client that came, after a history, and the entry of that
abbrev pub AttachesAs : Debugging → List (ℕ × Entry) → Attached → Entry → Type 0
AttachesAs d h (attached.Session s) entry = (entry ≡ Attach) × (s ≡ length (meaning d h).seats + 1)
AttachesAs d h attached.Shut entry = (entry ≡ Take 0) × IsShut d h
AttachesAs d h attached.Memory entry = entry ≡ Take 0

-- the entry of a command that was answered so, or of a session that was gone
abbrev pub TellsAs : ℕ → List ℕ → Result Told Gone → Entry → Type 0
TellsAs s text (Ok told) entry = entry ≡ told_entry told s text
TellsAs s text (Err why) entry = entry ≡ Detach s

-- the entry of a taking of texts, or of a session that was gone
abbrev pub TakesAs : {A : Type 0} → ℕ → Result A Gone → Entry → Type 0
TakesAs s (Ok taken) entry = entry ≡ Take s
TakesAs s (Err why) entry = entry ≡ Detach s

-- what became of a command that wasn't kept: nothing is handed out after it
abbrev pub unless_kept : Result Told Gone → Option Answered
unless_kept (Ok Kept) = None
unless_kept (Ok Overrun) = Some answered.Overrun
unless_kept (Ok Memory) = Some answered.Memory
unless_kept (Err why) = Some (answered.Gone why)

-- the texts that so many steps print
abbrev pub printed_by : Debugging → ℕ → List (List ℕ)
printed_by d k = d.printed (plain d.protocol k d.program)

-- so many steps after a history print these texts
abbrev pub Prints : Debugging → ℕ → List (List ℕ) → List (ℕ × Entry) → Type 0
Prints d n texts h = printed_by d (steps_made (entries_of h) + n) ≡ printed_by d (steps_made (entries_of h)) ++ texts

-- what a turn of the program does to a host after a history, and its entry: at most so many steps at a moment
abbrev pub RunsAs : Debugging → ℕ → ℕ → List (ℕ × Entry) → Progress → Entry → Type 0
RunsAs d most moment h (progress.Ran texts state) entry =
    (steps : ℕ) × (lost : List ℕ) × IsLongest d most moment h steps lost × (entry ≡ Ran steps moment lost) × Prints d steps texts.items h
RunsAs d most moment h (progress.Idle state) entry = (entry ≡ Take 0) × HasState d state h × (state ≢ states.Ready)
RunsAs d most moment h progress.Memory entry = (lost : List ℕ) × (entry ≡ Ran 0 moment lost)

-- the state that is told of a host after some steps is that after this history
abbrev pub IsStateOf : Debugging → Progress → List (ℕ × Entry) → Type 0
IsStateOf d (progress.Ran texts state) h = HasState d state h
IsStateOf d (progress.Idle state) h = Unit {0}
IsStateOf d progress.Memory h = Unit {0}

-- ---- turns

-- a turn left this entry after what others left, and the history with it is one of the program
pub record Acts (d : Debugging) (p q : PassState Entry) (entry : Entry) : Type 0 where
  pub between : List (ℕ × Entry)
  pub seen : q.seen ≡ (p.seen ++ between) ++ (p.number, entry) ∷ []
  pub nothing : by p.number between ≡ []
  pub history : IsHistory d q.seen
  pub same : IsSamePass p q
  pub free : q.in_turn ≡ false
  pub named : has p.number p.numbers ≡ true

-- a turn left this entry, and this is so of the history that it found
abbrev pub Finds : (d : Debugging) → (List (ℕ × Entry) → Type 0) → PassState Entry → PassState Entry → Entry → Type 0
Finds d R p q entry = (act : Acts d p q entry) × R (p.seen ++ act.between)

-- a client came: its session has the pass as its owner, is new, and was handed nothing yet
abbrev pub Attaches : Debugging → PassState Entry → PassState Entry → Attached → Type 0
Attaches d p q (attached.Session s) = Acts d p q Attach × Owns p.number s q.seen × IsNew s p.seen × (handed d s q.seen ≡ [])
Attaches d p q attached.Shut = Finds d (IsShut d) p q (Take 0)
Attaches d p q attached.Memory = Acts d p q (Take 0)

-- a session was gone before its turn, which detached it
abbrev pub Leaves : Debugging → ℕ → PassState Entry → PassState Entry → Gone → Type 0
Leaves d s p q why = Finds d (IsGoneAs d s why) p q (Detach s)

-- a session was told a text
abbrev pub Tells : Debugging → ℕ → List ℕ → PassState Entry → PassState Entry → Result Told Gone → Type 0
Tells d s text p q (Ok told) = Finds d (IsToldAs d s text told) p q (told_entry told s text)
Tells d s text p q (Err why) = Leaves d s p q why

-- the texts that are handed out to it now
abbrev pub Hands : Debugging → ℕ → PassState Entry → PassState Entry → HandedOut → Type 0
Hands d s p q taken = handed d s q.seen ≡ handed d s p.seen ++ map string_bytes taken.texts.items

-- where a program is said to be over, it is
abbrev pub IsOverIf : Debugging → Bool → List (ℕ × Entry) → Type 0
IsOverIf d true h = IsOver d h
IsOverIf d false h = Unit {0}

-- it was there for that
abbrev pub IsTakenAs : Debugging → ℕ → Bool → List (ℕ × Entry) → Type 0
IsTakenAs d s is_over h = IsThere d s h × IsOverIf d is_over h

-- the texts that wait for a session were handed out
abbrev pub Takes : Debugging → ℕ → PassState Entry → PassState Entry → Result HandedOut Gone → Type 0
Takes d s p q (Ok taken) = Finds d (IsTakenAs d s taken.is_over) p q (Take s) × Hands d s p q taken
Takes d s p q (Err why) = Leaves d s p q why

-- a session was told a text; where that was kept, the texts that wait were handed out by a second turn
abbrev pub TellsAndTakes : Debugging → ℕ → List ℕ → PassState Entry → PassState Entry → Answered → Type 0
TellsAndTakes d s text p q (answered.Taken taken) =
    (m : PassState Entry) × Tells d s text p m (Ok Kept) × Takes d s m q (Ok taken)
TellsAndTakes d s text p q answered.Overrun = Tells d s text p q (Ok Overrun)
TellsAndTakes d s text p q answered.Memory = Tells d s text p q (Ok Memory)
TellsAndTakes d s text p q (answered.Gone why) = Tells d s text p q (Err why)
TellsAndTakes d s text p q (answered.GoneAfter why) =
    (m : PassState Entry) × Tells d s text p m (Ok Kept) × Takes d s m q (Err why)
TellsAndTakes d s text p q (answered.SpentAfter spent) =
    (m : PassState Entry) × Tells d s text p m (Ok Kept) × (q ≡ refused_pass m) × (spent.ticket ≡ limit)

-- ---- turns of the program

-- the longest run of at most so many steps was made at a moment, and what it prints is told
pub record Steps (d : Debugging) (most moment : ℕ) (p q : PassState Entry) (texts : List (List ℕ)) : Type 0 where
  pub steps : ℕ
  pub lost : List ℕ
  pub act : Finds d (Prints d steps texts) p q (Ran steps moment lost)
  pub longest : IsLongest d most moment (p.seen ++ act.0.between) steps lost

-- what a turn of the program leaves, which made at most so many steps at a moment
abbrev pub Runs : Debugging → ℕ → ℕ → PassState Entry → PassState Entry → Progress → Type 0
Runs d most moment p q (progress.Ran texts state) = Steps d most moment p q texts.items × HasState d state q.seen
Runs d most moment p q (progress.Idle state) = Finds d (HasState d state) p q (Take 0) × (state ≢ states.Ready)
Runs d most moment p q progress.Memory = (lost : List ℕ) × Acts d p q (Ran 0 moment lost)
