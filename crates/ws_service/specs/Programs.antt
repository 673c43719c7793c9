-- What running a program leaves in a history, and what its sink is given.
use Rattle.std.specs.Prelude.{◌≡◌, ◌⊎◌, ℕ, List, [], ◌∷◌, ◌++◌, Bool, true, false, Option, Some, None}
use Rattle.cdp_host_isolation.specs.Histories.{Entry, Attach, Tell, Take, Detach, Ran, Shut, steps_made, steps_of}
use Rattle.cdp_host_isolation.specs.Makers.{by, entries_of}
use Rattle.cdp_host_isolation.specs.Meanings.{is_paused, waits}
use Rattle.history_lock.specs.Histories.{Begins, limit}
use Rattle.history_lock.specs.Passes.{PassState}
use Rattle.cdp_edge.specs.Outside.{GainsPrefix, Rose, IfTold, gains}
use Rattle.cdp_edge.specs.declared.sink.SinkFault.{SinkFault}
use Rattle.cdp_edge.specs.declared.sink.SinkFault.TheVariants as sink
use Rattle.cdp_edge_printing.specs.Printing.{printed_lines}
use Rattle.cdp_host_turns.specs.Debuggings.{Debugging, IsLongest, meaning}
use Rattle.cdp_host_turns.specs.States.{HasEnded, HasThrown, IsOver, IsShut}
use Rattle.cdp_host_turns.specs.Turns.{printed_by}
use Rattle.cdp_host_turns.specs.declared.state.State.{State}
use Rattle.cdp_host_turns.specs.declared.state.State.TheVariants as states
use Rattle.ws_service.specs.Passing.{Goes, Was}
use Rattle.ws_service.specs.Shutdowns.{HadNoTicket, ShutsDown, shut_entries}
use Rattle.ws_service.specs.declared.program.RunEnd.{RunEnd}
use Rattle.ws_service.specs.declared.program.RunEnd.TheVariants as ends
use Rattle.ws_service.specs.declared.shutdown.NotShut.{NotShut}

-- ---- ends

-- how a run ends in a state, if it does
abbrev pub end_in : State → Option RunEnd
end_in states.Broken = Some ends.Broken
end_in states.Shut = Some ends.Shut
end_in states.Threw = Some ends.Threw
end_in states.Ended = Some ends.Ended
end_in states.Paused = None
end_in states.Waiting = None
end_in states.Ready = None

-- how a run ends whose output isn't all written, and whose program was shut then, or wasn't
abbrev pub end_at : SinkFault → Option NotShut → RunEnd
end_at sink.Failed unshut = ends.WriteFault unshut
end_at sink.Memory unshut = ends.Memory unshut

-- at this end some output may be missing
abbrev pub may_cut : Option RunEnd → Bool
may_cut None = false
may_cut (Some ends.Ended) = false
may_cut (Some ends.Threw) = false
may_cut (Some ends.Shut) = false
may_cut (Some ends.Broken) = false
may_cut (Some (ends.WriteFault unshut)) = true
may_cut (Some (ends.Spent ticket)) = false
may_cut (Some (ends.Memory unshut)) = true

-- the shut that a run leaves at its end, if any
abbrev pub shuts_at : Option RunEnd → List Entry
shuts_at None = []
shuts_at (Some ends.Ended) = []
shuts_at (Some ends.Threw) = []
shuts_at (Some ends.Shut) = []
shuts_at (Some ends.Broken) = []
shuts_at (Some (ends.WriteFault unshut)) = shut_entries unshut
shuts_at (Some (ends.Spent ticket)) = []
shuts_at (Some (ends.Memory unshut)) = shut_entries unshut

-- what an end says: the program has ended, by a throw or not; it was shut at some time; or no ticket was left, be it
-- for a shut, of which this is so
abbrev pub HasReason : Debugging → Option RunEnd → List (ℕ × Entry) → Type 0 → Type 0
HasReason d None h spent = Unit {0}
HasReason d (Some ends.Ended) h spent = HasEnded d h
HasReason d (Some ends.Threw) h spent = HasThrown d h
HasReason d (Some ends.Shut) h spent = Was (IsShut d) h
HasReason d (Some ends.Broken) h spent = Unit {0}
HasReason d (Some (ends.WriteFault unshut)) h spent = HadNoTicket spent unshut
HasReason d (Some (ends.Spent ticket)) h spent = (ticket ≡ limit) × spent
HasReason d (Some (ends.Memory unshut)) h spent = HadNoTicket spent unshut

-- ---- entries

-- a turn of the program: steps at this moment, where it is told, or a taking of nobody's texts
abbrev pub IsTurn : Option ℕ → Entry → Type 0
IsTurn moment Attach = ⊥
IsTurn moment (Tell s text) = ⊥
IsTurn moment (Take s) = s ≡ 0
IsTurn moment (Detach s) = ⊥
IsTurn moment (Ran steps at lost) = IfTold moment (λ ms. at ≡ ms)
IsTurn moment Shut = ⊥

-- these are turns of the program
abbrev pub AreTurns : Option ℕ → List Entry → Type 0
AreTurns moment [] = Unit {0}
AreTurns moment (entry ∷ entries) = IsTurn moment entry × AreTurns moment entries

-- the entries of a run that goes on or ended so: turns of the program, and last the shut of its end, if any
abbrev pub AreLeft : Option ℕ → Option RunEnd → List Entry → Type 0
AreLeft moment end entries = (turns : List Entry) × AreTurns moment turns × (entries ≡ turns ++ shuts_at end)

-- no step is to be made: the program was shut, or has ended, or is paused, or waits for a client
abbrev pub IsIdle : Debugging → List (ℕ × Entry) → Type 0
IsIdle d h = IsShut d h ⊎ IsOver d h ⊎ (is_paused (meaning d h) ≡ true) ⊎ (waits (meaning d h).phase ≡ true)

-- an entry was due after a history: the longest run of at most 256 steps, or a taking where no step is to be made
abbrev pub IsDue : Debugging → List (ℕ × Entry) → Entry → Type 0
IsDue d front Attach = Unit {0}
IsDue d front (Tell s text) = Unit {0}
IsDue d front (Take s) = IsIdle d front
IsDue d front (Detach s) = Unit {0}
IsDue d front (Ran steps moment lost) = IsLongest d 256 moment front steps lost
IsDue d front Shut = Unit {0}

-- this entry made no step, none of this maker follows, and the run ended with its host broken
abbrev pub IsLast : ℕ → Option RunEnd → Entry → List (ℕ × Entry) → Type 0
IsLast k end entry rest = (end ≡ Some ends.Broken) × (steps_of entry ≡ 0) × (by k rest ≡ [])

-- A history goes on to a longer one: each entry of this maker was due after what came before it, or it was the last
-- entry before an end with the host broken, and made no step.
abbrev pub FindsDue : Debugging → ℕ → List (ℕ × Entry) → List (ℕ × Entry) → Option RunEnd → Type 0
FindsDue d k old new end =
    (front rest : List (ℕ × Entry)) (entry : Entry) → Begins old front → new ≡ front ++ (k, entry) ∷ rest
    → IsDue d front entry ⊎ IsLast k end entry rest

-- ---- output

-- what a sink tells: the bytes that it took, and how often it failed
pub record Output : Type 0 where
  pub content : List ℕ
  pub faults : ℕ

-- an entry that makes steps has this maker
abbrev pub IsRunOf : ℕ → ℕ → Entry → Type 0
IsRunOf k maker Attach = Unit {0}
IsRunOf k maker (Tell s text) = Unit {0}
IsRunOf k maker (Take s) = Unit {0}
IsRunOf k maker (Detach s) = Unit {0}
IsRunOf k maker (Ran steps moment lost) = maker ≡ k
IsRunOf k maker Shut = Unit {0}

-- each of these entries that makes steps has this maker
abbrev pub OnlyRuns : ℕ → List (ℕ × Entry) → Type 0
OnlyRuns k [] = Unit {0}
OnlyRuns k (made ∷ history) = IsRunOf k made.0 made.1 × OnlyRuns k history

-- the steps by which a history goes on to a longer one print these texts
abbrev pub PrintsOn : Debugging → List (ℕ × Entry) → List (ℕ × Entry) → List (List ℕ) → Type 0
PrintsOn d old new texts =
    printed_by d (steps_made (entries_of new)) ≡ printed_by d (steps_made (entries_of old)) ++ texts

-- a sink took the lines of these texts, or a first part of them, if it may be cut
abbrev pub GainsLines : Bool → List ℕ → List ℕ → List (List ℕ) → Type 0
GainsLines false old new texts = new ≡ gains old (printed_lines texts)
GainsLines true old new texts = GainsPrefix old new (printed_lines texts)

-- A history goes on to a longer one: where each run of those further entries is this maker's, a sink took the lines of
-- what their steps print, or a first part of them, if it may be cut.
abbrev pub Writes : Debugging → ℕ → Bool → List (ℕ × Entry) → List (ℕ × Entry) → List ℕ → List ℕ
    → Type 0
Writes d k cut old new before after =
    (more : List (ℕ × Entry)) → new ≡ old ++ more → OnlyRuns k more
    → (texts : List (List ℕ)) × PrintsOn d old new texts × GainsLines cut before after texts

-- a count rose where a write failed, and nowhere else
abbrev pub Counts : Option RunEnd → ℕ → ℕ → Type 0
Counts None old new = new ≡ old
Counts (Some ends.Ended) old new = new ≡ old
Counts (Some ends.Threw) old new = new ≡ old
Counts (Some ends.Shut) old new = new ≡ old
Counts (Some ends.Broken) old new = new ≡ old
Counts (Some (ends.WriteFault unshut)) old new = Rose old new
Counts (Some (ends.Spent ticket)) old new = new ≡ old
Counts (Some (ends.Memory unshut)) old new = new ≡ old

-- ---- a run

-- A pass ran a program by some turns, and the run goes on or ended so: the turns that it left, what they found and
-- say, and what the sink was given.
pub record HasRun (d : Debugging) (moment : Option ℕ) (p q : PassState Entry) (old new : Output)
    (end : Option RunEnd) : Type 0 where
  pub entries : List Entry
  pub goes : Goes d p q entries
  pub left : AreLeft moment end entries
  pub due : FindsDue d p.number p.seen q.seen end
  pub writes : Writes d p.number (may_cut end) p.seen q.seen old.content new.content
  pub reason : HasReason d end q.seen (q.refused ≡ true)
  pub counts : Counts end old.faults new.faults

-- a run was given up before its first turn: the program was shut, if a ticket was left for that
abbrev pub IsGivenUp : Debugging → PassState Entry → PassState Entry → RunEnd → Type 0
IsGivenUp d p q end = (unshut : Option NotShut) × (end ≡ ends.Memory unshut) × ShutsDown d p q unshut

-- texts were written; or not all of them, and the program was shut, if a ticket was left for that
abbrev pub Puts : Debugging → PassState Entry → PassState Entry → Output → Output → List (List ℕ) → Option RunEnd
    → Type 0
Puts d p q old new texts None =
    (q ≡ p) × (new.content ≡ gains old.content (printed_lines texts)) × (new.faults ≡ old.faults)
Puts d p q old new texts (Some end) =
    (fault : SinkFault) × (unshut : Option NotShut) × (end ≡ end_at fault unshut) × ShutsDown d p q unshut
    × GainsPrefix old.content new.content (printed_lines texts) × Counts (Some end) old.faults new.faults

-- texts were written, and a state says whether the run ends; or not all of them were, and it ends so
abbrev pub Finishes : Debugging → PassState Entry → PassState Entry → Output → Output → List (List ℕ) → State
    → Option RunEnd → Type 0
Finishes d p q old new texts state result =
    ((result ≡ end_in state) × Puts d p q old new texts None)
    ⊎ ((end : RunEnd) × (result ≡ Some end) × Puts d p q old new texts (Some end))
