-- What a host means at one moment, and what steps of its program and resumes do to it.
use Rattle.std.specs.Prelude.{ℕ, zero, suc, ◌+◌, ◌^◌, List, [], Bool, true, false, ◌&&◌, ◌||◌, not, nat_lt, is_some, if◌then◌else◌, Option, Some, None}
use Rattle.cdp_host_isolation.specs.Seats.{each, lost_by, some, waits_for_report, without}
use Rattle.cdp_host_isolation.specs.Protocols.{Protocol}
use Rattle.cdp_host_isolation.specs.declared.phase.Phase.{Phase}
use Rattle.cdp_host_isolation.specs.declared.phase.Phase.TheVariants.{Waiting, Woken, Running}
use Rattle.cdp_host_isolation.specs.declared.seat.Loss.TheVariants.{Overrun}
use Rattle.cdp_host_isolation.specs.declared.seat.Seat.{Seat}
use Rattle.cdp_host_isolation.specs.declared.seat.Seat.TheVariants.{Attached, Lost, Left}

-- A program and how far it has begun; where it is paused, if it is, and how many stops there were; whether it was shut,
-- and what became of each session so far.
pub record Meaning (C Q X : Type 0) : Type 0 where
  pub program : C
  pub phase : Phase
  pub stop : Option Q
  pub stops : ℕ
  pub shut : Bool
  pub seats : List (Seat X)

-- a meaning with its program seen in another way
abbrev pub mapped : {C D Q X : Type 0} → (C → D) → Meaning C Q X → Meaning D Q X
mapped f m =
    record { program = f m.program; phase = m.phase; stop = m.stop; stops = m.stops; shut = m.shut; seats = m.seats }

-- a meaning with other seats
abbrev pub with_seats : {C Q X : Type 0} → List (Seat X) → Meaning C Q X → Meaning C Q X
with_seats seats m = record m { seats = seats }

-- how far a program has begun before its first step: it may be to wait
abbrev pub phase_of : Bool → Phase
phase_of wait = if wait then Waiting else Running

-- what is meant before the first entry
abbrev pub begin : {C Q X : Type 0} → C → Bool → Meaning C Q X
begin c wait = record { program = c; phase = phase_of wait; stop = None; stops = 0; shut = false; seats = [] }

-- the program waits for a client
abbrev pub waits : Phase → Bool
waits Waiting = true
waits Woken = false
waits Running = false

-- its next step is the first of a program that waited
abbrev pub is_first : Phase → Bool
is_first Waiting = true
is_first Woken = true
is_first Running = false

-- a program that waits begins
abbrev pub woken : Phase → Phase
woken Waiting = Woken
woken Woken = Woken
woken Running = Running

-- the program is paused
abbrev pub is_paused : {C Q X : Type 0} → Meaning C Q X → Bool
is_paused m = is_some m.stop

-- it makes no step: it is paused, or waits, or was shut, or a loss waits for a run that reports it
abbrev pub is_held : {C Q X : Type 0} → Meaning C Q X → Bool
is_held m = is_paused m || (waits m.phase || (m.shut || some waits_for_report m.seats))

-- the program is neither held nor over
abbrev pub is_ready : {C T Q X : Type 0} → Protocol C T Q X → Meaning C Q X → Bool
is_ready P m = not (is_held m) && not (P.is_over m.program)

-- ---- what may be too much for a session

-- a session whose texts may be too many: it is lost then
abbrev pub kept : {C T Q X : Type 0} → Protocol C T Q X → X → Seat X
kept P x = if P.fits x then Attached x else lost_by Overrun

-- ---- steps

-- the number of the stop behind so many; it stays at 2^62
abbrev pub next_number : ℕ → ℕ
next_number n = if nat_lt n (2 ^ 62) then n + 1 else n

-- a session behind a step, where that names a stop of this number or doesn't: it is told of the step, and of the stop
-- that it names
abbrev pub session_behind : {C T Q X : Type 0} → Protocol C T Q X → ℕ → ℕ → T → X → X
session_behind P number moment t x = if P.names t x then P.stopped number t (P.told moment t x) else P.told moment t x

-- the texts that wait for a session after a step fit
abbrev pub survives : {C T Q X : Type 0} → Protocol C T Q X → ℕ → ℕ → T → X → Bool
survives P number moment t x = P.fits (session_behind P number moment t x)

-- an attached session names the step, and isn't lost at it
abbrev pub stops_for : {C T Q X : Type 0} → Protocol C T Q X → ℕ → ℕ → T → Seat X → Bool
stops_for P number moment t (Attached x) = survives P number moment t x && P.names t x
stops_for P number moment t (Lost loss is_reported is_told) = false
stops_for P number moment t Left = false

-- a session behind a step at which the program stops, or doesn't; all are told of the stop, whoever named it
abbrev pub told_of : {C T Q X : Type 0} → Protocol C T Q X → Bool → ℕ → ℕ → T → X → Seat X
told_of P true number moment t x = kept P (P.stopped number t (P.told moment t x))
told_of P false number moment t x = Attached (P.told moment t x)

-- a seat behind such a step; a session whose texts don't fit is lost
abbrev pub seat_behind : {C T Q X : Type 0} → Protocol C T Q X → Bool → ℕ → ℕ → T → Seat X → Seat X
seat_behind P stops number moment t (Attached x) =
    if survives P number moment t x then told_of P stops number moment t x else lost_by Overrun
seat_behind P stops number moment t (Lost loss is_reported is_told) = Lost loss is_reported is_told
seat_behind P stops number moment t Left = Left

-- what the next step of a program tells, that stands there
abbrev pub told_at : {C T Q X : Type 0} → Protocol C T Q X → C → Meaning C Q X → T
told_at P c m = P.tells (is_first m.phase) c

-- the next step of a program that stands there is named by a session that isn't lost at it; those of the listed numbers
-- are lost for want of memory before it names them
abbrev pub is_named : {C T Q X : Type 0} → Protocol C T Q X → ℕ → List ℕ → C → Meaning C Q X → Bool
is_named P moment gone c m = some (stops_for P (next_number m.stops) moment (told_at P c m)) (without gone m.seats)

-- behind a step at a moment that told this and led to that program, where the program stops, or doesn't
abbrev pub behind : {C T Q X : Type 0} → Protocol C T Q X → ℕ → List ℕ → T → C → Bool → Meaning C Q X → Meaning C Q X
behind P moment gone t c stops m = record {
  program = c;
  phase = Running;
  stop = if stops then Some (P.pause (next_number m.stops) c) else None;
  stops = if stops then next_number m.stops else m.stops;
  shut = m.shut;
  seats = each (seat_behind P stops (next_number m.stops) moment t) (without gone m.seats);
}

-- one step of the program at a moment, which loses the sessions of the listed numbers for want of memory: the program
-- stops exactly where another session names the step and isn't lost at it
abbrev pub step : {C T Q X : Type 0} → Protocol C T Q X → ℕ → List ℕ → Meaning C Q X → Meaning C Q X
step P moment gone m =
    behind P moment gone (told_at P m.program m) (P.next m.program) (is_named P moment gone m.program m) m

-- so many steps at a moment, with memory for all sessions
abbrev pub after_steps : {C T Q X : Type 0} → Protocol C T Q X → ℕ → ℕ → Meaning C Q X → Meaning C Q X
after_steps P moment zero m = m
after_steps P moment (suc n) m = after_steps P moment n (step P moment [] m)

-- so many steps, the last of which loses these sessions for want of memory
abbrev pub after_run : {C T Q X : Type 0} → Protocol C T Q X → ℕ → List ℕ → ℕ → Meaning C Q X → Meaning C Q X
after_run P moment gone zero m = with_seats (without gone m.seats) m
after_run P moment gone (suc n) m = step P moment gone (after_steps P moment n m)

-- the length of the longest run of at most that many steps, each made where the program is ready
abbrev pub longest : {C T Q X : Type 0} → Protocol C T Q X → ℕ → ℕ → Meaning C Q X → ℕ
longest P moment zero m = 0
longest P moment (suc n) m = if is_ready P m then longest P moment n (step P moment [] m) + 1 else 0

-- ---- resumes

-- a seat behind a resume
abbrev pub resumed_seat : {C T Q X : Type 0} → Protocol C T Q X → Seat X → Seat X
resumed_seat P (Attached x) = kept P (P.resumed x)
resumed_seat P (Lost loss is_reported is_told) = Lost loss is_reported is_told
resumed_seat P Left = Left

-- a paused program goes on, and each session is told; one whose texts don't fit is lost, which waits for a run that
-- reports it
abbrev pub resume : {C T Q X : Type 0} → Protocol C T Q X → Meaning C Q X → Meaning C Q X
resume P m = if is_paused m then record m { stop = None; seats = each (resumed_seat P) m.seats } else m

-- a session is attached there that has the debugger enabled
abbrev pub is_enabled_seat : {C T Q X : Type 0} → Protocol C T Q X → Seat X → Bool
is_enabled_seat P (Attached x) = P.is_enabled x
is_enabled_seat P (Lost loss is_reported is_told) = false
is_enabled_seat P Left = false

-- a paused program goes on where no session has the debugger enabled
abbrev pub settle : {C T Q X : Type 0} → Protocol C T Q X → Meaning C Q X → Meaning C Q X
settle P m = if some (is_enabled_seat P) m.seats then m else resume P m
