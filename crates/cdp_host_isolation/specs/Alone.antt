-- What of a history concerns one session, and what it would be sent with no other session there.
use Rattle.std.specs.Prelude.{ℕ, zero, suc, ◌+◌, List, [], ◌∷◌, ◌++◌, length, Bool, true, false, ◌&&◌, ◌==◌, not, if◌then◌else◌, Option, Some, None}
use Rattle.cdp_host_isolation.specs.Seats.{fallen, is_listed, reported, seat_of}
use Rattle.cdp_host_isolation.specs.Protocols.{Protocol}
use Rattle.cdp_host_isolation.specs.Meanings.{Meaning, after_run, is_first, is_paused, next_number, resumed_seat, seat_behind}
use Rattle.cdp_host_isolation.specs.Histories.{Entry, Attach, Tell, Take, Detach, Ran, Shut, apply, waiting}
use Rattle.cdp_host_isolation.specs.declared.seat.Seat.{Seat}
use Rattle.cdp_host_isolation.specs.declared.seat.Seat.TheVariants.{Attached, Lost, Left}

-- ---- the view

-- What of an entry a session sees. A host that let a session learn what another evaluates, holds or is told would need
-- more of its entries than these.
pub data Seen : Type 0 where
  -- it was attached
  Came : Seen
  -- it told this, and the program went on then, or didn't
  Told : List ℕ → Bool → Seen
  -- its texts were handed out
  Took : Seen
  -- it was detached, and the program went on then, or didn't
  Went : Bool → Seen
  -- so many steps were made at a moment; whether the last of them stopped the program, whether the session was lost
  -- there for want of memory, and whether the program went on since no session had the debugger enabled
  Passed : ℕ → ℕ → Bool → Bool → Bool → Seen
  -- another session let the program go on
  Resumed : Seen

-- the program went on from where it was paused
abbrev pub has_resumed : {C Q X : Type 0} → Meaning C Q X → Meaning C Q X → Bool
has_resumed m k = is_paused m && not (is_paused k)

-- of what another session did: whether the program went on
abbrev pub mark : Bool → List Seen
mark b = if b then Resumed ∷ [] else []

-- what the session of this number sees of an entry
abbrev pub view_at : {C T Q X : Type 0} → Protocol C T Q X → ℕ → Meaning C Q X → Entry → List Seen
view_at P s m Attach = if length m.seats + 1 == s then Came ∷ [] else []
view_at P s m (Tell r text) = if r == s then Told text (has_resumed m (apply P m (Tell r text))) ∷ [] else mark (has_resumed m (apply P m (Tell r text)))
view_at P s m (Take r) = if r == s then Took ∷ [] else []
view_at P s m (Detach r) =
    if r == s then Went (has_resumed m (apply P m (Detach r))) ∷ [] else mark (has_resumed m (apply P m (Detach r)))
view_at P s m (Ran n moment gone) =
    Passed n moment (is_paused (after_run P moment gone n m)) (is_listed gone s)
    (has_resumed (after_run P moment gone n m) (apply P m (Ran n moment gone))) ∷ []
view_at P s m Shut = []

-- what it sees of a history
abbrev pub view : {C T Q X : Type 0} → Protocol C T Q X → ℕ → Meaning C Q X → List Entry → List Seen
view P s m [] = []
view P s m (entry ∷ history) = view_at P s m entry ++ view P s (apply P m entry) history

-- ---- alone

-- A program, whether its next step is the first of one that waited, where it is paused and how many stops there were;
-- and what became of one session. No other session is there whose texts could be seen, counted or mixed up with these.
pub record Alone (C Q X : Type 0) : Type 0 where
  pub program : C
  pub first : Bool
  pub stop : Option Q
  pub stops : ℕ
  pub seat : Seat X

-- a host for one session, before the first entry
abbrev pub unborn : {C Q X : Type 0} → C → Bool → Alone C Q X
unborn c wait = record { program = c; first = wait; stop = None; stops = 0; seat = Left }

-- the program goes on, where it is said to
abbrev pub goes_on : {C T Q X : Type 0} → Protocol C T Q X → Bool → Alone C Q X → Alone C Q X
goes_on P true a = record a { stop = None; seat = resumed_seat P a.seat }
goes_on P false a = a

-- the session's seat after a text that it told
abbrev pub replied : {C T Q X : Type 0} → Protocol C T Q X → List ℕ → Alone C Q X → Seat X → Seat X
replied P text a (Attached x) =
    if P.fits (P.reply a.stop a.program text x) then Attached (P.reply a.stop a.program text x) else Left
replied P text a (Lost loss is_reported is_told) = Lost loss is_reported is_told
replied P text a Left = Left

-- the session's seat after the taking of its texts
abbrev pub took : {C T Q X : Type 0} → Protocol C T Q X → Seat X → Seat X
took P (Attached x) = Attached (P.emptied x)
took P (Lost loss is_reported is_told) = Lost loss is_reported is_told
took P Left = Left

-- the session's seat after its detach
abbrev pub went : {X : Type 0} → Seat X → Seat X
went (Attached x) = Left
went (Lost loss is_reported is_told) = Lost loss is_reported true
went Left = Left

-- the host after one step at a moment, at which the program stops, or doesn't
abbrev pub one_step : {C T Q X : Type 0} → Protocol C T Q X → ℕ → Bool → Alone C Q X → Alone C Q X
one_step P moment stops a = record {
  program = P.next a.program;
  first = false;
  stop = if stops then Some (P.pause (next_number a.stops) (P.next a.program)) else None;
  stops = if stops then next_number a.stops else a.stops;
  seat = seat_behind P stops (next_number a.stops) moment (P.tells a.first a.program) a.seat;
}

-- behind so many steps at which the program doesn't stop
abbrev pub passing : {C T Q X : Type 0} → Protocol C T Q X → ℕ → ℕ → Alone C Q X → Alone C Q X
passing P moment zero a = a
passing P moment (suc n) a = passing P moment n (one_step P moment false a)

-- it is lost for want of memory, where it is listed
abbrev pub unless_listed : {C Q X : Type 0} → Bool → Alone C Q X → Alone C Q X
unless_listed true a = record a { seat = fallen a.seat }
unless_listed false a = a

-- behind so many steps, the last of which stops the program, or doesn't, and at which the session is listed, or isn't
abbrev pub run : {C T Q X : Type 0} → Protocol C T Q X → ℕ → ℕ → Bool → Bool → Alone C Q X → Alone C Q X
run P moment zero stops listed a = unless_listed listed a
run P moment (suc n) stops listed a = one_step P moment stops (unless_listed listed (passing P moment n a))

-- the host after what a session of this number sees
abbrev pub see : {C T Q X : Type 0} → Protocol C T Q X → ℕ → Alone C Q X → Seen → Alone C Q X
see P s a Came = record a { seat = Attached (P.fresh s) }
see P s a (Told text resumed) = goes_on P resumed (record a { seat = replied P text a a.seat })
see P s a Took = record a { seat = took P a.seat }
see P s a (Went resumed) = goes_on P resumed (record a { seat = went a.seat })
see P s a (Passed n moment stops listed resumed) =
    goes_on P resumed (record (run P moment n stops listed a) { seat = reported (run P moment n stops listed a).seat })
see P s a Resumed = goes_on P true a

-- what it is handed out then
abbrev pub given : {C T Q X : Type 0} → Protocol C T Q X → Alone C Q X → Seen → List (List ℕ)
given P a Came = []
given P a (Told text resumed) = []
given P a Took = waiting P a.seat
given P a (Went resumed) = []
given P a (Passed n moment stops listed resumed) = []
given P a Resumed = []

-- what the session of this number is sent over a view, with no other session there
abbrev pub solo : {C T Q X : Type 0} → Protocol C T Q X → ℕ → Alone C Q X → List Seen → List (List ℕ)
solo P s a [] = []
solo P s a (seen ∷ view) = given P a seen ++ solo P s (see P s a seen) view

-- what of a host one session sees
abbrev pub alone_at : {C Q X : Type 0} → ℕ → Meaning C Q X → Alone C Q X
alone_at s m =
    record { program = m.program; first = is_first m.phase; stop = m.stop; stops = m.stops; seat = seat_of s m.seats }
