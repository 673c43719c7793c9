-- What a stretch of a host's run makes.
use Rattle.std.specs.Prelude.{◌≡◌, ℕ, ◌+◌, ◌<◌, ◌≤◌, false, is_some, List, Bool, None}
use Rattle.cdp_host_isolation.specs.Seats.{some}
use Rattle.cdp_host_isolation.specs.declared.seat.Seat.{Seat}
use Rattle.cdp_host_isolation.specs.declared.seat.Seat.TheVariants.{Attached, Lost, Left}
use Rattle.js_tree.specs.declared.script.Script.{Script}
use Rattle.js_semantics.specs.Run.{Run}
use Rattle.cdp_session.specs.Sessions.{Session}
use Rattle.cdp_session.specs.Situations.{Standing}
use Rattle.cdp_session.specs.Stops.{cause_of, may_name as session_may_name}
use Rattle.stepping.specs.declared.arrival.Arrival.{Arrival}
use Rattle.cdp_host.specs.Programs.{nexts, is_over, arrival_of, prints_next}
use Rattle.cdp_host.specs.Standings.{standing_of}

-- the length of a stretch of steps: at least one, and at most so many
pub record IsStretch (most k : ℕ) : Type 0 where
  pub some : 0 < k
  pub within : k ≤ most

-- a rule of the session that is attached there names a stop where a program stands so and arrived there
abbrev pub stops_seat : Standing → Arrival → Seat Session → Bool
stops_seat s a (Attached x) = is_some (cause_of s a x)
stops_seat s a (Lost loss is_reported is_told) = false
stops_seat s a Left = false

-- a rule of one of these sessions names a stop
abbrev pub stops_at : Standing → Arrival → List (Seat Session) → Bool
stops_at s a seats = some (stops_seat s a) seats

-- a rule of the session that is attached there names a stop, or would if the conditions of its breakpoints held
abbrev pub may_stop_seat : Arrival → Seat Session → Bool
may_stop_seat a (Attached x) = session_may_name a x
may_stop_seat a (Lost loss is_reported is_told) = false
may_stop_seat a Left = false

-- a rule of one of these sessions names a stop, or would
abbrev pub may_stop : Arrival → List (Seat Session) → Bool
may_stop a seats = some (may_stop_seat a) seats

-- A stretch of so many steps leads from one to the other, each made where the program isn't over. Before the last of
-- them nothing is printed, and no rule of a session names a stop.
pub record Advances (scripts : List Script) (seats : List (Seat Session)) (most k : ℕ) (r q : Run) : Type 0 where
  pub counts : IsStretch most k
  pub reached : q ≡ nexts scripts k r
  pub runs : (j : ℕ) → j < k → is_over (nexts scripts j r) ≡ false
  pub silent : (j : ℕ) → j + 1 < k → prints_next scripts (nexts scripts j r) ≡ None
  pub passes : (j : ℕ)
      → 0 < j
      → j < k
      → stops_at (standing_of scripts (nexts scripts j r)) (arrival_of scripts (nexts scripts j r)) seats ≡ false
