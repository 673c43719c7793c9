-- What doors leave in the one history of all passes.
use Rattle.std.specs.Prelude.{◌≡◌, ◌⊎◌, ◌+◌, ◌<◌, ◌≤◌, ℕ, List, [], ◌∷◌, ◌++◌, true, false, Option, Some}
use Rattle.cdp_host_isolation.specs.Histories.{Entry}
use Rattle.cdp_edge.specs.Outside.{IfTold}
use Rattle.history_lock.specs.Histories.{by, has}
use Rattle.history_lock.specs.Passes.{LockId, PassState, joined_pass}
use Rattle.cdp_edge_server.specs.Contents.{IsNew, Tended}
use Rattle.cdp_host_turns.specs.Debuggings.{Debugging}
use Rattle.ws_service.specs.Doors.{EndsDoor, IsTended, asked_more, questions}
use Rattle.ws_service.specs.Passing.{FindsThere, Was}
use Rattle.ws_service.specs.Visits.{AreActs, AreNew, DoorAct, entries_of, links_of, sessions_of}
use Rattle.ws_service.specs.declared.door.DoorEnd.{DoorEnd}

-- a pass of this lock out of turn, which has seen nothing and of which none was split
pub record IsUnstarted (lock : LockId) (p : PassState Entry) : Type 0 where
  pub lock_is : p.lock ≡ lock
  pub free : p.in_turn ≡ false
  pub start : p.seen ≡ []
  pub named : has p.number p.numbers ≡ true
  pub unsplit : p.splits ≡ 0

-- such a pass is to serve a door that is new
pub record IsAtFirst (lock : LockId) (p : PassState Entry) (door : Tended) : Type 0 where
  pub pass : IsUnstarted lock p
  pub is_new : IsNew door

-- a pass that had seen nothing served a door that was new, which tells this now, and serving it ended so
pub record HasServed (d : Debugging) (q : PassState Entry) (door : Tended)
    (ended : Option DoorEnd) : Type 0 where
  pub first : PassState Entry
  pub unasked : Tended
  pub end : DoorEnd
  pub tended : IsTended d first q unasked door end
  pub unstarted : IsUnstarted q.lock first
  pub is_new : IsNew unasked
  pub is_end : ended ≡ Some end

-- A door that was new was served by this maker, over a history: the maker's entries there are exactly those of what it
-- did, each text that a session was told, and each taking of its texts, found it there; each act is so over the whole
-- history, and each link that was served had a session of its own. The door took back just these links, in order, has
-- none out, and was asked so often. Serving it ended so, at some time. Where no ticket was left this is so.
pub record IsServedDoor (d : Debugging) (k : ℕ) (h : List (ℕ × Entry)) (spent : Type 0) (door : Tended)
    (ended : Option DoorEnd) : Type 0 where
  pub acts : List DoorAct
  pub last : List Entry
  pub end : DoorEnd
  pub own : by k h ≡ entries_of acts ++ last
  pub there : FindsThere d k [] h
  pub are : AreActs d k h spent acts
  pub apart : AreNew [] (sessions_of acts)
  pub links : IfTold door.served (λ links. links ≡ links_of acts)
  pub home : IfTold door.is_out (λ out. out ≡ false)
  pub asks : door.asked ≡ asked_more (questions end acts) 0
  pub once : 1 ≤ questions end acts
  pub ends : Was (λ seen. EndsDoor d k seen spent end last 0 door.faults) h
  pub is_end : ended ≡ Some end

-- a pass answers for all passes with which its lock began, and none was split off any of these
abbrev pub AnswersForAll : PassState Entry → Type 0
AnswersForAll p = (p.splits ≡ 0) × ((x : ℕ) → x < p.initial → has x p.numbers ≡ true)

-- the pass of the program, whose number is this, into which the passes with the numbers below were joined
abbrev pub IsLastPass : LockId → ℕ → PassState Entry → Type 0
IsLastPass lock n q =
    (q.lock ≡ lock) × (q.in_turn ≡ false) × (q.number ≡ n) × (q.initial ≡ n + 1) × AnswersForAll q

-- a pass and the passes of these numbers are all with which their lock began, and none was split off the first
abbrev pub AreAll : PassState Entry → List ℕ → Type 0
AreAll p numbers = (p.splits ≡ 0) × ((x : ℕ) → x < p.initial → (has x p.numbers ≡ true) ⊎ (has x numbers ≡ true))

-- passes joined into one, in order
abbrev pub joined_passes : PassState Entry → List (PassState Entry) → PassState Entry
joined_passes p [] = p
joined_passes p (q ∷ passes) = joined_passes (joined_pass p q) passes
