-- How a door was served.
use Rattle.std.specs.Prelude.{◌≡◌, ◌≤◌, ◌⊎◌, ℕ, zero, suc, List, [], ◌∷◌, ◌++◌, Bool, true, false, Option, Some, None}
use Rattle.cdp_host_isolation.specs.Histories.{Entry, Take}
use Rattle.cdp_edge.specs.Outside.{Rose, IfTold, one_more}
use Rattle.history_lock.specs.Histories.{limit}
use Rattle.history_lock.specs.Passes.{PassState, refused_pass}
use Rattle.cdp_edge_server.specs.Contents.{Spoken, Tended, adds}
use Rattle.cdp_host_turns.specs.Debuggings.{Debugging, IsHistory}
use Rattle.cdp_host_turns.specs.States.{HasState}
use Rattle.cdp_host_turns.specs.declared.state.State.{State}
use Rattle.cdp_host_turns.specs.declared.state.State.TheVariants as states
use Rattle.ws_service.specs.Shutdowns.{HadNoTicket, shut_entries}
use Rattle.ws_service.specs.Visits.{DoorAct, Looked, Tends, links_of, looks_of}
use Rattle.ws_service.specs.declared.door.DoorEnd.{DoorEnd}
use Rattle.ws_service.specs.declared.door.DoorEnd.TheVariants as ends
use Rattle.ws_service.specs.declared.shutdown.NotShut.{NotShut}

-- in this state a program makes no further step, whatever its sessions do
abbrev pub is_final : State → Bool
is_final states.Broken = true
is_final states.Shut = true
is_final states.Threw = true
is_final states.Ended = true
is_final states.Paused = false
is_final states.Waiting = false
is_final states.Ready = false

-- the last that a pass has seen is its own look, which found the program over, in this state
abbrev pub FindsOver : Debugging → ℕ → List (ℕ × Entry) → State → Type 0
FindsOver d k h state =
    (found : List (ℕ × Entry)) × (h ≡ found ++ (k, Take 0) ∷ []) × HasState d state found × (is_final state ≡ true)

-- the count of questions after so many more; it stays at the greatest u64
abbrev pub asked_more : ℕ → ℕ → ℕ
asked_more zero asked = asked
asked_more (suc n) asked = one_more (asked_more n asked)

-- how many questions there were: each led to a look, but the last one where it led to a shut, or to no turn at all
abbrev pub questions : DoorEnd → List DoorAct → ℕ
questions (ends.Over state) acts = looks_of acts
questions (ends.Fault unshut) acts = suc (looks_of acts)
questions (ends.Spent ticket) acts = suc (looks_of acts)

-- How serving a door ended, and what of the door's faults: it found the program over; or the door failed, and the
-- program was shut, if a ticket was left for that; or no ticket was left. Where none was left this is so.
abbrev pub EndsDoor : Debugging → ℕ → List (ℕ × Entry) → Type 0 → DoorEnd → List Entry → ℕ → ℕ → Type 0
EndsDoor d k h spent (ends.Over state) last old new = (last ≡ []) × (new ≡ old) × FindsOver d k h state
EndsDoor d k h spent (ends.Fault unshut) last old new =
    (last ≡ shut_entries unshut) × HadNoTicket spent unshut × Rose old new
EndsDoor d k h spent (ends.Spent ticket) last old new = (last ≡ []) × (new ≡ old) × (ticket ≡ limit) × spent

-- How a pass served a door: what it did, that the door took back just the links of that, in order, and has none out,
-- how often it was asked, and how this ended.
pub record IsTended (d : Debugging) (p q : PassState Entry) (old new : Tended) (end : DoorEnd) : Type 0 where
  pub acts : List DoorAct
  pub last : List Entry
  pub tends : Tends d p q acts last
  pub links : new.served ≡ adds old.served (links_of acts)
  pub home : IfTold new.is_out (λ out. out ≡ false)
  pub asks : new.asked ≡ asked_more (questions end acts) old.asked
  pub once : 1 ≤ questions end acts
  pub ends : EndsDoor d p.number q.seen (q.refused ≡ true) end last old.faults new.faults

-- ---- parts of it

-- a link was served and given back, by one act that is no look
abbrev pub IsReceived : Debugging → PassState Entry → PassState Entry → Option (List Spoken) → Option (List Spoken)
    → Type 0
IsReceived d p q old new =
    (act : DoorAct) × (looks_of (act ∷ []) ≡ 0) × Tends d p q (act ∷ []) [] × (new ≡ adds old (links_of (act ∷ [])))

-- one look: the program goes on, or is over, or no ticket was left
abbrev pub Looks : Debugging → PassState Entry → PassState Entry → Option DoorEnd → Type 0
Looks d p q None = Tends d p q (Looked ∷ []) [] × IsHistory d q.seen
Looks d p q (Some (ends.Over state)) =
    Tends d p q (Looked ∷ []) [] × IsHistory d q.seen × FindsOver d p.number q.seen state
Looks d p q (Some (ends.Fault unshut)) = ⊥
Looks d p q (Some (ends.Spent ticket)) = (q ≡ refused_pass p) × (ticket ≡ limit)

-- the program was shut, if a ticket was left for that
abbrev pub Shuts : Debugging → PassState Entry → PassState Entry → Option NotShut → Type 0
Shuts d p q unshut = Tends d p q [] (shut_entries unshut) × HadNoTicket (q.refused ≡ true) unshut

-- the door was asked so often and served so long, and serving it goes on
pub record IsTendedOn (d : Debugging) (p q : PassState Entry) (old new : Tended) : Type 0 where
  pub acts : List DoorAct
  pub tends : Tends d p q acts []
  pub history : (acts ≡ []) ⊎ IsHistory d q.seen
  pub links : new.served ≡ adds old.served (links_of acts)
  pub home : IfTold new.is_out (λ out. out ≡ false)
  pub asks : new.asked ≡ asked_more (looks_of acts) old.asked
  pub quiet : new.faults ≡ old.faults

-- one question more: serving goes on, or ends
abbrev pub TendsOnce : Debugging → PassState Entry → PassState Entry → Tended → Tended → Option DoorEnd → Type 0
TendsOnce d p q old new None = IsTendedOn d p q old new
TendsOnce d p q old new (Some end) = IsTended d p q old new end
