-- What a pass does at a door: links that it serves, and looks of its own.
use Rattle.std.specs.Prelude.{◌≡◌, ◌≢◌, ◌<◌, ◌⊎◌, ℕ, suc, List, [], ◌∷◌, ◌++◌, All, Bool, true, None}
use Rattle.cdp_host_isolation.specs.Histories.{Entry, Attach, Take}
use Rattle.cdp_host_isolation.specs.Makers.{Owns, TakesNone}
use Rattle.cdp_edge.specs.Outside.{IfTold}
use Rattle.history_lock.specs.Histories.{limit}
use Rattle.history_lock.specs.Passes.{PassState}
use Rattle.cdp_edge_server.specs.Contents.{Spoken}
use Rattle.cdp_edge_server.specs.Heard.{Heard}
use Rattle.cdp_host_turns.specs.Debuggings.{Debugging, IsNew, sent_alone}
use Rattle.cdp_host_turns.specs.States.{IsShut}
use Rattle.ws_service.specs.Connections.{Connection, SentOf, code_of}
use Rattle.ws_service.specs.Passing.{Goes, Was}
use Rattle.ws_service.specs.Sessions.{HasCause}
use Rattle.ws_service.specs.declared.served.Served.{Served}
use Rattle.ws_service.specs.declared.served.Served.TheVariants as served

-- ---- acts

-- a link that a session served: the session's entries after the attach, what its link answered and was sent, how the
-- session ended, whether a send was cut, and the link as it was given back
pub record Visit : Type 0 where
  pub session : ℕ
  pub entries : List Entry
  pub answers : List Heard
  pub texts : List (List ℕ)
  pub end : Served
  pub cut : Bool
  pub link : Spoken

-- a link for which no session was attached: the entries of that, how it ended, and the link as it was given back
pub record RefusedLink : Type 0 where
  pub entries : List Entry
  pub end : Served
  pub link : Spoken

-- what a pass does at a door, but for a last shut
pub data DoorAct : Type 0 where
  -- a session served a link
  Visited : Visit → DoorAct
  -- no session was attached for a link
  Refused : RefusedLink → DoorAct
  -- one turn looked whether the program is over
  Looked : DoorAct

-- the entries that an act left
abbrev pub entries_at : DoorAct → List Entry
entries_at (Visited visit) = Attach ∷ visit.entries
entries_at (Refused refusal) = refusal.entries
entries_at Looked = Take 0 ∷ []

-- the entries of acts, in order
abbrev pub entries_of : List DoorAct → List Entry
entries_of [] = []
entries_of (act ∷ acts) = entries_at act ++ entries_of acts

-- the link that an act gave back, as a list of at most one
abbrev pub link_at : DoorAct → List Spoken
link_at (Visited visit) = visit.link ∷ []
link_at (Refused refusal) = refusal.link ∷ []
link_at Looked = []

-- the links that acts gave back, in order
abbrev pub links_of : List DoorAct → List Spoken
links_of [] = []
links_of (act ∷ acts) = link_at act ++ links_of acts

-- the sessions of acts, in order
abbrev pub sessions_of : List DoorAct → List ℕ
sessions_of [] = []
sessions_of (Visited visit ∷ acts) = visit.session ∷ sessions_of acts
sessions_of (Refused refusal ∷ acts) = sessions_of acts
sessions_of (Looked ∷ acts) = sessions_of acts

-- how many of the acts are looks
abbrev pub looks_of : List DoorAct → ℕ
looks_of [] = 0
looks_of (Visited visit ∷ acts) = looks_of acts
looks_of (Refused refusal ∷ acts) = looks_of acts
looks_of (Looked ∷ acts) = suc (looks_of acts)

-- ---- what is so of them in a history

-- A link tells these answers, these texts and no others, and the code of this end, if that has one and its close was
-- sent. It failed where that is the end.
pub record Speaks (link : Spoken) (heard : List Heard) (texts : List (List ℕ)) (end : Served) : Type 0 where
  pub answers : IfTold link.answers (λ told. told ≡ heard)
  pub sent : IfTold link.sent (λ told. told ≡ texts)
  pub closed : IfTold link.closed (λ code. (code ≡ None) ⊎ (code ≡ code_of end))
  pub failed : end ≡ served.Fault → 0 < link.faults

-- A visit over a history: the session is this maker's, its entries and its link's answers are a connection's, and its
-- link was sent exactly what the session would be sent with no other session there, or a first part of it where a send
-- was cut.
pub record IsVisit (d : Debugging) (k : ℕ) (h : List (ℕ × Entry)) (spent : Type 0) (visit : Visit) : Type 0 where
  pub connection : Connection visit.session visit.end visit.answers visit.entries visit.cut
  pub owns : Owns k visit.session h
  pub sent : SentOf visit.cut visit.texts (sent_alone d visit.session h)
  pub cause : HasCause d visit.session visit.end h spent
  pub speaks : Speaks visit.link visit.answers visit.texts visit.end

-- no session was attached: the program was shut, there was no memory, or no ticket was left, of which this is so
abbrev pub IsUnattached : Debugging → List (ℕ × Entry) → Type 0 → Served → List Entry → Type 0
IsUnattached d h spent served.Shut entries = (entries ≡ Take 0 ∷ []) × Was (IsShut d) h
IsUnattached d h spent served.Memory entries = entries ≡ Take 0 ∷ []
IsUnattached d h spent (served.Spent ticket) entries = (ticket ≡ limit) × (entries ≡ []) × spent
IsUnattached d h spent served.Closed entries = ⊥
IsUnattached d h spent served.TooBig entries = ⊥
IsUnattached d h spent served.Binary entries = ⊥
IsUnattached d h spent served.Overrun entries = ⊥
IsUnattached d h spent served.Over entries = ⊥
IsUnattached d h spent served.Fault entries = ⊥

-- a refusal over a history: its link gave no answer and was sent nothing
pub record IsRefusal (d : Debugging) (h : List (ℕ × Entry)) (spent : Type 0) (refusal : RefusedLink) : Type 0 where
  pub unattached : IsUnattached d h spent refusal.end refusal.entries
  pub speaks : Speaks refusal.link [] [] refusal.end

-- an act over a history, and this is so where no ticket was left
abbrev pub IsAct : Debugging → ℕ → List (ℕ × Entry) → Type 0 → DoorAct → Type 0
IsAct d k h spent (Visited visit) = IsVisit d k h spent visit
IsAct d k h spent (Refused refusal) = IsRefusal d h spent refusal
IsAct d k h spent Looked = Unit {0}

-- each of these is an act over a history
abbrev pub AreActs : Debugging → ℕ → List (ℕ × Entry) → Type 0 → List DoorAct → Type 0
AreActs d k h spent [] = Unit {0}
AreActs d k h spent (act ∷ acts) = IsAct d k h spent act × AreActs d k h spent acts

-- nobody had attached these sessions in a history, and no two of them are one
abbrev pub AreNew : List (ℕ × Entry) → List ℕ → Type 0
AreNew h [] = Unit {0}
AreNew h (s ∷ sessions) = IsNew s h × All (λ r. r ≢ s) sessions × AreNew h sessions

-- A pass did these acts, and left these entries last: its own entries are exactly theirs, each act is so over the whole
-- history that it has seen now, and it was refused a ticket where an act found none left, each link that was served has a
-- new session of its own, and no text was taken of a session that the pass owned before.
pub record Tends (d : Debugging) (p q : PassState Entry) (acts : List DoorAct) (last : List Entry) : Type 0 where
  pub goes : Goes d p q (entries_of acts ++ last)
  pub are : AreActs d p.number q.seen (q.refused ≡ true) acts
  pub new : AreNew p.seen (sessions_of acts)
  pub others : (s : ℕ) → Owns p.number s p.seen → TakesNone s (entries_of acts ++ last)
