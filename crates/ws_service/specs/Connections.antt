-- What one connection may leave in a history: its session's entries, for the answers of its link.
use Rattle.std.specs.Prelude.{◌≡◌, ◌⊎◌, ℕ, List, [], ◌∷◌, ◌++◌, Bool, true, false, Option, Some, None}
use Rattle.cdp_host_isolation.specs.Histories.{Entry, Tell, Take, Detach}
use Rattle.history_lock.specs.Histories.{Begins, limit}
use Rattle.cdp_edge_server.specs.Heard as heard
use Rattle.cdp_edge_server.specs.Heard.{Heard}
use Rattle.cdp_host_isolation.specs.declared.seat.Loss.TheVariants.{Overrun, Memory}
use Rattle.cdp_edge_server.specs.declared.link.LinkFault.{LinkFault}
use Rattle.cdp_edge_server.specs.declared.link.LinkFault.TheVariants as faults
use Rattle.cdp_host_turns.specs.declared.answers.Gone.{Gone}
use Rattle.cdp_host_turns.specs.declared.answers.Gone.TheVariants as gone
use Rattle.ws_service.specs.declared.served.Served.{Served}
use Rattle.ws_service.specs.declared.served.Served.TheVariants as served

-- ---- answers after which a session goes on

-- a text, or that none has arrived
abbrev pub GoesOn : Heard → Type 0
GoesOn (heard.Text text) = Unit {0}
GoesOn heard.Binary = ⊥
GoesOn heard.TooBig = ⊥
GoesOn heard.Quiet = Unit {0}
GoesOn heard.Closed = ⊥
GoesOn heard.Failed = ⊥

-- each of these answers is one after which the session goes on
abbrev pub AllGoOn : List Heard → Type 0
AllGoOn [] = Unit {0}
AllGoOn (answer ∷ answers) = GoesOn answer × AllGoOn answers

-- the entries of a session for such an answer: a text is told, and what waits is taken
abbrev pub turns_at : ℕ → Heard → List Entry
turns_at s (heard.Text text) = Tell s text ∷ Take s ∷ []
turns_at s heard.Binary = []
turns_at s heard.TooBig = []
turns_at s heard.Quiet = Take s ∷ []
turns_at s heard.Closed = []
turns_at s heard.Failed = []

-- the entries for answers in order
abbrev pub turns : ℕ → List Heard → List Entry
turns s [] = []
turns s (answer ∷ answers) = turns_at s answer ++ turns s answers

-- ---- the end of a session

-- a detach in place of a turn: of the one that tells a text, or of the one that takes what waits
abbrev pub IsCutOff : ℕ → List Heard → List Entry → Type 0
IsCutOff s answers entries =
    ((answer : Heard) × GoesOn answer × (answers ≡ answer ∷ []) × (entries ≡ Detach s ∷ []))
    ⊎ ((text : List ℕ) × (answers ≡ heard.Text text ∷ []) × (entries ≡ Tell s text ∷ Detach s ∷ []))

-- the last text is told, and nothing follows
abbrev pub IsToldLast : ℕ → List Heard → List Entry → Type 0
IsToldLast s answers entries = (text : List ℕ) × (answers ≡ heard.Text text ∷ []) × (entries ≡ Tell s text ∷ [])

-- this answer, and then the detach
abbrev pub IsDetachedAt : ℕ → Heard → List Heard → List Entry → Type 0
IsDetachedAt s answer answers entries = (answers ≡ answer ∷ []) × (entries ≡ Detach s ∷ [])

-- the detach, without a further answer
abbrev pub IsDetached : ℕ → List Heard → List Entry → Type 0
IsDetached s answers entries = (answers ≡ []) × (entries ≡ Detach s ∷ [])

-- at most one answer, and no entry
abbrev pub IsLeftOpen : List Heard → List Entry → Type 0
IsLeftOpen answers entries = (entries ≡ []) × ((answers ≡ []) ⊎ ((answer : Heard) × (answers ≡ answer ∷ [])))

-- How a session ends: for these last answers of its link with these last entries, and whether its last texts were sent
-- in part alone. Where no ticket is left, the entries break off.
abbrev pub Ends : ℕ → Served → List Heard → List Entry → Bool → Type 0
Ends s served.Closed answers entries cut = IsDetachedAt s heard.Closed answers entries × (cut ≡ false)
Ends s served.TooBig answers entries cut = IsDetachedAt s heard.TooBig answers entries × (cut ≡ false)
Ends s served.Binary answers entries cut = IsDetachedAt s heard.Binary answers entries × (cut ≡ false)
Ends s served.Overrun answers entries cut = (IsCutOff s answers entries ⊎ IsToldLast s answers entries) × (cut ≡ false)
Ends s served.Shut answers entries cut = IsCutOff s answers entries × (cut ≡ false)
Ends s served.Over answers entries cut = (answers ≡ heard.Quiet ∷ []) × (entries ≡ Take s ∷ Detach s ∷ []) × (cut ≡ false)
Ends s served.Fault answers entries cut =
    (IsDetachedAt s heard.Failed answers entries × (cut ≡ false)) ⊎ (IsDetached s answers entries × (cut ≡ true))
Ends s served.Memory answers entries cut = (IsCutOff s answers entries × (cut ≡ false)) ⊎ IsDetached s answers entries
Ends s (served.Spent ticket) answers entries cut =
    (ticket ≡ limit) × (IsLeftOpen answers entries ⊎ IsToldLast s answers entries)

-- The answers of a link and the entries of its session after the attach: so many after which it goes on, and the end.
pub record Connection (s : ℕ) (end : Served) (answers : List Heard) (entries : List Entry) (cut : Bool) : Type 0 where
  pub front : List Heard
  pub last : List Heard
  pub rest : List Entry
  pub go_on : AllGoOn front
  pub answered : answers ≡ front ++ last
  pub left : entries ≡ turns s front ++ rest
  pub ends : Ends s end last rest cut

-- what was sent of the texts that were handed out: all of them, or the first
abbrev pub SentOf : Bool → List (List ℕ) → List (List ℕ) → Type 0
SentOf false sent texts = sent ≡ texts
SentOf true sent texts = Begins sent texts

-- ---- closes

-- the close code of an end, if it has one (RFC 6455, section 7.4.1)
abbrev pub code_of : Served → Option ℕ
code_of served.Closed = None
code_of served.TooBig = Some 1009
code_of served.Binary = Some 1003
code_of served.Overrun = Some 1008
code_of served.Shut = Some 1000
code_of served.Over = Some 1000
code_of served.Fault = None
code_of (served.Spent ticket) = None
code_of served.Memory = None

-- ---- causes

-- the end of a session that was gone before its turn
abbrev pub end_of : Gone → Served
end_of (gone.Lost Overrun) = served.Overrun
end_of (gone.Lost Memory) = served.Memory
end_of gone.Shut = served.Shut

-- the end of a session whose link answered so to a send
abbrev pub end_at : LinkFault → Served
end_at faults.Failed = served.Fault
end_at faults.Memory = served.Memory
