-- What doors leave: entries of clients, and at most a shut.
use Rattle.std.proofs.Common.{◌≡◌, inl, inr, ℕ, List, [], ◌∷◌, ◌++◌, Bool, false, Option as Opt, Some, None, refl, ap, sym, subst, ◌∙◌}
use Rattle.cdp_host_isolation.specs.Histories.{Entry, Attach, Tell, Take, Detach, Ran, Shut}
use Rattle.cdp_host_isolation.specs.Makers.{by}
use Rattle.cdp_edge_server.specs.Contents.{Tended}
use Rattle.cdp_edge_server.specs.Heard as heard
use Rattle.cdp_edge_server.specs.Heard.{Heard}
use Rattle.cdp_host_turns.specs.Debuggings.{Debugging}
use Rattle.ws_service.specs.Connections.{Ends, IsCutOff, IsToldLast, turns, turns_at}
use Rattle.ws_service.specs.Doors.{EndsDoor}
use Rattle.ws_service.specs.Joins.{IsServedDoor}
use Rattle.ws_service.specs.Serving.{has_failed, shuts}
use Rattle.ws_service.specs.Shutdowns.{shut_entries}
use Rattle.ws_service.specs.Visits.{AreActs, DoorAct, IsUnattached, Looked, Refused, Visited, entries_of}
use Rattle.ws_service.specs.declared.door.DoorEnd.{DoorEnd}
use Rattle.ws_service.specs.declared.door.DoorEnd.TheVariants as ends
use Rattle.ws_service.specs.declared.served.Served.{Served}
use Rattle.ws_service.specs.declared.served.Served.TheVariants as served
use Rattle.ws_service.specs.declared.shutdown.NotShut.{NotShut}

-- ---- kinds of entries

-- each of these entries is so
abbrev pub Each : (Entry → Type 0) → List Entry → Type 0
Each P [] = Unit {0}
Each P (entry ∷ entries) = P entry × Each P entries

-- an entry of a client makes no steps, and shuts nothing
abbrev pub IsOfClient : Entry → Type 0
IsOfClient Attach = Unit {0}
IsOfClient (Tell s text) = Unit {0}
IsOfClient (Take s) = Unit {0}
IsOfClient (Detach s) = Unit {0}
IsOfClient (Ran steps moment lost) = ⊥
IsOfClient Shut = ⊥

abbrev pub AreOfClients : List Entry → Type 0
AreOfClients entries = Each IsOfClient entries

-- an entry makes no steps of the program
abbrev pub MakesNoSteps : Entry → Type 0
MakesNoSteps Attach = Unit {0}
MakesNoSteps (Tell s text) = Unit {0}
MakesNoSteps (Take s) = Unit {0}
MakesNoSteps (Detach s) = Unit {0}
MakesNoSteps (Ran steps moment lost) = ⊥
MakesNoSteps Shut = Unit {0}

-- it doesn't shut the program
abbrev pub ShutsNothing : Entry → Type 0
ShutsNothing entry = shuts entry ≡ false

pub each-append : (P : Entry → Type 0) (es fs : List Entry) → Each P es → Each P fs → Each P (es ++ fs)
each-append P [] fs a b = b
each-append P (entry ∷ es) fs a b = (a.0, each-append P es fs a.1 b)

pub each-so : (P Q : Entry → Type 0) → ((entry : Entry) → P entry → Q entry) → (es : List Entry) → Each P es
    → Each Q es
each-so P Q so [] all = tt
each-so P Q so (entry ∷ es) all = (so entry all.0, each-so P Q so es all.1)

pub each-are : (P : Entry → Type 0) (all entries : List Entry) → all ≡ entries → Each P entries → Each P all
each-are P all entries is each = subst (Each P) (sym is) each

stepless : (entry : Entry) → IsOfClient entry → MakesNoSteps entry
stepless Attach is = tt
stepless (Tell s text) is = tt
stepless (Take s) is = tt
stepless (Detach s) is = tt
stepless (Ran steps moment lost) is = absurd is
stepless Shut is = absurd is

shutless : (entry : Entry) → IsOfClient entry → ShutsNothing entry
shutless Attach is = refl
shutless (Tell s text) is = refl
shutless (Take s) is = refl
shutless (Detach s) is = refl
shutless (Ran steps moment lost) is = absurd is
shutless Shut is = absurd is

-- ---- entries of clients

client-at : (s : ℕ) (answer : Heard) → AreOfClients (turns_at s answer)
client-at s (heard.Text text) = (tt, (tt, tt))
client-at s heard.Binary = tt
client-at s heard.TooBig = tt
client-at s heard.Quiet = (tt, tt)
client-at s heard.Closed = tt
client-at s heard.Failed = tt

client-in-turns : (s : ℕ) (answers : List Heard) → AreOfClients (turns s answers)
client-in-turns s [] = tt
client-in-turns s (answer ∷ answers) =
    each-append IsOfClient (turns_at s answer) (turns s answers) (client-at s answer) (client-in-turns s answers)

client-detached : (s : ℕ) (entries : List Entry) → entries ≡ Detach s ∷ [] → AreOfClients entries
client-detached s entries is = each-are IsOfClient entries (Detach s ∷ []) is (tt, tt)

client-cut-off : (s : ℕ) (answers : List Heard) (entries : List Entry) → IsCutOff s answers entries → AreOfClients entries
client-cut-off s answers entries (inl (answer, goes, is, left)) = client-detached s entries left
client-cut-off s answers entries (inr (text, is, left)) = each-are IsOfClient entries (Tell s text ∷ Detach s ∷ []) left (tt, (tt, tt))

client-told-last : (s : ℕ) (answers : List Heard) (entries : List Entry) → IsToldLast s answers entries
    → AreOfClients entries
client-told-last s answers entries (text, is, left) = each-are IsOfClient entries (Tell s text ∷ []) left (tt, tt)

client-at-end : (s : ℕ) (end : Served) (answers : List Heard) (entries : List Entry) (cut : Bool)
    → Ends s end answers entries cut → AreOfClients entries
client-at-end s served.Closed answers entries cut e = client-detached s entries e.0.1
client-at-end s served.TooBig answers entries cut e = client-detached s entries e.0.1
client-at-end s served.Binary answers entries cut e = client-detached s entries e.0.1
client-at-end s served.Overrun answers entries cut (inl e, whole) = client-cut-off s answers entries e
client-at-end s served.Overrun answers entries cut (inr e, whole) = client-told-last s answers entries e
client-at-end s served.Shut answers entries cut e = client-cut-off s answers entries e.0
client-at-end s served.Over answers entries cut e = each-are IsOfClient entries (Take s ∷ Detach s ∷ []) e.1 (tt, (tt, tt))
client-at-end s served.Fault answers entries cut (inl e) = client-detached s entries e.0.1
client-at-end s served.Fault answers entries cut (inr e) = client-detached s entries e.0.1
client-at-end s served.Memory answers entries cut (inl e) = client-cut-off s answers entries e.0
client-at-end s served.Memory answers entries cut (inr e) = client-detached s entries e.1
client-at-end s (served.Spent ticket) answers entries cut (is, inl e) = each-are IsOfClient entries [] e.0 tt
client-at-end s (served.Spent ticket) answers entries cut (is, inr e) = client-told-last s answers entries e

client-unattached : (d : Debugging) (h : List (ℕ × Entry)) (spent : Type 0) (end : Served) (entries : List Entry)
    → IsUnattached d h spent end entries → AreOfClients entries
client-unattached d h spent served.Shut entries is = each-are IsOfClient entries (Take 0 ∷ []) is.0 (tt, tt)
client-unattached d h spent served.Memory entries is = each-are IsOfClient entries (Take 0 ∷ []) is (tt, tt)
client-unattached d h spent (served.Spent ticket) entries is = each-are IsOfClient entries [] is.1 tt
client-unattached d h spent served.Closed entries is = absurd is
client-unattached d h spent served.TooBig entries is = absurd is
client-unattached d h spent served.Binary entries is = absurd is
client-unattached d h spent served.Overrun entries is = absurd is
client-unattached d h spent served.Over entries is = absurd is
client-unattached d h spent served.Fault entries is = absurd is

-- what is done at a door leaves no others
client-in-acts : (d : Debugging) (k : ℕ) (h : List (ℕ × Entry)) (spent : Type 0) (acts : List DoorAct)
    → AreActs d k h spent acts
    → AreOfClients (entries_of acts)
client-in-acts d k h spent [] are = tt
client-in-acts d k h spent (Visited visit ∷ acts) are =
    let c = are.0.connection in
    let s = visit.session in (
      tt,
      each-append IsOfClient visit.entries (entries_of acts)
          (each-are IsOfClient visit.entries (turns s c.front ++ c.rest) c.left
          (each-append IsOfClient (turns s c.front) c.rest (client-in-turns s c.front)
          (client-at-end s visit.end c.last c.rest visit.cut c.ends)))
          (client-in-acts d k h spent acts are.1),
    )
client-in-acts d k h spent (Refused refusal ∷ acts) are =
    each-append IsOfClient refusal.entries (entries_of acts)
    (client-unattached d h spent refusal.end refusal.entries are.0.unattached) (client-in-acts d k h spent acts are.1)
client-in-acts d k h spent (Looked ∷ acts) are = (tt, client-in-acts d k h spent acts are.1)

-- ---- what a door leaves

-- a last shut makes no steps, and stands only where the door failed
last-stepless : (unshut : Opt NotShut) → Each MakesNoSteps (shut_entries unshut)
last-stepless None = (tt, tt)
last-stepless (Some unshut) = tt

stepless-last : (d : Debugging) (k : ℕ) (h : List (ℕ × Entry)) (spent : Type 0) (end : DoorEnd) (last : List Entry)
    (old new : ℕ) → EndsDoor d k h spent end last old new → Each MakesNoSteps last
stepless-last d k h spent (ends.Over state) last old new e = each-are MakesNoSteps last [] e.0 tt
stepless-last d k h spent (ends.Fault unshut) last old new e =
    each-are MakesNoSteps last (shut_entries unshut) e.0 (last-stepless unshut)
stepless-last d k h spent (ends.Spent ticket) last old new e = each-are MakesNoSteps last [] e.0 tt

shutless-last : (d : Debugging) (k : ℕ) (h : List (ℕ × Entry)) (spent : Type 0) (end : DoorEnd) (last : List Entry)
    (old new : ℕ) → has_failed (Some end) ≡ false → EndsDoor d k h spent end last old new → Each ShutsNothing last
shutless-last d k h spent (ends.Over state) last old new well e = each-are ShutsNothing last [] e.0 tt
shutless-last d k h spent (ends.Fault unshut) last old new well e = absurd cc
shutless-last d k h spent (ends.Spent ticket) last old new well e = each-are ShutsNothing last [] e.0 tt

-- a door that was served leaves no entry that makes steps
pub stepless-door : (d : Debugging) (k : ℕ) (h : List (ℕ × Entry)) (spent : Type 0) (door : Tended)
    (ended : Opt DoorEnd)
    → IsServedDoor d k h spent door ended → Each MakesNoSteps (by k h)
stepless-door d k h spent door ended s =
    each-are MakesNoSteps (by k h) (entries_of s.acts ++ s.last) s.own
    (each-append MakesNoSteps (entries_of s.acts) s.last
    (each-so IsOfClient MakesNoSteps stepless (entries_of s.acts) (client-in-acts d k h spent s.acts s.are))
    (stepless-last d k s.ends.0 spent s.end s.last 0 door.faults s.ends.2))

-- and where it didn't fail none that shuts the program
pub shutless-door : (d : Debugging) (k : ℕ) (h : List (ℕ × Entry)) (spent : Type 0) (door : Tended)
    (ended : Opt DoorEnd)
    → has_failed ended ≡ false → IsServedDoor d k h spent door ended → Each ShutsNothing (by k h)
shutless-door d k h spent door ended well s =
    each-are ShutsNothing (by k h) (entries_of s.acts ++ s.last) s.own
    (each-append ShutsNothing (entries_of s.acts) s.last
    (each-so IsOfClient ShutsNothing shutless (entries_of s.acts) (client-in-acts d k h spent s.acts s.are))
    (shutless-last d k s.ends.0 spent s.end s.last 0 door.faults (ap has_failed (sym s.is_end) ∙ well) s.ends.2))
