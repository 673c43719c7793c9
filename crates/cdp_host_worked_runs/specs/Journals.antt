-- What a journal comes to: what each of its runs makes, what the program prints, and what a session is sent.
use Rattle.std.specs.Prelude.{ℕ, List, [], ◌∷◌, Bool, fold}
use Rattle.cdp_host_isolation.specs.Histories as histories
use Rattle.cdp_host_isolation.specs.Histories.{Entry, apply, handed_of}
use Rattle.cdp_host_isolation.specs.Meanings.{longest}
use Rattle.cdp_host_isolation.specs.Protocols.{Protocol}
use Rattle.js_tree.specs.declared.script.Script.{Script}
use Rattle.js_semantics.specs.Run.{Run}
use Rattle.cdp_session.specs.declared.situation.Pause.{Pause}
use Rattle.cdp_session.specs.Sessions.{Session}
use Rattle.cdp_host_turns.specs.declared.state.State.{State}
use Rattle.cdp_host.specs.Histories.{Meaning, begin}
use Rattle.cdp_host.specs.Programs.{printed_of}
use Rattle.cdp_host.specs.Protocols.{protocol}
use Rattle.cdp_host.specs.States.{state_of}
use Rattle.cdp_host.specs.Steps.{Step}

-- one line of a journal
pub data Call : Type 0 where
  attach : Call
  -- a session's number and the text of its command
  tell : ℕ → List ℕ → Call
  take : ℕ → Call
  detach : ℕ → Call
  -- the most steps that the program may make, and the moment at which it makes them
  run : ℕ → ℕ → Call

-- what a journal comes to: the steps that each run made, with the state that it left; the texts that the program
-- printed; and those that a session was handed
pub record Outcome : Type 0 where
  pub runs : List (ℕ × State)
  pub printed : List (List ℕ)
  pub sent : List (List ℕ)

-- ---- any protocol of a run

abbrev pub Debugger : Type 0
Debugger = Protocol Run Step Pause Session

-- the entry that a line leaves; a run is the longest that may be
abbrev pub entry_of : Debugger → Meaning Run → Call → Entry
entry_of P m attach = histories.Attach
entry_of P m (tell s text) = histories.Tell s text
entry_of P m (take s) = histories.Take s
entry_of P m (detach s) = histories.Detach s
entry_of P m (run most moment) = histories.Ran (longest P moment most m) moment []

-- the entries of a journal, in order
abbrev pub entries_of : Debugger → Meaning Run → List Call → List Entry
entries_of P m [] = []
entries_of P m (call ∷ calls) = entry_of P m call ∷ entries_of P (apply P m (entry_of P m call)) calls

-- the steps of each run, and the state that it left
abbrev pub runs_of : Debugger → Meaning Run → List Entry → List (ℕ × State)
runs_of P m [] = []
runs_of P m (histories.Ran n moment gone ∷ entries) =
    (n, state_of (apply P m (histories.Ran n moment gone)))
    ∷ runs_of P (apply P m (histories.Ran n moment gone)) entries
runs_of P m (entry ∷ entries) = runs_of P (apply P m entry) entries

-- what entries come to, for the session of this number
abbrev pub outcome_of : Debugger → Meaning Run → ℕ → List Entry → Outcome
outcome_of P m s entries =
    record {
      runs = runs_of P m entries;
      printed = printed_of (fold (apply P) m entries).program;
      sent = handed_of P s m entries;
    }

-- what a journal comes to, for the session of this number
abbrev pub outcome_by : Debugger → Meaning Run → ℕ → List Call → Outcome
outcome_by P m s calls = outcome_of P m s (entries_of P m calls)

-- ---- the protocol of scripts

-- what a journal of these scripts comes to, for the session of this number; the program may be to wait
abbrev pub outcome : List Script → List (List ℕ) → Bool → ℕ → List Call → Outcome
outcome scripts input wait s calls = outcome_by (protocol scripts) (begin scripts input wait) s calls
