-- A host's program and its sessions, in the words of a program and any sessions that debug it.
use Rattle.std.specs.Prelude.{ℕ, List, ◌++◌, Bool, true, false, Option}
use Rattle.cdp_host_isolation.specs.Protocols.{Protocol}
use Rattle.cdp_host_isolation.specs.Texts.{Texts}
use Rattle.js_tree.specs.declared.script.Script.{Script}
use Rattle.js_semantics.specs.Run.{Run}
use Rattle.cdp_session.specs.declared.asks.Asks.{Asks}
use Rattle.cdp_session.specs.declared.asks.Asks.TheVariants.{Nothing, Wake, Resume, Leave}
use Rattle.cdp_session.specs.declared.situation.Pause.{Pause}
use Rattle.cdp_session_messages.specs.Outboxes.{fits}
use Rattle.cdp_session.specs.Replies.{AnsweredText, answer_of, answer_texts, outcome_of}
use Rattle.cdp_session_messages.specs.Results.{resumed_text}
use Rattle.cdp_session.specs.Sessions.{Session, emptied, fresh, if_enabled}
use Rattle.cdp_session.specs.Situations.{Situation, Standing}
use Rattle.cdp_session.specs.Stops.{resumed, stopped, stop_texts}
use Rattle.pure_eval.specs.Workspaces.{begun}
use Rattle.cdp_session.specs.Code.{code_of}
use Rattle.cdp_host.specs.Programs.{arrival_of, is_over, next}
use Rattle.cdp_host.specs.Standings.{standing_of}
use Rattle.cdp_host.specs.Steps.{Step, end_texts, names_stop, print_texts, print_told, seen_behind, step_of, told}

-- ---- what a command sees, and what it asks

-- the program, paused there if it is, as it stands
abbrev pub situation : List Script → Option Pause → Standing → Situation
situation scripts q s = record { scripts = scripts; paused = q; standing = s }

-- a command asks a paused program to go on
abbrev pub asks_to_resume : Asks → Bool
asks_to_resume Nothing = false
asks_to_resume Wake = false
asks_to_resume Resume = true
asks_to_resume Leave = false

-- a command asks a program that waits to begin
abbrev pub asks_to_wake : Asks → Bool
asks_to_wake Nothing = false
asks_to_wake Wake = true
asks_to_wake Resume = false
asks_to_wake Leave = false

-- the answer to a text of a program that stands there
abbrev pub answer_at : List Script → Option Pause → Run → List ℕ → Session → AnsweredText
answer_at scripts q r text x = answer_of (situation scripts q (standing_of scripts r)) x text

-- ---- a session, as a host asks for it

-- the stop of this number of a program that stands there
abbrev pub pause_at : List Script → ℕ → Run → Pause
pause_at scripts number r = record { number = number; depth = (arrival_of scripts r).depth }

-- a session of this number, whose evaluations begin with the code of the scripts
abbrev pub begun_with : List Script → ℕ → Session
begun_with scripts number = fresh number (begun (code_of scripts))

-- a session has the debugger enabled
abbrev pub has_enabled : Session → Bool
has_enabled x = x.rules.enabled

-- the texts that wait for it
abbrev pub waiting_for : Session → List (List ℕ)
waiting_for x = x.outbox

-- no more texts wait for a session than may
abbrev pub texts_fit : Session → Bool
texts_fit x = fits x.outbox

-- a session that was told a text
abbrev pub replied : List Script → Option Pause → Run → List ℕ → Session → Session
replied scripts q r text x = (answer_at scripts q r text x).session

-- a text asks the program to go on
abbrev pub asks_on : List Script → Option Pause → Run → List ℕ → Session → Bool
asks_on scripts q r text x = asks_to_resume (answer_at scripts q r text x).asks

-- a text asks a program that waits to begin
abbrev pub asks_begin : List Script → Option Pause → Run → List ℕ → Session → Bool
asks_begin scripts q r text x = asks_to_wake (answer_at scripts q r text x).asks

-- a session that was told of a step at a moment
abbrev pub step_told : List Script → ℕ → Step → Session → Session
step_told scripts moment t x = told (seen_behind scripts t) moment t x

-- a session that was told of a stop of this number after a step
abbrev pub stop_told : List Script → ℕ → Step → Session → Session
stop_told scripts number t x = stopped (seen_behind scripts t) number t.arrival x

-- the program of these scripts, and the sessions that debug it
abbrev pub protocol : List Script → Protocol Run Step Pause Session
protocol scripts = record {
  next = next scripts;
  is_over = is_over;
  tells = step_of scripts;
  pause = pause_at scripts;
  fresh = begun_with scripts;
  is_enabled = has_enabled;
  outbox = waiting_for;
  fits = texts_fit;
  emptied = emptied;
  reply = replied scripts;
  resumes = asks_on scripts;
  wakes = asks_begin scripts;
  resumed = resumed;
  told = step_told scripts;
  names = names_stop;
  stopped = stop_told scripts;
}

-- ---- the texts that it is told

-- the texts of an answer
abbrev pub reply_texts : List Script → Option Pause → Run → List ℕ → Session → List (List ℕ)
reply_texts scripts q r text x = answer_texts (outcome_of (situation scripts q (standing_of scripts r)) x text)

-- the text of a resume
abbrev pub resume_texts : Session → List (List ℕ)
resume_texts x = if_enabled x resumed_text

-- the texts of what a step printed, and of the end of the run
abbrev pub step_texts : List Script → ℕ → Step → Session → List (List ℕ)
step_texts scripts moment t x =
    print_texts (seen_behind scripts t) t.values moment x
    ++ end_texts (seen_behind scripts t) t.ending moment (print_told (seen_behind scripts t) t.values moment x)

-- the text of a stop
abbrev pub stop_texts_of : List Script → ℕ → Step → Session → List (List ℕ)
stop_texts_of scripts number t x = stop_texts (seen_behind scripts t) number t.arrival x

-- the texts of each kind that a session is told
abbrev pub texts : (scripts : List Script) → Texts (protocol scripts)
texts scripts =
    record {
      reply = reply_texts scripts;
      resumed = resume_texts;
      told = step_texts scripts;
      stopped = stop_texts_of scripts;
    }
