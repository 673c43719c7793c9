-- What a step of the program tells, and what it does to a session.
use Rattle.std.specs.Prelude.{ℕ, Bool, List, [], not, ◌&&◌, ◌||◌, is_some, if◌then◌else◌, Option, Some, None}
use Rattle.js_tree.specs.declared.script.Script.{Script}
use Rattle.js_heap.specs.declared.value.Value.{Value}
use Rattle.js_semantics.specs.Run.{Run}
use Rattle.stepping.specs.declared.arrival.Arrival.{Arrival}
use Rattle.cdp_session.specs.Consoles.{printed, printed_texts}
use Rattle.cdp_session.specs.Endings.{ended, ended_texts}
use Rattle.cdp_session.specs.Sessions.{Session}
use Rattle.cdp_session.specs.Situations.{Situation, Standing}
use Rattle.cdp_session.specs.Stops.{cause_of, stopped}
use Rattle.cdp_session.specs.declared.ending.Ending.{Ending}
use Rattle.cdp_host.specs.Programs.{arrival_of, next, prints_next}
use Rattle.cdp_host.specs.Standings.{ending_of, standing_of}

-- what a step tells: how the program stands behind it, where it arrived, the values that it printed, if it printed, how
-- the run ended, if it did, and whether it was the first step of a program that a client let begin
pub record Step : Type 0 where
  pub standing : Standing
  pub arrival : Arrival
  pub values : Option (List Value)
  pub ending : Option Ending
  pub first : Bool

-- the next step of a program
abbrev pub step_of : List Script → Bool → Run → Step
step_of scripts first r = record {
  standing = standing_of scripts (next scripts r);
  arrival = arrival_of scripts (next scripts r);
  values = prints_next scripts r;
  ending = ending_of scripts (next scripts r);
  first = first;
}

-- what a session sees of the program behind a step
abbrev pub seen_behind : List Script → Step → Situation
seen_behind scripts step = record { scripts = scripts; paused = None; standing = step.standing }

-- ---- stops

-- the start rule names the first step of a program that a client let begin, for a session that has the debugger
-- enabled; not where that step ends the run
abbrev pub is_started : Step → Session → Bool
is_started step x = step.first && (x.rules.enabled && not step.standing.over)

-- a rule of the session names a stop behind the step, or the start rule does
abbrev pub names_stop : Step → Session → Bool
names_stop step x = is_some (cause_of step.standing step.arrival x) || is_started step x

-- ---- what a session is told

-- a session that is told of values that were printed at a moment, if some were
abbrev pub print_told : Situation → Option (List Value) → ℕ → Session → Session
print_told s None moment x = x
print_told s (Some values) moment x = printed s values moment x

-- a session that is told of the end of the run at a moment, if it has ended
abbrev pub end_told : Situation → Option Ending → ℕ → Session → Session
end_told s None moment x = x
end_told s (Some ending) moment x = ended s ending moment x

-- a session that is told of what a step printed, and of the end of the run
abbrev pub told : Situation → ℕ → Step → Session → Session
told s moment step x = end_told s step.ending moment (print_told s step.values moment x)

-- a session that is told of a step, and then of the stop of this number, where it names one
abbrev pub session_behind : Situation → ℕ → ℕ → Step → Session → Session
session_behind s number moment step x =
    if names_stop step x then stopped s number step.arrival (told s moment step x) else told s moment step x

-- ---- the texts of that

-- of values that were printed at a moment, if any were
abbrev pub print_texts : Situation → Option (List Value) → ℕ → Session → List (List ℕ)
print_texts s None moment x = []
print_texts s (Some values) moment x = printed_texts s values moment x

-- of the end of the run at a moment, if it ended
abbrev pub end_texts : Situation → Option Ending → ℕ → Session → List (List ℕ)
end_texts s None moment x = []
end_texts s (Some ending) moment x = ended_texts s ending moment x
