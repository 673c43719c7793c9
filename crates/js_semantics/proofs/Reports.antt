-- What a run of some scripts reports: its steps, how it ends, and what it prints.
use Rattle.std.specs.Prelude.{ℕ, List}
use Rattle.js_tree.specs.Trees.{Statements}
use Rattle.js_semantics.specs.Terms.{Terms}
use Rattle.js_heap.specs.Values.{shown}
use Rattle.js_semantics.specs.Run.{ended, threw, Run, running, over, program_of, start, steps, steps_taken, printed_of}
use Rattle.js_semantics.proofs.Clean.{clean_scripts}

pub data Ending : Type 0 where
  still_running : Ending
  ended_normally : Ending
  threw_text : List ℕ → Ending

pub data Report : Type 0 where
  report : ℕ → Ending → List (List ℕ) → Report

abbrev ending_of : Run → Ending
ending_of (running t s) = still_running
ending_of (over (ended v) s) = ended_normally
ending_of (over (threw v place) s) = threw_text (shown s.world v)
ending_of (over f s) = still_running

abbrev pub report_of : ℕ → Run → Report
report_of n r = report n (ending_of r) (printed_of r)

-- a run of at most n steps
abbrev ran_terms : ℕ → Terms → List (List ℕ) → Report
ran_terms n ts input =
    report_of (steps_taken n (program_of ts) (start ts input)) (steps n (program_of ts) (start ts input))

abbrev pub ran : List Statements → List (List ℕ) → Report
ran scripts input = ran_terms 300 (clean_scripts scripts) input

pub data Outcome : Type 0 where
  outcome : Ending → List (List ℕ) → Outcome

abbrev pub outcome_of : Run → Outcome
outcome_of r = outcome (ending_of r) (printed_of r)

-- how the run of some scripts ends within 2,000 steps, and what it prints
abbrev pub ended_as : List Statements → List (List ℕ) → Outcome
ended_as scripts input =
    outcome_of (steps 2000 (program_of (clean_scripts scripts)) (start (clean_scripts scripts) input))
