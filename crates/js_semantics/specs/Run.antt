-- Runs: steps one after another, from the start of the scripts to their end.
use Rattle.std.specs.Prelude.{ℕ, zero, suc, ◌+◌, List, [], ◌∷◌, ◌++◌, length}
use Rattle.js_heap.specs.declared.value.Addr.{Addr}
use Rattle.js_heap.specs.declared.value.Addr.TheVariants.{Base}
use Rattle.js_heap.specs.declared.value.Value.{Value}
use Rattle.js_heap.specs.declared.value.Value.TheVariants as values
use Rattle.js_heap.specs.declared.change.Counted.{Counted}
use Rattle.js_heap.specs.BuiltIns.{script_scope, first_literal, first_world}
use Rattle.js_semantics.specs.Terms.{script_source, SourceMark, Completion, throws, returns, breaks, continues, scripts, literal, Term, done, standing, part, Terms, end, more, settled}
use Rattle.js_semantics.specs.State.{Frame, State, Move, goes, travels, has_effect, is_full}
use Rattle.js_semantics.specs.Functions.{Program}
use Rattle.js_semantics.specs.Rows.{script_frame}
use Rattle.js_semantics.specs.Next.{next}

-- ---- the cells of string literals, which are made before the first step

-- the string literals of a part and of parts, each as its units
abbrev mutual
  -- the string literals of a part, in order
  pub literals : Term → List (List ℕ)
  literals (done v) = []
  literals (standing v s) = []
  literals (part (literal us) now later) = us ∷ []
  literals (part f now later) = literals_of now ++ literals_of later

  -- the string literals of parts, in order
  pub literals_of : Terms → List (List ℕ)
  literals_of end = []
  literals_of (more t ts) = literals t ++ literals_of ts

-- a part and parts, in which each string literal has become the address of its cell
abbrev mutual
  -- the part with the address of its cell in place of each literal, from a number on
  pub with_literals : (ℕ → Addr) → ℕ → Term → Term
  with_literals at n (done v) = done v
  with_literals at n (standing v s) = standing v s
  with_literals at n (part (literal us) now later) = done (values.Text (at n))
  with_literals at n (part f now later) =
      part f (all_with_literals at n now) (all_with_literals at (n + length (literals_of now)) later)

  -- the parts with the addresses of their cells, from a number on for the first literal
  pub all_with_literals : (ℕ → Addr) → ℕ → Terms → Terms
  all_with_literals at n end = end
  all_with_literals at n (more t ts) = more (with_literals at n t) (all_with_literals at (n + length (literals t)) ts)

-- ---- the start

-- the scripts by their numbers from 1 on
abbrev pub program_from : ℕ → Terms → Program
program_from n end = []
program_from n (more t ts) = record { source = script_source n; tree = t } ∷ program_from (n + 1) ts

-- the scripts' terms with the addresses of their literals' cells
abbrev pub placed_scripts : Terms → Terms
placed_scripts ts = all_with_literals (λ n. Base n) first_literal ts

-- the program of some scripts, as far as its functions' code is looked up in it
abbrev pub program_of : Terms → Program
program_of ts = program_from 1 (placed_scripts ts)

-- the bottom frame: the script, at its beginning
abbrev pub bottom_frame : Frame
bottom_frame = script_frame 1

-- the state before the first step: the world with the literals' cells, the bottom frame, and all of the input
abbrev pub first_state : Terms → List (List ℕ) → State
first_state ts input =
    record {
      world = first_world
          (literals_of ts);
      frames = bottom_frame ∷ [];
      outer_this = values.Undefined;
      input = input;
      printed = [];
    }

-- ---- runs

-- how a run ended: normally, by a throw that no catch took, or, of an evaluation alone, by an effect or a full scratch
pub data Finish : Type 0 where
  ended : Value → Finish
  threw : Value → SourceMark → Finish
  by_effect : Finish
  by_full : Counted → Finish

-- a run that goes on, or one that is over, with its state
pub data Run : Type 0 where
  running : Term → State → Run
  over : Finish → State → Run

-- a term that is a value has ended
abbrev pub run_of : Term → State → Run
run_of (done v) s = over (ended v) s
run_of (standing v place) s = running (standing v place) s
run_of (part f now later) s = running (part f now later) s

-- a completion that nothing took
abbrev pub outermost : Completion → Finish
outermost (throws v place) = threw v place
outermost (returns v) = ended v
outermost breaks = ended values.Undefined
outermost continues = ended values.Undefined

-- the run behind a step
abbrev pub run_after : Move Term → Run
run_after (goes t s told) = run_of t s
run_after (travels c s) = over (outermost c) s
run_after (has_effect s) = over by_effect s
run_after (is_full what s) = over (by_full what) s

-- one step of a term in a scope; a run that has ended stays as it is
abbrev pub step_in : Program → Addr → Run → Run
step_in p scope (running t s) = run_after (next p scope t s)
step_in p scope (over f s) = over f s

-- so many steps
abbrev pub steps_in : ℕ → Program → Addr → Run → Run
steps_in zero p scope r = r
steps_in (suc k) p scope r = steps_in k p scope (step_in p scope r)

-- the scripts are in the script scope
abbrev pub step : Program → Run → Run
step p r = step_in p script_scope r

-- a run of scripts, so many steps further
abbrev pub steps : ℕ → Program → Run → Run
steps k p r = steps_in k p script_scope r

-- the start of some scripts with their input lines
abbrev pub start : Terms → List (List ℕ) → Run
start ts input = run_of (settled scripts (placed_scripts ts) end) (first_state ts input)

-- the run of the scripts and the input after k steps
abbrev pub plain : ℕ → Terms → List (List ℕ) → Run
plain k ts input = steps k (program_of ts) (start ts input)

-- the state of a run
abbrev pub state_of : Run → State
state_of (running t s) = s
state_of (over f s) = s

-- what a run has printed
abbrev pub printed_of : Run → List (List ℕ)
printed_of r = (state_of r).printed

-- what k steps have printed
abbrev pub out : ℕ → Terms → List (List ℕ) → List (List ℕ)
out k ts input = printed_of (plain k ts input)

-- ---- what is counted: the steps that a run takes within a bound

-- how many of at most so many steps a run takes before it is over
abbrev pub steps_taken : ℕ → Program → Run → ℕ
steps_taken zero p r = 0
steps_taken (suc k) p (over f s) = 0
steps_taken (suc k) p (running t s) = steps_taken k p (step p (running t s)) + 1
