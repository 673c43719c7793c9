-- How many calls are active (ECMA-262, 9.4).
--
-- A call of a function pushes an execution context, in which the function's body is evaluated, and the end of the body
-- removes it (10.2.1). So each body that was entered and isn't at its end has one. Below them a script has one of its
-- own (16.1.6), and an evaluation has none (this project's own). A call of a built-in function pushes and removes its
-- context by one step (10.3.1).
use Rattle.std.specs.Prelude.{◌≡◌, ℕ, ◌+◌}
use Rattle.js_heap.specs.declared.value.Addr.{Addr}
use Rattle.js_heap.specs.declared.value.Value.{Value}
use Rattle.js_heap.specs.World.{World, Tried, fine, effect, full}
use Rattle.js_semantics.specs.Claims.{OfProgram}
use Rattle.js_semantics.specs.Evaluation.{evaluation_state}
use Rattle.js_semantics.specs.Functions.{Program}
use Rattle.js_semantics.specs.Run.{Run, running, over, run_of, steps_in}
use Rattle.js_semantics.specs.Terms.{Term, done, standing, part, Terms, end, more}
use Rattle.js_semantics.specs.declared.form.Form.{Form}
use Rattle.js_semantics.specs.declared.form.Form.TheVariants.{Frame as frame}

-- the contexts that a form stands for: the body of a call for one
abbrev pub contexts_of : Form → ℕ
contexts_of (frame node a) = 1
contexts_of f = 0

-- the bodies that were entered and aren't at their end, wherever they stand
abbrev mutual
  -- the calls that are active in a term
  pub active_calls : Term → ℕ
  active_calls (done v) = 0
  active_calls (standing v place) = 0
  active_calls (part f now later) = contexts_of f + (active_calls_in now + active_calls_in later)

  -- the calls that are active in these terms
  pub active_calls_in : Terms → ℕ
  active_calls_in end = 0
  active_calls_in (more t ts) = active_calls t + active_calls_in ts

-- no call is active in a term
abbrev pub IsAtRest : Term → Type 0
IsAtRest t = active_calls t ≡ 0

-- no call is active in a source of a program
abbrev pub ProgramIsAtRest : Program → Type 0
ProgramIsAtRest p = OfProgram IsAtRest p

-- the calls that are active in a run; in one that is over there are none
abbrev pub calls_in : Run → ℕ
calls_in (running t s) = active_calls t
calls_in (over f s) = 0

-- ---- evaluations

-- the run of an evaluation after so many steps, in a scope with a `this`: that of a term whose cells are in a world
abbrev pub evaluation_after : ℕ → Program → Addr → Value → World → Term → Run
evaluation_after k p scope receiver w t = steps_in k p scope (run_of t (evaluation_state w receiver))

-- the calls that are active in the run of what is ready to be evaluated; none where the scratch was full before
abbrev pub calls_while : Tried Term → (World → Term → Run) → ℕ
calls_while (fine t w) run = calls_in (run w t)
calls_while effect run = 0
calls_while (full what) run = 0
