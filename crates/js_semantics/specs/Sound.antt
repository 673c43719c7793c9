-- Sound configurations: all that a residual term, a frame or a completion names is live in the world and of the right
-- kind.
use Rattle.std.specs.Prelude.{◌≡◌, ℕ, List, [], ◌∷◌, Option, Some, None}
use Rattle.js_heap.specs.declared.value.Addr.{Addr}
use Rattle.js_heap.specs.declared.value.Value.{Value}
use Rattle.js_heap.specs.declared.value.Value.TheVariants as values
use Rattle.js_heap.specs.declared.built_in.BuiltIn.{BuiltIn}
use Rattle.js_heap.specs.Cells.{kind_of}
use Rattle.js_heap.specs.World.{World, read_cell}
use Rattle.js_heap.specs.Worlds.{Leads, SoundValue, SoundScope, SoundIfSome, SoundNames, SoundCell, SoundChange, IsSound, Later}
use Rattle.js_heap.specs.BuiltIns.{script_scope, heap_full_error, function_value}
use Rattle.js_semantics.specs.Terms.{Completion, throws, returns, breaks, continues, Form, script, enter_for, enter_for_of, block, scoped, frame, loop, list_of, turn_of, body_of, ending, function, method, Term, done, standing, part, Terms, end, more}
use Rattle.js_semantics.specs.State.{Frame, State, Action, go, raise, leave, make, write, print, take_line, set_here, push_frame, pop_frame, Move, goes, travels, has_effect, is_full}
use Rattle.js_semantics.specs.Functions.{Program}
use Rattle.js_semantics.specs.Evaluation.{Argument, given, made_of, Answer, a_result, a_throw}
use Rattle.js_semantics.specs.Run.{Finish, ended, threw, by_effect, by_full, Run, running, over}

-- the value of a completion is live, where it has one
abbrev pub SoundCompletion : World → Completion → Type 0
SoundCompletion w (throws v place) = SoundValue w v
SoundCompletion w (returns v) = SoundValue w v
SoundCompletion w breaks = Unit {0}
SoundCompletion w continues = Unit {0}

-- the value of the completion that a `finally` keeps is live, where it keeps one
abbrev pub SoundKept : World → Option Completion → Type 0
SoundKept w None = Unit {0}
SoundKept w (Some c) = SoundCompletion w c

-- the scopes and values that a form names are live
abbrev pub SoundForm : World → Form → Type 0
SoundForm w (script number names) = SoundNames w names
SoundForm w (enter_for node constant names) = SoundNames w names
SoundForm w (enter_for_of node b) = SoundIfSome w b.value
SoundForm w (block names) = SoundNames w names
SoundForm w (scoped a) = SoundScope w (Some a)
SoundForm w (frame node a) = SoundScope w (Some a)
SoundForm w (loop stage scope) = SoundScope w scope
SoundForm w (list_of b) = SoundIfSome w b.value
SoundForm w (turn_of b i) = SoundIfSome w b.value
SoundForm w (body_of b i) = SoundIfSome w b.value
SoundForm w (ending kept) = SoundKept w kept
SoundForm w (function f) = SoundNames w f.names
SoundForm w (method f) = SoundNames w f.names
SoundForm w _ = Unit {0}

-- all that the forms and values of a term name is live
abbrev mutual
  -- all that a term names is live
  pub SoundTerm : World → Term → Type 0
  SoundTerm w (done v) = SoundValue w v
  SoundTerm w (standing v place) = SoundValue w v
  SoundTerm w (part f now later) = SoundForm w f × SoundTerms w now × SoundTerms w later

  -- all that these terms name is live
  pub SoundTerms : World → Terms → Type 0
  SoundTerms w end = Unit {0}
  SoundTerms w (more t ts) = SoundTerm w t × SoundTerms w ts

-- all that the terms of a program's sources name is live
abbrev pub SoundProgram : World → Program → Type 0
SoundProgram w [] = Unit {0}
SoundProgram w (t ∷ ts) = SoundTerm w t.tree × SoundProgram w ts

-- a frame's `this` and its scope are live
abbrev pub SoundFrame : World → Frame → Type 0
SoundFrame w f = SoundValue w f.receiver × SoundScope w (Some f.scope)

-- the `this` and the scope of each frame are live
abbrev pub SoundFrames : World → List Frame → Type 0
SoundFrames w [] = Unit {0}
SoundFrames w (f ∷ fs) = SoundFrame w f × SoundFrames w fs

-- the cells that steps name by themselves
pub record HasBuiltIns (w : World) : Type 0 where
  pub functions : (f : BuiltIn) → SoundValue w (function_value f)
  pub full_error : SoundValue w (values.Object heap_full_error)
  pub scripts : SoundScope w (Some script_scope)

-- the world is sound, has its built-in cells, and all that the program and the frames name is live in it
pub record SoundState (p : Program) (s : State) : Type 0 where
  pub world : IsSound s.world
  pub built_ins : HasBuiltIns s.world
  pub program : SoundProgram s.world p
  pub frames : SoundFrames s.world s.frames
  pub outer : SoundValue s.world s.outer_this

-- what an action makes, writes and ends in is sound where it comes to that
abbrev pub SoundAction : World → Action → Type 0
SoundAction w (go t) = SoundTerm w t
SoundAction w (raise v) = SoundValue w v
SoundAction w (leave c) = SoundCompletion w c
SoundAction w (make c k) =
    SoundCell w c
    × ((v : World) (a : Addr) → Later w v → Leads (λ kind. kind ≡ kind_of c) (read_cell v a) → SoundAction v (k a))
SoundAction w (write a c k) = SoundChange w c × ((v : World) → Later w v → SoundAction v k)
SoundAction w (print vs text) = Unit {0}
SoundAction w (take_line k) = (line : Option (List ℕ)) → SoundAction w (k line)
SoundAction w (set_here m k) = SoundAction w k
SoundAction w (push_frame f k) = SoundFrame w f × SoundAction w k
SoundAction w (pop_frame k) = SoundAction w k

-- a step leaves a sound state, and a sound term or completion
abbrev pub SoundMove : Program → Move Term → Type 0
SoundMove p (goes t s told) = SoundState p s × SoundTerm s.world t
SoundMove p (travels c s) = SoundState p s × SoundCompletion s.world c
SoundMove p (has_effect s) = SoundState p s
SoundMove p (is_full what s) = SoundState p s

-- the value with which a run ended is live
abbrev pub SoundFinish : World → Finish → Type 0
SoundFinish w (ended v) = SoundValue w v
SoundFinish w (threw v place) = SoundValue w v
SoundFinish w by_effect = Unit {0}
SoundFinish w (by_full what) = Unit {0}

-- a run whose state and term are sound
abbrev pub SoundRun : Program → Run → Type 0
SoundRun p (running t s) = SoundState p s × SoundTerm s.world t
SoundRun p (over f s) = SoundState p s × SoundFinish s.world f

-- ---- evaluations

-- what a given argument names is live; what is made of a JSON value will be
abbrev pub SoundArguments : World → List Argument → Type 0
SoundArguments w [] = Unit {0}
SoundArguments w (given v ∷ rest) = SoundValue w v × SoundArguments w rest
SoundArguments w (made_of j ∷ rest) = SoundArguments w rest

-- a world, a program, a scope and a `this` in which an evaluation may begin
pub record IsReady (p : Program) (w : World) (scope : Addr) (receiver : Value) : Type 0 where
  pub world : IsSound w
  pub built_ins : HasBuiltIns w
  pub program : SoundProgram w p
  pub scope_lives : SoundScope w (Some scope)
  pub receiver_lives : SoundValue w receiver

-- the answer's value is live in the world after it, which is sound, and so is the program of later evaluations
abbrev pub SoundAnswer : Program → Answer → Type 0
SoundAnswer p (a_result v w) = SoundValue w v × IsSound w × SoundProgram w p
SoundAnswer p (a_throw v w) = SoundValue w v × IsSound w × SoundProgram w p
SoundAnswer p _ = Unit {0}
