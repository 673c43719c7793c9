-- What the forms around make of a completion that travels outward.
use Rattle.std.specs.Prelude.{◌≡◌, ℕ, List, [], ◌∷◌, Option, Some, None, slice_get}
use Rattle.js_heap.specs.declared.value.Addr.{Addr}
use Rattle.js_heap.specs.World.{World}
use Rattle.js_semantics.specs.declared.form.Completion.{Completion}
use Rattle.js_semantics.specs.declared.form.Completion.TheVariants.{Throws as throws, Returns as returns, Breaks as breaks, Continues as continues}
use Rattle.js_semantics.specs.State.{travels}
use Rattle.js_machine_actions.specs.Contexts.{Context, state_of}
use Rattle.js_machine_nodes.specs.declared.op.Op.{Op}
use Rattle.js_machine_nodes.specs.declared.op.Op.TheVariants as ops
use Rattle.js_machine_nodes.specs.declared.node.ForOfEntry.{ForOfEntry}
use Rattle.js_machine_nodes.specs.declared.table.NodeTable.{NodeTable}
use Rattle.js_machine_engine.specs.declared.passing.Taking.{Taking}
use Rattle.js_machine_engine.specs.declared.passing.Taking.TheVariants as takings
use Rattle.js_machine_engine.specs.declared.passing.Passing.{Passing}
use Rattle.js_machine_engine.specs.declared.passing.Passing.TheVariants as passings
use Rattle.js_machine_engine.specs.Gaps.{all_risen}
use Rattle.js_machine_engine.specs.Tasks.{Wide, gaps_of, InScopes}

-- ---- which form takes which completion

-- a `try` with its catch takes a throw
abbrev pub passing_try : Completion → Passing
passing_try (throws v place) = passings.Takes (takings.Catches v)
passing_try c = passings.Lets

-- an active call takes a return; every other completion passes it, and its frame is gone
abbrev pub passing_call : Completion → Passing
passing_call (returns v) = passings.Takes (takings.Returns v)
passing_call c = passings.Unframes

-- the turn of a loop takes a `break` and a `continue`
abbrev pub passing_turn : Completion → Passing
passing_turn breaks = passings.Takes takings.Breaks
passing_turn continues = passings.Takes takings.Turns
passing_turn c = passings.Lets

-- a `for .. of` by its entry
abbrev pub passing_entry : Option ForOfEntry → Completion → Passing
passing_entry None c = passings.Lets
passing_entry (Some e) c = passing_turn c

-- whether the form of a task takes a completion, and as what
abbrev pub passing_of : NodeTable → Op → ℕ → Completion → Passing
passing_of t ops.Catching info c = passing_try c
passing_of t ops.CatchingName info c = passing_try c
passing_of t ops.Finishing info c = passings.Takes takings.Keeps
passing_of t ops.Frame info c = passing_call c
passing_of t ops.LoopBody info c = passing_turn c
passing_of t ops.BodyOf info c = passing_entry (slice_get t.for_ofs.items info) c
passing_of t op info c = passings.Lets

-- ---- outward

-- the innermost task takes the completion so; without a task it goes by untaken
abbrev pub TakesSo : NodeTable → List Wide → Completion → Option Taking → Type 0
TakesSo t ws c None = ws ≡ []
TakesSo t [] c (Some k) = ⊥
TakesSo t (w ∷ ws) c (Some k) = passing_of t w.op w.info c ≡ passings.Takes k

-- the tasks that a completion has passed are left, and their frames
pub record HasPassedTasks (t : NodeTable) (c : Completion) (old : List Wide) (before : Context) (new : List Wide)
    (after : Context) : Type 0 where
  pub moves : (ts : List (List ℕ)) (root : Addr) (w : World) (taken : List (List ℕ))
      → all_risen root (gaps_of ts t old) (travels c (state_of w before taken)) ≡ all_risen root (gaps_of ts t new)
      (travels c (state_of w after taken))
  pub scoped : (root : Addr) → InScopes t root old → InScopes t root new
