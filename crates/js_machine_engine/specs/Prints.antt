-- What the steps of a run print.
use Rattle.std.specs.Prelude.{◌≡◌, ℕ, zero, suc, ◌<◌, List, [], ◌∷◌, ◌++◌, Option, Some, None}
use Rattle.js_heap.specs.declared.value.Addr.{Addr}
use Rattle.js_heap.specs.declared.value.Value.{Value}
use Rattle.js_semantics.specs.Terms.{Term}
use Rattle.js_semantics.specs.State.{StepTold, went, raised, printed_values, Move, goes, travels, has_effect, is_full}
use Rattle.js_semantics.specs.Functions.{Program}
use Rattle.js_semantics.specs.Next.{next}
use Rattle.js_semantics.specs.Run.{Run, running, over, steps_in}
use Rattle.js_machine_engine.specs.declared.run.Why.{Why}
use Rattle.js_machine_engine.specs.declared.run.Why.TheVariants as whys

-- ---- the definition's steps

-- the values that a step tells of as printed, if it prints; `console.log()` prints a line without values
abbrev pub values_told : StepTold → Option (List Value)
values_told went = None
values_told raised = None
values_told (printed_values vs) = Some vs

-- the values that a move tells of as printed, if it prints
abbrev pub values_moved : Move Term → Option (List Value)
values_moved (goes t s told) = values_told told
values_moved (travels c s) = None
values_moved (has_effect s) = None
values_moved (is_full what s) = None

-- the values that the next step of a run prints, if it prints; a run that is over prints nothing
abbrev pub values_printed : Program → Addr → Run → Option (List Value)
values_printed p scope (running t s) = values_moved (next p scope t s)
values_printed p scope (over f s) = None

-- the values that the last of so many steps prints, if it prints
abbrev pub last_printed : ℕ → Program → Addr → Run → Option (List Value)
last_printed zero p scope r = None
last_printed (suc k) p scope r = values_printed p scope (steps_in k p scope r)

-- none of so many steps prints
pub record IsSilent (k : ℕ) (p : Program) (scope : Addr) (r : Run) : Type 0 where
  pub none : (j : ℕ) → j < k → values_printed p scope (steps_in j p scope r) ≡ None

-- the texts printed before a step and behind it: one more where these are its values, the same where it prints nothing
abbrev pub PrintsOneText : Option (List Value) → List (List ℕ) → List (List ℕ) → Type 0
PrintsOneText None before after = after ≡ before
PrintsOneText (Some vs) before after = (text : List ℕ) × (after ≡ before ++ text ∷ [])

-- ---- what a run of steps tells of it

-- what the last step prints, where this is why it stops: its values, or nothing; want of memory says nothing
abbrev pub PrintsAs : Why → Option (List Value) → Type 0
PrintsAs (whys.Printed vs) o = o ≡ Some vs.items
PrintsAs whys.Memory o = Unit {0}
PrintsAs why o = o ≡ None
