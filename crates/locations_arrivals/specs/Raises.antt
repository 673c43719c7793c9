-- Where a throw stands: behind the step that raised it, and nowhere else. One that travels, also on behind a `finally`,
-- doesn't stand, since no step raises it anew.
use Rattle.std.specs.Prelude.{◌≡◌, ◌↔◌, ℕ, zero, suc, List, Option, Some, None, IsSome}
use Rattle.js_heap.specs.BuiltIns.{script_scope}
use Rattle.js_semantics.specs.Terms.{Term, Terms}
use Rattle.js_semantics.specs.State.{StepTold, raised, Move, goes, travels, has_effect, is_full}
use Rattle.js_semantics.specs.Functions.{Program}
use Rattle.js_semantics.specs.Next.{next}
use Rattle.js_semantics.specs.Frames.{thrown}
use Rattle.js_semantics.specs.Run.{Run, running, over, program_of, plain}

-- what a step tells where it goes on
abbrev pub told_of : Move Term → Option StepTold
told_of (goes t s told) = Some told
told_of (travels c s) = None
told_of (has_effect s) = None
told_of (is_full what s) = None

-- what the next step of a run tells; one that is over makes none
abbrev pub told_by : Program → Run → Option StepTold
told_by p (running t s) = told_of (next p script_scope t s)
told_by p (over f s) = None

-- a throw stands as the part about to be reduced
abbrev pub HasThrow : Run → Type 0
HasThrow (running t s) = IsSome (thrown t)
HasThrow (over f s) = ⊥

-- No throw stands before the first step; after k + 1 steps one stands exactly where the last of them raised it.
abbrev pub StandsWhereRaised : ℕ → Terms → List (List ℕ) → Type 0
StandsWhereRaised zero ts input = HasThrow (plain 0 ts input) → ⊥
StandsWhereRaised (suc k) ts input = HasThrow (plain (suc k) ts input) ↔ (told_by (program_of ts) (plain k ts input) ≡ Some raised)
