-- What every step keeps.
use Rattle.std.specs.Prelude.{◌≡◌, ℕ, List, ◌++◌, length, take}
use Rattle.js_heap.specs.World.{World, Tried, fine, effect, full}
use Rattle.js_heap.specs.Worlds.{Keeps}
use Rattle.js_semantics.specs.State.{State, Move, goes, travels, has_effect, is_full}
use Rattle.js_semantics.specs.Run.{Run, state_of}
use Rattle.js_semantics.specs.Evaluation.{ScratchSpace, Answer, a_result, a_throw, an_effect, is_full_of, spent}

-- a text list that begins with another
abbrev pub IsPrefix : List (List ℕ) → List (List ℕ) → Type 0
IsPrefix part whole = (rest : List (List ℕ)) × (whole ≡ part ++ rest)

-- A later state: what was printed stays, in front of what is printed since; each cell stays and keeps its kind; in an
-- evaluation all cells that aren't its own stay as they are.
pub record Follows (s t : State) : Type 0 where
  pub output : IsPrefix s.printed t.printed
  pub cells : Keeps s.world t.world

-- the state after a step follows the one before it, in whichever way the step ends
abbrev pub MoveFollows : {T : Type 0} → State → Move T → Type 0
MoveFollows s (goes x t told) = Follows s t
MoveFollows s (travels c t) = Follows s t
MoveFollows s (has_effect t) = Follows s t
MoveFollows s (is_full what t) = Follows s t

-- the state of a run follows that of another
abbrev pub RunFollows : Run → Run → Type 0
RunFollows q r = Follows (state_of q) (state_of r)

-- the program's cells stay as they are, and so do the cells that the session made before
pub record Undisturbed (w : World) (x : ScratchSpace) (v : World) : Type 0 where
  pub program : v.base ≡ w.base
  pub earlier : take (length x.cells) v.scratch ≡ x.cells

-- the world after an evaluation is undisturbed, where its answer has one
abbrev pub AnswerKeeps : World → ScratchSpace → Answer → Type 0
AnswerKeeps w x (a_result value v) = Undisturbed w x v
AnswerKeeps w x (a_throw value v) = Undisturbed w x v
AnswerKeeps w x an_effect = Unit {0}
AnswerKeeps w x (is_full_of what) = Unit {0}
AnswerKeeps w x spent = Unit {0}

-- both are fine, and leave the same room, or both are refused in the same way, though perhaps by different counts
abbrev pub SameOutcome : {A : Type 0} → Tried A → Tried A → Type 0
SameOutcome (fine a v) (fine b u) = v.room ≡ u.room
SameOutcome effect effect = Unit {0}
SameOutcome (full what) (full other) = Unit {0}
SameOutcome _ _ = ⊥
