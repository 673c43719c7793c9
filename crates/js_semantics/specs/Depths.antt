-- How the active frames stand in a term: each is a `frame` around the part about to be reduced, and no other part has
-- one.
use Rattle.std.specs.Prelude.{◌≡◌, ℕ, suc, ◌+◌, ◌≤◌, length, Some}
use Rattle.js_heap.specs.BuiltIns.{script_scope}
use Rattle.js_semantics.specs.Terms.{frame, Term, done, standing, part, Terms, end, more}
use Rattle.js_semantics.specs.State.{Frame, State, Move, goes, travels, has_effect, is_full}
use Rattle.js_semantics.specs.Functions.{Program}
use Rattle.js_semantics.specs.Frames.{scopes_at, frames, frame_at, depth}
use Rattle.js_semantics.specs.Run.{Run, running, over}
use Rattle.js_semantics.specs.Claims.{OfProgram}

-- no active call stands anywhere in a term
abbrev mutual
  -- no active call stands in a term
  pub HasNoFrame : Term → Type 0
  HasNoFrame (done v) = Unit {0}
  HasNoFrame (standing v place) = Unit {0}
  HasNoFrame (part (frame node a) now later) = ⊥
  HasNoFrame (part f now later) = HaveNoFrame now × HaveNoFrame later

  -- no active call stands in any of these terms
  pub HaveNoFrame : Terms → Type 0
  HaveNoFrame end = Unit {0}
  HaveNoFrame (more t ts) = HasNoFrame t × HaveNoFrame ts

-- the frames around the part about to be reduced
abbrev mutual
  -- how many frames are around the part about to be reduced of a term
  pub calls : Term → ℕ
  calls (done v) = 0
  calls (standing v place) = 0
  calls (part (frame node a) now later) = suc (calls_of now)
  calls (part f now later) = calls_of now

  -- how many frames are around it, in the first of these parts that isn't done
  pub calls_of : Terms → ℕ
  calls_of end = 0
  calls_of (more (done v) ts) = calls_of ts
  calls_of (more (standing v place) ts) = 0
  calls_of (more (part f now later) ts) = calls (part f now later)

-- only around the part about to be reduced are there frames
abbrev mutual
  -- frames stand in a term only around the part about to be reduced
  pub IsFramed : Term → Type 0
  IsFramed (done v) = Unit {0}
  IsFramed (standing v place) = Unit {0}
  IsFramed (part f now later) = AreFramed now × HaveNoFrame later

  -- frames stand in these parts only around what is about to be reduced in the first that isn't done
  pub AreFramed : Terms → Type 0
  AreFramed end = Unit {0}
  AreFramed (more (done v) ts) = AreFramed ts
  AreFramed (more (standing v place) ts) = HaveNoFrame ts
  AreFramed (more (part f now later) ts) = IsFramed (part f now later) × HaveNoFrame ts

-- no active call stands in the sources of a program
abbrev pub ProgramHasNoFrame : Program → Type 0
ProgramHasNoFrame p = OfProgram HasNoFrame p

-- the state has the frames of the term, above so many others
pub record Agrees (b : ℕ) (t : Term) (s : State) : Type 0 where
  pub framed : IsFramed t
  pub counted : length s.frames ≡ b + calls t

-- what a completion leaves behind has no frame any more
abbrev pub MoveAgrees : ℕ → Move Term → Type 0
MoveAgrees b (goes t s told) = Agrees b t s
MoveAgrees b (travels c s) = length s.frames ≡ b
MoveAgrees b (has_effect s) = Unit {0}
MoveAgrees b (is_full what s) = Unit {0}

-- a run that isn't over has the frames of its term, above so many others
abbrev pub RunAgrees : ℕ → Run → Type 0
RunAgrees b (running t s) = Agrees b t s
RunAgrees b (over f s) = Unit {0}

-- Each active frame has its scope, and is found at its depth from the top.
pub record ListsFrames (t : Term) (s : State) : Type 0 where
  pub one_scope_each : length (scopes_at script_scope t) ≡ suc (depth s)
  pub all_listed : length (frames script_scope t s) ≡ suc (depth s)
  pub each_found : (d : ℕ) → d ≤ depth s → (f : Frame) × (frame_at d script_scope t s ≡ Some f)

-- a run that isn't over lists its frames so
abbrev pub RunListsFrames : Run → Type 0
RunListsFrames (running t s) = ListsFrames t s
RunListsFrames (over f s) = Unit {0}
