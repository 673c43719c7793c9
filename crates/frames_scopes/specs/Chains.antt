-- Chains of scopes, which end where a scope has none around it.
use Rattle.std.specs.Prelude.{◌≡◌, ◌<◌, ℕ, Bool, true, List, [], ◌∷◌, Option, Some, None}
use Rattle.js_heap.specs.declared.value.Addr.{Addr}
use Rattle.js_heap.specs.declared.value.Addr.TheVariants.{Base, Scratch}
use Rattle.js_heap.specs.declared.cell.Cell.{Cell}
use Rattle.js_heap.specs.declared.cell.Cell.TheVariants as cells
use Rattle.js_heap.specs.BuiltIns.{script_scope}
use Rattle.js_heap.specs.World.{World, read_cell}
use Rattle.js_semantics.specs.Terms.{Term}
use Rattle.js_semantics.specs.State.{Frame, State, Move, goes, travels, has_effect, is_full}
use Rattle.js_semantics.specs.Frames.{as_local, ListedScope, listed_as, still_inside, scope_chain, frame_at}
use Rattle.js_semantics.specs.Run.{Run, running, over}
use Rattle.frames_scopes.specs.Scopes.{ScopeParts, scope_parts}

-- ---- whole chains

-- A list has all scopes from one outward: each is the one around that before it, listed by what made it and by whether
-- no scope of a call came before, and the list ends where there is none around, and nowhere else.
abbrev pub IsChain : World → Bool → Option Addr → List ListedScope → Type 0
IsChain w inside None [] = Unit {0}
IsChain w inside None (l ∷ ls) = ⊥
IsChain w inside (Some a) [] = ⊥
IsChain w inside (Some a) (l ∷ ls) =
    (s : ScopeParts)
    × (scope_parts (read_cell w a) ≡ Some s)
    × (l ≡ record { kind = listed_as s.kind inside; scope = a })
    × IsChain w (still_inside s.kind inside) s.outer ls

-- the scopes of a frame with this innermost one are all that are around it
abbrev pub HasWholeChain : World → Addr → Type 0
HasWholeChain w a = IsChain w true (Some a) (scope_chain w a)

-- no scope of a list is listed as the frame's own call
abbrev pub HasNoLocal : List ListedScope → Type 0
HasNoLocal [] = Unit {0}
HasNoLocal (l ∷ ls) = (l.kind ≡ as_local → ⊥) × HasNoLocal ls

-- at most one scope of a list is listed as the frame's own call
abbrev pub HasOneLocal : List ListedScope → Type 0
HasOneLocal [] = Unit {0}
HasOneLocal (l ∷ ls) = (l.kind ≡ as_local → HasNoLocal ls) × HasOneLocal ls

-- ---- worlds whose scopes are within older ones

-- an address was given before another; those of evaluations come behind the program's
abbrev pub IsOlder : Addr → Addr → Type 0
IsOlder (Base i) (Base j) = i < j
IsOlder (Base i) (Scratch j) = Unit {0}
IsOlder (Scratch i) (Base j) = ⊥
IsOlder (Scratch i) (Scratch j) = i < j

-- the scope around a cell at an address, where the cell is a scope and has one, is older than the address
abbrev pub IsWithinOlder : Addr → Option Cell → Type 0
IsWithinOlder a (Some (cells.Bindings kind name (Some outer) names)) = IsOlder outer a
IsWithinOlder a c = Unit {0}

-- the program's own run has no cells of evaluations
abbrev pub HasOwnCells : Option ℕ → List Cell → Type 0
HasOwnCells None cs = cs ≡ []
HasOwnCells (Some start) cs = Unit {0}

-- the scope around each scope is older than it
pub record IsNested (w : World) : Type 0 where
  pub outward : (a : Addr) → IsWithinOlder a (read_cell w a)
  pub own : HasOwnCells w.start w.scratch

-- the scope around each scope is older than it in the world of a move
abbrev pub MoveNested : {T : Type 0} → Move T → Type 0
MoveNested (goes t s told) = IsNested s.world
MoveNested (travels c s) = IsNested s.world
MoveNested (has_effect s) = IsNested s.world
MoveNested (is_full what s) = IsNested s.world

-- ---- runs

-- the scopes of each active frame are all that are around its innermost one
abbrev pub HasWholeChains : Term → State → Type 0
HasWholeChains t s = (d : ℕ) (f : Frame) → frame_at d script_scope t s ≡ Some f → HasWholeChain s.world f.scope

-- the scopes of each active frame are all around its innermost one, in each configuration of a run but the end
abbrev pub RunHasWholeChains : Run → Type 0
RunHasWholeChains (running t s) = HasWholeChains t s
RunHasWholeChains (over f s) = Unit {0}
