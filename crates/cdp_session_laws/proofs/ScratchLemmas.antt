-- What the evaluations of a session keep, and what is left of its room.
use Rattle.std.proofs.Common.{◌≡◌, ℕ, ◌+◌, ◌-◌, ◌≤◌, Bool, true, false, List, [], ◌∷◌, ◌++◌, length, take, ap, arith, if◌then◌else◌}
use Rattle.std.proofs.lemmas.List.{length-take-le, length_push}
use Rattle.js_heap.specs.declared.cell.Cell.{Cell}
use Rattle.js_heap.specs.ScratchSpaces.{copied_world}
use Rattle.js_heap.specs.World.{World}
use Rattle.js_semantics.specs.Functions.{Program}
use Rattle.js_semantics.specs.Makers.{MadeExpression}
use Rattle.js_semantics_limits.specs.Balances.{KeepsSource, units_in}
use Rattle.pure_eval.specs.Workspaces.{Workspace, begun, emptied_workspace, source_kept, with_evaluated}
use Rattle.cdp_session_laws.specs.Limits.{IsWithinScratch}

-- the cells that are kept and those that may still be made are as many as may be, and one more for each source that is
-- kept; so are their units, without the more
pub record IsBalanced (w : Workspace) : Type 0 where
  pub scripts : w.scripts ≤ length w.program
  pub cells : length w.scratch.cells + w.scratch.room.cells + w.scripts ≡ 65536 + length w.program
  pub units : units_in w.scratch.cells + w.scratch.room.units ≡ 1048576

-- where nothing is kept
nothing-kept : (m n : ℕ) → 0 + m + n ≡ m + n
nothing-kept m n = omega arith

no-units : (m : ℕ) → 0 + m ≡ m
no-units m = omega arith

same-size : (m : ℕ) → m ≤ m
same-size m = omega arith

pub begun-balanced : (p : Program) → IsBalanced (begun p)
begun-balanced p =
    record { scripts = same-size (length p); cells = nothing-kept 65536 (length p); units = no-units 1048576 }

emptied-counts : (m n k : ℕ) → k ≡ n → 0 + m + n ≡ m + k
emptied-counts m n k same = omega (arith, same)

pub emptied-balanced : (w : Workspace) → IsBalanced w → IsBalanced (emptied_workspace w)
emptied-balanced w h =
    let taken : length (take w.scripts w.program) ≡ w.scripts = length-take-le w.scripts w.program h.scripts in
    record {
      scripts = omega (arith, taken);
      cells = emptied-counts 65536 w.scripts (length (take w.scripts w.program)) taken;
      units = no-units 1048576;
    }

-- kept as it is, or emptied
pub chosen-balanced : (b : Bool) (w : Workspace) → IsBalanced w → IsBalanced (if b then w else emptied_workspace w)
chosen-balanced true w h = h
chosen-balanced false w h = emptied-balanced w h

-- ---- behind an evaluation

-- a cell more in the same room, and a source more
grown-counts : (m a b c d e f n p q : ℕ)
    → d + e + f ≡ a + b + c + 1
    → d ≡ a
    → q ≡ p + 1
    → b + c + n ≡ m + p
    → e + f + n ≡ m + q
grown-counts m a b c d e f n p q cells based longer before = omega (arith, cells, based, longer, before)

grown-units : (m a b c d e f : ℕ) → d + e + f ≡ a + b + c → d ≡ a → b + c ≡ m → e + f ≡ m
grown-units m a b c d e f units based before = omega (arith, units, based, before)

longer-still : (n p q : ℕ) → q ≡ p + 1 → n ≤ p → n ≤ q
longer-still n p q longer low = omega (arith, longer, low)

pub evaluated-balanced : (x : Workspace) (e : MadeExpression) (v w : World)
    → KeepsSource (copied_world v x.scratch) w
    → w.base ≡ v.base
    → IsBalanced x
    → IsBalanced (with_evaluated e w x)
evaluated-balanced x e v w k based h =
    let program : Program = x.program ++ source_kept x.scratch e ∷ [] in
    let longer : length program ≡ length x.program + 1 = length_push x.program (source_kept x.scratch e) in
    let as_many : length w.base ≡ length v.base = ap (λ (cs : List Cell). length cs) based in
    let as_heavy : units_in w.base ≡ units_in v.base = ap units_in based in
    record {
      scripts = longer-still x.scripts (length x.program) (length program) longer h.scripts;
      cells =
          grown-counts 65536 (length v.base) (length x.scratch.cells) x.scratch.room.cells (length w.base)
          (length w.scratch) w.room.cells x.scripts (length x.program) (length program) k.cells as_many longer h.cells;
      units =
          grown-units 1048576 (units_in v.base) (units_in x.scratch.cells) x.scratch.room.units (units_in w.base)
          (units_in w.scratch) w.room.units k.units as_heavy h.units;
    }

-- ---- what is kept is within the limits

within-cells : (m a b n p : ℕ) → n ≤ p → a + b + n ≡ m + p → a ≤ m + (p - n)
within-cells m a b n p low counts = omega (arith, low, counts)

within-units : (m a b : ℕ) → a + b ≡ m → a ≤ m
within-units m a b counts = omega (arith, counts)

left-of-cells : (m a b n p : ℕ) → n ≤ p → a + b + n ≡ m + p → a + b ≡ m + (p - n)
left-of-cells m a b n p low counts = omega (arith, low, counts)

pub balanced-within : (w : Workspace) → IsBalanced w → IsWithinScratch w
balanced-within w h =
    let kept : ℕ = length w.scratch.cells in
    let room : ℕ = w.scratch.room.cells in
    record {
      cells = within-cells 65536 kept room w.scripts (length w.program) h.scripts h.cells;
      units = within-units 1048576 (units_in w.scratch.cells) w.scratch.room.units h.units;
      cells_left = left-of-cells 65536 kept room w.scripts (length w.program) h.scripts h.cells;
      units_left = h.units;
    }
