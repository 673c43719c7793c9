-- The rows of a history, a pass that may take a turn, and what a joined pass has of the others.
use Rattle.std.specs.Prelude.{◌≡◌, ℕ, List, [], ◌∷◌, ◌++◌, true, false, Some, None, Option}
use Rattle.history_lock_trial.specs.declared.log.Row.{Row}
use Rattle.history_lock.specs.Histories.{Begins, has}
use Rattle.history_lock.specs.Passes.{KeepsWhole, LockId, PassState}

-- the row that an entry adds
abbrev pub row_of : Option Row → List Row
row_of None = []
row_of (Some row) = row ∷ []

-- the rows of all entries, in order
abbrev pub rows_of : List (ℕ × Option Row) → List Row
rows_of [] = []
rows_of (e ∷ es) = row_of e.1 ++ rows_of es

-- a pass of this lock that hasn't the turn
abbrev pub IsReady : {E : Type 0} → LockId → PassState E → Type 0
IsReady lock p = (p.lock ≡ lock) × (p.in_turn ≡ false)

-- a pass has all that another has seen, answers for its numbers, and has just the entries of these that the other has seen
pub record Covers {E : Type 0} (all other : PassState E) : Type 0 where
  pub seen : Begins other.seen all.seen
  pub numbers : (x : ℕ) → has x other.numbers ≡ true → has x all.numbers ≡ true
  pub entries : KeepsWhole other all.seen
