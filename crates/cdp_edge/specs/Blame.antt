-- The count of a shelf's faults and the calls that raised it.
use Rattle.std.specs.Prelude.{◌<◌, ◌≡◌, ◌⊎◌, ◌==◌, ◌+◌, ℕ, List, [], ◌∷◌, ◌++◌, if◌then◌else◌}

-- a call of a shelf
pub data Call : Type 0 where
  -- a read of the file of this name
  Read : List ℕ → Call
  -- a store under this name
  Store : List ℕ → Call

-- how often calls have failed, and those calls, in order
pub record Faults : Type 0 where
  pub count : ℕ
  pub calls : List Call

-- one more fault, by this call; at the greatest u64 nothing is counted any more
abbrev pub Blames : Call → Faults → Faults → Type 0
Blames call old new =
    ((old.count < new.count) × (new.calls ≡ old.calls ++ call ∷ []))
    ⊎ ((old.count ≡ 0xffff_ffff_ffff_ffff) × (new ≡ old))

-- no fault so far
abbrev pub no_faults : Faults
no_faults = record { count = 0; calls = [] }

-- the faults with one more, by this call; at the greatest u64 nothing is counted any more
abbrev pub blamed : Call → Faults → Faults
blamed call old =
    if old.count == 0xffff_ffff_ffff_ffff then old else record { count = old.count + 1; calls = old.calls ++ call ∷ [] }
