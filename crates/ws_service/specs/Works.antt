-- Works that were done.
use Rattle.std.specs.Prelude.{◌≡◌, ◌<◌, ℕ, List, length, slice_index_or}

-- each of these was done in its place, where this says of one what it was and what it is then
abbrev pub AreDone : {W : Type 0} → (W → W → Type 0) → List W → List W → Type 0
AreDone {W} does old new =
    (length new ≡ length old)
    × ((i : ℕ) (d : W) → i < length old → does (slice_index_or old i d) (slice_index_or new i d))
