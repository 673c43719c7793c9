-- What contracts see of a lock and of its passes.
use Rattle.std.specs.Prelude.{◌≡◌, ℕ, zero, suc, ◌+◌, ◌<◌, ◌≤◌, List, [], ◌∷◌, ◌++◌, ◌||◌, Bool, true, false}
use Rattle.atomic_table.specs.Seated.{TableId}
use Rattle.history_lock.specs.Histories.{IsSpent, has, by, longer}

-- which lock it is
abbrev pub LockId : Type 0
LockId = TableId

-- a pass: of which lock, its number, the numbers that it answers for, how many passes were split off any of these, what it has seen of the history, whether it has the turn, for how many tickets, whether it was refused one, since all were drawn, and how many passes the lock began with, whose numbers are those below
pub record PassState (E : Type 0) : Type 0 where
  pub lock : LockId
  pub number : ℕ
  pub numbers : List ℕ
  pub splits : ℕ
  pub seen : List (ℕ × E)
  pub in_turn : Bool
  pub tickets : ℕ
  pub refused : Bool
  pub initial : ℕ

module _ {E : Type 0} where
  -- the pass with this number of those that a lock of n passes begins with
  abbrev pub initial_pass : LockId → ℕ → ℕ → PassState E
  initial_pass lock n number = record { lock = lock; number = number; numbers = number ∷ []; splits = 0; seen = []; in_turn = false; tickets = 0; refused = false; initial = n }

  -- the first of them, so many
  abbrev pub initial_passes : LockId → ℕ → ℕ → List (PassState E)
  initial_passes lock n zero = []
  initial_passes lock n (suc k) = initial_passes lock n k ++ initial_pass lock n k ∷ []

  -- the same pass, which may have seen more, taken or left the turn, or been refused a ticket
  abbrev pub IsSamePass : PassState E → PassState E → Type 0
  IsSamePass p q = (q.lock ≡ p.lock) × (q.number ≡ p.number) × (q.numbers ≡ p.numbers) × (q.splits ≡ p.splits) × (q.initial ≡ p.initial)
      × (p.refused ≡ true → q.refused ≡ true)

  -- the second has seen what the first has and more, but no further entry with a number that the first answers for
  abbrev pub Follows : PassState E → PassState E → Type 0
  Follows p q = (between : List (ℕ × E)) × (q.seen ≡ p.seen ++ between) × ((x : ℕ) → has x p.numbers ≡ true → by x between ≡ [])

  -- a pass that answers for all the numbers that the lock began with, and of which none was split off, has seen entries with those numbers alone
  abbrev pub HasInitialOnly : PassState E → Type 0
  HasInitialOnly p = ((x : ℕ) → x < p.initial → has x p.numbers ≡ true) → p.splits ≡ 0 → (x : ℕ) → p.initial ≤ x → by x p.seen ≡ []

  -- a pass that answers for all the numbers that the lock began with, of which none was split off, and that was refused
  -- a ticket, has seen a history after which none is left
  abbrev pub SeesSpent : PassState E → Type 0
  SeesSpent p = ((x : ℕ) → x < p.initial → has x p.numbers ≡ true) → p.splits ≡ 0 → p.refused ≡ true → IsSpent p.seen

  -- the pass after it was refused a ticket
  abbrev pub refused_pass : PassState E → PassState E
  refused_pass p = record p { refused = true }

  -- the pass after a split
  abbrev pub split_once : PassState E → PassState E
  split_once p = record p { splits = p.splits + 1 }

  -- a pass with a number of its own, which has seen what the first has
  abbrev pub split_pass : PassState E → ℕ → PassState E
  split_pass p number = record { lock = p.lock; number = number; numbers = number ∷ []; splits = 0; seen = p.seen; in_turn = false; tickets = 0; refused = false; initial = p.initial }

  -- a number beyond those that the lock began with, for which the pass doesn't answer and of which it has seen no entry
  abbrev pub IsNewNumber : PassState E → ℕ → Type 0
  IsNewNumber p number = (p.initial ≤ number) × (has number p.numbers ≡ false) × (by number p.seen ≡ [])

  -- the two passes joined: it answers for the numbers of both, has seen the longer list, and was refused a ticket where
  -- one of them was
  abbrev pub joined_pass : PassState E → PassState E → PassState E
  joined_pass p q = record p { numbers = p.numbers ++ q.numbers; splits = p.splits + q.splits; seen = longer p.seen q.seen; refused = p.refused || q.refused }

  -- of each number that the pass answers for, the list has just the entries that the pass has seen
  abbrev pub KeepsWhole : PassState E → List (ℕ × E) → Type 0
  KeepsWhole p h = (x : ℕ) → has x p.numbers ≡ true → by x h ≡ by x p.seen
