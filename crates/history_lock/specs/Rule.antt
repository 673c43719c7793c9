-- One history for all passes: what the lock keeps between any two steps.
use Rattle.std.specs.Prelude.{◌≡◌, ◌⊎◌, ℕ, ◌+◌, ◌<◌, ◌≤◌, List, [], ◌∷◌, length, true, false, Some, Option as Opt}
use mathlib.Core.Option.{Option, none, some}
use lib.ListN.{get_elem?}
use Rattle.atomic_table.specs.Table.{State}
use Rattle.history_lock.specs.declared.view.View.{View}
use Rattle.history_lock.specs.Histories.{limit, has, by, Begins}
use Rattle.history_lock.specs.Views.{held, Reserved}

-- the sum of f over a list
abbrev pub total : {A : Type 0} → (A → ℕ) → List A → ℕ
total f [] = 0
total f (x ∷ xs) = f x + total f xs

module _ {E : Type 0} where
  -- what holds of one pass, where the lock began with n passes, so many tickets are served, this is the ticket word and this the history
  pub record Fits (n served ticket : ℕ) (log : List (ℕ × E)) (v : View E) : Type 0 where
    -- it has seen a beginning, and so had the two that were joined into it
    pub seen : Begins v.seen log
    pub own_seen : Begins v.own_seen log
    pub other_seen : Begins v.other_seen log
    -- its tickets are drawn and not served yet
    pub waits : 0 < v.tickets → (served ≤ v.ticket) × (v.ticket + v.tickets ≤ ticket)
    -- where it was refused a ticket all are drawn
    pub refused : v.refused ≡ true → limit ≤ ticket
    -- the turn is that of the ticket that is served, and all of the history is seen
    pub turn : v.in_turn ≡ true → (0 < v.tickets) × (v.ticket ≡ served) × (v.seen ≡ log)
    -- each entry with a number that it answers for is in its own list
    pub whole : (x : ℕ) → has x v.numbers ≡ true → by x log ≡ by x v.seen
    pub own_whole : (x : ℕ) → has x v.own_numbers ≡ true → by x log ≡ by x v.own_seen
    pub other_whole : (x : ℕ) → has x v.other_numbers ≡ true → by x log ≡ by x v.other_seen
    pub own : (x : ℕ) → has x v.own_numbers ≡ true → has x v.numbers ≡ true
    pub other : (x : ℕ) → has x v.other_numbers ≡ true → has x v.numbers ≡ true
    pub disjoint : (x : ℕ) → has x v.own_numbers ≡ true → has x v.other_numbers ≡ true → ⊥
    pub initial : (x : ℕ) → has x v.numbers ≡ true → v.initial ≡ n
    pub named : 0 < v.tickets → has v.number v.numbers ≡ true
    -- the numbers that it may give have no entries, and those for a split are beyond the first n
    pub unused : (x : ℕ) → Reserved v x → by x log ≡ []
    pub beyond : 0 < v.stride → n ≤ v.base

  -- the first ticket of the second pass is one of those of the first
  abbrev pub Meets : View E → View E → Type 0
  Meets v w = (0 < w.tickets) × (v.ticket ≤ w.ticket) × (w.ticket < v.ticket + v.tickets)

  -- all numbers are among the first n, those of the passes and those of the history
  abbrev pub IsWithin : ℕ → List (View E) → List (ℕ × E) → Type 0
  IsWithin n views log = ((i : ℕ) (v : View E) (x : ℕ) → get_elem? views i ≡ some v → has x v.numbers ≡ true → x < n) × ((x : ℕ) → n ≤ x → by x log ≡ [])

  -- some pass that answers for one of the first n was split
  abbrev pub WasSplit : ℕ → List (View E) → Type 0
  WasSplit n views = (i : ℕ) × (v : View E) × (y : ℕ) × (get_elem? views i ≡ some v) × (y < n) × (has y v.numbers ≡ true) × (0 < v.splits)

  -- where a number beyond the first n is there, a pass that answers for one of these was split
  abbrev pub Accounts : ℕ → List (View E) → List (ℕ × E) → Type 0
  Accounts n views log = IsWithin n views log ⊎ WasSplit n views

module _ {S E : Type 0} (stands : S → List (ℕ × E) → Type 0) where
  -- the slot has a state, which stands for the history, and nobody has the turn; or it is away, and somebody has
  abbrev pub Holds : List (Option (Opt S)) → List (View E) → List (ℕ × E) → Type 0
  Holds homes views log =
      ((x : S) × (homes ≡ some (Some x) ∷ []) × stands x log × ((i : ℕ) (v : View E) → get_elem? views i ≡ some v → v.in_turn ≡ false))
      ⊎ ((homes ≡ none ∷ []) × ((i : ℕ) × (v : View E) × (get_elem? views i ≡ some v) × (v.in_turn ≡ true)))

  -- what is kept of this history, where so many tickets are served
  pub record KeptOf (n served : ℕ) (log : List (ℕ × E)) (s : State (Opt S) (View E)) : Type 0 where
    -- the ticket word is the number of tickets drawn, the serving word that of tickets served; after them are the berths
    pub words : Begins ((served + total held s.views) ∷ served ∷ []) s.words
    pub bound : served + total held s.views ≤ limit
    -- a ticket leaves at most one entry, and two leave at least one
    pub few : (length log ≤ served) × (served ≤ length log + length log)
    pub each : (i : ℕ) (v : View E) → get_elem? s.views i ≡ some v → Fits n served (served + total held s.views) log v
    -- tickets differ
    pub tickets : (i j : ℕ) (v w : View E) → get_elem? s.views i ≡ some v → get_elem? s.views j ≡ some w → Meets v w → i ≡ j
    -- no two passes answer for one number
    pub apart : (i j : ℕ) (v w : View E) (x : ℕ) → get_elem? s.views i ≡ some v → get_elem? s.views j ≡ some w → has x v.numbers ≡ true → has x w.numbers ≡ true → i ≡ j
    -- nor may two give one number, nor one that is answered for
    pub reserves : (i j : ℕ) (v w : View E) (x : ℕ) → get_elem? s.views i ≡ some v → get_elem? s.views j ≡ some w → Reserved v x → Reserved w x → i ≡ j
    pub fresh : (i j : ℕ) (v w : View E) (x : ℕ) → get_elem? s.views i ≡ some v → get_elem? s.views j ≡ some w → has x v.numbers ≡ true → Reserved w x → ⊥
    pub slot : Holds s.homes s.views log

  -- there is one history
  abbrev pub IsOneHistory : ℕ → State (Opt S) (View E) → Type 0
  IsOneHistory n s = (log : List (ℕ × E)) × (served : ℕ) × KeptOf n served log s × Accounts n s.views log
