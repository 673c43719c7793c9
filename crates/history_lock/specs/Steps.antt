-- What each kind of step tells the pass that makes it.
use Rattle.std.specs.Prelude.{◌≡◌, ◌≢◌, ℕ, ◌+◌, ◌<◌, ◌≤◌, List, [], ◌∷◌, ◌++◌, length, true, false, Some, Option as Opt}
use Rattle.atomic_table.specs.Table.{Me, Step}
use Rattle.history_lock.specs.declared.view.View.{View}
use Rattle.history_lock.specs.Histories.{IsSpent, limit, has, by, longer, Begins}
use Rattle.history_lock.specs.Views.{drawn, looked, advanced, refused_view}

module _ {E : Type 0} where
  -- a view has the same and more behind it, of which nothing is its own
  abbrev pub SeesMore : View E → View E → Type 0
  SeesMore v w = (between : List (ℕ × E)) × (w.seen ≡ v.seen ++ between) × ((x : ℕ) → has x v.numbers ≡ true → by x between ≡ [])

  -- without a split, what a pass that answers for the first n has seen is theirs
  abbrev pub OnlyInitial : View E → Type 0
  OnlyInitial v = ((x : ℕ) → x < v.initial → has x v.numbers ≡ true) → v.splits ≡ 0 → (x : ℕ) → v.initial ≤ x → by x v.seen ≡ []

  -- without a split, a pass that answers for the first n, and was refused a ticket, has seen a history after which none is
  -- left
  abbrev pub KnowsSpent : View E → Type 0
  KnowsSpent v = ((x : ℕ) → x < v.initial → has x v.numbers ≡ true) → v.splits ≡ 0 → v.refused ≡ true → IsSpent v.seen

module _ {S E : Type 0} where
  -- so many tickets are drawn where the word was the number expected
  abbrev pub Drawn : Step (Opt S) → Me (Opt S) (View E) → ℕ → Me (Opt S) (View E) → Type 0
  Drawn s v found w = (found ≤ limit) × (w.1 ≡ v.1)
      × ((tickets : ℕ) → found ≡ s.first → 0 < tickets → s.second ≡ found + tickets → w.0 ≡ drawn v.0 found tickets)
      × (found ≡ s.first → s.second ≡ found → w.0 ≡ v.0)
      × (found ≢ s.first → w.0 ≡ v.0)

  -- the history has the entries, and the tickets are served
  abbrev pub Advanced : List E → Step (Opt S) → Me (Opt S) (View E) → ℕ → Me (Opt S) (View E) → Type 0
  Advanced ending s v found w = (found + s.first ≤ limit) × (w.1 ≡ []) × ((es : List E) → ending ≡ es → w.0 ≡ advanced v.0 es) × OnlyInitial w.0

  -- where all tickets are drawn the pass is refused one
  abbrev pub Refused : Step (Opt S) → Me (Opt S) (View E) → ℕ → Me (Opt S) (View E) → Type 0
  Refused s v found w = (w.1 ≡ v.1) × (found ≡ limit → w.0 ≡ refused_view v.0) × (found ≢ limit → w.0 ≡ v.0)
      × KnowsSpent w.0

  -- a mark on a berth changes nothing that a pass knows or holds
  abbrev pub Marked : Step (Opt S) → Me (Opt S) (View E) → ℕ → Me (Opt S) (View E) → Type 0
  Marked s v found w = w ≡ v

  -- the first number that it may give is new; where two passes were joined, the longer list has both, each with just its own entries
  abbrev pub Recalled : Step (Opt S) → Me (Opt S) (View E) → ℕ → Me (Opt S) (View E) → Type 0
  Recalled s v found w = (w.0 ≡ v.0) × (w.1 ≡ v.1)
      × (0 < v.0.stride → (v.0.initial ≤ v.0.base) × (has v.0.base v.0.numbers ≡ false) × (by v.0.base v.0.seen ≡ []))
      × (v.0.seen ≡ longer v.0.own_seen v.0.other_seen → Begins v.0.own_seen v.0.seen × Begins v.0.other_seen v.0.seen
      × ((x : ℕ) → has x v.0.own_numbers ≡ true → by x v.0.seen ≡ by x v.0.own_seen)
      × ((x : ℕ) → has x v.0.other_numbers ≡ true → by x v.0.seen ≡ by x v.0.other_seen))
      × ((x : ℕ) → has x v.0.own_numbers ≡ true → has x v.0.other_numbers ≡ false)
      × OnlyInitial v.0 × KnowsSpent v.0

module _ {S E : Type 0} (stands : S → List (ℕ × E) → Type 0) where
  -- the turn has come: all of the history is seen, and the slot has a state that stands for it
  abbrev pub Comes : Me (Opt S) (View E) → Me (Opt S) (View E) → Type 0
  Comes v w =
      (w.0 ≡ looked v.0 w.0.seen true) × (length w.0.seen < limit) × SeesMore v.0 w.0 × OnlyInitial w.0
      × ((x : S) × (w.1 ≡ (0, Some x) ∷ []) × stands x w.0.seen)

  -- the turn comes where the ticket is served; else more may be seen
  abbrev pub Looked : Me (Opt S) (View E) → ℕ → Me (Opt S) (View E) → Type 0
  Looked v found w =
      (found ≡ v.0.ticket → Comes v w)
      × (found ≢ v.0.ticket → (w.0 ≡ looked v.0 w.0.seen false) × (w.1 ≡ v.1) × SeesMore v.0 w.0)
