-- What passes know, and how each kind of step changes it.
use Rattle.std.specs.Prelude.{◌≡◌, ◌⊎◌, ℕ, zero, suc, ◌+◌, ◌-◌, ◌<◌, ◌≤◌, List, [], ◌∷◌, ◌++◌, ◌||◌, Bool, true, false, MatchBool, None, Option as Opt}
use Rattle.atomic_table.specs.Table.{Me}
use Rattle.history_lock.specs.declared.view.View.{View}
use Rattle.history_lock.specs.Histories.{has, longer, made}
use Rattle.history_lock.specs.Passes.{LockId, PassState, initial_pass}

-- the i-th of the numbers base, base + stride, and so on
abbrev pub term : ℕ → ℕ → ℕ → ℕ
term base stride zero = base
term base stride (suc i) = term base stride i + stride

module _ {E : Type 0} where
  -- how many tickets it holds
  abbrev pub held : View E → ℕ
  held v = v.tickets

  -- it may still give this number to a pass: to one of those that the lock begins with, but for the last, or to one that is split off
  abbrev pub Reserved : View E → ℕ → Type 0
  Reserved v x = ((v.unopened ≤ x) × (x + 1 < v.initial)) ⊎ ((0 < v.stride) × ((i : ℕ) × (x ≡ term v.base v.stride i)))

  -- a pass that answers for its own number alone, out of turn, with the numbers that it may give
  abbrev pub plain : ℕ → ℕ → List (ℕ × E) → ℕ → ℕ → ℕ → View E
  plain initial number seen unopened base stride = record { number = number; numbers = number ∷ []; splits = 0; seen = seen; tickets = 0; ticket = 0; in_turn = false; refused = false; initial = initial; unopened = unopened; base = base; stride = stride; own_numbers = []; own_seen = []; other_numbers = []; other_seen = [] }

  -- the one that opens the others has the last number
  abbrev pub opening : ℕ → View E
  opening n = plain n (n - 1) [] 0 n 1

  -- a pass that was joined into another answers for nothing
  abbrev pub nobody : View E
  nobody = record { number = 0; numbers = []; splits = 0; seen = []; tickets = 0; ticket = 0; in_turn = false; refused = false; initial = 0; unopened = 0; base = 0; stride = 0; own_numbers = []; own_seen = []; other_numbers = []; other_seen = [] }

  -- a pass that keeps each second one of the numbers after its first
  abbrev pub thinned : View E → ℕ → ℕ → View E
  thinned v unopened splits = record v { unopened = unopened; splits = splits; base = v.base + v.stride; stride = v.stride + v.stride }

  -- the new pass, which has the other numbers
  abbrev pub newborn : View E → ℕ → View E
  newborn v number = plain v.initial number v.seen v.initial (v.base + (v.stride + v.stride)) (v.stride + v.stride)

  -- a pass that has opened one pass more
  abbrev pub opened : View E → View E
  opened v = thinned v (v.unopened + 1) v.splits

  -- the pass that it opens next
  abbrev pub newly_opened : View E → View E
  newly_opened v = newborn v v.unopened

  -- a pass that was split once more
  abbrev pub divided : View E → View E
  divided v = thinned v v.unopened (v.splits + 1)

  -- the pass that is split off it next
  abbrev pub split_off : View E → View E
  split_off v = newborn v v.base

  -- a pass that has drawn so many tickets, of which this is the first
  abbrev pub drawn : View E → ℕ → ℕ → View E
  drawn v ticket tickets = record v { tickets = tickets; ticket = ticket }

  -- a pass that has seen this, and has the turn or hasn't
  abbrev pub looked : View E → List (ℕ × E) → Bool → View E
  looked v seen in_turn = record v { seen = seen; in_turn = in_turn }

  -- a pass whose turn has ended with these entries
  abbrev pub advanced : View E → List E → View E
  advanced v entries = record v { seen = v.seen ++ made v.number entries; tickets = 0; in_turn = false; own_numbers = []; own_seen = []; other_numbers = []; other_seen = [] }

  -- a pass that was refused a ticket
  abbrev pub refused_view : View E → View E
  refused_view v = record v { refused = true }

  -- two passes joined, with what each of them knew
  abbrev pub joined : View E → View E → View E
  joined v w = record v { numbers = v.numbers ++ w.numbers; splits = v.splits + w.splits; seen = longer v.seen w.seen; refused = v.refused || w.refused; own_numbers = v.numbers; own_seen = v.seen; other_numbers = w.numbers; other_seen = w.seen }

  -- what contracts see of it
  abbrev pub shown : LockId → View E → PassState E
  shown lock v = record { lock = lock; number = v.number; numbers = v.numbers; splits = v.splits; seen = v.seen; in_turn = v.in_turn; tickets = v.tickets; refused = v.refused; initial = v.initial }

module _ {S E : Type 0} where
  -- a pass between the calls: in turn it holds the slot, from which the state was taken
  abbrev pub IsSeated : Me (Opt S) (View E) → Type 0
  IsSeated me = (has me.0.number me.0.numbers ≡ true) × (0 < me.0.stride)
      × MatchBool me.0.in_turn ((0 < me.0.tickets) × (me.1 ≡ (0, None) ∷ [])) ((me.0.tickets ≡ 0) × (me.1 ≡ []))

  -- of the n passes that a lock begins with k are opened, and this is the one that opens them
  pub record IsOpening (n k : ℕ) (lock : LockId) (me : Me (Opt S) (View E)) : Type 0 where
    pub last : shown lock me.0 ≡ initial_pass lock n (n - 1)
    pub unopened : me.0.unopened ≡ k
    pub reserve : 0 < me.0.stride
    pub empty : me.1 ≡ []
