-- An arrow's expression body ends by its `return`, or by a throw: no step leads it to its end.
use Rattle.std.proofs.Common.{ℕ, Bool, true, false, if◌then◌else◌}
use Rattle.js_heap.specs.declared.value.Addr.{Addr}
use Rattle.js_semantics.specs.declared.form.Form.TheVariants.{Sequence as sequence, Enter as enter, Return as return_}
use Rattle.js_semantics.specs.Terms.{Term, done, standing, part, Terms, end, more, all_done, settled, settle}
use Rattle.js_semantics.specs.State.{State, Move, goes, travels, has_effect, is_full, inside}
use Rattle.js_semantics.specs.Functions.{Program}
use Rattle.js_semantics.specs.Next.{Walked, all_values, moved, around, next, walk}
use Rattle.locations_arrivals.specs.Belonging.{Returns, FirstReturns}

either-returns : (b : Bool) (t u : Term) → Returns t → Returns u → Returns (if b then t else u)
either-returns true t u h k = h
either-returns false t u h k = k

sequence-returns : (ts later : Terms) → FirstReturns ts → Returns (settled sequence ts later)
sequence-returns end later h = absurd h
sequence-returns (more (done v) ts) later h = absurd h
sequence-returns (more (standing v place) ts) later h = absurd h
sequence-returns (more (part f now kept) ts) later h = h

first-returns : (ts later : Terms) → Returns (part sequence ts later) → FirstReturns ts
first-returns end later h = h
first-returns (more t ts) later h = h

pub settle-returns : (t : Term) → Returns t → Returns (settle t)
settle-returns (done v) h = absurd h
settle-returns (standing v place) h = absurd h
settle-returns (part return_ now later) h =
    either-returns (all_done now) (part return_ now later) (part return_ now later) tt tt
settle-returns (part (enter node) now end) h = absurd h
settle-returns (part (enter node) now (more t ts)) h =
    either-returns (all_done now) (part (enter node) now (more t ts)) (part (enter node) now (more t ts)) h h
settle-returns (part sequence now later) h = sequence-returns now later (first-returns now later h)
settle-returns (part f now later) h = absurd h

-- ---- a step

abbrev MoveReturns : Move Term → Type 0
MoveReturns (goes t s told) = Returns t
MoveReturns (travels c s) = Unit {0}
MoveReturns (has_effect s) = Unit {0}
MoveReturns (is_full what s) = Unit {0}

abbrev WalkReturns : Walked → Type 0
WalkReturns (all_values vs) = ⊥
WalkReturns (moved (goes ts s told)) = FirstReturns ts
WalkReturns (moved (travels c s)) = Unit {0}
WalkReturns (moved (has_effect s)) = Unit {0}
WalkReturns (moved (is_full what s)) = Unit {0}

inside-returns : (ts : Terms) (m : Move Term) → MoveReturns m → WalkReturns (moved (inside (λ t. more t ts) m))
inside-returns ts (goes t s told) h = h
inside-returns ts (travels c s) h = tt
inside-returns ts (has_effect s) h = tt
inside-returns ts (is_full what s) h = tt

return-returns : (p : Program) (scope : Addr) (later : Terms) (s : State) (x : Walked)
    → MoveReturns (around p scope return_ later s x)
return-returns p scope later s (all_values vs) = tt
return-returns p scope later s (moved (goes now t told)) =
    either-returns (all_done now) (part return_ now later) (part return_ now later) tt tt
return-returns p scope later s (moved (travels c t)) = tt
return-returns p scope later s (moved (has_effect t)) = tt
return-returns p scope later s (moved (is_full what t)) = tt

enter-returns : (p : Program) (scope : Addr) (node : ℕ) (t : Term) (ts : Terms) (s : State) (x : Walked)
    → Returns t
    → MoveReturns (around p scope (enter node) (more t ts) s x)
enter-returns p scope node t ts s (all_values vs) h = settle-returns t h
enter-returns p scope node t ts s (moved (goes now u told)) h =
    either-returns (all_done now) (part (enter node) now (more t ts)) (part (enter node) now (more t ts)) h h
enter-returns p scope node t ts s (moved (travels c u)) h = tt
enter-returns p scope node t ts s (moved (has_effect u)) h = tt
enter-returns p scope node t ts s (moved (is_full what u)) h = tt

rest-returns : (p : Program) (scope : Addr) (later : Terms) (s : State) (x : Walked)
    → WalkReturns x
    → MoveReturns (around p scope sequence later s x)
rest-returns p scope later s (all_values vs) h = absurd h
rest-returns p scope later s (moved (goes now t told)) h = sequence-returns now later h
rest-returns p scope later s (moved (travels c t)) h = tt
rest-returns p scope later s (moved (has_effect t)) h = tt
rest-returns p scope later s (moved (is_full what t)) h = tt

mutual
  next-returns : (p : Program) (scope : Addr) (t : Term) (s : State) → Returns t → MoveReturns (next p scope t s)
  next-returns p scope (done v) s h = absurd h
  next-returns p scope (standing v place) s h = absurd h
  next-returns p scope (part return_ now later) s h = return-returns p scope later s (walk p scope now s)
  next-returns p scope (part (enter node) now end) s h = absurd h
  next-returns p scope (part (enter node) now (more t ts)) s h =
      enter-returns p scope node t ts s (walk p scope now s) h
  next-returns p scope (part sequence end later) s h = absurd h
  next-returns p scope (part sequence (more t ts) later) s h =
      rest-returns p scope later s (walk p scope (more t ts) s) (walk-returns p scope (more t ts) s h)
  next-returns p scope (part f now later) s h = absurd h

  walk-returns : (p : Program) (scope : Addr) (ts : Terms) (s : State)
      → FirstReturns ts
      → WalkReturns (walk p scope ts s)
  walk-returns p scope end s h = absurd h
  walk-returns p scope (more (done v) ts) s h = absurd h
  walk-returns p scope (more (standing v place) ts) s h = absurd h
  walk-returns p scope (more (part f now later) ts) s h =
      inside-returns ts (next p scope (part f now later) s) (next-returns p scope (part f now later) s h)

-- what a walk through a body leads to begins by a `return` where the body does
abbrev pub WalkKeeps : Terms → Walked → Type 0
WalkKeeps now (all_values vs) = Unit {0}
WalkKeeps now (moved (goes ts s told)) = FirstReturns now → FirstReturns ts
WalkKeeps now (moved (travels c s)) = Unit {0}
WalkKeeps now (moved (has_effect s)) = Unit {0}
WalkKeeps now (moved (is_full what s)) = Unit {0}

keeps : (now : Terms) (x : Walked) → (FirstReturns now → WalkReturns x) → WalkKeeps now x
keeps now (all_values vs) h = tt
keeps now (moved (goes ts s told)) h = h
keeps now (moved (travels c s)) h = tt
keeps now (moved (has_effect s)) h = tt
keeps now (moved (is_full what s)) h = tt

pub walk-keeps : (p : Program) (scope : Addr) (now : Terms) (s : State) → WalkKeeps now (walk p scope now s)
walk-keeps p scope now s = keeps now (walk p scope now s) (λ h. walk-returns p scope now s h)
