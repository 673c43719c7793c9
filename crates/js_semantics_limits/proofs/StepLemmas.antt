-- Actions, steps and runs balance.
use Rattle.std.proofs.Common.{◌≡◌, ℕ, zero, suc, ◌+◌, ◌≤◌, Bool, true, false, List, ◌∷◌, length, subst, arith, if◌then◌else◌}
use Rattle.js_heap.specs.declared.value.Addr.{Addr}
use Rattle.js_heap.specs.declared.value.Value.{Value}
use Rattle.js_heap.specs.declared.change.Counted.{Counted}
use Rattle.js_heap.specs.BuiltIns.{first_world, script_scope}
use Rattle.js_heap.specs.World.{World, Tried, fine, effect, full, is_evaluation, make_cell, write_cell}
use Rattle.js_heap.specs.Worlds.{AfterFine}
use Rattle.js_semantics.specs.Functions.{Program}
use Rattle.js_semantics.specs.Next.{Walked, all_values, moved, around, next, scope_in, walk, with_value}
use Rattle.js_semantics.specs.Rows.{row, taken}
use Rattle.js_semantics.specs.Run.{Run, running, over, first_state, literals_of, placed_scripts, plain, program_of, run_after, start, state_of, step_in, steps_in}
use Rattle.js_semantics.specs.State.{State, Move, goes, travels, has_effect, is_full, inside, Action, go, raise, leave, make, write, print, take_line, set_here, push_frame, pop_frame, after, first_line, other_lines, perform, raised_at, rest_of, with_here, with_world}
use Rattle.js_semantics.specs.Terms.{Term, done, standing, part, Terms, end, more, settled}
use Rattle.js_semantics.specs.declared.form.Form.{Form}
use Rattle.js_semantics.specs.declared.form.Form.TheVariants.{Scripts as scripts}
use Rattle.js_semantics.proofs.FollowLemmas.{run_of-state}
use Rattle.js_semantics_limits.specs.Balances.{Balances, IsWithinRoom, RunBalances, units_in}
use Rattle.js_semantics_limits.proofs.CellLemmas.{balances-same, balances-then, making-balances, writing-balances}

-- ---- moves

-- the world behind a move balances with one before it
abbrev pub MoveBalances : {T : Type 0} → World → Move T → Type 0
MoveBalances w (goes t s told) = Balances w s.world
MoveBalances w (travels c s) = Balances w s.world
MoveBalances w (has_effect s) = Balances w s.world
MoveBalances w (is_full what s) = Balances w s.world

move-then : {T : Type 0} (w v : World) (m : Move T) → Balances w v → MoveBalances v m → MoveBalances w m
move-then w v (goes t s told) h k = balances-then w v s.world h k
move-then w v (travels c s) h k = balances-then w v s.world h k
move-then w v (has_effect s) h k = balances-then w v s.world h k
move-then w v (is_full what s) h k = balances-then w v s.world h k

move-inside : {T S : Type 0} (f : T → S) (w : World) (m : Move T) → MoveBalances w m → MoveBalances w (inside f m)
move-inside f w (goes t s told) h = h
move-inside f w (travels c s) h = h
move-inside f w (has_effect s) h = h
move-inside f w (is_full what s) h = h

-- ---- actions

full-balances : (b : Bool) (what : Counted) (s : State) (v : Value)
    → MoveBalances s.world (if b then is_full what s else raised_at v s)
full-balances true what s v = balances-same s.world
full-balances false what s v = balances-same s.world

outside-balances : (b : Bool) (s : State) (m : Move Term)
    → MoveBalances s.world m
    → MoveBalances s.world (if b then has_effect s else m)
outside-balances true s m h = balances-same s.world
outside-balances false s m h = h

after-balances : {A : Type 0} (s : State) (t : Tried A) (k : A → State → Move Term)
    → AfterFine t (λ a v. Balances s.world v)
    → ((a : A) (u : State) → MoveBalances u.world (k a u))
    → MoveBalances s.world (after t s k)
after-balances s (fine a v) k h rest = move-then s.world v (k a (with_world s v)) h (rest a (with_world s v))
after-balances s effect k h rest = balances-same s.world
after-balances s (full what) k h rest = full-balances (is_evaluation s.world) what s _

perform-balances : (a : Action) (s : State) → MoveBalances s.world (perform a s)
perform-balances (go t) s = balances-same s.world
perform-balances (raise v) s = balances-same s.world
perform-balances (leave c) s = balances-same s.world
perform-balances (make c k) s =
    after-balances s (make_cell s.world c) (λ a. perform (k a)) (making-balances s.world c)
    (λ a u. perform-balances (k a) u)
perform-balances (write a c k) s =
    after-balances s (write_cell s.world a c) (λ x. perform k) (writing-balances s.world a c)
    (λ x u. perform-balances k u)
perform-balances (print vs text) s = outside-balances (is_evaluation s.world) s _ (balances-same s.world)
perform-balances (take_line k) s =
    let u : State = record s { input = other_lines s.input } in
    outside-balances (is_evaluation s.world) s (perform (k (first_line s.input)) u)
    (perform-balances (k (first_line s.input)) u)
perform-balances (set_here m k) s = perform-balances k (with_here s m)
perform-balances (push_frame f k) s = perform-balances k (record s { frames = f ∷ s.frames })
perform-balances (pop_frame k) s = perform-balances k (record s { frames = rest_of s.frames })

-- ---- steps

abbrev WalkBalances : World → Walked → Type 0
WalkBalances w (all_values vs) = Unit {0}
WalkBalances w (moved m) = MoveBalances w m

with-value-balances : (w : World) (v : Value) (x : Walked) → WalkBalances w x → WalkBalances w (with_value v x)
with-value-balances w v (all_values vs) h = tt
with-value-balances w v (moved m) h = move-inside (λ ts. more (done v) ts) w m h

around-balances : (p : Program) (scope : Addr) (f : Form) (later : Terms) (s : State) (x : Walked)
    → WalkBalances s.world x
    → MoveBalances s.world (around p scope f later s x)
around-balances p scope f later s (all_values vs) h = perform-balances (row p s scope f vs later) s
around-balances p scope f later s (moved (goes now t told)) h = h
around-balances p scope f later s (moved (travels c t)) h =
    move-then s.world t.world (perform (taken scope f c later) t) h (perform-balances (taken scope f c later) t)
around-balances p scope f later s (moved (has_effect t)) h = h
around-balances p scope f later s (moved (is_full what t)) h = h

mutual
  next-balances : (p : Program) (scope : Addr) (t : Term) (s : State) → MoveBalances s.world (next p scope t s)
  next-balances p scope (done v) s = balances-same s.world
  next-balances p scope (standing v place) s = balances-same s.world
  next-balances p scope (part f now later) s =
      around-balances p scope f later s (walk p (scope_in f scope) now s)
      (walk-balances p (scope_in f scope) now s)

  walk-balances : (p : Program) (scope : Addr) (ts : Terms) (s : State) → WalkBalances s.world (walk p scope ts s)
  walk-balances p scope end s = tt
  walk-balances p scope (more (done v) ts) s =
      with-value-balances s.world v (walk p scope ts s) (walk-balances p scope ts s)
  walk-balances p scope (more (standing v place) ts) s = balances-same s.world
  walk-balances p scope (more (part f now later) ts) s =
      move-inside (λ t. more t ts) s.world (next p scope (part f now later) s)
      (next-balances p scope (part f now later) s)

-- ---- runs

after-run : (w : World) (m : Move Term) → MoveBalances w m → Balances w (state_of (run_after m)).world
after-run w (goes (done v) t told) h = h
after-run w (goes (standing v place) t told) h = h
after-run w (goes (part f now later) t told) h = h
after-run w (travels c t) h = h
after-run w (has_effect t) h = h
after-run w (is_full what t) h = h

step-balances : (p : Program) (scope : Addr) (r : Run) → RunBalances r (step_in p scope r)
step-balances p scope (running t s) = after-run s.world (next p scope t s) (next-balances p scope t s)
step-balances p scope (over f s) = balances-same s.world

pub steps-balance : (k : ℕ) (p : Program) (scope : Addr) (r : Run) → RunBalances r (steps_in k p scope r)
steps-balance zero p scope r = balances-same (state_of r).world
steps-balance (suc k) p scope r =
    balances-then (state_of r).world (state_of (step_in p scope r)).world
    (state_of (steps_in k p scope (step_in p scope r))).world (step-balances p scope r)
    (steps-balance k p scope (step_in p scope r))

-- ---- the run of a program

-- what is held is a part of what is held and may be made
within : (a b c d m : ℕ) → a + b + c ≡ d + 0 + m → a ≤ d + m
within a b c d m same = omega (arith, same)

room-balances : (ls : List (List ℕ)) (r : Run)
    → Balances (first_world ls) (state_of r).world
    → IsWithinRoom ls r
room-balances ls r b =
    let v : World = (state_of r).world in
    let first : World = first_world ls in
    record {
      cells =
          within (length v.base) (length v.scratch) v.room.cells (length first.base) first.room.cells b.cells;
      units =
          within (units_in v.base) (units_in v.scratch) v.room.units (units_in first.base) first.room.units b.units;
      balances = b;
    }

pub program-within : (k : ℕ) (ts : Terms) (input : List (List ℕ))
    → IsWithinRoom (literals_of ts) (plain k ts input)
program-within k ts input =
    let r : Run = start ts input in
    let begins = run_of-state (settled scripts (placed_scripts ts) end) (first_state ts input) in
    let b : RunBalances r (plain k ts input) = steps-balance k (program_of ts) script_scope r in
    room-balances (literals_of ts) (plain k ts input)
    (subst (λ (s : State). Balances s.world (state_of (plain k ts input)).world) begins b)
