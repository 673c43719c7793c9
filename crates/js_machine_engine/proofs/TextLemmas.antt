-- The text that a step prints beside its values.
use Rattle.std.proofs.Common.{◌≡◌, ℕ, Bool, true, false, List, [], ◌∷◌, ◌++◌, refl, subst, if◌then◌else◌}
use Rattle.js_heap.specs.declared.value.Addr.{Addr}
use Rattle.js_heap.specs.declared.value.Value.{Value}
use Rattle.js_heap.specs.declared.change.Counted.{Counted}
use Rattle.js_heap.specs.World.{Tried, fine, effect, full, make_cell, write_cell, is_evaluation}
use Rattle.js_semantics.specs.declared.form.Form.{Form}
use Rattle.js_semantics.specs.Terms.{Term, done, standing, part, Terms, end, more}
use Rattle.js_semantics.specs.State.{State, Move, goes, travels, has_effect, is_full, inside, Action, go, raise, leave, make, write, print, take_line, set_here, push_frame, pop_frame, with_world, with_here, rest_of, first_line, other_lines, after, raised_at, perform}
use Rattle.js_semantics.specs.Functions.{Program}
use Rattle.js_semantics.specs.Rows.{row, taken}
use Rattle.js_semantics.specs.Next.{Walked, all_values, moved, with_value, scope_in, around, next, walk}
use Rattle.js_semantics.specs.Run.{Run, running, over, run_after, step_in, printed_of}
use Rattle.js_machine_engine.specs.Prints.{values_told, values_moved, values_printed, PrintsOneText}

-- ---- actions

-- a move from a state in which these texts were printed
abbrev MovePrints : {T : Type 0} → List (List ℕ) → Move T → Type 0
MovePrints before (goes x t told) = PrintsOneText (values_told told) before t.printed
MovePrints before (travels c t) = t.printed ≡ before
MovePrints before (has_effect t) = t.printed ≡ before
MovePrints before (is_full what t) = t.printed ≡ before

move_inside : {T S : Type 0} (f : T → S) (before : List (List ℕ)) (m : Move T)
    → MovePrints before m
    → MovePrints before (inside f m)
move_inside f before (goes x t told) h = h
move_inside f before (travels c t) h = h
move_inside f before (has_effect t) h = h
move_inside f before (is_full what t) h = h

full_prints : (b : Bool) (what : Counted) (s : State) (v : Value)
    → MovePrints s.printed (if b then is_full what s else raised_at v s)
full_prints true what s v = refl
full_prints false what s v = refl

outside_prints : (b : Bool) (s : State) (m : Move Term)
    → MovePrints s.printed m
    → MovePrints s.printed (if b then has_effect s else m)
outside_prints true s m h = refl
outside_prints false s m h = h

after_prints : {A : Type 0} (s : State) (t : Tried A) (k : A → State → Move Term)
    → ((a : A) (u : State) → MovePrints u.printed (k a u))
    → MovePrints s.printed (after t s k)
after_prints s (fine a v) k rest = rest a (with_world s v)
after_prints s effect k rest = refl
after_prints s (full what) k rest = full_prints (is_evaluation s.world) what s _

perform_prints : (a : Action) (s : State) → MovePrints s.printed (perform a s)
perform_prints (go t) s = refl
perform_prints (raise v) s = refl
perform_prints (leave c) s = refl
perform_prints (make c k) s = after_prints s (make_cell s.world c) (λ a. perform (k a)) (λ a u. perform_prints (k a) u)
perform_prints (write a c k) s = after_prints s (write_cell s.world a c) (λ x. perform k) (λ x u. perform_prints k u)
perform_prints (print vs text) s =
    outside_prints (is_evaluation s.world) s (goes (done _) (record s { printed = s.printed ++ text ∷ [] }) _)
    (text, refl)
perform_prints (take_line k) s =
    let u : State = record s { input = other_lines s.input } in
    outside_prints (is_evaluation s.world) s (perform (k (first_line s.input)) u)
    (perform_prints (k (first_line s.input)) u)
perform_prints (set_here m k) s = perform_prints k (with_here s m)
perform_prints (push_frame f k) s = perform_prints k (record s { frames = f ∷ s.frames })
perform_prints (pop_frame k) s = perform_prints k (record s { frames = rest_of s.frames })

-- ---- steps

abbrev WalkPrints : List (List ℕ) → Walked → Type 0
WalkPrints before (all_values vs) = Unit {0}
WalkPrints before (moved m) = MovePrints before m

with_value_prints : (before : List (List ℕ)) (v : Value) (x : Walked)
    → WalkPrints before x
    → WalkPrints before (with_value v x)
with_value_prints before v (all_values vs) h = tt
with_value_prints before v (moved m) h = move_inside (λ ts. more (done v) ts) before m h

around_prints : (p : Program) (scope : Addr) (f : Form) (later : Terms) (s : State) (x : Walked)
    → WalkPrints s.printed x
    → MovePrints s.printed (around p scope f later s x)
around_prints p scope f later s (all_values vs) h = perform_prints (row p s scope f vs later) s
around_prints p scope f later s (moved (goes now t told)) h = h
around_prints p scope f later s (moved (travels c t)) h =
    let P : List (List ℕ) → Type 0 = λ before. MovePrints before (perform (taken scope f c later) t) in
    subst P h (perform_prints (taken scope f c later) t)
around_prints p scope f later s (moved (has_effect t)) h = h
around_prints p scope f later s (moved (is_full what t)) h = h

mutual
  next_prints : (p : Program) (scope : Addr) (t : Term) (s : State) → MovePrints s.printed (next p scope t s)
  next_prints p scope (done v) s = refl
  next_prints p scope (standing v place) s = refl
  next_prints p scope (part f now later) s =
      around_prints p scope f later s (walk p (scope_in f scope) now s) (walk_prints p (scope_in f scope) now s)

  walk_prints : (p : Program) (scope : Addr) (ts : Terms) (s : State) → WalkPrints s.printed (walk p scope ts s)
  walk_prints p scope end s = tt
  walk_prints p scope (more (done v) ts) s =
      with_value_prints s.printed v (walk p scope ts s) (walk_prints p scope ts s)
  walk_prints p scope (more (standing v place) ts) s = refl
  walk_prints p scope (more (part f now later) ts) s =
      move_inside (λ t. more t ts) s.printed (next p scope (part f now later) s)
      (next_prints p scope (part f now later) s)

-- ---- runs

after_run : (before : List (List ℕ)) (m : Move Term)
    → MovePrints before m
    → PrintsOneText (values_moved m) before (printed_of (run_after m))
after_run before (goes (done v) t told) h = h
after_run before (goes (standing v place) t told) h = h
after_run before (goes (part f now later) t told) h = h
after_run before (travels c t) h = h
after_run before (has_effect t) h = h
after_run before (is_full what t) h = h

pub step-text : (p : Program) (scope : Addr) (r : Run)
    → PrintsOneText (values_printed p scope r) (printed_of r) (printed_of (step_in p scope r))
step-text p scope (running t s) = after_run s.printed (next p scope t s) (next_prints p scope t s)
step-text p scope (over f s) = refl
