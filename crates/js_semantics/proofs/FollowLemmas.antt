-- What every action, every step and every run keeps.
use Rattle.std.proofs.Common.{◌≡◌, ℕ, zero, suc, ◌+◌, Bool, true, false, List, [], ◌∷◌, ◌++◌, refl, sym, ap, ◌∙◌, append_assoc, append-nil, subst, zero-add, suc-add, if◌then◌else◌}
use Rattle.js_heap.specs.declared.value.Addr.{Addr}
use Rattle.js_heap.specs.declared.value.Value.{Value}
use Rattle.js_heap.specs.declared.change.Counted.{Counted}
use Rattle.js_heap.specs.World.{World, Tried, fine, effect, full, make_cell, write_cell, is_evaluation}
use Rattle.js_heap.specs.Worlds.{Keeps, AfterFine}
use Rattle.js_heap.specs.BuiltIns.{script_scope}
use Rattle.js_heap.proofs.KeepLemmas.{keeps-same, keeps-trans, making-keeps, writing-keeps}
use Rattle.js_semantics.specs.Terms.{Form, Term, done, standing, part, Terms, end, more}
use Rattle.js_semantics.specs.State.{State, Move, goes, travels, has_effect, is_full, inside, Action, go, raise, leave, make, write, print, take_line, set_here, push_frame, pop_frame, with_world, with_here, rest_of, first_line, other_lines, after, raised_at, perform}
use Rattle.js_semantics.specs.Functions.{Program}
use Rattle.js_semantics.specs.Rows.{row, taken}
use Rattle.js_semantics.specs.Next.{Walked, all_values, moved, with_value, scope_in, around, next, walk}
use Rattle.js_semantics.specs.Run.{Finish, Run, running, over, run_of, run_after, state_of, step_in, steps_in, printed_of, start, plain, out, program_of}
use Rattle.js_semantics.specs.Laws.{IsPrefix, Follows, MoveFollows, RunFollows}

-- ---- later states

pub prefix-same : (ts : List (List ℕ)) → IsPrefix ts ts
prefix-same ts = ([], sym (append-nil ts))

pub prefix-trans : (a b c : List (List ℕ)) → IsPrefix a b → IsPrefix b c → IsPrefix a c
prefix-trans a b c h k = (h.0 ++ k.0, k.1 ∙ ap (λ x. x ++ k.0) h.1 ∙ append_assoc a h.0 k.0)

pub follows-same : (s : State) → Follows s s
follows-same s = record { output = prefix-same s.printed; cells = keeps-same s.world }

pub follows-trans : (r s t : State) → Follows r s → Follows s t → Follows r t
follows-trans r s t h k =
    record {
      output = prefix-trans r.printed s.printed t.printed h.output k.output;
      cells = keeps-trans r.world s.world t.world h.cells k.cells;
    }

move-trans : {T : Type 0} (r s : State) (m : Move T) → Follows r s → MoveFollows s m → MoveFollows r m
move-trans r s (goes x t told) h k = follows-trans r s t h k
move-trans r s (travels c t) h k = follows-trans r s t h k
move-trans r s (has_effect t) h k = follows-trans r s t h k
move-trans r s (is_full what t) h k = follows-trans r s t h k

move-inside : {T S : Type 0} (f : T → S) (s : State) (m : Move T) → MoveFollows s m → MoveFollows s (inside f m)
move-inside f s (goes x t told) h = h
move-inside f s (travels c t) h = h
move-inside f s (has_effect t) h = h
move-inside f s (is_full what t) h = h

-- the same output and another world
world_follows : (s : State) (v : World) → Keeps s.world v → Follows s (with_world s v)
world_follows s v k = record { output = prefix-same s.printed; cells = k }

-- ---- actions

full_follows : (b : Bool) (what : Counted) (s : State) (v : Value)
    → MoveFollows s (if b then is_full what s else raised_at v s)
full_follows true what s v = follows-same s
full_follows false what s v = follows-same s

outside_follows : (b : Bool) (s : State) (m : Move Term)
    → MoveFollows s m
    → MoveFollows s (if b then has_effect s else m)
outside_follows true s m h = follows-same s
outside_follows false s m h = h

after_follows : {A : Type 0} (s : State) (t : Tried A) (k : A → State → Move Term)
    → AfterFine t (λ a v. Keeps s.world v)
    → ((a : A) (u : State) → MoveFollows u (k a u))
    → MoveFollows s (after t s k)
after_follows s (fine a v) k h rest =
    move-trans s (with_world s v) (k a (with_world s v)) (world_follows s v h) (rest a (with_world s v))
after_follows s effect k h rest = follows-same s
after_follows s (full what) k h rest = full_follows (is_evaluation s.world) what s _

pub perform-follows : (a : Action) (s : State) → MoveFollows s (perform a s)
perform-follows (go t) s = follows-same s
perform-follows (raise v) s = follows-same s
perform-follows (leave c) s = follows-same s
perform-follows (make c k) s =
    after_follows s (make_cell s.world c) (λ a. perform (k a)) (making-keeps s.world c) (λ a u. perform-follows (k a) u)
perform-follows (write a c k) s =
    after_follows s (write_cell s.world a c) (λ x. perform k) (writing-keeps s.world a c) (λ x u. perform-follows k u)
perform-follows (print vs text) s =
    outside_follows (is_evaluation s.world) s (goes (done _) (record s { printed = s.printed ++ text ∷ [] }) _)
    (record { output = (text ∷ [], refl); cells = keeps-same s.world })
perform-follows (take_line k) s =
    let u : State = record s { input = other_lines s.input } in
    outside_follows (is_evaluation s.world) s (perform (k (first_line s.input)) u)
    (move-trans s u (perform (k (first_line s.input)) u)
    (record { output = prefix-same s.printed; cells = keeps-same s.world })
    (perform-follows (k (first_line s.input)) u))
perform-follows (set_here m k) s =
    move-trans s (with_here s m) (perform k (with_here s m))
    (record { output = prefix-same s.printed; cells = keeps-same s.world }) (perform-follows k (with_here s m))
perform-follows (push_frame f k) s =
    let u : State = record s { frames = f ∷ s.frames } in
    move-trans s u (perform k u) (record { output = prefix-same s.printed; cells = keeps-same s.world })
    (perform-follows k u)
perform-follows (pop_frame k) s =
    let u : State = record s { frames = rest_of s.frames } in
    move-trans s u (perform k u) (record { output = prefix-same s.printed; cells = keeps-same s.world })
    (perform-follows k u)

-- ---- steps

abbrev pub WalkFollows : State → Walked → Type 0
WalkFollows s (all_values vs) = Unit {0}
WalkFollows s (moved m) = MoveFollows s m

with_value_follows : (s : State) (v : Value) (x : Walked) → WalkFollows s x → WalkFollows s (with_value v x)
with_value_follows s v (all_values vs) h = tt
with_value_follows s v (moved m) h = move-inside (λ ts. more (done v) ts) s m h

around_follows : (p : Program) (scope : Addr) (f : Form) (later : Terms) (s : State) (x : Walked)
    → WalkFollows s x
    → MoveFollows s (around p scope f later s x)
around_follows p scope f later s (all_values vs) h = perform-follows (row p s scope f vs later) s
around_follows p scope f later s (moved (goes now t told)) h = h
around_follows p scope f later s (moved (travels c t)) h =
    move-trans s t (perform (taken scope f c later) t) h (perform-follows (taken scope f c later) t)
around_follows p scope f later s (moved (has_effect t)) h = h
around_follows p scope f later s (moved (is_full what t)) h = h

mutual
  pub next-follows : (p : Program) (scope : Addr) (t : Term) (s : State) → MoveFollows s (next p scope t s)
  next-follows p scope (done v) s = follows-same s
  next-follows p scope (standing v place) s = follows-same s
  next-follows p scope (part f now later) s =
      around_follows p scope f later s (walk p (scope_in f scope) now s) (walk-follows p (scope_in f scope) now s)

  pub walk-follows : (p : Program) (scope : Addr) (ts : Terms) (s : State) → WalkFollows s (walk p scope ts s)
  walk-follows p scope end s = tt
  walk-follows p scope (more (done v) ts) s = with_value_follows s v (walk p scope ts s) (walk-follows p scope ts s)
  walk-follows p scope (more (standing v place) ts) s = follows-same s
  walk-follows p scope (more (part f now later) ts) s =
      move-inside (λ t. more t ts) s (next p scope (part f now later) s) (next-follows p scope (part f now later) s)

-- ---- runs

pub run_of-state : (t : Term) (s : State) → state_of (run_of t s) ≡ s
run_of-state (done v) s = refl
run_of-state (standing v place) s = refl
run_of-state (part f now later) s = refl

after_run : (s : State) (m : Move Term) → MoveFollows s m → Follows s (state_of (run_after m))
after_run s (goes (done v) t told) h = h
after_run s (goes (standing v place) t told) h = h
after_run s (goes (part f now later) t told) h = h
after_run s (travels c t) h = h
after_run s (has_effect t) h = h
after_run s (is_full what t) h = h

pub step-follows : (p : Program) (scope : Addr) (r : Run) → RunFollows r (step_in p scope r)
step-follows p scope (running t s) = after_run s (next p scope t s) (next-follows p scope t s)
step-follows p scope (over f s) = follows-same s

pub steps-follows : (k : ℕ) (p : Program) (scope : Addr) (r : Run) → RunFollows r (steps_in k p scope r)
steps-follows zero p scope r = follows-same (state_of r)
steps-follows (suc k) p scope r =
    follows-trans (state_of r) (state_of (step_in p scope r)) (state_of (steps_in k p scope (step_in p scope r)))
    (step-follows p scope r) (steps-follows k p scope (step_in p scope r))

-- a run of one step more is a step behind it
pub steps-suc : (k : ℕ) (p : Program) (scope : Addr) (r : Run)
    → steps_in (suc k) p scope r ≡ step_in p scope (steps_in k p scope r)
steps-suc zero p scope r = refl
steps-suc (suc k) p scope r = steps-suc k p scope (step_in p scope r)

pub steps-more : (j k : ℕ) (p : Program) (scope : Addr) (r : Run)
    → steps_in (j + k) p scope r ≡ steps_in k p scope (steps_in j p scope r)
steps-more zero k p scope r = rw (zero-add k) refl
steps-more (suc j) k p scope r = rw (suc-add j k) (steps-more j k p scope (step_in p scope r))

-- a run that has ended stays as it is
pub over-stays : (k : ℕ) (p : Program) (scope : Addr) (f : Finish) (s : State)
    → steps_in k p scope (over f s) ≡ over f s
over-stays zero p scope f s = refl
over-stays (suc k) p scope f s = over-stays k p scope f s

pub out-grows : (k : ℕ) (ts : Terms) (input : List (List ℕ)) → IsPrefix (out k ts input) (out (suc k) ts input)
out-grows k ts input =
    let r : Run = plain k ts input in
    let P : Run → Type 0 = λ q. IsPrefix (printed_of r) (printed_of q) in
    subst P (sym (steps-suc k (program_of ts) script_scope (start ts input)))
    (step-follows (program_of ts) script_scope r).output
