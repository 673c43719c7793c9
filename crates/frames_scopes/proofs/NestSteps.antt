-- Every step, and every run, keeps the scope around each scope older than it.
use Rattle.std.proofs.Common.{◌≡◌, ℕ, zero, suc, Bool, true, false, [], ◌∷◌, ◌++◌, Some, if◌then◌else◌}
use Rattle.js_heap.specs.declared.value.Addr.{Addr}
use Rattle.js_heap.specs.declared.value.Value.{Value}
use Rattle.js_heap.specs.declared.value.Value.TheVariants as values
use Rattle.js_heap.specs.declared.change.Counted.{Counted}
use Rattle.js_heap.specs.BuiltIns.{heap_full_error}
use Rattle.js_heap.specs.Cells.{kind_of}
use Rattle.js_heap.specs.World.{World, Tried, fine, effect, full, read_cell, make_cell, write_cell, is_evaluation}
use Rattle.js_heap.specs.Worlds.{Keeps, AfterFine, Leads, SoundScope, Later}
use Rattle.js_heap.proofs.KeepLemmas.{making-keeps, writing-keeps}
use Rattle.js_heap.proofs.SoundLemmas.{sound-scope, making-leads}
use Rattle.js_semantics.specs.declared.form.Form.{Form}
use Rattle.js_semantics.specs.Terms.{Term, done, standing, part, Terms, end, more}
use Rattle.js_semantics.specs.State.{State, Move, goes, travels, has_effect, is_full, inside, Action, go, raise, leave, make, write, print, take_line, set_here, push_frame, pop_frame, with_world, with_here, rest_of, first_line, other_lines, after, raised_at, perform}
use Rattle.js_semantics.specs.Functions.{Program}
use Rattle.js_semantics.specs.Rows.{row, taken}
use Rattle.js_semantics.specs.Next.{Walked, all_values, moved, with_value, scope_in, around, next, walk}
use Rattle.js_semantics.specs.Run.{Run, running, over, run_of, run_after, step_in, steps_in, state_of}
use Rattle.js_semantics.specs.Sound.{SoundForm, SoundTerm, SoundTerms, SoundState, SoundAction, SoundRun}
use Rattle.js_semantics.proofs.SoundTerms.{sound-form, sound-terms}
use Rattle.js_semantics.proofs.SoundRows.{row-sound, taken-sound}
use Rattle.js_semantics.proofs.FollowLemmas.{WalkFollows, walk-follows, step-follows}
use Rattle.js_semantics.proofs.SoundSteps.{step-sound, SoundWalked, later_of, walk-sound, inner-sound}
use Rattle.frames_scopes.specs.Chains.{IsNested, MoveNested}
use Rattle.frames_scopes.proofs.NestLemmas.{making-nested, writing-nested}

-- ---- actions

full-nested : (b : Bool) (what : Counted) (s : State)
    → IsNested s.world
    → MoveNested (if b then is_full what s else raised_at (values.Object heap_full_error) s)
full-nested true what s h = h
full-nested false what s h = h

after-nested : {A : Type 0} (s : State) (t : Tried A) (k : A → State → Move Term) (P : A → World → Type 0)
    → IsNested s.world
    → AfterFine t (λ a v. IsNested v)
    → AfterFine t P
    → ((a : A) (v : World) → IsNested v → P a v → MoveNested (k a (with_world s v)))
    → MoveNested (after t s k)
after-nested s (fine a v) k P h n p rest = rest a v n p
after-nested s effect k P h n p rest = h
after-nested s (full what) k P h n p rest = full-nested (is_evaluation s.world) what s h

outside-nested : (b : Bool) (s : State) (m : Move Term)
    → IsNested s.world
    → MoveNested m
    → MoveNested (if b then has_effect s else m)
outside-nested true s m h k = h
outside-nested false s m h k = k

both : {A : Type 0} (t : Tried A) (w : World) (P : A → World → Type 0)
    → AfterFine t (λ a v. Keeps w v)
    → AfterFine t P
    → AfterFine t (λ a v. Later w v × P a v)
both (fine a v) w P k p = let l = k.kinds in (l, p)
both effect w P k p = tt
both (full what) w P k p = tt

perform-nested : (a : Action) (s : State) → IsNested s.world → SoundAction s.world a → MoveNested (perform a s)
perform-nested (go t) s h k = h
perform-nested (raise v) s h k = h
perform-nested (leave c) s h k = h
perform-nested (make c k) s h a =
    let P : Addr → World → Type 0 = λ x v. Leads (λ kind. kind ≡ kind_of c) (read_cell v x) in
    after-nested s (make_cell s.world c) (λ x. perform (k x)) (λ x v. Later s.world v × P x v) h
    (making-nested s.world c h a.0)
    (both (make_cell s.world c) s.world P (making-keeps s.world c) (making-leads s.world c))
    (λ x v n q. perform-nested (k x) (with_world s v) n (a.1 v x q.0 q.1))
perform-nested (write x c k) s h a =
    after-nested s (write_cell s.world x c) (λ u. perform k) (λ u v. Keeps s.world v) h
    (writing-nested s.world x c h) (writing-keeps s.world x c)
    (λ u v n q. let l = q.kinds in perform-nested k (with_world s v) n (a.1 v l))
perform-nested (print vs text) s h k =
    outside-nested (is_evaluation s.world) s
    (goes (done values.Undefined) (record s { printed = s.printed ++ text ∷ [] }) _) h h
perform-nested (take_line k) s h a =
    let u : State = record s { input = other_lines s.input } in
    outside-nested (is_evaluation s.world) s (perform (k (first_line s.input)) u) h
    (perform-nested (k (first_line s.input)) u h (a (first_line s.input)))
perform-nested (set_here m k) s h a = perform-nested k (with_here s m) h a
perform-nested (push_frame f k) s h a = perform-nested k (record s { frames = f ∷ s.frames }) h a.1
perform-nested (pop_frame k) s h a = perform-nested k (record s { frames = rest_of s.frames }) h a

-- ---- the parts of a form

abbrev WalkNested : Walked → Type 0
WalkNested (all_values vs) = Unit {0}
WalkNested (moved m) = MoveNested m

-- ---- steps

nested-inside : {T S : Type 0} (f : T → S) (m : Move T) → MoveNested m → MoveNested (inside f m)
nested-inside f (goes t s told) h = h
nested-inside f (travels c s) h = h
nested-inside f (has_effect s) h = h
nested-inside f (is_full what s) h = h

with_value-nested : (v : Value) (x : Walked) → WalkNested x → WalkNested (with_value v x)
with_value-nested v (all_values vs) h = tt
with_value-nested v (moved m) h = nested-inside (λ ts. more (done v) ts) m h

around-nested : (p : Program) (scope : Addr) (f : Form) (later : Terms) (s : State) (x : Walked)
    → SoundState p s
    → SoundScope s.world (Some scope)
    → SoundForm s.world f
    → SoundTerms s.world later
    → WalkFollows s x
    → SoundWalked p s x
    → IsNested s.world
    → WalkNested x
    → MoveNested (around p scope f later s x)
around-nested p scope f later s (all_values vs) h o n k g q d e =
    perform-nested (row p s scope f vs later) s d (row-sound p s scope f vs later h o n q k)
around-nested p scope f later s (moved (goes now t told)) h o n k g q d e = e
around-nested p scope f later s (moved (travels c t)) h o n k g q d e =
    let l = later_of s t g in
    perform-nested (taken scope f c later) t e
    (taken-sound t.world scope f c later (sound-scope s.world t.world l (Some scope) o)
    (sound-form s.world t.world l f n) q.1 (sound-terms s.world t.world l later k))
around-nested p scope f later s (moved (has_effect t)) h o n k g q d e = e
around-nested p scope f later s (moved (is_full what t)) h o n k g q d e = e

mutual
  pub next-nested : (p : Program) (scope : Addr) (t : Term) (s : State)
      → SoundState p s
      → SoundScope s.world (Some scope)
      → SoundTerm s.world t
      → IsNested s.world
      → MoveNested (next p scope t s)
  next-nested p scope (done v) s h o k d = d
  next-nested p scope (standing v place) s h o k d = d
  next-nested p scope (part f now later) s h o k d =
      let inner : SoundScope s.world (Some (scope_in f scope)) = inner-sound s.world f scope k.0 o in
      around-nested p scope f later s (walk p (scope_in f scope) now s) h o k.0 k.2
      (walk-follows p (scope_in f scope) now s) (walk-sound p (scope_in f scope) now s h inner k.1) d
      (walk-nested p (scope_in f scope) now s h inner k.1 d)

  walk-nested : (p : Program) (scope : Addr) (ts : Terms) (s : State)
      → SoundState p s
      → SoundScope s.world (Some scope)
      → SoundTerms s.world ts
      → IsNested s.world
      → WalkNested (walk p scope ts s)
  walk-nested p scope end s h o k d = tt
  walk-nested p scope (more (done v) ts) s h o k d =
      with_value-nested v (walk p scope ts s) (walk-nested p scope ts s h o k.1 d)
  walk-nested p scope (more (standing v place) ts) s h o k d = d
  walk-nested p scope (more (part f now later) ts) s h o k d =
      nested-inside (λ t. more t ts) (next p scope (part f now later) s)
      (next-nested p scope (part f now later) s h o k.0 d)

-- ---- runs

of-nested : (t : Term) (s : State) → IsNested s.world → IsNested (state_of (run_of t s)).world
of-nested (done v) s h = h
of-nested (standing v place) s h = h
of-nested (part f now later) s h = h

after-run : (m : Move Term) → MoveNested m → IsNested (state_of (run_after m)).world
after-run (goes t s told) h = of-nested t s h
after-run (travels c s) h = h
after-run (has_effect s) h = h
after-run (is_full what s) h = h

step-nested : (p : Program) (scope : Addr) (r : Run)
    → SoundScope (state_of r).world (Some scope)
    → SoundRun p r
    → IsNested (state_of r).world
    → IsNested (state_of (step_in p scope r)).world
step-nested p scope (running t s) o h d = after-run (next p scope t s) (next-nested p scope t s h.0 o h.1 d)
step-nested p scope (over f s) o h d = d

pub steps-nested : (k : ℕ) (p : Program) (scope : Addr) (r : Run)
    → SoundScope (state_of r).world (Some scope)
    → SoundRun p r
    → IsNested (state_of r).world
    → IsNested (state_of (steps_in k p scope r)).world
steps-nested zero p scope r o h d = d
steps-nested (suc k) p scope r o h d =
    let q : Run = step_in p scope r in
    steps-nested k p scope q
    (sound-scope (state_of r).world (state_of q).world (later_of (state_of r) (state_of q) (step-follows p scope r))
    (Some scope) o)
    (step-sound p scope r o h) (step-nested p scope r o h d)
