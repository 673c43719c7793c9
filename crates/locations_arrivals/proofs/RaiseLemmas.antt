-- A throw stands exactly behind the step that raised it.
use Rattle.std.proofs.Common.{◌≡◌, ◌↔◌, ℕ, zero, suc, ◌+◌, Bool, true, false, List, [], ◌∷◌, Some, None, length, IsSome, refl, sym, subst, if◌then◌else◌}
use Rattle.js_tree.specs.declared.script.Script.{Script}
use Rattle.js_heap.specs.declared.value.Addr.{Addr}
use Rattle.js_heap.specs.declared.value.Addr.TheVariants.{Base}
use Rattle.js_heap.specs.declared.value.Value.{Value}
use Rattle.js_heap.specs.declared.change.Counted.{Counted}
use Rattle.js_heap.specs.World.{World, Tried, fine, effect, full, make_cell, write_cell, is_evaluation}
use Rattle.js_heap.specs.BuiltIns.{script_scope, first_literal}
use Rattle.js_semantics.specs.declared.form.Source.TheVariants.{Script as script_source}
use Rattle.js_semantics.specs.declared.form.Form.{Form}
use Rattle.js_semantics.specs.Terms.{Term, done, standing, part, Terms, end, more, all_done, finished}
use Rattle.js_semantics.specs.State.{State, StepTold, went, raised, printed_values, Move, goes, travels, has_effect, is_full, inside, Action, go, raise, leave, make, write, print, take_line, set_here, push_frame, pop_frame, with_world, with_here, rest_of, first_line, other_lines, after, raised_at, perform}
use Rattle.js_semantics.specs.Functions.{Program}
use Rattle.js_semantics.specs.Rows.{row, taken}
use Rattle.js_semantics.specs.Next.{Walked, all_values, moved, with_value, scope_in, around, next, walk}
use Rattle.js_semantics.specs.Frames.{Active, reduces, stands, nothing_left, Leftmost, only_values, inner, behind, active_of, active, leftmost, is_caught, standing_of}
use Rattle.js_semantics.specs.Sources.{term_of_script, terms_of_scripts}
use Rattle.js_semantics.specs.Run.{literals, all_with_literals, placed_scripts, program_from, program_of, first_state, start, plain, Run, running, over, run_of, run_after, step_in}
use Rattle.js_semantics.proofs.FollowLemmas.{steps-suc}
use Rattle.locations.specs.declared.marks.Marked.{Marked}
use Rattle.locations.specs.Locations.{script_marks}
use Rattle.locations_arrivals.specs.Belonging.{AllBelong, MarkedSources, behind_step, sources_of, ProgramBelongs, AllWait, RunStands}
use Rattle.locations_arrivals.specs.Raises.{told_of, told_by, HasThrow, StandsWhereRaised}
use Rattle.locations_arrivals.proofs.RunLemmas.{run-moves, RunStandsBehind, steps-stand, start-stands}
use Rattle.locations_arrivals.proofs.ActiveLemmas.{ThrowKnown, running-active}
use Rattle.locations_arrivals.proofs.StartLemmas.{placed-belong, each-mark, kept_parts, parts-belong}

-- ---- behind a step that raises a throw stands

abbrev IsThrow : Active → Type 0
IsThrow (stands v place) = Unit {0}
IsThrow a = ⊥

abbrev LeadsToThrow : Leftmost → Type 0
LeadsToThrow (only_values vs) = ⊥
LeadsToThrow (inner a) = IsThrow a

-- where a step raised
abbrev IfRaised : StepTold → Type 0 → Type 0
IfRaised raised P = P
IfRaised told P = Unit {0}

abbrev MoveRaises : Move Term → Type 0
MoveRaises (goes t s told) = IfRaised told (IsThrow (active t))
MoveRaises m = Unit {0}

abbrev WalkRaises : Walked → Type 0
WalkRaises (moved (goes ts s told)) = IfRaised told (LeadsToThrow (leftmost ts))
WalkRaises x = Unit {0}

if_raised : (told : StepTold) (P Q : Type 0) → (P → Q) → IfRaised told P → IfRaised told Q
if_raised raised P Q f h = f h
if_raised told P Q f h = tt

full_raises : (b : Bool) (what : Counted) (s : State) (v : Value)
    → MoveRaises (if b then is_full what s else raised_at v s)
full_raises true what s v = tt
full_raises false what s v = tt

outside_raises : (b : Bool) (s : State) (m : Move Term) → MoveRaises m → MoveRaises (if b then has_effect s else m)
outside_raises true s m h = tt
outside_raises false s m h = h

after_raises : {A : Type 0} (s : State) (t : Tried A) (k : A → State → Move Term)
    → ((a : A) (w : World) → MoveRaises (k a (with_world s w)))
    → MoveRaises (after t s k)
after_raises s (fine a w) k h = h a w
after_raises s effect k h = tt
after_raises s (full what) k h = full_raises (is_evaluation s.world) what s _

perform-raises : (a : Action) (s : State) → MoveRaises (perform a s)
perform-raises (go t) s = tt
perform-raises (raise v) s = tt
perform-raises (leave c) s = tt
perform-raises (make c k) s =
    after_raises s (make_cell s.world c) (λ a. perform (k a)) (λ a w. perform-raises (k a) (with_world s w))
perform-raises (write a c k) s =
    after_raises s (write_cell s.world a c) (λ x. perform k) (λ x w. perform-raises k (with_world s w))
perform-raises (print vs text) s = outside_raises (is_evaluation s.world) s _ tt
perform-raises (take_line k) s =
    outside_raises (is_evaluation s.world) s _
    (perform-raises (k (first_line s.input)) (record s { input = other_lines s.input }))
perform-raises (set_here m k) s = perform-raises k (with_here s m)
perform-raises (push_frame f k) s = perform-raises k (record s { frames = f ∷ s.frames })
perform-raises (pop_frame k) s = perform-raises k (record s { frames = rest_of s.frames })

-- ---- a throw that stands keeps the forms around it from being finished

before-throw : (v : Value) (l : Leftmost) → LeadsToThrow l → LeadsToThrow (behind v l)
before-throw v (only_values vs) h = h
before-throw v (inner a) h = h

behind-value : (v : Value) (l : Leftmost) → LeadsToThrow (behind v l) → LeadsToThrow l
behind-value v (only_values vs) h = h
behind-value v (inner a) h = h

not-done : (ts : Terms) → LeadsToThrow (leftmost ts) → all_done ts ≡ false
not-done end h = absurd h
not-done (more (done v) ts) h = not-done ts (behind-value v (leftmost ts) h)
not-done (more (standing v place) ts) h = refl
not-done (more (part f now later) ts) h = refl

around-throw : (f : Form) (l : Leftmost) → LeadsToThrow l → IsThrow (active_of f l)
around-throw f (only_values vs) h = absurd h
around-throw f (inner a) h = h

settled_throw : (b : Bool) (f : Form) (now later : Terms)
    → all_done now ≡ b
    → LeadsToThrow (leftmost now)
    → IsThrow (active (if b then finished f now later else part f now later))
settled_throw true f now later e h = let open_part : all_done now ≡ false = not-done now h in cc
settled_throw false f now later e h = around-throw f (leftmost now) h

around-raises : (p : Program) (scope : Addr) (f : Form) (later : Terms) (s : State) (x : Walked)
    → WalkRaises x
    → MoveRaises (around p scope f later s x)
around-raises p scope f later s (all_values vs) h = perform-raises (row p s scope f vs later) s
around-raises p scope f later s (moved (goes now t told)) h =
    if_raised told _ _ (settled_throw (all_done now) f now later refl) h
around-raises p scope f later s (moved (travels c t)) h = perform-raises (taken scope f c later) t
around-raises p scope f later s (moved (has_effect t)) h = tt
around-raises p scope f later s (moved (is_full what t)) h = tt

with_value-raises : (v : Value) (x : Walked) → WalkRaises x → WalkRaises (with_value v x)
with_value-raises v (all_values vs) h = tt
with_value-raises v (moved (goes ts s told)) h = if_raised told _ _ (before-throw v (leftmost ts)) h
with_value-raises v (moved (travels c s)) h = tt
with_value-raises v (moved (has_effect s)) h = tt
with_value-raises v (moved (is_full what s)) h = tt

first-throw : (t : Term) (ts : Terms) → IsThrow (active t) → LeadsToThrow (leftmost (more t ts))
first-throw (done v) ts h = absurd h
first-throw (standing v place) ts h = tt
first-throw (part f now later) ts h = h

inside-raises : (ts : Terms) (m : Move Term) → MoveRaises m → WalkRaises (moved (inside (λ t. more t ts) m))
inside-raises ts (goes t s told) h = if_raised told _ _ (first-throw t ts) h
inside-raises ts (travels c s) h = tt
inside-raises ts (has_effect s) h = tt
inside-raises ts (is_full what s) h = tt

mutual
  next-raises : (p : Program) (scope : Addr) (t : Term) (s : State) → MoveRaises (next p scope t s)
  next-raises p scope (done v) s = tt
  next-raises p scope (standing v place) s = tt
  next-raises p scope (part f now later) s =
      around-raises p scope f later s (walk p (scope_in f scope) now s) (walk-raises p (scope_in f scope) now s)

  walk-raises : (p : Program) (scope : Addr) (ts : Terms) (s : State) → WalkRaises (walk p scope ts s)
  walk-raises p scope end s = tt
  walk-raises p scope (more (done v) ts) s = with_value-raises v (walk p scope ts s) (walk-raises p scope ts s)
  walk-raises p scope (more (standing v place) ts) s = tt
  walk-raises p scope (more (part f now later) ts) s =
      inside-raises ts (next p scope (part f now later) s) (next-raises p scope (part f now later) s)

-- ---- one step, both ways

raised-known : (told : StepTold) (P : Type 0) → IfRaised told P → Some told ≡ Some raised → P
raised-known raised P h e = h
raised-known went P h e = cc
raised-known (printed_values vs) P h e = cc

is_standing : (a : Active) (caught : Bool) → IsThrow a → IsSome (standing_of a caught)
is_standing (stands v place) caught h = refl
is_standing (reduces f vs) caught h = absurd h
is_standing nothing_left caught h = absurd h

run-throws : (t : Term) (s : State) → IsThrow (active t) → HasThrow (run_of t s)
run-throws (done v) s h = absurd h
run-throws (standing v place) s h = refl
run-throws (part f now later) s h = is_standing (active (part f now later)) (is_caught (part f now later)) h

raised-stands : (m : Move Term) → MoveRaises m → told_of m ≡ Some raised → HasThrow (run_after m)
raised-stands (goes t s told) h e = run-throws t s (raised-known told (IsThrow (active t)) h e)
raised-stands (travels c s) h e = cc
raised-stands (has_effect s) h e = cc
raised-stands (is_full what s) h e = cc

known-throw : (R : MarkedSources) (a : Active) (caught : Bool) → ThrowKnown R a → IsSome (standing_of a caught) → R.raises
known-throw R (stands v place) caught h e = h
known-throw R (reduces f vs) caught h e = cc
known-throw R nothing_left caught h e = cc

stands-known : (R : MarkedSources) (r : Run) → RunStands R r → HasThrow r → R.raises
stands-known R (running t s) h e =
    known-throw R (active t) (is_caught t) (running-active R t (sources_of s.frames) h).throw_known e
stands-known R (over f s) h e = absurd e

step-raises : (R : MarkedSources) (p : Program) (r : Run)
    → ProgramBelongs R p
    → RunStandsBehind R r
    → HasThrow (step_in p script_scope r) ↔ (told_by p r ≡ Some raised)
step-raises R p (running t s) g h =
    let m : Move Term = next p script_scope t s in (
      λ e. stands-known (behind_step R (told_of m)) (run_after m)
          (run-moves (behind_step R h.0) p script_scope t s g h.1) e,
      λ e. raised-stands m (next-raises p script_scope t s) e,
    )
step-raises R p (over f s) g h = (λ e. absurd e, λ e. cc)

-- ---- runs of scripts

-- every source runs and has every mark
abbrev every_mark : Marked → Type 0
every_mark m = Unit {0}

abbrev every : MarkedSources
every = record { runs = λ source. Unit {0}; marks = λ source. every_mark; raises = ⊥ }

every-part : (n : ℕ) (s : Script) → AllBelong every_mark (all_with_literals (λ i. Base i) (n + 0) (kept_parts s))
every-part n s =
    placed-belong every_mark (λ i. Base i) (n + 0) (kept_parts s)
    (parts-belong every_mark s (each-mark every_mark (script_marks s) (λ m c. tt)))

every-waits : (ss : List Script) (n : ℕ) → AllWait every (all_with_literals (λ i. Base i) n (terms_of_scripts ss))
every-waits [] n = tt
every-waits (s ∷ ss) n = ((tt, every-part n s), every-waits ss (n + length (literals (term_of_script s))))

every-program : (ss : List Script) (number n : ℕ)
    → ProgramBelongs every (program_from number (all_with_literals (λ i. Base i) n (terms_of_scripts ss)))
every-program [] number n = tt
every-program (s ∷ ss) number n =
    ((tt, tt, every-part n s), every-program ss (number + 1) (n + length (literals (term_of_script s))))

start-waits : (ss : List Script) (input : List (List ℕ))
    → RunStands (behind_step every None) (start (terms_of_scripts ss) input)
start-waits ss input =
    start-stands (behind_step every None) (script_source 1) (placed_scripts (terms_of_scripts ss))
    (first_state (terms_of_scripts ss) input) refl tt (every-waits ss first_literal)

none-raised : None ≡ Some raised → ⊥
none-raised e = cc

pub plain-raises : (k : ℕ) (ss : List Script) (input : List (List ℕ)) → StandsWhereRaised k (terms_of_scripts ss) input
plain-raises zero ss input =
    λ e. none-raised
    (stands-known (behind_step every None) (start (terms_of_scripts ss) input) (start-waits ss input) e)
plain-raises (suc k) ss input =
    let ts : Terms = terms_of_scripts ss in
    let r : Run = plain k ts input in
    let belongs : ProgramBelongs every (program_of ts) = every-program ss 1 first_literal in
    subst (λ (q : Run). HasThrow q ↔ (told_by (program_of ts) r ≡ Some raised))
    (sym (steps-suc k (program_of ts) script_scope (start ts input)))
    (step-raises every (program_of ts) r belongs
    (steps-stand every k (program_of ts) script_scope (start ts input) belongs (None, start-waits ss input)))
