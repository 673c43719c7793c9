-- What an action goes on with: a claim about terms, made of actions, and what follows of the steps that perform them.
use Rattle.std.proofs.Common.{ℕ, zero, suc, Bool, true, false, List, [], ◌∷◌, Option, None, Some, if◌then◌else◌}
use Rattle.std.specs.Prelude.{codes}
use Rattle.js_heap.specs.declared.value.Addr.{Addr}
use Rattle.js_heap.specs.declared.value.Value.{Value}
use Rattle.js_heap.specs.declared.value.Value.TheVariants as values
use Rattle.js_heap.specs.declared.built_in.ErrorClass.{ErrorClass}
use Rattle.js_heap.specs.declared.built_in.ErrorClass.TheVariants as classes
use Rattle.js_heap.specs.declared.cell.Binding.{Binding}
use Rattle.js_heap.specs.declared.change.Counted.{Counted}
use Rattle.js_heap.specs.declared.computed.Computed.{Computed as Result}
use Rattle.js_heap.specs.declared.computed.Computed.TheVariants.{Value as a_value, Text as a_text, Error as an_error}
use Rattle.js_heap.specs.World.{Tried, fine, effect, full, make_cell, write_cell, is_evaluation}
use Rattle.js_semantics.specs.Terms.{SourceMark, function, Term, done, standing, part, Terms, end, more}
use Rattle.js_semantics.specs.State.{State, Move, goes, travels, has_effect, is_full, Action, go, raise, leave, make, write, print, take_line, set_here, push_frame, pop_frame, fail, with_world, with_here, rest_of, first_line, other_lines, after, raised_at, perform}
use Rattle.js_semantics.specs.References.{with_result, with_key}
use Rattle.js_semantics.specs.Functions.{Program, with_functions, with_names}
use Rattle.js_semantics.specs.Next.{next}
use Rattle.js_semantics.specs.Run.{Run, running, over, run_of, run_after, step_in, steps_in}
use Rattle.js_semantics.specs.Claims.{OfMove, OfRun}

-- the claim holds of the term that an action goes on with, whatever comes of its changes; where the action touches a
-- frame, the second one holds too
abbrev pub GoesOn : (Term → Type 0) → Type 0 → Action → Type 0
GoesOn P F (go t) = P t
GoesOn P F (raise v) = Unit {0}
GoesOn P F (leave c) = Unit {0}
GoesOn P F (make c k) = (a : Addr) → GoesOn P F (k a)
GoesOn P F (write a c k) = GoesOn P F k
GoesOn P F (print vs text) = Unit {0}
GoesOn P F (take_line k) = (line : Option (List ℕ)) → GoesOn P F (k line)
GoesOn P F (set_here m k) = GoesOn P F k
GoesOn P F (push_frame f k) = F × GoesOn P F k
GoesOn P F (pop_frame k) = F × GoesOn P F k

pub goes-weaker : (P Q : Term → Type 0) (F G : Type 0)
    → ((t : Term) → P t → Q t)
    → (F → G)
    → (a : Action)
    → GoesOn P F a
    → GoesOn Q G a
goes-weaker P Q F G f g (go t) h = f t h
goes-weaker P Q F G f g (raise v) h = tt
goes-weaker P Q F G f g (leave c) h = tt
goes-weaker P Q F G f g (make c k) h = λ a. goes-weaker P Q F G f g (k a) (h a)
goes-weaker P Q F G f g (write a c k) h = goes-weaker P Q F G f g k h
goes-weaker P Q F G f g (print vs text) h = tt
goes-weaker P Q F G f g (take_line k) h = λ line. goes-weaker P Q F G f g (k line) (h line)
goes-weaker P Q F G f g (set_here m k) h = goes-weaker P Q F G f g k h
goes-weaker P Q F G f g (push_frame e k) h = (g h.0, goes-weaker P Q F G f g k h.1)
goes-weaker P Q F G f g (pop_frame k) h = (g h.0, goes-weaker P Q F G f g k h.1)

-- ---- what most rows are made of

pub fail-goes : (P : Term → Type 0) (F : Type 0) (class : ErrorClass) (message : List ℕ) → GoesOn P F (fail class message)
fail-goes P F class message = λ a b. tt

pub result-goes : (P : Term → Type 0) (F : Type 0) (r : Result) (k : Value → Action)
    → ((x : Value) → GoesOn P F (k x))
    → GoesOn P F (with_result r k)
result-goes P F (a_value v) k h = h v
result-goes P F (a_text us) k h = λ a. h (values.Text a)
result-goes P F (an_error class message) k h = fail-goes P F class message

pub key-goes : (P : Term → Type 0) (F : Type 0) (o : Option (List ℕ)) (k : List ℕ → Action)
    → ((key : List ℕ) → GoesOn P F (k key))
    → GoesOn P F (with_key o k)
key-goes P F None k h = fail-goes P F classes.TypeError (codes "Property key must be a string or a number")
key-goes P F (Some key) k h = h key

pub choose-goes : (P : Term → Type 0) (F : Type 0) (b : Bool) (x y : Action)
    → GoesOn P F x
    → GoesOn P F y
    → GoesOn P F (if b then x else y)
choose-goes P F true x y h k = h
choose-goes P F false x y h k = k

pub functions-goes : (P : Term → Type 0) (F : Type 0) (scope : Addr) (ts : Terms) (k : Action)
    → GoesOn P F k
    → GoesOn P F (with_functions scope ts k)
functions-goes P F scope end k h = h
functions-goes P F scope (more (part (function f) now later) ts) k h = λ a. functions-goes P F scope ts k h
functions-goes P F scope (more _ ts) k h = functions-goes P F scope ts k h

pub names-goes : (P : Term → Type 0) (F : Type 0) (scope : Addr) (bs : List Binding) (k : Action)
    → GoesOn P F k
    → GoesOn P F (with_names scope bs k)
names-goes P F scope [] k h = h
names-goes P F scope (b ∷ bs) k h = names-goes P F scope bs k h

-- ---- performing

full-goes : (P : Term → Type 0) (b : Bool) (what : Counted) (s : State) (v : Value)
    → ((place : SourceMark) → P (standing v place))
    → OfMove P (if b then is_full what s else raised_at v s)
full-goes P true what s v h = tt
full-goes P false what s v h = h _

outside-goes : (P : Term → Type 0) (b : Bool) (s : State) (m : Move Term)
    → OfMove P m
    → OfMove P (if b then has_effect s else m)
outside-goes P true s m h = tt
outside-goes P false s m h = h

after-goes : {A : Type 0} (P : Term → Type 0) (s : State) (t : Tried A) (k : A → State → Move Term)
    → ((v : Value) (place : SourceMark) → P (standing v place))
    → ((a : A) (u : State) → OfMove P (k a u))
    → OfMove P (after t s k)
after-goes P s (fine a v) k raised h = h a (with_world s v)
after-goes P s effect k raised h = tt
after-goes P s (full what) k raised h = full-goes P (is_evaluation s.world) what s _ (raised _)

pub perform-goes : (P : Term → Type 0) (F : Type 0)
    → ((v : Value) (place : SourceMark) → P (standing v place))
    → P (done values.Undefined)
    → (a : Action) (s : State)
    → GoesOn P F a
    → OfMove P (perform a s)
perform-goes P F raised given (go t) s h = h
perform-goes P F raised given (raise v) s h = raised v _
perform-goes P F raised given (leave c) s h = tt
perform-goes P F raised given (make c k) s h =
    after-goes P s (make_cell s.world c) (λ a. perform (k a)) raised
    (λ a u. perform-goes P F raised given (k a) u (h a))
perform-goes P F raised given (write a c k) s h =
    after-goes P s (write_cell s.world a c) (λ x. perform k) raised
    (λ x u. perform-goes P F raised given k u h)
perform-goes P F raised given (print vs text) s h = outside-goes P (is_evaluation s.world) s _ given
perform-goes P F raised given (take_line k) s h =
    outside-goes P (is_evaluation s.world) s _
    (perform-goes P F raised given (k (first_line s.input)) (record s { input = other_lines s.input })
    (h (first_line s.input)))
perform-goes P F raised given (set_here m k) s h = perform-goes P F raised given k (with_here s m) h
perform-goes P F raised given (push_frame f k) s h =
    perform-goes P F raised given k (record s { frames = f ∷ s.frames }) h.1
perform-goes P F raised given (pop_frame k) s h =
    perform-goes P F raised given k (record s { frames = rest_of s.frames }) h.1

-- ---- runs

pub of-run : (P : Term → Type 0) (t : Term) (s : State) → P t → OfRun P (run_of t s)
of-run P (done v) s h = tt
of-run P (standing v place) s h = h
of-run P (part f now later) s h = h

after-run : (P : Term → Type 0) (m : Move Term) → OfMove P m → OfRun P (run_after m)
after-run P (goes t s told) h = of-run P t s h
after-run P (travels c s) h = tt
after-run P (has_effect s) h = tt
after-run P (is_full what s) h = tt

step-run : (P : Term → Type 0) (p : Program) (scope : Addr) (r : Run)
    → ((t : Term) (s : State) → P t → OfMove P (next p scope t s))
    → OfRun P r
    → OfRun P (step_in p scope r)
step-run P p scope (running t s) step h = after-run P (next p scope t s) (step t s h)
step-run P p scope (over f s) step h = tt

-- a claim that each step keeps holds at each configuration of a run
pub steps-run : (P : Term → Type 0) (k : ℕ) (p : Program) (scope : Addr) (r : Run)
    → ((t : Term) (s : State) → P t → OfMove P (next p scope t s))
    → OfRun P r
    → OfRun P (steps_in k p scope r)
steps-run P zero p scope r step h = h
steps-run P (suc k) p scope r step h = steps-run P k p scope (step_in p scope r) step (step-run P p scope r step h)
