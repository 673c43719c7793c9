-- Lemmas on performing actions.
use Rattle.std.proofs.Common.{◌≡◌, ℕ, Bool, true, false, refl, ap, sym, ◌∙◌, subst, List}
use Rattle.std.specs.Prelude.{Result, Ok, Err, OnErr, IsErrAnd}
use Rattle.js_heap.specs.declared.value.Addr.{Addr}
use Rattle.js_heap.specs.declared.value.Value.{Value}
use Rattle.js_heap.specs.declared.cell.Cell.{Cell}
use Rattle.js_heap.specs.declared.change.Change.{Change}
use Rattle.js_heap.specs.declared.change.Counted.{Counted}
use Rattle.js_heap.specs.declared.built_in.ErrorClass.{ErrorClass}
use Rattle.js_heap.specs.declared.computed.Computed.{Computed}
use Rattle.js_heap.specs.World.{World, Tried, make_cell, write_cell, is_evaluation}
use Rattle.js_semantics.specs.State.{State, with_world, Action, make, write, raise, make_text, fail, give, perform, after, when_full, Move, has_effect}
use Rattle.js_semantics.specs.References.{with_result}
use Rattle.js_semantics.specs.Terms.{Term}
use Rattle.js_heap_memory.specs.declared.world.Refused.{Refused}
use Rattle.js_heap_memory.specs.declared.world.Refused.TheVariants as refusals
use Rattle.js_heap_memory.specs.Calls.{Tries}
use Rattle.js_machine_actions.specs.declared.action_end.ActionEnd.{ActionEnd}
use Rattle.js_machine_actions.specs.Flow.{performed, IsSaid, ended, Stops, Ends, Yields, Passes, Gives, stop_of, answered, with_error, raised_or}

-- ---- calls on the world

-- a full world, by whether it is an evaluation's
full_by : (b : Bool) (what : Counted) (s : State)
    → is_evaluation s.world ≡ b
    → when_full what s ≡ ended (stop_of b (refusals.Full what)) s
unfolding performed
full_by true what s e = rw e refl
full_by false what s e = rw e refl

-- a refused call ends the action where it stands
refused_by : {A : Type 0} (t : Tried A) (r : Refused) (s : State) (w : World) (k : A → State → Move Term)
    → Tries t (Err r) w
    → w ≡ s.world
    → IsSaid (stop_of (is_evaluation s.world) r) →
    after t s k ≡ ended (stop_of (is_evaluation s.world) r) (with_world s w)
refused_by t refusals.Effect s w k h e said = ap (λ x. after x s k) h ∙ ap (λ v. has_effect (with_world s v)) (sym e)
refused_by t (refusals.Full what) s w k h e said =
    ap (λ x. after x s k) h
    ∙ full_by (is_evaluation s.world) what s refl
    ∙ ap (λ v. ended (stop_of (is_evaluation s.world) (refusals.Full what)) (with_world s v)) (sym e)
refused_by t refusals.Memory s w k h e said = absurd said

makes_by : (v w : World) (c : Cell) (r : Result Addr Refused)
    → Tries (make_cell v c) r w
    → OnErr r (w ≡ v)
    → Yields (make c) v (answered (is_evaluation v) r) w
unfolding performed
makes_by v w c (Ok a) h e = λ s k. ap (λ t. after t (with_world s v) (λ b. perform (k b))) h
makes_by v w c (Err r) h e = λ s k said. refused_by (make_cell v c) r (with_world s v) w (λ b. perform (k b)) h e said

-- a refusal leaves the world as it was, so it is one of the same run or evaluation
same_end : {A : Type 0} (v w : World) (r : Result A Refused)
    → OnErr r (w ≡ v)
    → answered (is_evaluation w) r ≡ answered (is_evaluation v) r
same_end v w (Ok a) e = refl
same_end v w (Err r) e = ap (λ x. Err (stop_of (is_evaluation x) r)) e

same_world : {A S : Type 0} (f : S → World) (x y : S) (r : Result A Refused) → OnErr r (y ≡ x) → OnErr r (f y ≡ f x)
same_world f x y (Ok a) e = tt
same_world f x y (Err r) e = ap f e

-- a cell is made, by what the code found
pub made-by : {S : Type 0} (f : S → World) (x y : S) (c : Cell) (r : Result Addr Refused) (q : Result Addr ActionEnd)
    → Tries (make_cell (f x) c) r (f y)
    → OnErr r (y ≡ x)
    → q ≡ answered (is_evaluation (f y)) r
    → Yields (make c) (f x) q (f y)
made-by f x y c r q h e g =
    let k : OnErr r (f y ≡ f x) = same_world f x y r e in
    let P : Result Addr ActionEnd → Type 0 = λ z. Yields (make c) (f x) z (f y) in
    subst P (sym (g ∙ same_end (f x) (f y) r k)) (makes_by (f x) (f y) c r h k)

writes_by : (v w : World) (a : Addr) (c : Change) (r : Result (Unit {0}) Refused)
    → Tries (write_cell v a c) r w
    → OnErr r (w ≡ v)
    → Passes (write a c) v (answered (is_evaluation v) r) w
unfolding performed
writes_by v w a c (Ok u) h e = λ s k. ap (λ t. after t (with_world s v) (λ u. perform k)) h
writes_by v w a c (Err r) h e = λ s k said. refused_by (write_cell v a c) r (with_world s v) w (λ u. perform k) h e said

-- a cell is changed
pub written-by : {S : Type 0} (f : S → World) (x y : S) (a : Addr) (c : Change) (r : Result (Unit {0}) Refused)
    (q : Result (Unit {0}) ActionEnd)
    → Tries (write_cell (f x) a c) r (f y)
    → OnErr r (y ≡ x)
    → q ≡ answered (is_evaluation (f y)) r
    → Passes (write a c) (f x) q (f y)
written-by f x y a c r q h e g =
    let k : OnErr r (f y ≡ f x) = same_world f x y r e in
    let P : Result (Unit {0}) ActionEnd → Type 0 = λ z. Passes (write a c) (f x) z (f y) in
    subst P (sym (g ∙ same_end (f x) (f y) r k)) (writes_by (f x) (f y) a c r h k)

-- ---- the end of an action

-- an error that was made is raised
pub failed-by : (v w : World) (class : ErrorClass) (message : List ℕ) (r : Result Value ActionEnd)
    → Yields (with_error class message) v r w
    → Ends (fail class message) v (raised_or r) w
failed-by v w class message (Ok u) h = λ s said. h s (λ x. raise x)
failed-by v w class message (Err e) h = λ s. h s (λ x. raise x)

-- ---- what a `?` hands on

pub yields-err : {A : Type 0} (f : (A → Action) → Action) (v w : World) (r : Result A ActionEnd) (e : ActionEnd)
    → IsErrAnd r (λ d. d ≡ e)
    → ((s : State) (k : A → Action) → Stops (f k) (with_world s v) e (with_world s w))
    → Yields f v r w
yields-err {A} f v w (Ok a) e h k = absurd h
yields-err {A} f v w (Err d) e h k =
    let P : ActionEnd → Type 0 = λ x. (s : State) (c : A → Action) → Stops (f c) (with_world s v) x (with_world s w) in
    subst P (sym h) k

pub gives-err : (a : Action) (v w : World) (r : Result Value ActionEnd) (e : ActionEnd)
    → IsErrAnd r (λ d. d ≡ e)
    → ((s : State) → Stops a (with_world s v) e (with_world s w))
    → Gives a v r w
gives-err a v w (Ok u) e h k = absurd h
gives-err a v w (Err d) e h k =
    let P : ActionEnd → Type 0 = λ x. (s : State) → Stops a (with_world s v) x (with_world s w) in subst P (sym h) k

pub passes-err : {A : Type 0} (f : Action → Action) (v w : World) (r : Result A ActionEnd) (e : ActionEnd)
    → IsErrAnd r (λ d. d ≡ e)
    → ((s : State) (k : Action) → Stops (f k) (with_world s v) e (with_world s w))
    → Passes f v r w
passes-err f v w (Ok a) e h k = absurd h
passes-err f v w (Err d) e h k =
    let P : ActionEnd → Type 0 = λ x. (s : State) (c : Action) → Stops (f c) (with_world s v) x (with_world s w) in
    subst P (sym h) k

-- ---- results and texts that are given

pub gives_by : (f : (Value → Action) → Action) (v w : World) (r : Result Value ActionEnd)
    → Yields f v r w
    → Gives (f give) v r w
gives_by f v w (Ok u) h = λ s. h s give
gives_by f v w (Err e) h = λ s. h s give

-- a result that is given
pub result-gives : (x y : Computed) (v w : World) (r : Result Value ActionEnd)
    → x ≡ y
    → Yields (with_result x) v r w
    → Gives (with_result y give) v r w
result-gives x y v w r e h =
    let P : Computed → Type 0 = λ z. Gives (with_result z give) v r w in
    subst P e (gives_by (with_result x) v w r h)

-- a text that is given
pub text-gives : (x y : List ℕ) (v w : World) (r : Result Value ActionEnd)
    → x ≡ y
    → Yields (make_text x) v r w
    → Gives (make_text y give) v r w
text-gives x y v w r e h =
    let P : List ℕ → Type 0 = λ z. Gives (make_text z give) v r w in
    subst P e (gives_by (make_text x) v w r h)
