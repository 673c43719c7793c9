-- At most 1,000 calls are active in a program's run, and in an evaluation.
use Rattle.std.proofs.Common.{◌≡◌, ℕ, ◌+◌, ◌<◌, ◌≤◌, Bool, true, false, List, [], ◌∷◌, length, refl, arith, if◌then◌else◌}
use Rattle.std.specs.Prelude.{Some, codes, nat_le, nat_lt}
use Rattle.std.proofs.lemmas.Bool.Decides.{nat_tests}
use Rattle.js_tree.specs.declared.tree.Expr.{Expr}
use Rattle.js_tree.specs.declared.script.Script.{Script}
use Rattle.js_tree.specs.declared.script.Expression.{Expression}
use Rattle.js_tree.specs.declared.script.FunctionCode.{FunctionCode as FunctionSource}
use Rattle.js_heap.specs.declared.value.Addr.{Addr}
use Rattle.js_heap.specs.declared.value.Addr.TheVariants.{Base, Scratch}
use Rattle.js_heap.specs.declared.value.Value.{Value}
use Rattle.js_heap.specs.declared.value.Value.TheVariants as values
use Rattle.js_heap.specs.declared.built_in.ErrorClass.TheVariants as classes
use Rattle.js_heap.specs.declared.change.Counted.{Counted}
use Rattle.js_heap.specs.BuiltIns.{script_scope, first_literal}
use Rattle.js_heap.specs.ScratchSpaces.{ScratchSpace, copied_world, keep_source}
use Rattle.js_heap.specs.World.{World, Tried, fine, effect, full}
use Rattle.js_heap.specs.Worlds.{AfterFine}
use Rattle.js_semantics.specs.Evaluation.{Argument, after_try, call_with_values, evaluation_state, kept_term, kept_tree, make_arguments, next_kept, place_literals, prepared, with_arguments, with_source}
use Rattle.js_semantics.specs.Functions.{Program, FunctionCode, call_code, called_this, entered, frame_limit}
use Rattle.js_semantics.specs.Literals.{source_literals}
use Rattle.js_semantics.specs.Run.{all_with_literals, first_state, literals, literals_of, placed_scripts, plain, program_from, program_of, with_literals}
use Rattle.js_semantics.specs.Sources.{expression_source, terms_of_scripts}
use Rattle.js_semantics.specs.State.{Action, State, fail}
use Rattle.js_semantics.specs.Terms.{Term, done, standing, part, Terms, end, more, dones, settled}
use Rattle.js_semantics.specs.declared.form.Source.{Source}
use Rattle.js_semantics.specs.declared.form.Form.TheVariants.{Scripts as scripts, Frame as frame, Literal as literal}
use Rattle.js_semantics.specs.Untouched.{IsUntouched, AreUntouched}
use Rattle.js_semantics.proofs.InvariantLemmas.{settled-kept}
use Rattle.js_semantics.proofs.SourceLemmas.{expression-untouched, scripts-unstarted}
use Rattle.js_semantics.proofs.UnstartedMakers.{terms-untouched}
use Rattle.js_semantics_limits.specs.ActiveCalls.{contexts_of, active_calls, active_calls_in, IsAtRest, ProgramIsAtRest, calls_in, calls_while, evaluation_after}
use Rattle.js_semantics_limits.proofs.CallLemmas.{none-in-all, none-in-both, none-in-first, none-in-second, resting, rest-kept, run-few}

-- ---- before the first step no call is active

mutual
  placed-rests : (at : ℕ → Addr) (n : ℕ) (t : Term) → IsUntouched t → active_calls (with_literals at n t) ≡ 0
  placed-rests at n (done v) h = refl
  placed-rests at n (standing v place) h = refl
  placed-rests at n (part (literal us) now later) h = refl
  placed-rests at n (part (frame node a) now later) h = absurd h.0
  placed-rests at n (part f now later) h =
      none-in-all (contexts_of f) (active_calls_in (all_with_literals at n now))
      (active_calls_in (all_with_literals at (n + length (literals_of now)) later)) refl
      (all-placed-rest at n now h.1) (all-placed-rest at (n + length (literals_of now)) later h.2)

  all-placed-rest : (at : ℕ → Addr) (n : ℕ) (ts : Terms)
      → AreUntouched ts
      → active_calls_in (all_with_literals at n ts) ≡ 0
  all-placed-rest at n end h = refl
  all-placed-rest at n (more t ts) h =
      none-in-both (active_calls (with_literals at n t))
      (active_calls_in (all_with_literals at (n + length (literals t)) ts)) (placed-rests at n t h.0)
      (all-placed-rest at (n + length (literals t)) ts h.1)

scripts-rest : (ss : List Script) → active_calls_in (placed_scripts (terms_of_scripts ss)) ≡ 0
scripts-rest ss =
    all-placed-rest (λ n. Base n) first_literal (terms_of_scripts ss)
    (terms-untouched (terms_of_scripts ss) (scripts-unstarted ss))

sources-rest : (n : ℕ) (ts : Terms) → active_calls_in ts ≡ 0 → ProgramIsAtRest (program_from n ts)
sources-rest n end h = tt
sources-rest n (more t ts) h = (
  none-in-first (active_calls t) (active_calls_in ts) h,
  sources-rest (n + 1) ts (none-in-second (active_calls t) (active_calls_in ts) h),
)

pub program-rests : (ss : List Script) → ProgramIsAtRest (program_of (terms_of_scripts ss))
program-rests ss = sources-rest 1 (placed_scripts (terms_of_scripts ss)) (scripts-rest ss)

-- the term of a source, wherever it is kept among the cells of evaluations
kept-rests : (n : ℕ) (e : Expr) → IsAtRest (kept_tree (Scratch n) (expression_source e))
kept-rests n e = placed-rests (λ i. Scratch i) (n + 1) _ (expression-untouched e _)

pub tree-rests : (x : ScratchSpace) (e : Expr) → IsAtRest (kept_tree (next_kept x) (expression_source e))
tree-rests x e = kept-rests (length x.cells) e

source-rests : (p : Program) (x : ScratchSpace) (e : Expr)
    → ProgramIsAtRest p
    → ProgramIsAtRest (with_source p x (expression_source e))
source-rests p x e h = (tree-rests x e, h)

-- ---- the run of a program

pub program-few : (k : ℕ) (ss : List Script) (input : List (List ℕ))
    → calls_in (plain k (terms_of_scripts ss) input) + 1 ≤ 1000
program-few k ss input =
    let ts : Terms = terms_of_scripts ss in
    run-few 1 k (program_of ts) script_scope (settled scripts (placed_scripts ts) end) (first_state ts input)
    (program-rests ss)
    (settled-kept (resting (Unit {0})) (rest-kept (Unit {0})) scripts (placed_scripts ts) end (λ r. refl)
    (λ r. scripts-rest ss) (λ r. refl) tt) refl (omega arith)

-- ---- evaluations

then-rest : {A B : Type 0} (Q : A → Type 0) (P : B → Type 0) (t : Tried A) (k : A → World → Tried B)
    → AfterFine t (λ a v. Q a)
    → ((a : A) (v : World) → Q a → AfterFine (k a v) (λ b u. P b))
    → AfterFine (after_try t k) (λ b u. P b)
then-rest Q P (fine a v) k h rest = rest a v h
then-rest Q P effect k h rest = tt
then-rest Q P (full what) k h rest = tt

of-any : {A : Type 0} (t : Tried A) → AfterFine t (λ a v. Unit {0})
of-any (fine a v) = tt
of-any effect = tt
of-any (full what) = tt

-- a source stands among the cells of evaluations
abbrev IsScratch : Addr → Type 0
IsScratch (Scratch n) = Unit {0}
IsScratch (Base n) = ⊥

kept-there : (b : Bool) (n : ℕ) (v : World) (what : Counted)
    → AfterFine (if b then fine (Scratch n) v else full what) (λ at u. IsScratch at)
kept-there true n v what = tt
kept-there false n v what = tt

rests-there : (at : Addr) (e : Expr) → IsScratch at → IsAtRest (kept_tree at (expression_source e))
rests-there (Scratch n) e h = kept-rests n e
rests-there (Base n) e h = absurd h

prepared-rests : (w : World) (x : ScratchSpace) (source : List ℕ) (order : List (List ℕ)) (e : Expr)
    → AfterFine (prepared w x source order (expression_source e)) (λ t v. IsAtRest t)
prepared-rests w x source order e =
    let c : World = copied_world w x in
    then-rest IsScratch IsAtRest (keep_source c source)
    (λ at v. after_try (place_literals v order (literals (kept_term at (expression_source e))))
    (λ u z. fine (kept_tree at (expression_source e)) z))
    (kept-there (nat_le (length source) c.room.units) (length c.scratch) _ _)
    (λ at v h. then-rest (λ u. Unit {0}) IsAtRest
    (place_literals v order (literals (kept_term at (expression_source e))))
    (λ u z. fine (kept_tree at (expression_source e)) z) (of-any _) (λ u z i. rests-there at e h))

dones-rest : (vs : List Value) → active_calls_in (dones vs) ≡ 0
dones-rest [] = refl
dones-rest (v ∷ vs) = none-in-both 0 (active_calls_in (dones vs)) refl (dones-rest vs)

called-rests : (receiver : Value) (f : Term) (vs : List Value) → IsAtRest f → IsAtRest (call_with_values receiver f vs)
called-rests receiver f vs h =
    let rest = dones-rest vs in
    omega (arith, h, rest)

arguments-rest : (receiver : Value) (args : List Argument) (t : Tried Term)
    → AfterFine t (λ f v. IsAtRest f)
    → AfterFine (with_arguments receiver args t) (λ f v. IsAtRest f)
arguments-rest receiver args t h =
    then-rest IsAtRest IsAtRest t
    (λ f v. after_try (make_arguments v args) (λ vs u. fine (call_with_values receiver f vs) u)) h
    (λ f v i. then-rest (λ vs. Unit {0}) IsAtRest (make_arguments v args)
    (λ vs u. fine (call_with_values receiver f vs) u) (of-any _) (λ vs u j. called-rests receiver f vs i))

while-few : (k : ℕ) (p : Program) (scope : Addr) (receiver : Value) (t : Tried Term)
    → ProgramIsAtRest p
    → AfterFine t (λ f v. IsAtRest f)
    → calls_while t (evaluation_after k p scope receiver) ≤ 1000
while-few k p scope receiver (fine t w) g h =
    let few = run-few 0 k p scope t (evaluation_state w receiver) g h refl (omega arith) in
    omega (arith, few)
while-few k p scope receiver effect g h = omega arith
while-few k p scope receiver (full what) g h = omega arith

pub evaluation-few : (k : ℕ) (p : Program) (w : World) (x : ScratchSpace) (scope : Addr) (receiver : Value)
    (e : Expression)
    → ProgramIsAtRest p
    → calls_while (prepared w x e.source (source_literals e.tree) (expression_source e.tree))
    (evaluation_after k (with_source p x (expression_source e.tree)) scope receiver) ≤ 1000
evaluation-few k p w x scope receiver e h =
    while-few k (with_source p x (expression_source e.tree)) scope receiver
    (prepared w x e.source (source_literals e.tree) (expression_source e.tree)) (source-rests p x e.tree h)
    (prepared-rests w x e.source (source_literals e.tree) e.tree)

pub call-few : (k : ℕ) (p : Program) (w : World) (x : ScratchSpace) (f : FunctionSource) (receiver : Value)
    (args : List Argument)
    → ProgramIsAtRest p
    → calls_while
    (with_arguments receiver args (prepared w x f.source (source_literals f.tree) (expression_source f.tree)))
    (evaluation_after k (with_source p x (expression_source f.tree)) script_scope values.Undefined) ≤ 1000
call-few k p w x f receiver args h =
    while-few k (with_source p x (expression_source f.tree)) script_scope values.Undefined
    (with_arguments receiver args (prepared w x f.source (source_literals f.tree) (expression_source f.tree)))
    (source-rests p x f.tree h)
    (arguments-rest receiver args (prepared w x f.source (source_literals f.tree) (expression_source f.tree))
    (prepared-rests w x f.source (source_literals f.tree) f.tree))

-- ---- the step of a call

chosen-then : (b : Bool) (x y : Action) → b ≡ true → (if b then x else y) ≡ x
chosen-then true x y e = refl
chosen-then false x y e = absurd cc

chosen-else : (b : Bool) (x y : Action) → b ≡ false → (if b then x else y) ≡ y
chosen-else true x y e = absurd cc
chosen-else false x y e = refl

less-than : (m n : ℕ) → m < n → nat_lt m n ≡ true
less-than m n h = grind (arith, nat_tests)

not-less : (m n : ℕ) → n ≤ m → nat_lt m n ≡ false
not-less m n h = grind (arith, nat_tests)

pub call-enters : (s : State) (c : FunctionCode) (source : Source) (a : Addr) (name : List ℕ) (outer : Addr)
    (made given : Value) (args : List Value)
    → length s.frames < 1000
    → call_code s (Some c) source a name (Some outer) made given args
    ≡ entered c source a name outer (called_this c.form.is_arrow made given) args
call-enters s c source a name outer made given args h =
    chosen-then (nat_lt (length s.frames) frame_limit)
    (entered c source a name outer (called_this c.form.is_arrow made given) args) _
    (less-than (length s.frames) frame_limit h)

pub call-refused : (s : State) (c : FunctionCode) (source : Source) (a : Addr) (name : List ℕ) (outer : Addr)
    (made given : Value) (args : List Value)
    → 1000 ≤ length s.frames
    → call_code s (Some c) source a name (Some outer) made given args
    ≡ fail classes.RangeError (codes "Maximum call stack size exceeded")
call-refused s c source a name outer made given args h =
    chosen-else (nat_lt (length s.frames) frame_limit) _ _ (not-less (length s.frames) frame_limit h)
