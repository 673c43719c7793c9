-- An evaluation leaves the program's cells and those of earlier evaluations.
use Rattle.std.proofs.Common.{◌≡◌, ℕ, ◌-◌, Bool, true, false, if◌then◌else◌, List, [], ◌∷◌, ◌++◌, length, take, Option, None, Some, refl, ap, ◌∙◌, subst, arith, length-append}
use Rattle.std.proofs.lemmas.Bool.{eq-eqb}
use Rattle.std.proofs.lemmas.List.{take-append-le}
use Rattle.std.specs.Prelude.{slice_get, nat_le}
use Rattle.js_heap.specs.declared.value.Addr.{Addr}
use Rattle.js_heap.specs.declared.value.Addr.TheVariants.{Base, Scratch}
use Rattle.js_heap.specs.declared.value.Value.{Value}
use Rattle.js_heap.specs.declared.value.Value.TheVariants as values
use Rattle.js_heap.specs.declared.cell.Cell.{Cell}
use Rattle.js_heap.specs.declared.cell.Cell.TheVariants as cells
use Rattle.js_heap.specs.declared.cell.Property.{Property}
use Rattle.js_heap.specs.declared.change.Counted.TheVariants as counted
use Rattle.js_heap.specs.Keys.{put_property}
use Rattle.js_heap.specs.World.{Room, World, Tried, fine, effect, full, read_cell, make_cell}
use Rattle.js_heap.specs.Worlds.{KindStays, OthersStay, Keeps, AfterFine}
use Rattle.js_heap.specs.BuiltIns.{script_scope}
use Rattle.js_heap.proofs.KeepLemmas.{stays-same, stays-append, keeps-same, keeps-trans, making-keeps, fine_if}
use Rattle.js_semantics.specs.Terms.{script_source, kept_source, Term}
use Rattle.js_semantics.specs.State.{State}
use Rattle.js_semantics.specs.Functions.{Program, FunctionCode, same_source, function_in, function_at}
use Rattle.js_semantics.specs.Makers.{MadeExpression}
use Rattle.js_semantics.specs.Run.{ended, threw, by_effect, by_full, Run, running, over, run_of, state_of, steps_in, literals}
use Rattle.js_semantics.specs.Evaluation.{ScratchSpace, copied_world, after_try, keep_source, make_literals, place_literals, Json, json_null, json_bool, json_number, json_string, json_array, json_object, Jsons, no_jsons, a_json, Members, no_members, a_member, object_value, make_json, make_jsons, make_members, Argument, given, made_of, make_argument, make_arguments, budget, Answer, answer_of, evaluation_state, answered, next_kept, kept_term, kept_tree, with_source, prepared, evaluated, evaluate, call_with_values, with_arguments, evaluate_call}
use Rattle.js_semantics.specs.Laws.{Follows, Undisturbed, AnswerKeeps}
use Rattle.js_semantics.proofs.FollowLemmas.{steps-follows, run_of-state}

take_all : (cs : List Cell) → take (length cs) cs ≡ cs
take_all [] = refl
take_all (c ∷ cs) = ap {B = List Cell} (λ ds. c ∷ ds) (take_all cs)

undisturbed : (w : World) (x : ScratchSpace) (v : World) → Keeps (copied_world w x) v → Undisturbed w x v
undisturbed w x v k =
    let o = k.others in record { program = o.0; earlier = let h = o.1 (omega arith) in h.1 ∙ take_all x.cells }

-- ---- what is made before the first step

fine_keeps : {B : Type 0} (w v : World) (t : Tried B)
    → Keeps w v
    → AfterFine t (λ b u. Keeps v u)
    → AfterFine t (λ b u. Keeps w u)
fine_keeps w v (fine b u) h k = keeps-trans w v u h k
fine_keeps w v effect h k = tt
fine_keeps w v (full what) h k = tt

then_keeps : {A B : Type 0} (w : World) (t : Tried A) (k : A → World → Tried B)
    → AfterFine t (λ a v. Keeps w v)
    → ((a : A) (v : World) → AfterFine (k a v) (λ b u. Keeps v u))
    → AfterFine (after_try t k) (λ b u. Keeps w u)
then_keeps w (fine a v) k h rest = fine_keeps w v (k a v) h (rest a v)
then_keeps w effect k h rest = tt
then_keeps w (full what) k h rest = tt

pub source_kinds : (w : World) (us : List ℕ) (r : Room) (a : Addr)
    → KindStays (read_cell w a) (read_cell (record w { scratch = w.scratch ++ cells.Text us ∷ []; room = r }) a)
source_kinds w us r (Base i) = stays-same (slice_get w.base i)
source_kinds w us r (Scratch i) = stays-append w.scratch (cells.Text us) i

pub source_others : (o : Option ℕ) (w : World) (us : List ℕ) (r : Room)
    → OthersStay o w (record w { scratch = w.scratch ++ cells.Text us ∷ []; room = r })
source_others None w us r = tt
source_others (Some n) w us r = (
  refl,
  λ h. (
    omega (arith, length-append w.scratch (cells.Text us ∷ [])),
    take-append-le n w.scratch (cells.Text us ∷ []) h,
  ),
)

pub keep-keeps : (w : World) (us : List ℕ) → AfterFine (keep_source w us) (λ a v. Keeps w v)
keep-keeps w us =
    let r : Room = record { cells = w.room.cells; units = w.room.units - length us } in
    let v : World = record w { scratch = w.scratch ++ cells.Text us ∷ []; room = r } in
    let P : Addr → World → Type 0 = λ a u. Keeps w u in
    fine_if (nat_le (length us) w.room.units) counted.Units (fine (Scratch (length w.scratch)) v) P
    (record { start = refl; kinds = source_kinds w us r; others = source_others w.start w us r })

literals-keep : (w : World) (ts : List (List ℕ)) → AfterFine (make_literals w ts) (λ u v. Keeps w v)
literals-keep w [] = keeps-same w
literals-keep w (us ∷ ts) =
    then_keeps w (make_cell w (cells.Text us)) (λ a v. make_literals v ts) (making-keeps w (cells.Text us))
    (λ a v. literals-keep v ts)

second_keeps : {A B : Type 0} (w : World) (t : Tried A) (u : Tried B)
    → AfterFine u (λ b v. Keeps w v)
    → AfterFine (after_try t (λ a v. u)) (λ b v. Keeps w v)
second_keeps w (fine a v) u h = h
second_keeps w effect u h = tt
second_keeps w (full what) u h = tt

placed-keep : (w : World) (ts us : List (List ℕ)) → AfterFine (place_literals w ts us) (λ u v. Keeps w v)
placed-keep w ts us = second_keeps w _ (make_literals w us) (literals-keep w us)

object-keeps : (w : World) (c : Cell) → AfterFine (object_value (make_cell w c)) (λ x v. Keeps w v)
object-keeps w c =
    then_keeps w (make_cell w c) (λ a v. fine (values.Object a) v) (making-keeps w c) (λ a v. keeps-same v)

mutual
  json-keeps : (w : World) (j : Json) → AfterFine (make_json w j) (λ x v. Keeps w v)
  json-keeps w json_null = keeps-same w
  json-keeps w (json_bool b) = keeps-same w
  json-keeps w (json_number z) = keeps-same w
  json-keeps w (json_string us) =
      then_keeps w (make_cell w (cells.Text us)) (λ a v. fine (values.Text a) v) (making-keeps w (cells.Text us))
      (λ a v. keeps-same v)
  json-keeps w (json_array js) =
      then_keeps w (make_jsons w js) (λ xs v. object_value (make_cell v (cells.Array xs))) (jsons-keep w js)
      (λ xs v. object-keeps v (cells.Array xs))
  json-keeps w (json_object ms) =
      then_keeps w (make_members w [] ms) (λ ps v. object_value (make_cell v (cells.Object ps))) (members-keep w [] ms)
      (λ ps v. object-keeps v (cells.Object ps))

  jsons-keep : (w : World) (js : Jsons) → AfterFine (make_jsons w js) (λ x v. Keeps w v)
  jsons-keep w no_jsons = keeps-same w
  jsons-keep w (a_json j js) =
      then_keeps w (make_json w j) (λ x v. after_try (make_jsons v js) (λ xs u. fine (x ∷ xs) u)) (json-keeps w j)
      (λ x v. then_keeps v (make_jsons v js) (λ xs u. fine (x ∷ xs) u) (jsons-keep v js) (λ xs u. keeps-same u))

  members-keep : (w : World) (ps : List Property) (ms : Members) → AfterFine (make_members w ps ms) (λ x v. Keeps w v)
  members-keep w ps no_members = keeps-same w
  members-keep w ps (a_member key j ms) =
      then_keeps w (make_json w j) (λ x v. make_members v (put_property ps key x) ms) (json-keeps w j)
      (λ x v. members-keep v (put_property ps key x) ms)

argument-keeps : (w : World) (a : Argument) → AfterFine (make_argument w a) (λ x v. Keeps w v)
argument-keeps w (given x) = keeps-same w
argument-keeps w (made_of j) = json-keeps w j

arguments-keep : (w : World) (as_given : List Argument) → AfterFine (make_arguments w as_given) (λ x v. Keeps w v)
arguments-keep w [] = keeps-same w
arguments-keep w (a ∷ rest) =
    then_keeps w (make_argument w a) (λ x v. after_try (make_arguments v rest) (λ xs u. fine (x ∷ xs) u))
    (argument-keeps w a)
    (λ x v. then_keeps v (make_arguments v rest) (λ xs u. fine (x ∷ xs) u) (arguments-keep v rest)
    (λ xs u. keeps-same u))

prepared-keeps : (w : World) (x : ScratchSpace) (source : List ℕ) (order : List (List ℕ)) (e : MadeExpression)
    → AfterFine (prepared w x source order e) (λ u v. Keeps (copied_world w x) v)
prepared-keeps w x source order e =
    let c : World = copied_world w x in
    then_keeps c (keep_source c source)
    (λ at v. after_try (place_literals v order (literals (kept_term at e))) (λ u z. fine (kept_tree at e) z))
    (keep-keeps c source)
    (λ at v. then_keeps v (place_literals v order (literals (kept_term at e))) (λ u z. fine (kept_tree at e) z)
    (placed-keep v order (literals (kept_term at e))) (λ u z. keeps-same z))

-- ---- the steps

run_keeps : (w : World) (x : ScratchSpace) (r : Run)
    → Keeps (copied_world w x) (state_of r).world
    → AnswerKeeps w x (answer_of r)
run_keeps w x (running t s) k = tt
run_keeps w x (over (ended v) s) k = undisturbed w x s.world k
run_keeps w x (over (threw v place) s) k = undisturbed w x s.world k
run_keeps w x (over by_effect s) k = tt
run_keeps w x (over (by_full what) s) k = tt

evaluated-keeps : (p : Program) (scope : Addr) (receiver : Value) (w : World) (x : ScratchSpace) (v : World) (t : Term)
    → Keeps (copied_world w x) v
    → AnswerKeeps w x (evaluated p scope receiver v t)
evaluated-keeps p scope receiver w x v t k =
    let s : State = evaluation_state v receiver in
    let r : Run = run_of t s in
    let q : Run = steps_in budget p scope r in
    let f : Follows (state_of r) (state_of q) = steps-follows budget p scope r in
    let P : State → Type 0 = λ z. Keeps z.world (state_of q).world in
    run_keeps w x q (keeps-trans (copied_world w x) v (state_of q).world k (subst P (run_of-state t s) f.cells))

answered-keeps : (w : World) (x : ScratchSpace) (t : Tried Term) (k : World → Term → Answer)
    → AfterFine t (λ u v. Keeps (copied_world w x) v)
    → ((v : World) (u : Term) → Keeps (copied_world w x) v → AnswerKeeps w x (k v u))
    → AnswerKeeps w x (answered t k)
answered-keeps w x (fine u v) k h rest = rest v u h
answered-keeps w x effect k h rest = tt
answered-keeps w x (full what) k h rest = tt

pub evaluate-keeps : (p : Program) (w : World) (x : ScratchSpace) (scope : Addr) (receiver : Value) (source : List ℕ)
    (order : List (List ℕ)) (e : MadeExpression)
    → AnswerKeeps w x (evaluate p w x scope receiver source order e)
evaluate-keeps p w x scope receiver source order e =
    answered-keeps w x (prepared w x source order e) (evaluated (with_source p x e) scope receiver)
    (prepared-keeps w x source order e)
    (λ v u k. evaluated-keeps (with_source p x e) scope receiver w x v u k)

pub call-keeps : (p : Program) (w : World) (x : ScratchSpace) (source : List ℕ) (order : List (List ℕ)) (callee : MadeExpression)
    (receiver : Value) (given_args : List Argument)
    → AnswerKeeps w x (evaluate_call p w x source order callee receiver given_args)
call-keeps p w x source order callee receiver given_args =
    let c : World = copied_world w x in
    answered-keeps w x (with_arguments receiver given_args (prepared w x source order callee))
    (evaluated (with_source p x callee) script_scope values.Undefined)
    (then_keeps c (prepared w x source order callee)
    (λ f v. after_try (make_arguments v given_args) (λ vs u. fine (call_with_values receiver f vs) u))
    (prepared-keeps w x source order callee)
    (λ f v. then_keeps v (make_arguments v given_args) (λ vs u. fine (call_with_values receiver f vs) u)
    (arguments-keep v given_args) (λ vs u. keeps-same u)))
    (λ v u k. evaluated-keeps (with_source p x callee) script_scope values.Undefined w x v u k)

-- ---- functions that an evaluation makes

found_if : (b : Bool) (o q : Option FunctionCode) → b ≡ true → (if b then o else q) ≡ o
found_if true o q e = refl
found_if false o q e = cc

pub own-found : (p : Program) (x : ScratchSpace) (e : MadeExpression) (node : ℕ)
    → function_at (with_source p x e) (kept_source (next_kept x)) node ≡ function_in node (kept_tree (next_kept x) e)
own-found p x e node =
    found_if (same_source (kept_source (next_kept x)) (kept_source (next_kept x)))
    (function_in node (kept_tree (next_kept x) e)) (function_at p (kept_source (next_kept x)) node)
    (eq-eqb (length x.cells) (length x.cells) refl)

pub others-found : (p : Program) (x : ScratchSpace) (e : MadeExpression) (number node : ℕ)
    → function_at (with_source p x e) (script_source number) node ≡ function_at p (script_source number) node
others-found p x e number node = refl
