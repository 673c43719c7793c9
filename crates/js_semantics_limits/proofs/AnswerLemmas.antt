-- An evaluation balances, beside the cell of the source that it keeps.
use Rattle.std.proofs.Common.{ℕ, ◌-◌, ◌≤◌, List, [], ◌∷◌, ◌++◌, length, subst, ◌∙◌, arith}
use Rattle.std.specs.Prelude.{nat_le}
use Rattle.std.proofs.lemmas.List.{length_push}
use Rattle.js_heap.specs.declared.value.Addr.TheVariants.{Scratch}
use Rattle.js_heap.specs.declared.value.Addr.{Addr}
use Rattle.js_heap.specs.declared.value.Value.{Value}
use Rattle.js_heap.specs.declared.value.Value.TheVariants as values
use Rattle.js_heap.specs.declared.cell.Cell.{Cell}
use Rattle.js_heap.specs.declared.cell.Cell.TheVariants as cells
use Rattle.js_heap.specs.declared.cell.Property.{Property}
use Rattle.js_heap.specs.declared.change.Counted.TheVariants as counted
use Rattle.js_heap.specs.BuiltIns.{script_scope}
use Rattle.js_heap.specs.Keys.{put_property}
use Rattle.js_heap.specs.ScratchSpaces.{ScratchSpace, copied_world, keep_source}
use Rattle.js_heap.specs.World.{Room, World, Tried, fine, effect, full, make_cell}
use Rattle.js_heap.specs.Worlds.{AfterFine}
use Rattle.js_semantics.specs.Evaluation.{Json, json_null, json_bool, json_number, json_string, json_array, json_object, Jsons, no_jsons, a_json, Members, no_members, a_member, Argument, given, made_of, Answer, after_try, answer_of, answered, budget, call_with_values, evaluate, evaluate_call, evaluated, evaluation_state, kept_term, kept_tree, make_argument, make_arguments, make_json, make_jsons, make_literals, make_members, object_value, place_literals, prepared, with_arguments, with_source}
use Rattle.js_semantics.specs.Functions.{Program}
use Rattle.js_semantics.specs.Makers.{MadeExpression}
use Rattle.js_semantics.specs.Run.{ended, threw, by_effect, by_full, Run, running, over, literals, run_of, state_of, steps_in}
use Rattle.js_semantics.specs.State.{State}
use Rattle.js_semantics.specs.Terms.{Term}
use Rattle.js_semantics.proofs.FollowLemmas.{run_of-state}
use Rattle.js_semantics_limits.specs.Balances.{AnswerBalances, Balances, KeepsSource}
use Rattle.js_semantics_limits.proofs.CellLemmas.{balances-same, balances-then, fine-when, making-balances, no-more-than, units-push}
use Rattle.js_semantics_limits.proofs.StepLemmas.{steps-balance}

-- ---- what is made before the first step

fine-balances : {B : Type 0} (w v : World) (t : Tried B)
    → Balances w v
    → AfterFine t (λ b u. Balances v u)
    → AfterFine t (λ b u. Balances w u)
fine-balances w v (fine b u) h k = balances-then w v u h k
fine-balances w v effect h k = tt
fine-balances w v (full what) h k = tt

then-balances : {A B : Type 0} (w : World) (t : Tried A) (k : A → World → Tried B)
    → AfterFine t (λ a v. Balances w v)
    → ((a : A) (v : World) → AfterFine (k a v) (λ b u. Balances v u))
    → AfterFine (after_try t k) (λ b u. Balances w u)
then-balances w (fine a v) k h rest = fine-balances w v (k a v) h (rest a v)
then-balances w effect k h rest = tt
then-balances w (full what) k h rest = tt

-- a source takes its units, and a cell for which no room is taken
source-kept : (w : World) (us : List ℕ)
    → length us ≤ w.room.units
    → KeepsSource w (record w {
      scratch = w.scratch ++ cells.Text us ∷ [];
      room = record { cells = w.room.cells; units = w.room.units - length us };
    })
source-kept w us enough =
    let longer = length_push w.scratch (cells.Text us) in
    let heavier = units-push w.scratch (cells.Text us) in
    record { cells = omega (arith, longer); units = omega (arith, enough, heavier) }

kept-keeps : (w : World) (us : List ℕ) → AfterFine (keep_source w us) (λ a v. KeepsSource w v)
kept-keeps w us =
    let r : Room = record { cells = w.room.cells; units = w.room.units - length us } in
    let v : World = record w { scratch = w.scratch ++ cells.Text us ∷ []; room = r } in
    let P : Addr → World → Type 0 = λ a u. KeepsSource w u in
    fine-when (nat_le (length us) w.room.units) counted.Units (fine (Scratch (length w.scratch)) v) P
    (λ enough. source-kept w us (no-more-than (length us) w.room.units enough))

keeps-then : (w u v : World) → KeepsSource w u → Balances u v → KeepsSource w v
keeps-then w u v first second =
    record { cells = second.cells ∙ first.cells; units = second.units ∙ first.units }

fine-keeps : {B : Type 0} (w v : World) (t : Tried B)
    → KeepsSource w v
    → AfterFine t (λ b u. Balances v u)
    → AfterFine t (λ b u. KeepsSource w u)
fine-keeps w v (fine b u) h k = keeps-then w v u h k
fine-keeps w v effect h k = tt
fine-keeps w v (full what) h k = tt

then-keeps : {A B : Type 0} (w : World) (t : Tried A) (k : A → World → Tried B)
    → AfterFine t (λ a v. KeepsSource w v)
    → ((a : A) (v : World) → AfterFine (k a v) (λ b u. Balances v u))
    → AfterFine (after_try t k) (λ b u. KeepsSource w u)
then-keeps w (fine a v) k h rest = fine-keeps w v (k a v) h (rest a v)
then-keeps w effect k h rest = tt
then-keeps w (full what) k h rest = tt

literals-balances : (w : World) (ts : List (List ℕ)) → AfterFine (make_literals w ts) (λ u v. Balances w v)
literals-balances w [] = balances-same w
literals-balances w (us ∷ ts) =
    then-balances w (make_cell w (cells.Text us)) (λ a v. make_literals v ts) (making-balances w (cells.Text us))
    (λ a v. literals-balances v ts)

second-balances : {A B : Type 0} (w : World) (t : Tried A) (u : Tried B)
    → AfterFine u (λ b v. Balances w v)
    → AfterFine (after_try t (λ a v. u)) (λ b v. Balances w v)
second-balances w (fine a v) u h = h
second-balances w effect u h = tt
second-balances w (full what) u h = tt

placed-balances : (w : World) (ts us : List (List ℕ)) → AfterFine (place_literals w ts us) (λ u v. Balances w v)
placed-balances w ts us = second-balances w (make_literals w ts) (make_literals w us) (literals-balances w us)

object-balances : (w : World) (c : Cell) → AfterFine (object_value (make_cell w c)) (λ x v. Balances w v)
object-balances w c =
    then-balances w (make_cell w c) (λ a v. fine (values.Object a) v) (making-balances w c) (λ a v. balances-same v)

mutual
  json-balances : (w : World) (j : Json) → AfterFine (make_json w j) (λ x v. Balances w v)
  json-balances w json_null = balances-same w
  json-balances w (json_bool b) = balances-same w
  json-balances w (json_number z) = balances-same w
  json-balances w (json_string us) =
      then-balances w (make_cell w (cells.Text us)) (λ a v. fine (values.Text a) v) (making-balances w (cells.Text us))
      (λ a v. balances-same v)
  json-balances w (json_array js) =
      then-balances w (make_jsons w js) (λ xs v. object_value (make_cell v (cells.Array xs))) (jsons-balances w js)
      (λ xs v. object-balances v (cells.Array xs))
  json-balances w (json_object ms) =
      then-balances w (make_members w [] ms) (λ ps v. object_value (make_cell v (cells.Object ps)))
      (members-balances w [] ms) (λ ps v. object-balances v (cells.Object ps))

  jsons-balances : (w : World) (js : Jsons) → AfterFine (make_jsons w js) (λ x v. Balances w v)
  jsons-balances w no_jsons = balances-same w
  jsons-balances w (a_json j js) =
      then-balances w (make_json w j) (λ x v. after_try (make_jsons v js) (λ xs u. fine (x ∷ xs) u)) (json-balances w j)
      (λ x v. then-balances v (make_jsons v js) (λ xs u. fine (x ∷ xs) u) (jsons-balances v js)
      (λ xs u. balances-same u))

  members-balances : (w : World) (ps : List Property) (ms : Members)
      → AfterFine (make_members w ps ms) (λ x v. Balances w v)
  members-balances w ps no_members = balances-same w
  members-balances w ps (a_member key j ms) =
      then-balances w (make_json w j) (λ x v. make_members v (put_property ps key x) ms) (json-balances w j)
      (λ x v. members-balances v (put_property ps key x) ms)

argument-balances : (w : World) (a : Argument) → AfterFine (make_argument w a) (λ x v. Balances w v)
argument-balances w (given x) = balances-same w
argument-balances w (made_of j) = json-balances w j

arguments-balances : (w : World) (as_given : List Argument)
    → AfterFine (make_arguments w as_given) (λ x v. Balances w v)
arguments-balances w [] = balances-same w
arguments-balances w (a ∷ rest) =
    then-balances w (make_argument w a) (λ x v. after_try (make_arguments v rest) (λ xs u. fine (x ∷ xs) u))
    (argument-balances w a)
    (λ x v. then-balances v (make_arguments v rest) (λ xs u. fine (x ∷ xs) u) (arguments-balances v rest)
    (λ xs u. balances-same u))

prepared-balances : (w : World) (x : ScratchSpace) (source : List ℕ) (order : List (List ℕ)) (e : MadeExpression)
    → AfterFine (prepared w x source order e) (λ u v. KeepsSource (copied_world w x) v)
prepared-balances w x source order e =
    let c : World = copied_world w x in
    then-keeps c (keep_source c source)
    (λ at v. after_try (place_literals v order (literals (kept_term at e))) (λ u z. fine (kept_tree at e) z))
    (kept-keeps c source)
    (λ at v. then-balances v (place_literals v order (literals (kept_term at e))) (λ u z. fine (kept_tree at e) z)
    (placed-balances v order (literals (kept_term at e))) (λ u z. balances-same z))

-- ---- the steps

run-balances : (w : World) (x : ScratchSpace) (r : Run)
    → KeepsSource (copied_world w x) (state_of r).world
    → AnswerBalances w x (answer_of r)
run-balances w x (running t s) h = tt
run-balances w x (over (ended v) s) h = h
run-balances w x (over (threw v place) s) h = h
run-balances w x (over by_effect s) h = tt
run-balances w x (over (by_full what) s) h = tt

evaluated-balances : (p : Program) (scope : Addr) (receiver : Value) (w : World) (x : ScratchSpace) (v : World)
    (t : Term)
    → KeepsSource (copied_world w x) v
    → AnswerBalances w x (evaluated p scope receiver v t)
evaluated-balances p scope receiver w x v t h =
    let s : State = evaluation_state v receiver in
    let r : Run = run_of t s in
    let q : Run = steps_in budget p scope r in
    let b : Balances (state_of r).world (state_of q).world = steps-balance budget p scope r in
    let from : Balances s.world (state_of q).world =
    subst (λ (z : State). Balances z.world (state_of q).world) (run_of-state t s) b in
    run-balances w x q (keeps-then (copied_world w x) v (state_of q).world h from)

answered-balances : (w : World) (x : ScratchSpace) (t : Tried Term) (k : World → Term → Answer)
    → AfterFine t (λ u v. KeepsSource (copied_world w x) v)
    → ((v : World) (u : Term) → KeepsSource (copied_world w x) v → AnswerBalances w x (k v u))
    → AnswerBalances w x (answered t k)
answered-balances w x (fine u v) k h rest = rest v u h
answered-balances w x effect k h rest = tt
answered-balances w x (full what) k h rest = tt

pub evaluate-balances : (p : Program) (w : World) (x : ScratchSpace) (scope : Addr) (receiver : Value) (source : List ℕ)
    (order : List (List ℕ)) (e : MadeExpression)
    → AnswerBalances w x (evaluate p w x scope receiver source order e)
evaluate-balances p w x scope receiver source order e =
    answered-balances w x (prepared w x source order e) (evaluated (with_source p x e) scope receiver)
    (prepared-balances w x source order e)
    (λ v u h. evaluated-balances (with_source p x e) scope receiver w x v u h)

pub call-balances : (p : Program) (w : World) (x : ScratchSpace) (source : List ℕ) (order : List (List ℕ))
    (callee : MadeExpression) (receiver : Value) (args : List Argument)
    → AnswerBalances w x (evaluate_call p w x source order callee receiver args)
call-balances p w x source order callee receiver args =
    let c : World = copied_world w x in
    answered-balances w x (with_arguments receiver args (prepared w x source order callee))
    (evaluated (with_source p x callee) script_scope values.Undefined)
    (then-keeps c (prepared w x source order callee)
    (λ f v. after_try (make_arguments v args) (λ vs u. fine (call_with_values receiver f vs) u))
    (prepared-balances w x source order callee)
    (λ f v. then-balances v (make_arguments v args) (λ vs u. fine (call_with_values receiver f vs) u)
    (arguments-balances v args) (λ vs u. balances-same u)))
    (λ v u h. evaluated-balances (with_source p x callee) script_scope values.Undefined w x v u h)
