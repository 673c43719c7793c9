-- Lemmas on what is read and gone on with.
use Rattle.std.proofs.Common.{◌≡◌, ℕ, List, sym, subst}
use Rattle.std.specs.Prelude.{Result, Ok, Err}
use Rattle.js_heap.specs.declared.value.Value.{Value}
use Rattle.js_heap.specs.declared.computed.Computed.{Computed}
use Rattle.js_heap.specs.World.{World}
use Rattle.js_semantics.specs.State.{with_world, go}
use Rattle.js_semantics.specs.References.{with_result}
use Rattle.js_machine_actions.specs.declared.action_end.ActionEnd.{ActionEnd}
use Rattle.js_machine_actions.specs.Flow.{performed, Yields}
use Rattle.js_machine_engine.specs.declared.reduced.Reduced.{Reduced}
use Rattle.js_machine_engine.specs.Answers.{called, assigned, reduced_move, reduced_term}
use Rattle.js_machine_rows.specs.Does.{CallsIt, AssignsIt, calling, assigning}
use Rattle.js_machine_rows.proofs.AnswerLemmas.{stops-does}

calls_by : (ts : List (List ℕ)) (x : Computed) (v : World) (r : Result Value ActionEnd) (w : World)
    → Yields (with_result x) v r w
    → CallsIt ts x v (calling r) w
unfolding performed reduced_move reduced_term
calls_by ts x v (Ok f) w h = λ t e s. h s (λ y. go (called ts t e y))
calls_by ts x v (Err z) w h =
    λ t e s. stops-does ts t e (with_result x (λ y. go (called ts t e y))) (with_world s v) z (with_world s w)
    (h s (λ y. go (called ts t e y)))

pub calls-by : (ts : List (List ℕ)) (x : Computed) (v : World) (r : Result Value ActionEnd) (w : World) (q : Reduced)
    → Yields (with_result x) v r w
    → q ≡ calling r
    → CallsIt ts x v q w
calls-by ts x v r w q h e =
    let P : Reduced → Type 0 = λ y. CallsIt ts x v y w in subst P (sym e) (calls_by ts x v r w h)

assigns_by : (ts : List (List ℕ)) (x : Computed) (v : World) (r : Result Value ActionEnd) (w : World)
    → Yields (with_result x) v r w
    → AssignsIt ts x v (assigning r) w
unfolding performed reduced_move reduced_term
assigns_by ts x v (Ok f) w h = λ t e s. h s (λ y. go (assigned ts t e y))
assigns_by ts x v (Err z) w h =
    λ t e s. stops-does ts t e (with_result x (λ y. go (assigned ts t e y))) (with_world s v) z (with_world s w)
    (h s (λ y. go (assigned ts t e y)))

pub assigns-by : (ts : List (List ℕ)) (x : Computed) (v : World) (r : Result Value ActionEnd) (w : World) (q : Reduced)
    → Yields (with_result x) v r w
    → q ≡ assigning r
    → AssignsIt ts x v q w
assigns-by ts x v r w q h e =
    let P : Reduced → Type 0 = λ y. AssignsIt ts x v y w in subst P (sym e) (assigns_by ts x v r w h)
