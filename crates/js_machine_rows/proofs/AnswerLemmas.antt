-- Lemmas on answers of rows.
use Rattle.std.proofs.Common.{◌≡◌, ℕ, sym, subst, ap, List}
use Rattle.std.specs.Prelude.{Result, Ok, Err}
use Rattle.js_heap.specs.declared.value.Value.{Value}
use Rattle.js_heap.specs.World.{World}
use Rattle.js_heap.specs.declared.value.Addr.{Addr}
use Rattle.js_heap.specs.declared.change.Change.{Change}
use Rattle.js_heap.specs.declared.computed.Computed.{Computed}
use Rattle.js_heap.specs.declared.computed.Computed.TheVariants.{Value as a_value}
use Rattle.js_heap.specs.declared.computed.Written.{Written}
use Rattle.js_heap.specs.declared.computed.Written.TheVariants.{Change as a_change}
use Rattle.js_semantics.specs.References.{with_result, with_written}
use Rattle.js_semantics.specs.State.{State, with_world, Action, give, write}
use Rattle.js_machine_actions.specs.declared.action_end.ActionEnd.{ActionEnd}
use Rattle.js_machine_actions.specs.declared.action_end.ActionEnd.TheVariants.{Raised, Given, Effect, Full, Memory}
use Rattle.js_machine_actions.specs.Flow.{performed, Stops, Yields, Passes, Gives}
use Rattle.js_machine_actions.specs.Contexts.{Context, state_of}
use Rattle.js_machine_nodes.specs.declared.table.NodeTable.{NodeTable}
use Rattle.js_machine_engine.specs.declared.reduced.Reduced.{Reduced}
use Rattle.js_machine_engine.specs.declared.reduced.Reduced.TheVariants as reduced
use Rattle.js_machine_engine.specs.Tasks.{Wide}
use Rattle.js_machine_engine.specs.Answers.{reduced_move, reduced_term}
use Rattle.js_machine_rows.specs.Does.{Does, DoesIn, Replies, DoesWith, stopped, replied, replied_with}
use Rattle.js_machine_actions.proofs.FlowLemmas.{gives_by}

-- ---- ends

-- an action that ends
pub stops-does : (ts : List (List ℕ)) (t : NodeTable) (e : Wide) (a : Action) (s : State) (x : ActionEnd) (u : State)
    → Stops a s x u
    → Does ts t e a s (stopped x) u
unfolding reduced_move reduced_term performed
stops-does ts t e a s (Raised v) u h = h tt
stops-does ts t e a s (Given v) u h = h tt
stops-does ts t e a s Effect u h = h tt
stops-does ts t e a s (Full what) u h = h tt
stops-does ts t e a s Memory u h = tt

-- an action that goes on with a value
pub gives-does : (ts : List (List ℕ)) (t : NodeTable) (e : Wide) (a : Action) (s : State) (v : Value) (u : State)
    → performed a s ≡ performed (give v) u
    → Does ts t e a s (reduced.Gives v) u
unfolding reduced_move reduced_term performed
gives-does ts t e a s v u h = h

-- ---- in every state that has a world

pub given-replies : (ts : List (List ℕ)) (a : Action) (v : World) (r : Result Value ActionEnd) (w : World)
    → Gives a v r w
    → Replies ts a v (replied r) w
given-replies ts a v (Ok x) w h = λ t e s. gives-does ts t e a (with_world s v) x (with_world s w) (h s)
given-replies ts a v (Err x) w h = λ t e s. stops-does ts t e a (with_world s v) x (with_world s w) (h s)

-- by an answer that was made so
pub replies-by : (ts : List (List ℕ)) (a : Action) (v : World) (r : Result Value ActionEnd) (w : World) (q : Reduced)
    → Gives a v r w
    → q ≡ replied r
    → Replies ts a v q w
replies-by ts a v r w q h e =
    let P : Reduced → Type 0 = λ x. Replies ts a v x w in subst P (sym e) (given-replies ts a v r w h)

-- what was read, where it is a value
pub read-reply : (ts : List (List ℕ)) (x : Computed) (v : Value) (w : World)
    → x ≡ a_value v
    → Replies ts (with_result x give) w (reduced.Gives v) w
read-reply ts x v w h =
    λ t e s. gives-does ts t e (with_result x give) (with_world s w) v (with_world s w)
    (ap (λ y. performed (with_result y give) (with_world s w)) h)

pub result-reply : (ts : List (List ℕ)) (x : Computed) (v : World) (r : Result Value ActionEnd) (w : World)
    (q : Reduced)
    → Yields (with_result x) v r w
    → q ≡ replied r
    → Replies ts (with_result x give) v q w
result-reply ts x v r w q h e = replies-by ts (with_result x give) v r w q (gives_by (with_result x) v w r h) e

passed_replies : (ts : List (List ℕ)) (f : Action → Action) (u : Value) (v : World) (r : Result (Unit {0}) ActionEnd)
    (w : World)
    → Passes f v r w
    → Replies ts (f (give u)) v (replied_with r u) w
passed_replies ts f u v (Ok x) w h =
    λ t e s. gives-does ts t e (f (give u)) (with_world s v) u (with_world s w) (h s (give u))
passed_replies ts f u v (Err x) w h =
    λ t e s. stops-does ts t e (f (give u)) (with_world s v) x (with_world s w) (h s (give u))

-- what is done before a value is given
pub passes-reply : (ts : List (List ℕ)) (f : Action → Action) (u : Value) (v : World) (r : Result (Unit {0}) ActionEnd)
    (w : World) (q : Reduced)
    → Passes f v r w
    → q ≡ replied_with r u
    → Replies ts (f (give u)) v q w
passes-reply ts f u v r w q h e =
    let P : Reduced → Type 0 = λ x. Replies ts (f (give u)) v x w in subst P (sym e) (passed_replies ts f u v r w h)

pub written-reply : (ts : List (List ℕ)) (x : Written) (u : Value) (v : World) (r : Result (Unit {0}) ActionEnd)
    (w : World) (q : Reduced)
    → Passes (with_written x) v r w
    → q ≡ replied_with r u
    → Replies ts (with_written x (give u)) v q w
written-reply ts x u v r w q h e = passes-reply ts (with_written x) u v r w q h e

-- a change that is known
pub change-reply : (ts : List (List ℕ)) (x : Written) (a : Addr) (c : Change) (u : Value) (v : World)
    (r : Result (Unit {0}) ActionEnd) (w : World) (q : Reduced)
    → x ≡ a_change a c
    → Passes (write a c) v r w
    → q ≡ replied_with r u
    → Replies ts (with_written x (give u)) v q w
change-reply ts x a c u v r w q i h e =
    let P : Written → Type 0 = λ y. Replies ts (with_written y (give u)) v q w in
    subst P (sym i) (passes-reply ts (write a c) u v r w q h e)

pub ruleset read_rules = (read-reply)

-- ---- in a context

pub in-context : (ts : List (List ℕ)) (t : NodeTable) (e : Wide) (a : Action) (v : World) (r : Reduced) (w : World)
    (c : Context)
    → DoesIn ts t e a v r w
    → DoesWith ts t e a v c r w c
in-context ts t e a v r w c h = λ taken. h (state_of v c taken)
