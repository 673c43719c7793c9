-- How far an action was taken: what a part of it does to a world, in every state that has this world, and how the
-- action goes on from there. Frames, input and texts printed stay as they are.
use Rattle.std.specs.Prelude.{◌≡◌, Bool, true, false, List, [], ◌∷◌, ℕ, Result, Ok, Err}
use Rattle.js_heap.specs.declared.value.Value.{Value}
use Rattle.js_heap.specs.declared.value.Value.TheVariants as values
use Rattle.js_heap.specs.declared.built_in.ErrorClass.{ErrorClass}
use Rattle.js_heap.specs.declared.cell.Cell.TheVariants as cells
use Rattle.js_heap.specs.World.{World}
use Rattle.js_heap.specs.BuiltIns.{heap_full_error, message_property}
use Rattle.js_semantics.specs.Terms.{Term}
use Rattle.js_semantics.specs.State.{State, with_world, Move, has_effect, is_full, Action, raise, make, give, make_text, perform}
use Rattle.js_heap_memory.specs.declared.world.Refused.{Refused}
use Rattle.js_heap_memory.specs.declared.world.Refused.TheVariants as refusals
use Rattle.js_machine_actions.specs.declared.action_end.ActionEnd.{ActionEnd}
use Rattle.js_machine_actions.specs.declared.action_end.ActionEnd.TheVariants.{Raised, Given, Effect, Full, Memory}

-- as `perform`; proofs see its cases only where they ask for them
unfoldable pub performed : Action → State → Move Term
performed a s = perform a s

-- ---- ends

-- what an end says of its action: nothing where memory is wanting
abbrev pub IsSaid : ActionEnd → Type 0
IsSaid (Raised v) = Unit {0}
IsSaid (Given v) = Unit {0}
IsSaid Effect = Unit {0}
IsSaid (Full what) = Unit {0}
IsSaid Memory = ⊥

-- the move of an action that ends so in this state
abbrev pub ended : ActionEnd → State → Move Term
ended (Raised v) t = performed (raise v) t
ended (Given v) t = performed (give v) t
ended Effect t = has_effect t
ended (Full what) t = is_full what t
ended Memory t = has_effect t

-- performing the action is ending so in that state
abbrev pub Stops : Action → State → ActionEnd → State → Type 0
Stops a s e t = IsSaid e → performed a s ≡ ended e t

-- ---- worlds

-- the action ends so, with that world
abbrev pub Ends : Action → World → ActionEnd → World → Type 0
Ends a v e w = (s : State) → Stops a (with_world s v) e (with_world s w)

-- the action goes on with this value in that world, or it ends
abbrev pub Yields : {A : Type 0} → ((A → Action) → Action) → World → Result A ActionEnd → World → Type 0
Yields {A} f v (Ok a) w =
    (s : State) (k : A → Action) → performed (f k) (with_world s v) ≡ performed (k a) (with_world s w)
Yields {A} f v (Err e) w = (s : State) (k : A → Action) → Stops (f k) (with_world s v) e (with_world s w)

-- the action goes on in that world, without a value, or it ends
abbrev pub Passes : {A : Type 0} → (Action → Action) → World → Result A ActionEnd → World → Type 0
Passes f v (Ok a) w = (s : State) (k : Action) → performed (f k) (with_world s v) ≡ performed k (with_world s w)
Passes f v (Err e) w = (s : State) (k : Action) → Stops (f k) (with_world s v) e (with_world s w)

-- the action gives this value in that world, or it ends
abbrev pub Gives : Action → World → Result Value ActionEnd → World → Type 0
Gives a v (Ok u) w = (s : State) → performed a (with_world s v) ≡ performed (give u) (with_world s w)
Gives a v (Err e) w = (s : State) → Stops a (with_world s v) e (with_world s w)

-- ---- refusals

-- a full world ends an evaluation; in a run it raises the error made before the first step
abbrev pub stop_of : Bool → Refused → ActionEnd
stop_of evaluation refusals.Effect = Effect
stop_of true (refusals.Full what) = Full what
stop_of false (refusals.Full what) = Raised (values.Object heap_full_error)
stop_of evaluation refusals.Memory = Memory

-- what was tried, where a refusal is the end that the action comes to
abbrev pub answered : {A : Type 0} → Bool → Result A Refused → Result A ActionEnd
answered evaluation (Ok a) = Ok a
answered evaluation (Err r) = Err (stop_of evaluation r)

-- ---- errors

-- an error is made
abbrev pub with_error : ErrorClass → List ℕ → (Value → Action) → Action
with_error class message k =
    make_text message (λ m. make (cells.Error class (message_property m ∷ [])) (λ e. k (values.Object e)))

-- a value that is raised, if it was made
abbrev pub raised_or : Result Value ActionEnd → ActionEnd
raised_or (Ok v) = Raised v
raised_or (Err e) = e
