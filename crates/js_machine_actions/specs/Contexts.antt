-- What a step threads beside a world: the active calls from the top, the `this` outside all of them, the input lines
-- left, and the texts printed that nobody has taken yet.
use Rattle.std.specs.Prelude.{◌≡◌, ℕ, List, ◌∷◌, [], ◌++◌, Option, Result, Ok, Err}
use Rattle.js_heap.specs.declared.value.Value.{Value}
use Rattle.js_heap.specs.declared.value.Value.TheVariants as values
use Rattle.js_heap.specs.World.{World}
use Rattle.js_semantics.specs.Terms.{done}
use Rattle.js_semantics.specs.Run.{bottom_frame}
use Rattle.js_semantics.specs.State.{Frame, State, goes, printed_values, Action, print, take_line}
use Rattle.js_machine_actions.specs.declared.action_end.ActionEnd.{ActionEnd}
use Rattle.js_machine_actions.specs.Flow.{performed, Stops}

-- a state apart from its world, whose printed texts are those since some were last taken
pub record Context : Type 0 where
  pub frames : List Frame
  pub outer_this : Value
  pub input : List (List ℕ)
  pub printed : List (List ℕ)

-- the state that it is with a world, behind the texts that were taken
abbrev pub state_of : World → Context → List (List ℕ) → State
state_of w c taken =
    record { world = w; frames = c.frames; outer_this = c.outer_this; input = c.input; printed = taken ++ c.printed }

-- the context before the first step of a run
abbrev pub start_context : List (List ℕ) → Context
start_context input = record { frames = bottom_frame ∷ []; outer_this = values.Undefined; input = input; printed = [] }

-- outside all calls, without input
abbrev pub bare_context : Value → Context
bare_context receiver = record { frames = []; outer_this = receiver; input = []; printed = [] }

-- with any world, performing the action is performing its continuation in that context
abbrev pub Turns : (Action → Action) → Context → Context → Type 0
Turns f c d =
    (w : World) (taken : List (List ℕ)) (k : Action)
    → performed (f k) (state_of w c taken) ≡ performed k (state_of w d taken)

-- performing the action is printing: it gives undefined, and tells the values; or it ends
abbrev pub Prints : List ℕ → World → Context → Result (Unit {0}) ActionEnd → Context → Type 0
Prints text w c (Ok u) d =
    (taken : List (List ℕ)) (vs : List Value)
    → performed (print vs text) (state_of w c taken) ≡ goes (done values.Undefined) (state_of w d taken)
    (printed_values vs)
Prints text w c (Err e) d =
    (taken : List (List ℕ)) (vs : List Value) → Stops (print vs text) (state_of w c taken) e (state_of w d taken)

-- the next line of the input, or the action ends
abbrev pub Takes : World → Context → Result (Option (List ℕ)) ActionEnd → Context → Type 0
Takes w c (Ok line) d =
    (taken : List (List ℕ)) (k : Option (List ℕ) → Action)
    → performed (take_line k) (state_of w c taken) ≡ performed (k line) (state_of w d taken)
Takes w c (Err e) d =
    (taken : List (List ℕ)) (k : Option (List ℕ) → Action)
    → Stops (take_line k) (state_of w c taken) e (state_of w d taken)
