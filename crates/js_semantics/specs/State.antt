-- Configurations, and what one step does to them: an action, taken change by change.
use Rattle.std.specs.Prelude.{ℕ, List, [], ◌∷◌, ◌++◌, Option, Some, None, if◌then◌else◌}
use Rattle.js_heap.specs.declared.value.Addr.{Addr}
use Rattle.js_heap.specs.declared.value.Value.{Value}
use Rattle.js_heap.specs.declared.value.Value.TheVariants as values
use Rattle.js_heap.specs.declared.built_in.ErrorClass.{ErrorClass}
use Rattle.js_heap.specs.declared.cell.Cell.{Cell}
use Rattle.js_heap.specs.declared.cell.Cell.TheVariants as cells
use Rattle.js_heap.specs.declared.change.Change.{Change}
use Rattle.js_heap.specs.declared.change.Counted.{Counted}
use Rattle.js_heap.specs.World.{World, Tried, fine, effect, full, make_cell, write_cell, is_evaluation}
use Rattle.js_heap.specs.BuiltIns.{heap_full_error, message_property}
use Rattle.js_semantics.specs.Terms.{Source, script_source, Mark, beginning, SourceMark, Completion, Term, done, standing}

-- An active call, or the script as the bottom one: its function, the source of its code, its `this`, the scope of its
-- body, and `here`, the place of the statement last entered or call last reduced in it.
pub record Frame : Type 0 where
  pub function : Option Addr
  pub source : Source
  pub receiver : Value
  pub scope : Addr
  pub here : Mark

-- What a step threads beside the residual term: the world, the active calls from the top, the `this` outside all of
-- them, the input lines left, and the texts printed so far.
pub record State : Type 0 where
  pub world : World
  pub frames : List Frame
  pub outer_this : Value
  pub input : List (List ℕ)
  pub printed : List (List ℕ)

-- what a step tells besides
pub data StepTold : Type 0 where
  went : StepTold
  raised : StepTold
  printed_values : List Value → StepTold

-- What a step makes of a part: another part, with the state after it; a completion that travels on outward; or the end
-- of an evaluation, by an effect or by a full scratch.
pub data Move (T : Type 0) : Type 0 where
  goes : T → State → StepTold → Move T
  travels : Completion → State → Move T
  has_effect : State → Move T
  is_full : Counted → State → Move T

-- a move of a part, as the move of what the part stands in
abbrev pub inside : {T S : Type 0} → (T → S) → Move T → Move S
inside f (goes t s told) = goes (f t) s told
inside f (travels c s) = travels c s
inside f (has_effect s) = has_effect s
inside f (is_full what s) = is_full what s

-- ---- actions: what one step does, in order

-- Each row of the table of steps is an action: the changes that it makes, one after another, and what it ends in. Where
-- a change is refused, those before it stay (see perform).
pub data Action : Type 0 where
  -- goes on with a term; raises freshly; lets a completion travel
  go : Term → Action
  raise : Value → Action
  leave : Completion → Action
  -- a new cell; a change of a cell
  make : Cell → (Addr → Action) → Action
  write : Addr → Change → Action → Action
  -- prints values, shown as this text; takes the next line of the input
  print : List Value → List ℕ → Action
  take_line : (Option (List ℕ) → Action) → Action
  -- `here` of the top frame; a new frame; one less
  set_here : Mark → Action → Action
  push_frame : Frame → Action → Action
  pop_frame : Action → Action

-- ---- the state's parts

-- the state with another world
abbrev pub with_world : State → World → State
with_world s w = record s { world = w }

-- the frames, the top one standing at another place
abbrev pub moved_frames : List Frame → Mark → List Frame
moved_frames [] m = []
moved_frames (f ∷ fs) m = record f { here = m } ∷ fs

-- the state, its top frame standing at another place
abbrev pub with_here : State → Mark → State
with_here s m = record s { frames = moved_frames s.frames m }

-- the frames below the top one
abbrev pub rest_of : List Frame → List Frame
rest_of [] = []
rest_of (f ∷ fs) = fs

-- where the top frame stands; without a frame at the beginning of no script
abbrev pub top_spot : List Frame → SourceMark
top_spot [] = record { source = script_source 0; mark = beginning }
top_spot (f ∷ fs) = record { source = f.source; mark = f.here }

-- the place of the top frame; in an evaluation outside all calls the beginning of no script
abbrev pub spot_of : State → SourceMark
spot_of s = top_spot s.frames

-- the top frame's `this`, or where there is no frame the one outside all calls
abbrev pub top_this : List Frame → Value → Value
top_this [] v = v
top_this (f ∷ fs) v = f.receiver

-- the `this` of what is reduced (9.4.4)
abbrev pub this_of : State → Value
this_of s = top_this s.frames s.outer_this

-- the next line of the input, if there is one
abbrev pub first_line : List (List ℕ) → Option (List ℕ)
first_line [] = None
first_line (line ∷ lines) = Some line

-- the lines of the input behind the next one
abbrev pub other_lines : List (List ℕ) → List (List ℕ)
other_lines [] = []
other_lines (line ∷ lines) = lines

-- ---- performing an action

-- a value is raised: the throw stands, with the place of the top frame
abbrev pub raised_at : Value → State → Move Term
raised_at v s = goes (standing v (spot_of s)) s raised

-- a world that is full: an evaluation ends; in the program's run the script throws the error made before the first step
abbrev pub when_full : Counted → State → Move Term
when_full what s = if is_evaluation s.world then is_full what s else raised_at (values.Object heap_full_error) s

-- goes on with what a call on the world answers; changes made before a refusal stay
abbrev pub after : {A : Type 0} → Tried A → State → (A → State → Move Term) → Move Term
after (fine a w) s k = k a (with_world s w)
after effect s k = has_effect s
after (full what) s k = when_full what s

-- printing and reading reach outside, which ends an evaluation
abbrev pub outside : State → Move Term → Move Term
outside s m = if is_evaluation s.world then has_effect s else m

-- what an action does to a state: its changes in order, then its ending
abbrev pub perform : Action → State → Move Term
perform (go t) s = goes t s went
perform (raise v) s = raised_at v s
perform (leave c) s = travels c s
perform (make c k) s = after (make_cell s.world c) s (λ a. perform (k a))
perform (write a c k) s = after (write_cell s.world a c) s (λ u. perform k)
perform (print vs text) s =
    outside s (goes (done values.Undefined) (record s { printed = s.printed ++ text ∷ [] }) (printed_values vs))
perform (take_line k) s = outside s (perform (k (first_line s.input)) (record s { input = other_lines s.input }))
perform (set_here m k) s = perform k (with_here s m)
perform (push_frame f k) s = perform k (record s { frames = f ∷ s.frames })
perform (pop_frame k) s = perform k (record s { frames = rest_of s.frames })

-- ---- what most rows end in

-- an action that changes nothing and comes to a value
abbrev pub give : Value → Action
give v = go (done v)

-- a text that isn't a value yet is a new cell
abbrev pub make_text : List ℕ → (Value → Action) → Action
make_text units k = make (cells.Text units) (λ a. k (values.Text a))

-- an error that a step meets: its text, then the error, then the raise
abbrev pub fail : ErrorClass → List ℕ → Action
fail class message =
    make_text message (λ m. make (cells.Error class (message_property m ∷ [])) (λ e. raise (values.Object e)))
