-- Pure evaluation: an expression, or a call of a function, on a copy of the world with the cells of a session's
-- scratch.
use Rattle.std.specs.Prelude.{ℕ, ◌+◌, Bool, List, [], ◌∷◌, length, ℤ}
use Rattle.js_heap.specs.declared.value.Addr.{Addr}
use Rattle.js_heap.specs.declared.value.Addr.TheVariants.{Base, Scratch}
use Rattle.js_heap.specs.declared.value.Value.{Value}
use Rattle.js_heap.specs.declared.value.Value.TheVariants as values
use Rattle.js_heap.specs.declared.cell.Cell.TheVariants as cells
use Rattle.js_heap.specs.declared.cell.Property.{Property}
use Rattle.js_heap.specs.declared.change.Counted.{Counted}
use Rattle.js_heap.specs.Keys.{put_property}
use Rattle.js_heap.specs.World.{World, Tried, fine, effect, full, make_cell}
use Rattle.js_heap.specs.BuiltIns.{script_scope}
pub use Rattle.js_heap.specs.ScratchSpaces.{ScratchSpace, copied_world, keep_source}
use Rattle.js_tree.specs.declared.script.Expression.{Expression}
use Rattle.js_tree.specs.declared.script.FunctionCode.{FunctionCode}
use Rattle.js_semantics.specs.Terms.{kept_source, beginning, call, Term, done, part, end, more, dones}
use Rattle.js_semantics.specs.State.{State}
use Rattle.js_semantics.specs.Functions.{Program}
use Rattle.js_semantics.specs.Makers.{MadeExpression}
use Rattle.js_semantics.specs.Sources.{expression_source}
use Rattle.js_semantics.specs.Literals.{source_literals}
use Rattle.js_semantics.specs.declared.bounds.TheConstants.{MOST_STEPS}
use Rattle.js_semantics.specs.Run.{ended, threw, by_effect, by_full, Run, running, over, run_of, steps_in, literals, with_literals}

-- ---- the world of an evaluation

-- goes on with what a call on a world gave, and the world after it; a refusal stays what it is
abbrev pub after_try : {A B : Type 0} → Tried A → (A → World → Tried B) → Tried B
after_try (fine a w) k = k a w
after_try effect k = effect
after_try (full what) k = full what

-- the cells of string literals, in order
abbrev pub make_literals : World → List (List ℕ) → Tried (Unit {0})
make_literals w [] = fine tt w
make_literals w (us ∷ rest) = after_try (make_cell w (cells.Text us)) (λ a v. make_literals v rest)

-- The cells of a source's string literals are made in the order of the source, so a full scratch names the count that
-- would pass its limit first in that order. The cells stand in the order in which the source's term keeps them: the
-- literals are the same, so that is fine wherever the former is.
abbrev pub place_literals : World → List (List ℕ) → List (List ℕ) → Tried (Unit {0})
place_literals w of_source of_term = after_try (make_literals w of_source) (λ u v. make_literals w of_term)

-- ---- arguments of a call

-- a JSON value with integers; an object's members stand in the order in which they are made
mutual
  pub data Json : Type 0 where
    json_null : Json
    json_bool : Bool → Json
    json_number : ℤ → Json
    json_string : List ℕ → Json
    json_array : Jsons → Json
    json_object : Members → Json

  pub data Jsons : Type 0 where
    no_jsons : Jsons
    a_json : Json → Jsons → Jsons

  pub data Members : Type 0 where
    no_members : Members
    a_member : List ℕ → Json → Members → Members

-- the array or object of the cell that was made, as a value
abbrev pub object_value : Tried Addr → Tried Value
object_value t = after_try t (λ a w. fine (values.Object a) w)

-- the values of JSON values, of the elements of an array and of the members of an object, with the world that has their
-- cells
abbrev mutual
  -- the value of a JSON value: each part before its whole, from left to right
  pub make_json : World → Json → Tried Value
  make_json w json_null = fine values.Null w
  make_json w (json_bool b) = fine (values.Bool b) w
  make_json w (json_number z) = fine (values.Number z) w
  make_json w (json_string us) = after_try (make_cell w (cells.Text us)) (λ a v. fine (values.Text a) v)
  make_json w (json_array js) = after_try (make_jsons w js) (λ vs v. object_value (make_cell v (cells.Array vs)))
  make_json w (json_object ms) = after_try (make_members w [] ms) (λ ps v. object_value (make_cell v (cells.Object ps)))

  -- the values of the elements of a JSON array, from the first to the last
  pub make_jsons : World → Jsons → Tried (List Value)
  make_jsons w no_jsons = fine [] w
  make_jsons w (a_json j js) = after_try (make_json w j) (λ x v. after_try (make_jsons v js) (λ xs u. fine (x ∷ xs) u))

  -- properties, with those that the members of a JSON object make put among them, from the first to the last
  pub make_members : World → List Property → Members → Tried (List Property)
  make_members w ps no_members = fine ps w
  make_members w ps (a_member key j ms) = after_try (make_json w j) (λ x v. make_members v (put_property ps key x) ms)

-- an argument is a value, or is made of a JSON value
pub data Argument : Type 0 where
  given : Value → Argument
  made_of : Json → Argument

-- the value of an argument, whose cells are made where it comes as JSON
abbrev pub make_argument : World → Argument → Tried Value
make_argument w (given v) = fine v w
make_argument w (made_of j) = make_json w j

-- the values of arguments, made from the first to the last
abbrev pub make_arguments : World → List Argument → Tried (List Value)
make_arguments w [] = fine [] w
make_arguments w (a ∷ rest) =
    after_try (make_argument w a) (λ x v. after_try (make_arguments v rest) (λ xs u. fine (x ∷ xs) u))

-- ---- the evaluation

-- how many steps an evaluation may take
abbrev pub budget : ℕ
budget = MOST_STEPS

-- the answer of an evaluation, with the world after it
pub data Answer : Type 0 where
  a_result : Value → World → Answer
  a_throw : Value → World → Answer
  an_effect : Answer
  is_full_of : Counted → Answer
  spent : Answer

-- the answer of a run: its end, or where it isn't over a budget that is spent
abbrev pub answer_of : Run → Answer
answer_of (running t s) = spent
answer_of (over (ended v) s) = a_result v s.world
answer_of (over (threw v place) s) = a_throw v s.world
answer_of (over by_effect s) = an_effect
answer_of (over (by_full what) s) = is_full_of what

-- no frames, no input and no output
abbrev pub evaluation_state : World → Value → State
evaluation_state w receiver = record { world = w; frames = []; outer_this = receiver; input = []; printed = [] }

-- what is ready to be evaluated, or a scratch that is full before the first step
abbrev pub answered : Tried Term → (World → Term → Answer) → Answer
answered (fine t w) k = k w t
answered effect k = an_effect
answered (full what) k = is_full_of what

-- ---- the source of an evaluation

-- the address at which a session's next source is kept
abbrev pub next_kept : ScratchSpace → Addr
next_kept x = Scratch (length x.cells)

-- the term of a source that is kept at an address: an expression that stands in no statement
abbrev pub kept_term : Addr → MadeExpression → Term
kept_term at e = e.term (record { source = kept_source at; statement = 0; name = [] })

-- with the cells of its literals, which stand behind that address
abbrev pub literals_placed : Addr → Term → Term
literals_placed (Scratch n) t = with_literals (λ i. Scratch i) (n + 1) t
literals_placed (Base n) t = t

-- the term of a kept source, its literals being their cells
abbrev pub kept_tree : Addr → MadeExpression → Term
kept_tree at e = literals_placed at (kept_term at e)

-- The program with the source of an evaluation in front. It is the program of later evaluations too, as long as the
-- session keeps the source.
abbrev pub with_source : Program → ScratchSpace → MadeExpression → Program
with_source p x e = record { source = kept_source (next_kept x); tree = kept_tree (next_kept x) e } ∷ p

-- a source with its string literals in its own order, and what is made of its tree
abbrev pub prepared : World → ScratchSpace → List ℕ → List (List ℕ) → MadeExpression → Tried Term
prepared w x source order e =
    after_try (keep_source (copied_world w x) source)
    (λ at v. after_try (place_literals v order (literals (kept_term at e))) (λ u z. fine (kept_tree at e) z))

-- the answer of a term that is reduced within the budget, in a scope with a `this` outside all calls
abbrev pub evaluated : Program → Addr → Value → World → Term → Answer
evaluated p scope receiver w t = answer_of (steps_in budget p scope (run_of t (evaluation_state w receiver)))

-- Evaluates a source's expression in a scope with a `this`. The program has the scripts and the sources kept before;
-- this one is added, so that functions which it makes can be called.
abbrev pub evaluate : Program → World → ScratchSpace → Addr → Value → List ℕ → List (List ℕ) → MadeExpression → Answer
evaluate p w x scope receiver source order e =
    answered (prepared w x source order e) (evaluated (with_source p x e) scope receiver)

-- a call in the script scope; its callee is the function expression or arrow, still to be made
abbrev pub call_with_values : Value → Term → List Value → Term
call_with_values receiver callee args = part (call beginning 0) (more (done receiver) (more callee (dones args))) end

-- the call of a function that is still to be made, once its arguments are values
abbrev pub with_arguments : Value → List Argument → Tried Term → Tried Term
with_arguments receiver args t =
    after_try t (λ callee w. after_try (make_arguments w args) (λ vs v. fine (call_with_values receiver callee vs) v))

-- calls a source's function with a `this` and arguments
abbrev pub evaluate_call : Program
    → World
    → ScratchSpace
    → List ℕ
    → List (List ℕ)
    → MadeExpression
    → Value
    → List Argument
    → Answer
evaluate_call p w x source order callee receiver args =
    answered (with_arguments receiver args (prepared w x source order callee))
    (evaluated (with_source p x callee) script_scope values.Undefined)

-- ---- evaluations of the parser's trees

-- evaluates an expression of the parser in a scope with a `this`
abbrev pub evaluate_expression : Program → World → ScratchSpace → Addr → Value → Expression → Answer
evaluate_expression p w x scope receiver e =
    evaluate p w x scope receiver e.source (source_literals e.tree) (expression_source e.tree)

-- calls a function of the parser with a `this` and arguments
abbrev pub evaluate_function : Program → World → ScratchSpace → FunctionCode → Value → List Argument → Answer
evaluate_function p w x f receiver args =
    evaluate_call p w x f.source (source_literals f.tree) (expression_source f.tree) receiver args
