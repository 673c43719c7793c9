-- What a call of a function does to its session, and what it is answered with (Chrome DevTools Protocol 1.3,
-- `Runtime.callFunctionOn`).
use Rattle.std.specs.Prelude.{ℕ, List, [], ◌∷◌, if◌then◌else◌, Option, Some, None, option_map, option_and_then}
use Rattle.js_heap.specs.declared.value.Value.{Value}
use Rattle.js_heap.specs.declared.value.Value.TheVariants as values
use Rattle.js_tree.specs.Trees.{Expression}
use Rattle.js_semantics.specs.Evaluation.{Answer, Argument, evaluate_call, given, made_of}
use Rattle.js_semantics.specs.Literals.{expression_literals}
use Rattle.js_parser_numbering.specs.Numbered.{numbered_made}
use Rattle.js_parser.specs.Expressions.{function_of}
use Rattle.object_groups.specs.declared.handle.Handle.{Handle}
use Rattle.object_groups.specs.declared.handle.Target.{Target}
use Rattle.object_groups.specs.declared.handle.Target.TheVariants as targets
use Rattle.cdp_json.specs.Arguments as asked
use Rattle.cdp_json.specs.SafeValues.{both}
use Rattle.cdp_json.specs.declared.params.FunctionCall.{FunctionCall}
use Rattle.cdp_json.specs.declared.refusal.Refusal.TheVariants as refusals
use Rattle.pure_eval.specs.Arguments.{json_of}
use Rattle.cdp_session.specs.Evaluations.{Evaluates, Stops, detail_of, no_expression, outcome_of_answer}
use Rattle.cdp_session.specs.Objects.{handle_of}
use Rattle.cdp_session.specs.Sessions.{Session}
use Rattle.cdp_session.specs.Situations.{Situation}
use Rattle.cdp_session.specs.declared.showing.Showing.{Showing}

-- ---- what a function is called with

-- the object for which a handle stands; a scope is none
abbrev pub target_object : Target → Option Value
target_object (targets.Object a) = Some (values.Object a)
target_object (targets.Scope a) = None

-- the object for which a handle stands, if it stands for one
abbrev pub handle_object : Handle → Option Value
handle_object h = target_object h.target

-- the object whose id this is, if the session holds it
abbrev pub object_of : Session → List ℕ → Option Value
object_of x id = option_and_then handle_object (handle_of x id)

-- the `this`: the object of an id, or undefined
abbrev pub receiver_of : Session → Option (List ℕ) → Option Value
receiver_of x None = Some values.Undefined
receiver_of x (Some id) = object_of x id

-- an argument: a JSON value of which a value is made, an object, or undefined
abbrev pub argument_of : Session → asked.Argument → Option Argument
argument_of x (asked.a_value j) = Some (made_of (json_of j))
argument_of x (asked.an_object id) = option_map given (object_of x id)
argument_of x asked.undefined = Some (given values.Undefined)

-- the arguments in order, where the session holds each object
abbrev pub arguments_of : Session → List asked.Argument → Option (List Argument)
arguments_of x [] = Some []
arguments_of x (a ∷ rest) = both ◌∷◌ (argument_of x a) (arguments_of x rest)

-- ---- how its value is described

-- the group that a handle is in, if it is in one
abbrev pub handle_group : Handle → Option (List ℕ)
handle_group h = h.group

-- the group of the object that is its `this`, if there is one and it is in one
abbrev pub receiver_group : Session → Option (List ℕ) → Option (List ℕ)
receiver_group x None = None
receiver_group x (Some id) = option_and_then handle_group (handle_of x id)

-- the group that is asked for, or else that of the `this`
abbrev pub group_for : Session → Option (List ℕ) → Option (List ℕ) → Option (List ℕ)
group_for x (Some group) receiver = Some group
group_for x None receiver = receiver_group x receiver

-- how the value is to be described
abbrev pub showing_for : Session → FunctionCall → Showing
showing_for x call =
    record {
      group = group_for x call.object_group call.object_id;
      by_value = call.return_by_value;
      detail = detail_of call.generate_preview;
    }

-- ---- outcomes

-- the answer to the call of a text, which is a function of this tree
abbrev pub answer_to : Situation → Session → Value → List Argument → List ℕ → Expression → Answer
answer_to s x receiver arguments source f =
    evaluate_call x.workspace.program s.standing.world x.workspace.scratch source (expression_literals f)
    (numbered_made f) receiver arguments

-- of a text, by its tree, if it is a function
abbrev pub outcome_of_function : Situation
    → Session
    → Value
    → List Argument
    → Showing
    → List ℕ
    → Option Expression
    → Evaluates
outcome_of_function s x receiver arguments how source None = no_expression x
outcome_of_function s x receiver arguments how source (Some f) =
    outcome_of_answer s x how (numbered_made f) (answer_to s x receiver arguments source f)

-- a call is asked to have no effect, or it is refused
abbrev pub calls_with : Situation → Session → FunctionCall → Value → List Argument → Evaluates
calls_with s x call receiver arguments =
    if call.throw_on_side_effect
    then outcome_of_function s x receiver arguments (showing_for x call) call.function_declaration
    (function_of call.function_declaration)
    else Stops refusals.NeedsNoSideEffect

-- of a `this` and arguments, where the session holds their objects
abbrev pub calls_given : Situation → Session → FunctionCall → Option Value → Option (List Argument) → Evaluates
calls_given s x call None arguments = Stops refusals.UnknownObject
calls_given s x call (Some receiver) None = Stops refusals.UnknownObject
calls_given s x call (Some receiver) (Some arguments) = calls_with s x call receiver arguments

-- a call, by its parameters
abbrev pub calls : Situation → Session → FunctionCall → Evaluates
calls s x call = calls_given s x call (receiver_of x call.object_id) (arguments_of x call.arguments)
