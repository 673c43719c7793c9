-- What the arguments of a call come to, and what a call leaves in the words of the session that makes it.
use Rattle.std.proofs.Common.{◌≡◌, ℕ, ◌+◌, ◌<◌, ◌≤◌, List, [], ◌∷◌, ◌++◌, length, drop, get_or, ap, sym, refl, subst, ◌∙◌, map, append_assoc, append-nil, Option, Some, None, Result, Err}
use Rattle.std.proofs.lemmas.List.{drop_all, drop_more}
use Rattle.std.specs.Option.{option_map}
use Rattle.js_heap.specs.World.{World}
use Rattle.js_heap.specs.declared.value.Addr.{Addr}
use Rattle.js_heap.specs.declared.value.Value.{Value}
use Rattle.js_tree.specs.declared.script.FunctionCode.{FunctionCode}
use Rattle.js_tree.specs.Views.{expression_view}
use Rattle.js_parser.specs.Expressions.{function_of, UnlessMemory}
use Rattle.js_parser_readers.specs.declared.fault.ParseFault.{ParseFault}
use Rattle.js_parser_readers.specs.declared.fault.ParseFault.TheVariants as parse_faults
use Rattle.js_parser_numbering.specs.Numbered.{numbered_made}
use Rattle.js_semantics.specs.Evaluation.{Argument, evaluate_call, evaluate_function as definition, next_kept}
use Rattle.js_semantics.specs.Literals.{source_literals}
use Rattle.js_semantics.specs.Makers.{MadeExpression as Source}
use Rattle.js_semantics.specs.Sources.{expression_source}
use Rattle.cdp_json.specs.ArgumentViews.{argument_view}
use Rattle.cdp_json.specs.SafeValues.{both}
use Rattle.cdp_json.specs.declared.arguments.Argument.{Argument as Asked}
use Rattle.pure_eval.specs.Arguments as passed
use Rattle.pure_eval.specs.Preparing.{IsPreparedFunction}
use Rattle.pure_eval.specs.Workspaces.{OpenWorkspace, Workspace, opened, EvaluatesTo}
use Rattle.pure_eval.specs.declared.arguments.Argument.{Argument as Passed}
use Rattle.pure_eval.specs.declared.evaluated.Evaluated.{Evaluated}
use Rattle.pure_eval.specs.declared.prepared.PreparedSource.{PreparedSource}
use Rattle.cdp_session.specs.Calls.{argument_of, arguments_of, outcome_of_function}
use Rattle.cdp_session.specs.Evaluations.{Evaluates, no_expression, outcome_of_answer}
use Rattle.cdp_session.specs.Made.{Makes}
use Rattle.cdp_session.specs.Rows.{row_of}
use Rattle.cdp_session.specs.Sessions.{Session}
use Rattle.cdp_session.specs.Situations.{Situation}
use Rattle.cdp_session.specs.declared.done.Done.{Done as Held}
use Rattle.cdp_session.specs.declared.done.Fault.{Fault}
use Rattle.cdp_session.specs.declared.done.Fault.TheVariants as faults
use Rattle.cdp_session.specs.declared.showing.Showing.{Showing}

-- ---- arguments

-- the arguments that were read, and behind them those that are left, where all are there
abbrev pub behind : Session → List Passed → List Asked → Option (List Argument)
behind x done left = option_map (λ rest. passed.arguments_of done ++ rest) (arguments_of x (map argument_view left))

passed-append : (ps qs : List Passed)
    → passed.arguments_of (ps ++ qs) ≡ passed.arguments_of ps ++ passed.arguments_of qs
passed-append [] qs = refl
passed-append (p ∷ ps) qs = ap (λ xs. passed.argument_of p ∷ xs) (passed-append ps qs)

behind-first : (first : List Argument) (a : Argument) (o : Option (List Argument))
    → option_map (λ rest. first ++ rest) (both ◌∷◌ (Some a) o) ≡ option_map (λ rest. (first ++ a ∷ []) ++ rest) o
behind-first first a None = refl
behind-first first a (Some rest) = ap Some (sym (append_assoc first (a ∷ []) rest))

-- one argument more
behind-next : (x : Session) (done new : List Passed) (left : List Asked) (a : Asked) (p : Passed)
    → Some (passed.argument_of p) ≡ argument_of x (argument_view a)
    → new ≡ done ++ p ∷ []
    → behind x new left ≡ behind x done (a ∷ left)
behind-next x done new left a p is pushed =
    let rest = arguments_of x (map argument_view left) in
    ap (λ xs. option_map (λ r. passed.arguments_of xs ++ r) rest) pushed
    ∙ ap (λ xs. option_map (λ r. xs ++ r) rest) (passed-append done (p ∷ []))
    ∙ sym (behind-first (passed.arguments_of done) (passed.argument_of p) rest)
    ∙ ap (λ o. option_map (λ r. passed.arguments_of done ++ r) (both ◌∷◌ o rest)) is

pub behind-more : (x : Session) (all : List Asked) (i : ℕ) (a : Asked) (done new : List Passed) (p : Passed)
    → i < length all
    → Some (passed.argument_of p) ≡ argument_of x (argument_view (get_or all i a))
    → new ≡ done ++ p ∷ []
    → behind x new (drop (i + 1) all) ≡ behind x done (drop i all)
behind-more x all i a done new p lt is pushed =
    behind-next x done new (drop (i + 1) all) (get_or all i a) p is pushed
    ∙ sym (ap (behind x done) (drop_more all i a lt))

-- where none is left, those that were read are all
pub behind-all : (x : Session) (all : List Asked) (i : ℕ) (done : List Passed)
    → length all ≤ i
    → Some (passed.arguments_of done) ≡ behind x done (drop i all)
behind-all x all i done le =
    ap Some (sym (append-nil (passed.arguments_of done))) ∙ sym (ap (behind x done) (drop_all i all le))

-- ---- calls

-- what was prepared for the next address is called as the definition calls it over what was opened
pub called-from : (w : World) (x : Workspace) (receiver : Value) (arguments : List Argument) (f : FunctionCode)
    (at : Addr) (p : PreparedSource) (end : Evaluated) (o n : OpenWorkspace)
    → o ≡ opened w x → at ≡ next_kept o.behind.scratch → IsPreparedFunction at f p
    → ((g : FunctionCode)
    → IsPreparedFunction (next_kept o.behind.scratch) g p
    → EvaluatesTo (definition o.behind.program o.world o.behind.scratch g receiver arguments)
    (expression_source g.tree) end o n)
    → EvaluatesTo (definition x.program w x.scratch f receiver arguments) (expression_source f.tree) end o n
called-from w x receiver arguments f at p end o n is place ready says =
    subst (λ k. EvaluatesTo (definition k.behind.program k.world k.behind.scratch f receiver arguments)
    (expression_source f.tree) end o n)
    is
    (says f (subst (λ b. IsPreparedFunction b f p) place ready))

pub text-called : (s : Situation) (x : Session) (receiver : Value) (arguments : List Argument) (how : Showing)
    (source : List ℕ) (f : FunctionCode)
    → function_of source ≡ Some (expression_view f.tree)
    → f.source ≡ source
    → numbered_made (expression_view f.tree) ≡ expression_source f.tree
    → outcome_of_answer s x how (expression_source f.tree)
    (definition x.workspace.program s.standing.world x.workspace.scratch f receiver arguments)
    ≡ outcome_of_function s x receiver arguments how source (function_of source)
text-called s x receiver arguments how source f tree same made =
    let g : List ℕ
    → Source
    → Evaluates = λ text m. outcome_of_answer s x how m
    (evaluate_call x.workspace.program s.standing.world x.workspace.scratch text (source_literals f.tree)
    m receiver arguments)
    in
    ap (λ t. g t (expression_source f.tree)) same
    ∙ ap (g source) (sym made)
    ∙ sym (ap (outcome_of_function s x receiver arguments how source) tree)

refused : (s : Situation) (x : Session) (receiver : Value) (arguments : List Argument) (how : Showing) (source : List ℕ)
    (result : Result Held Fault) (new : Session)
    → function_of source ≡ None
    → Makes result new (row_of (no_expression x))
    → Makes result new (row_of (outcome_of_function s x receiver arguments how source (function_of source)))
refused s x receiver arguments how source result new none makes =
    subst (λ o. Makes result new (row_of (outcome_of_function s x receiver arguments how source o))) (sym none) makes

-- a text that the parser refuses
pub fault-called : (s : Situation) (x : Session) (receiver : Value) (arguments : List Argument) (how : Showing)
    (source : List ℕ) (f : ParseFault) (result : Result Held Fault) (new : Session)
    → UnlessMemory (function_of source ≡ None) f
    → (f ≡ parse_faults.Memory → result ≡ Err faults.Memory)
    → Makes result new (row_of (no_expression x))
    → Makes result new (row_of (outcome_of_function s x receiver arguments how source (function_of source)))
fault-called s x receiver arguments how source parse_faults.Memory result new none memory makes =
    subst (λ r. Makes r new (row_of (outcome_of_function s x receiver arguments how source (function_of source))))
    (sym (memory refl)) tt
fault-called s x receiver arguments how source (parse_faults.Token at) result new none memory makes =
    refused s x receiver arguments how source result new none makes
fault-called s x receiver arguments how source (parse_faults.Syntax at) result new none memory makes =
    refused s x receiver arguments how source result new none makes
fault-called s x receiver arguments how source (parse_faults.TooMany at) result new none memory makes =
    refused s x receiver arguments how source result new none makes
fault-called s x receiver arguments how source (parse_faults.TooLong units) result new none memory makes =
    refused s x receiver arguments how source result new none makes
fault-called s x receiver arguments how source parse_faults.TooDeep result new none memory makes =
    refused s x receiver arguments how source result new none makes
