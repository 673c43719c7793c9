-- What an evaluation over an opened workspace leaves, in the words of the session that opened it.
use Rattle.std.proofs.Common.{◌≡◌, List, ℕ, false, refl, ap, sym, subst, ◌∙◌, Option, Some, None, Result, Ok, Err, IsErrAnd}
use Rattle.std.specs.declared.alloc.Global.{Global}
use Rattle.std.specs.declared.string.String.{String}
use Rattle.js_heap.specs.World.{World}
use Rattle.js_heap.specs.declared.value.Addr.{Addr}
use Rattle.js_heap.specs.declared.value.Value.{Value}
use Rattle.js_tree.specs.declared.script.Expression.{Expression}
use Rattle.js_tree.specs.Views.{expression_view}
use Rattle.js_parser.specs.Expressions.{expression_of, UnlessMemory}
use Rattle.js_parser_readers.specs.declared.fault.ParseFault.{ParseFault}
use Rattle.js_parser_readers.specs.declared.fault.ParseFault.TheVariants as parse_faults
use Rattle.cdp_session.specs.declared.done.Fault.TheVariants as faults
use Rattle.js_parser_numbering.specs.Numbered.{numbered_made}
use Rattle.js_semantics.specs.Evaluation.{Answer, evaluate, evaluate_expression as definition, next_kept}
use Rattle.js_semantics.specs.Literals.{source_literals}
use Rattle.js_semantics.specs.Sources.{expression_source}
use Rattle.pure_eval.specs.declared.prepared.PreparedSource.{PreparedSource}
use Rattle.pure_eval.specs.Preparing.{IsPrepared}
use Rattle.js_semantics.specs.Makers.{MadeExpression as Source}
use Rattle.pure_eval.specs.declared.evaluated.Evaluated.{Evaluated}
use Rattle.pure_eval.specs.declared.evaluated.Evaluated.TheVariants as ends
use Rattle.pure_eval.specs.Workspaces.{OpenWorkspace, Workspace, opened, EvaluatesTo}
use Rattle.cdp_json.specs.Json.{Json}
use Rattle.remote_objects.specs.Making.{Made}
use Rattle.cdp_session.specs.declared.done.Done.{Done as Held}
use Rattle.cdp_session.specs.declared.done.Fault.{Fault}
use Rattle.cdp_session.specs.declared.showing.Showing.{Showing}
use Rattle.cdp_session.specs.Evaluations.{Evaluates, no_expression, outcome_of_answer, outcome_of_tree}
use Rattle.pure_eval.specs.Answering.{is_memory}
use Rattle.cdp_session.specs.Made.{Describes, KeepsIfRefused, Makes}
use Rattle.cdp_session.specs.Rows.{Row, row_of}
use Rattle.cdp_session.specs.Sessions.{Session, no_workspace, with_workspace}
use Rattle.cdp_session.specs.Situations.{Situation}

-- what was there before it stays, but for want of memory
pub record Stays (o n : OpenWorkspace) : Type 0 where
  pub world : n.world ≡ o.world
  pub before : n.before ≡ o.before

same_stays : (o n : OpenWorkspace) → n ≡ o → Stays o n
same_stays o n is = record { world = ap (λ k. k.world) is; before = ap (λ k. k.before) is }

behind_stays : (o n : OpenWorkspace) (w : Workspace) → n ≡ record o { behind = w } → Stays o n
behind_stays o n w is = record { world = ap (λ k. k.world) is; before = ap (λ k. k.before) is }

pub stays : (a : Answer) (e : Source) (end : Evaluated) (o n : OpenWorkspace)
    → is_memory end ≡ false
    → EvaluatesTo a e end o n
    → Stays o n
stays a e (ends.Value v) o n some to = behind_stays o n _ to.2
stays a e (ends.Thrown v) o n some to = behind_stays o n _ to.2
stays a e ends.Effect o n some to = same_stays o n to.1
stays a e (ends.Full what) o n some to = same_stays o n to.1
stays a e ends.Spent o n some to = same_stays o n to.1
stays a e ends.Memory o n some to = absurd cc

-- the session that opened its workspace has it again
again : (x : Session) (o n : OpenWorkspace) (w : World)
    → o ≡ opened w x.workspace
    → Stays o n
    → with_workspace n.before (with_workspace no_workspace x) ≡ x
again x o n w is s = ap (λ k. with_workspace k (with_workspace no_workspace x)) (s.before ∙ ap (λ k. k.before) is)

-- so it was opened as it is now opened anew
anew : (x : Session) (o n : OpenWorkspace) (w : World) → o ≡ opened w x.workspace → Stays o n → o ≡ opened n.world n.before
anew x o n w is s =
    is
    ∙ sym (ap (λ k. opened k n.before) (s.world ∙ ap (λ k. k.world) is)
    ∙ ap (λ k. opened w k) (s.before ∙ ap (λ k. k.before) is))

pub made-answer : (s : Situation) (x : Session) (how : Showing) (e : Source) (a : Answer) (end : Evaluated)
    (o n : OpenWorkspace) (result : Result Held Fault) (new : Session)
    → o ≡ opened s.standing.world x.workspace → is_memory end ≡ false → EvaluatesTo a e end o n
    → (s.standing.world ≡ n.world
    → EvaluatesTo a e end (opened n.world n.before) n
    → Makes result new
    (row_of (outcome_of_answer s (with_workspace n.before (with_workspace no_workspace x)) how e a)))
    → Makes result new (row_of (outcome_of_answer s x how e a))
made-answer s x how e a end o n result new is some to makes =
    let there : Stays o n = stays a e end o n some to in
    let world : s.standing.world ≡ n.world = sym (there.world ∙ ap (λ k. k.world) is) in
    let from : EvaluatesTo a e end (opened n.world n.before) n = subst (λ k. EvaluatesTo a e end k n)
    (anew x o n s.standing.world is there) to in
    subst (λ y. Makes result new (row_of (outcome_of_answer s y how e a))) (again x o n s.standing.world is there)
    (makes world from)

pub kept-answer : (x : Session) (w : World) (e : Source) (a : Answer) (end : Evaluated) (o n : OpenWorkspace)
    (result : Result Held Fault) (new : Session)
    → o ≡ opened w x.workspace → is_memory end ≡ false → EvaluatesTo a e end o n
    → KeepsIfRefused result (with_workspace n.before (with_workspace no_workspace x)) new → KeepsIfRefused result x new
kept-answer x w e a end o n result new is some to keeps =
    subst (λ y. KeepsIfRefused result y new) (again x o n w is (stays a e end o n some to)) keeps

-- what was prepared for the next address is evaluated as the definition evaluates it over what was opened
pub evaluated-from : (w : World) (x : Workspace) (scope : Addr) (receiver : Value) (ex : Expression) (at : Addr)
    (p : PreparedSource) (end : Evaluated) (o n : OpenWorkspace)
    → o ≡ opened w x → at ≡ next_kept o.behind.scratch → IsPrepared at ex p
    → ((e : Expression)
    → IsPrepared (next_kept o.behind.scratch) e p
    → EvaluatesTo (definition o.behind.program o.world o.behind.scratch scope receiver e) (expression_source e.tree)
    end o n)
    → EvaluatesTo (definition x.program w x.scratch scope receiver ex) (expression_source ex.tree) end o n
evaluated-from w x scope receiver ex at p end o n is place ready says =
    subst (λ k. EvaluatesTo (definition k.behind.program k.world k.behind.scratch scope receiver ex)
    (expression_source ex.tree) end o n)
    is
    (says ex (subst (λ b. IsPrepared b ex p) place ready))

-- ---- want of memory, of which nothing is said

pub keeps-nothing : {A S : Type 0} (r : Result A Fault) (old new : S)
    → IsErrAnd r (λ f. f ≡ faults.Memory)
    → KeepsIfRefused r old new
keeps-nothing (Ok a) old new is = absurd is
keeps-nothing (Err (faults.Refused q)) old new is = absurd cc
keeps-nothing (Err faults.Memory) old new is = tt

pub describes-nothing : (r : Result (String Global) Fault) (new x : Session) (o : Option (Made Json))
    → IsErrAnd r (λ f. f ≡ faults.Memory)
    → Describes r new x o
describes-nothing (Ok text) new x o is = absurd is
describes-nothing (Err (faults.Refused q)) new x o is = absurd cc
describes-nothing (Err faults.Memory) new x o is = tt

pub makes-nothing : (r : Result Held Fault) (new : Session) (row : Row)
    → IsErrAnd r (λ f. f ≡ faults.Memory)
    → Makes r new row
makes-nothing (Ok d) new row is = absurd is
makes-nothing (Err (faults.Refused q)) new row is = absurd cc
makes-nothing (Err faults.Memory) new row is = tt

-- ---- texts

-- a text that is no expression
pub no-answer : (s : Situation) (x : Session) (scope : Addr) (receiver : Value) (how : Showing) (source : List ℕ)
    → expression_of source ≡ None
    → no_expression x ≡ outcome_of_tree s x scope receiver how source (expression_of source)
no-answer s x scope receiver how source none = sym (ap (outcome_of_tree s x scope receiver how source) none)

pub text-answer : (s : Situation) (x : Session) (scope : Addr) (receiver : Value) (how : Showing) (source : List ℕ)
    (ex : Expression)
    → expression_of source ≡ Some (expression_view ex.tree)
    → ex.source ≡ source
    → numbered_made (expression_view ex.tree) ≡ expression_source ex.tree
    → outcome_of_answer s x how (expression_source ex.tree)
    (definition x.workspace.program s.standing.world x.workspace.scratch scope receiver ex)
    ≡ outcome_of_tree s x scope receiver how source (expression_of source)
text-answer s x scope receiver how source ex tree same made =
    let f : List ℕ
    → Source
    → Evaluates = λ text m. outcome_of_answer s x how m
    (evaluate x.workspace.program s.standing.world x.workspace.scratch scope receiver text (source_literals ex.tree)
    m)
    in
    ap (λ t. f t (expression_source ex.tree)) same
    ∙ ap (f source) (sym made)
    ∙ sym (ap (outcome_of_tree s x scope receiver how source) tree)

refused : (s : Situation) (x : Session) (scope : Addr) (receiver : Value) (how : Showing) (source : List ℕ)
    (result : Result Held Fault) (new : Session)
    → expression_of source ≡ None
    → Makes result new (row_of (no_expression x))
    → Makes result new (row_of (outcome_of_tree s x scope receiver how source (expression_of source)))
refused s x scope receiver how source result new none makes =
    subst (λ y. Makes result new (row_of y)) (no-answer s x scope receiver how source none) makes

-- a text that the parser refuses
pub fault-answer : (s : Situation) (x : Session) (scope : Addr) (receiver : Value) (how : Showing) (source : List ℕ)
    (f : ParseFault) (result : Result Held Fault) (new : Session)
    → UnlessMemory (expression_of source ≡ None) f
    → (f ≡ parse_faults.Memory → result ≡ Err faults.Memory)
    → Makes result new (row_of (no_expression x))
    → Makes result new (row_of (outcome_of_tree s x scope receiver how source (expression_of source)))
fault-answer s x scope receiver how source parse_faults.Memory result new none memory makes =
    subst (λ r. Makes r new (row_of (outcome_of_tree s x scope receiver how source (expression_of source))))
    (sym (memory refl)) tt
fault-answer s x scope receiver how source (parse_faults.Token at) result new none memory makes =
    refused s x scope receiver how source result new none makes
fault-answer s x scope receiver how source (parse_faults.Syntax at) result new none memory makes =
    refused s x scope receiver how source result new none makes
fault-answer s x scope receiver how source (parse_faults.TooMany at) result new none memory makes =
    refused s x scope receiver how source result new none makes
fault-answer s x scope receiver how source (parse_faults.TooLong units) result new none memory makes =
    refused s x scope receiver how source result new none makes
fault-answer s x scope receiver how source parse_faults.TooDeep result new none memory makes =
    refused s x scope receiver how source result new none makes
