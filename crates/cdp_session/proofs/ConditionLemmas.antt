-- What the evaluation of a condition comes to, and what it leaves.
use Rattle.std.proofs.Common.{◌≡◌, ℕ, List, ◌++◌, Bool, false, filter, length, map, ap, sym, subst, ◌∙◌, Option, Some, None}
use Rattle.js_heap.specs.World.{World}
use Rattle.js_heap.specs.declared.value.Addr.{Addr}
use Rattle.js_heap.specs.declared.value.Value.{Value}
use Rattle.js_parser_numbering.specs.Numbered.{numbered_made}
use Rattle.js_parser_numbering.proofs.NumberedLaws.{numbered_same}
use Rattle.js_parser.specs.Expressions.{expression_of}
use Rattle.js_semantics.specs.Evaluation.{Answer, evaluate, evaluate_expression as definition, next_kept}
use Rattle.js_semantics.specs.Literals.{source_literals}
use Rattle.js_semantics.specs.Makers.{MadeExpression as Source}
use Rattle.js_semantics.specs.Sources.{expression_source}
use Rattle.js_tree.specs.Views.{expression_view}
use Rattle.js_tree.specs.declared.script.Expression.{Expression}
use Rattle.breakpoints.specs.Breakpoints.{id_of}
use Rattle.breakpoints.specs.declared.breakpoint.Breakpoint.{Breakpoint}
use Rattle.pure_eval.specs.Preparing.{IsPrepared}
use Rattle.pure_eval.specs.Workspaces.{OpenWorkspace, Workspace, opened, EvaluatesTo}
use Rattle.pure_eval.specs.declared.evaluated.Evaluated.{Evaluated}
use Rattle.pure_eval.specs.declared.prepared.PreparedSource.{PreparedSource}
use Rattle.cdp_session.specs.Conditions.{IsParsed, IsParsedTo, comes_true, expression_holds, holds, is_met, parsed_holds, top_of, top_scope, top_this, tree_holds}
use Rattle.pure_eval.specs.Answering.{is_memory}
use Rattle.cdp_session.specs.Situations.{Standing}
use Rattle.cdp_session.specs.declared.top.Top.{Top}
use Rattle.cdp_session.proofs.EvaluationLemmas.{evaluated-from, stays}

-- ---- texts

-- a condition holds where the expression to which it was parsed does
expression-as : (s : Standing) (w : Workspace) (text : List ℕ) (e : Expression)
    → IsParsedTo text e
    → expression_holds s w e ≡ holds s w text
unfolding holds
expression-as s w text e p =
    let f : List ℕ
    → Source
    → Bool = λ t m. comes_true s.world
    (evaluate w.program s.world w.scratch (top_scope s.frames) (top_this s.frames) t (source_literals e.tree) m) in
    let made : numbered_made (expression_view e.tree) ≡ expression_source e.tree = numbered_same e.tree (length e.spans)
    p.numbered in
    ap (λ t. f t (expression_source e.tree)) p.kept
    ∙ ap (f text) (sym made)
    ∙ sym (ap (tree_holds s w text) p.tree)

none_holds : (s : Standing) (w : Workspace) (text : List ℕ) → expression_of text ≡ None → false ≡ holds s w text
unfolding holds
none_holds s w text none = sym (ap (tree_holds s w text) none)

by_parsing : (s : Standing) (w : Workspace) (text : List ℕ) (o : Option Expression)
    → IsParsed text o
    → parsed_holds s w o ≡ holds s w text
by_parsing s w text None p = none_holds s w text p
by_parsing s w text (Some e) p = expression-as s w text e p

-- a condition holds where that to which it was parsed does
pub parsed-as : (s : Standing) (w : Workspace) (text now : List ℕ) (o : Option Expression)
    → IsParsed text o
    → text ≡ now
    → parsed_holds s w o ≡ holds s w now
parsed-as s w text now o p same = by_parsing s w text o p ∙ ap (holds s w) same

-- ---- evaluations

-- what was opened, was evaluated in the top frame and is true exactly where the definition's answer is
pub holds-at : (s : Standing) (w : Workspace) (t : Top) (ex : Expression) (at : Addr) (p : PreparedSource) (end : Evaluated)
    (o n : OpenWorkspace) (told : Bool)
    → o ≡ opened s.world w → at ≡ next_kept o.behind.scratch → IsPrepared at ex p
    → ((e : Expression)
    → IsPrepared (next_kept o.behind.scratch) e p
    → EvaluatesTo (definition o.behind.program o.world o.behind.scratch t.scope t.this e) (expression_source e.tree)
    end o n)
    → ((base : World) (x : Workspace) (a : Answer) (e : Source)
    → EvaluatesTo a e end (opened base x) n
    → told ≡ comes_true base a)
    → t ≡ top_of s.frames → told ≡ expression_holds s w ex
holds-at s w t ex at p end o n told is place ready says value top =
    let a : Answer = definition w.program s.world w.scratch t.scope t.this ex in
    let to : EvaluatesTo a (expression_source ex.tree)
    end o n = evaluated-from s.world w t.scope t.this ex at p end o n is place ready says in
    value s.world w a (expression_source ex.tree) (subst (λ k. EvaluatesTo a (expression_source ex.tree) end k n) is to)
    ∙ ap (λ k. comes_true s.world (definition w.program s.world w.scratch k.scope k.this ex)) top

-- and as it was opened it is forgotten
pub forgets : (s : Standing) (w : Workspace) (scope : Addr) (this : Value) (ex : Expression) (at : Addr) (p : PreparedSource)
    (end : Evaluated) (o n : OpenWorkspace)
    → o ≡ opened s.world w → at ≡ next_kept o.behind.scratch → IsPrepared at ex p
    → ((e : Expression)
    → IsPrepared (next_kept o.behind.scratch) e p
    → EvaluatesTo (definition o.behind.program o.world o.behind.scratch scope this e) (expression_source e.tree)
    end o n)
    → is_memory end ≡ false → n.before ≡ w
forgets s w scope this ex at p end o n is place ready says some =
    let to = evaluated-from s.world w scope this ex at p end o n is place ready says in
    (stays _ (expression_source ex.tree) end o n some to).before ∙ ap (λ k. k.before) is

-- ---- breakpoints

-- these ids and those of what is left of the breakpoints and is met are all, and the workspace is as it was
pub record Collects (s : Standing) (w now : Workspace) (all ids : List (List ℕ)) (left : List Breakpoint) : Type 0 where
  pub collected : ids ++ map id_of (filter (is_met s w) left) ≡ all
  pub kept : now ≡ w
