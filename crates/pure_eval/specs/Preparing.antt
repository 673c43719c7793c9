-- Sources that are ready to be evaluated.
use Rattle.std.specs.Prelude.{◌≡◌, ℕ, List}
use Rattle.js_heap.specs.declared.value.Addr.{Addr}
use Rattle.js_tree.specs.declared.script.Expression.{Expression}
use Rattle.js_tree.specs.declared.script.FunctionCode.{FunctionCode}
use Rattle.js_tree.specs.declared.tree.Expr.{Expr}
use Rattle.js_semantics.specs.Sources.{expression_source}
use Rattle.js_semantics.specs.Literals.{source_literals}
use Rattle.js_semantics.specs.Run.{literals as term_literals}
use Rattle.js_semantics.specs.Evaluation.{kept_term, kept_tree}
use Rattle.js_machine_terms.specs.Views.{term_view}
use Rattle.pure_eval.specs.declared.prepared.PreparedSource.{PreparedSource}

-- a source of a tree that is kept at an address, ready to be evaluated
pub record IsReady (at : Addr) (units : List ℕ) (e : Expr) (p : PreparedSource) : Type 0 where
  pub source : p.source ≡ units
  pub order : p.order.items ≡ source_literals e
  pub literals : p.literals.items ≡ term_literals (kept_term at (expression_source e))
  pub term : term_view p.term ≡ kept_tree at (expression_source e)

-- an expression that is
abbrev pub IsPrepared : Addr → Expression → PreparedSource → Type 0
IsPrepared at e p = IsReady at e.source e.tree p

-- a function that is
abbrev pub IsPreparedFunction : Addr → FunctionCode → PreparedSource → Type 0
IsPreparedFunction at f p = IsReady at f.source f.tree p
