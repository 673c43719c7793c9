-- What the trees in lists and behind parts are, and the literals of statements with `else`.
use Rattle.std.proofs.Common.{◌≡◌, ℕ, List, [], ◌++◌, Option, Some, None, sym, ap, ◌∙◌, append-nil}
use Rattle.std.specs.Global.{Box}
use Rattle.js_tree.specs.declared.node.NodeId.{NodeId}
use Rattle.js_tree.specs.declared.tree.Expr.{Expr}
use Rattle.js_tree.specs.declared.tree.Stmt.{Stmt}
use Rattle.js_tree.specs.declared.tree.Expr.TheViews as tree
use Rattle.js_tree.specs.Views.{expression_view, statement_view}
use Rattle.js_tree.proofs.ViewLemmas.{view_if_then, view_if_else}
use Rattle.js_semantics.specs.Literals.{expression_literals, statement_literals, declared_literals}
use Rattle.pure_eval_preparation.specs.Items.{alternate_literals}

pub if_literals : (node : NodeId) (test : Expr) (consequent : Box Stmt) (alternate : Option (Box Stmt))
    → statement_literals (statement_view (tree.If node test consequent alternate))
    ≡ expression_literals (expression_view test) ++ statement_literals (statement_view consequent.value)
    ++ alternate_literals alternate
if_literals node test consequent None =
    ap statement_literals (view_if_then node test consequent)
    ∙ sym (append-nil
    (expression_literals (expression_view test) ++ statement_literals (statement_view consequent.value)))
if_literals node test consequent (Some s) = ap statement_literals (view_if_else node test consequent s)

-- the literals of a function that a parser's statement declares in a list
abbrev pub declared_of : Stmt → List (List ℕ)
declared_of s = declared_literals (statement_view s)

pub if_declared : (node : NodeId) (test : Expr) (consequent : Box Stmt) (alternate : Option (Box Stmt))
    → declared_literals (statement_view (tree.If node test consequent alternate)) ≡ []
if_declared node test consequent None = ap declared_literals (view_if_then node test consequent)
if_declared node test consequent (Some s) = ap declared_literals (view_if_else node test consequent s)
