-- Expressions in memory of their own that may be left out.
use Rattle.std.specs.Prelude.{Option, Some, None}
use Rattle.std.specs.Global.{Box}
use Rattle.js_tree.specs.declared.tree.Expr.{Expr}

-- the expression itself
abbrev pub unboxed : Option (Box Expr) → Option Expr
unboxed None = None
unboxed (Some e) = Some e.value
