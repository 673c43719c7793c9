-- What an evaluation keeps.
use Rattle.std.specs.Prelude.{ℕ, List}
use Rattle.js_tree.specs.declared.node.Span.{Span}
use Rattle.js_tree.specs.declared.script.Kept.{Kept}
use Rattle.js_tree.specs.declared.script.Kept.TheVariants.{Expression, Function}

-- the text of a kept source
abbrev pub source_of : Kept → List ℕ
source_of (Expression e) = e.source
source_of (Function f) = f.source

-- the spans of its nodes
abbrev pub spans_of : Kept → List Span
spans_of (Expression e) = e.spans
spans_of (Function f) = f.spans
