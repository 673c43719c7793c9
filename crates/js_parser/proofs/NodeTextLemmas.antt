-- The text of a node as a function of the text is the one that its span has.
use Rattle.std.proofs.Common.{◌≡◌, ℕ, false, List, [], length, Option, Some, None, Err, sym, ap, ◌∙◌}
use Rattle.std.specs.List.{range_with_len}
use Rattle.js_tree.specs.declared.node.Span.{Span}
use Rattle.js_tree.specs.declared.tree.Expr.{Expr}
use Rattle.js_tree.specs.Height.{height}
use Rattle.js_tree.specs.Spans.{span_of, units_in}
use Rattle.js_tree.specs.Trees.{Expression}
use Rattle.js_tree.specs.Views.{expression_view}
use Rattle.js_parser_language.specs.Language.{IsExpression, IsFunction}
use Rattle.js_parser_language.specs.Places.{FlatPlace, expression_places, numbers_of}
use Rattle.js_parser_readers.specs.declared.fault.ParseFault.{ParseFault}
use Rattle.js_parser_readers.specs.declared.fault.ParseFault.TheVariants as faults
use Rattle.js_parser_numbering.specs.NodeSpans.{node_span}
use Rattle.js_parser_numbering.proofs.NodeSpanLemmas.{span_found}
use Rattle.js_parser_numbering.proofs.NumberedPlaceLaws.{placed_same}
use Rattle.js_parser.specs.Answers.{OkOrMemory}
use Rattle.js_parser.specs.Expressions.{expression_of, function_of, UnlessMemory}
use Rattle.js_parser.specs.NodeTexts.{node_units, node_text, lacks_memory}
use Rattle.js_parser.specs.Sources.{IsSource, IsTreeOf, tokens_of}
use Rattle.js_parser.specs.Spans.{AreSpansIn}
use Rattle.js_parser.proofs.ExpressionLemmas.{expression_some, expression_none, function_is}

-- of a source with a tree
pub text_found : (source : List ℕ) (e : Expr) (spans : List Span) (node : ℕ)
    → IsSource IsExpression height source (expression_view e)
    → AreSpansIn source spans (expression_places e)
    → numbers_of (expression_places e) ≡ range_with_len 0 (length spans)
    → units_in (span_of spans node) source ≡ node_text source node
unfolding node_text
text_found source e spans node is stand numbered =
    ap (λ (s : Span). units_in s source) (span_found spans e (tokens_of source) stand numbered node)
    ∙ ap (λ (ps : List FlatPlace). units_in (node_span node ps (tokens_of source)) source)
    (sym (placed_same e (length spans) numbered))
    ∙ ap (λ (t : Option Expression). node_units t source node) (sym (expression_some source (expression_view e) is))

-- of a source without one
text_none : (source : List ℕ) (node : ℕ) → expression_of source ≡ None → [] ≡ node_text source node
unfolding node_text
text_none source node none = ap (λ (t : Option Expression). node_units t source node) (sym none)

pub unless_lacking : (P : Type 0) (f : ParseFault) → UnlessMemory P f → lacks_memory f ≡ false → P
unless_lacking P faults.Memory says some = absurd cc
unless_lacking P (faults.Token at) says some = says
unless_lacking P (faults.Syntax at) says some = says
unless_lacking P (faults.TooMany at) says some = says
unless_lacking P (faults.TooLong units) says some = says
unless_lacking P faults.TooDeep says some = says

-- of a source with a fault
pub text_refused : {A : Type 0} (source : List ℕ) (node : ℕ) (look : A → Expression) (f : ParseFault)
    → ((e : Expression) → IsSource IsExpression height source e → OkOrMemory {A = A} (λ x. look x ≡ e) (Err f))
    → lacks_memory f ≡ false
    → [] ≡ node_text source node
text_refused {A} source node look f only some =
    text_none source node
    (unless_lacking (expression_of source ≡ None) f (expression_none {A = A} source look (Err f) only) some)

-- ---- functions are expressions

function_source : (source : List ℕ) (e : Expression)
    → IsSource IsFunction height source e
    → IsSource IsExpression height source e
function_source source e i =
    let t : IsTreeOf IsExpression source e = record {
      short = i.0.short;
      all_good = i.0.all_good;
      few = i.0.few;
      is = record { well = i.0.is.well; spelled = i.0.is.spelled };
    } in
    (t, i.1)

pub function_tree_is : (source : List ℕ) (e : Expression) → function_of source ≡ Some e → expression_of source ≡ Some e
function_tree_is source e is = expression_some source e (function_source source e (function_is source e is))
