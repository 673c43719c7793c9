-- The text of a node of the tree of a text, as a function of the text.
use Rattle.std.specs.Prelude.{ℕ, List, [], Bool, true, false, Option, Some, None}
use Rattle.js_tree.specs.Spans.{units_in}
use Rattle.js_tree.specs.Trees.{Expression}
use Rattle.js_parser_readers.specs.declared.fault.ParseFault.{ParseFault}
use Rattle.js_parser_readers.specs.declared.fault.ParseFault.TheVariants as faults
use Rattle.js_parser_numbering.specs.NumberedPlaces.{numbered_places}
use Rattle.js_parser_numbering.specs.NodeSpans.{node_span}
use Rattle.js_parser.specs.Expressions.{expression_of}
use Rattle.js_parser.specs.Sources.{tokens_of}

-- the units of the node of this number in a source with this tree; of no tree none
abbrev pub node_units : Option Expression → List ℕ → ℕ → List ℕ
node_units None source node = []
node_units (Some e) source node = units_in (node_span node (numbered_places e) (tokens_of source)) source

-- The text of the node of this number in a text that is an expression within the limits, from the start of the node's
-- first token to the end of its last one. Empty where the text is none, or no node has the number.
unfoldable pub node_text : List ℕ → ℕ → List ℕ
node_text source node = node_units (expression_of source) source node

-- memory ran out, which says nothing of the text
abbrev pub lacks_memory : ParseFault → Bool
lacks_memory faults.Memory = true
lacks_memory fault = false
