-- The trees of texts, as functions of the texts.
use Rattle.std.specs.Prelude.{ℕ, List, length, Option, Some, None, Result, Ok, Err, nat_le, if◌then◌else◌}
use Rattle.js_parser_language.specs.Tokens.{Token}
use Rattle.js_tree.specs.Trees.{Expression}
use Rattle.js_parser_readers.specs.declared.fault.ParseFault.{ParseFault}
use Rattle.js_parser_readers.specs.declared.fault.ParseFault.TheVariants as faults
use Rattle.js_parser_readers.specs.Reading.{Fault}
use Rattle.js_parser_readers.specs.Parsing.{parse_expression, parse_function}
use Rattle.js_parser_descent.specs.declared.limits.TheConstants.{MOST_HEIGHT}
use Rattle.js_parser.specs.declared.limits.TheConstants.{MOST_UNITS, MOST_TOKENS}
use Rattle.js_parser.specs.Sources.{tokens_of, bad_place}

-- what reads a tree from all of some tokens
abbrev pub TreeReader : Type 0
TreeReader = List Token → Result Expression Fault

-- the tree that was read
abbrev pub if_read : Result Expression Fault → Option Expression
if_read (Ok e) = Some e
if_read (Err f) = None

-- the tree of a source's tokens, of which none is bad and none is too many
abbrev pub tree_of_tokens : TreeReader → Option ℕ → List Token → Option Expression
tree_of_tokens read None ts = if (nat_le (length ts) MOST_TOKENS) then if_read (read ts) else None
tree_of_tokens read (Some at) ts = None

-- the tree of a source that isn't too long
abbrev pub tree_by : TreeReader → List ℕ → Option Expression
tree_by read source =
    if (nat_le (length source) MOST_UNITS) then tree_of_tokens read (bad_place source) (tokens_of source) else None

-- The tree of the expression that a text is, without numbers and places; None where the text is no expression within
-- the limits.
unfoldable pub expression_of : List ℕ → Option Expression
expression_of source = tree_by (parse_expression MOST_HEIGHT) source

-- The tree of the function expression or arrow function that a text is; None where it is none within the limits.
unfoldable pub function_of : List ℕ → Option Expression
function_of source = tree_by (parse_function MOST_HEIGHT) source

-- the claim, unless memory ran out
abbrev pub UnlessMemory : Type 0 → ParseFault → Type 0
UnlessMemory Holds faults.Memory = Unit {0}
UnlessMemory Holds f = Holds
