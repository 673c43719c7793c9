-- Where a whole source is stuck, the tokens leave the language.
use Rattle.std.proofs.Common.{◌≡◌, ℕ, List, Err}
use Rattle.js_tree.specs.Trees.{Identifier}
use Rattle.js_parser_language.specs.Tokens.{Token}
use Rattle.js_parser_language.specs.Language.{IsScript, IsExpression, IsFunction}
use Rattle.js_parser_readers.specs.Reading.{stuck}
use Rattle.js_parser_readers.specs.Parsing.{parse_script, parse_expression, parse_function}
use Rattle.js_parser_laws.specs.Exact.{LeavesAt}
use Rattle.js_parser_laws.proofs.Alive.Whole.{expression_alive, script_alive, function_alive}
use Rattle.js_parser_laws.proofs.Leaving.{expression_leaves, script_leaves, function_leaves}

pub expression_leaves_at : (n : ℕ) (ts : List Token) (k : ℕ)
    → parse_expression n ts ≡ Err (stuck k)
    → LeavesAt IsExpression ts k
expression_leaves_at n ts k e =
    let l = expression_alive n ts (stuck k) e in
    record {
      before = l.before;
      left = l.left;
      parts = l.parts;
      counted = l.counted;
      begins = l.begins;
      leaves = expression_leaves n ts k l.before l.left e l.parts l.counted;
    }

pub script_leaves_at : (n : ℕ) (earlier : List Identifier) (ts : List Token) (k : ℕ)
    → parse_script n earlier ts ≡ Err (stuck k)
    → LeavesAt (IsScript earlier) ts k
script_leaves_at n earlier ts k e =
    let l = script_alive n earlier ts (stuck k) e in
    record {
      before = l.before;
      left = l.left;
      parts = l.parts;
      counted = l.counted;
      begins = l.begins;
      leaves = script_leaves n earlier ts k l.before l.left e l.parts l.counted;
    }

pub function_leaves_at : (n : ℕ) (ts : List Token) (k : ℕ)
    → parse_function n ts ≡ Err (stuck k)
    → LeavesAt IsFunction ts k
function_leaves_at n ts k e =
    let l = function_alive n ts (stuck k) e in
    record {
      before = l.before;
      left = l.left;
      parts = l.parts;
      counted = l.counted;
      begins = l.begins;
      leaves = function_leaves n ts k l.before l.left e l.parts l.counted;
    }
