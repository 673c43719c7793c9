-- The readers of expressions, functions and scripts read exactly their trees.
use Rattle.std.proofs.Common.{List}
use Rattle.js_tree.specs.Height.{height, height_of_statements}
use Rattle.js_parser_language.specs.Language.{IsExpression, IsFunction, IsScript}
use Rattle.js_parser_language.specs.Tokens.{Token}
use Rattle.js_tree.specs.Trees.{Identifier}
use Rattle.js_parser_readers.specs.Parsing.{parse_expression, parse_function, parse_script}
use Rattle.js_parser_laws.proofs.Soundness.{expression_read, function_read, script_read}
use Rattle.js_parser_laws.proofs.Completeness.{expression_again_whole, function_again_whole, script_again_whole, one_expression, one_function, one_script}
use Rattle.js_parser_laws.proofs.DeepWhole.{expression_too_deep, function_too_deep, script_too_deep}
use Rattle.js_parser_laws.proofs.Exactness.{expression_leaves_at, function_leaves_at, script_leaves_at}
use Rattle.js_parser_descent.specs.declared.limits.TheConstants.{MOST_HEIGHT, MOST_ROOM}
use Rattle.js_parser.proofs.AnswerLemmas.{ReadsExactly}

pub reads_expression : (ts : List Token) → ReadsExactly IsExpression height MOST_ROOM ts (parse_expression MOST_ROOM ts)
reads_expression ts = record {
  sound = λ t e. expression_read MOST_ROOM ts t e;
  complete = λ t i l. expression_again_whole MOST_ROOM ts t i l;
  one = λ t u i j. one_expression ts t u i j;
  leaves = λ left e. expression_leaves_at MOST_ROOM ts left e;
  deepens = λ left e. expression_too_deep MOST_HEIGHT ts left e;
}

pub reads_function : (ts : List Token) → ReadsExactly IsFunction height MOST_ROOM ts (parse_function MOST_ROOM ts)
reads_function ts = record {
  sound = λ t e. function_read MOST_ROOM ts t e;
  complete = λ t i l. function_again_whole MOST_ROOM ts t i l;
  one = λ t u i j. one_function ts t u i j;
  leaves = λ left e. function_leaves_at MOST_ROOM ts left e;
  deepens = λ left e. function_too_deep MOST_HEIGHT ts left e;
}

pub reads_script : (earlier : List Identifier) (ts : List Token)
    → ReadsExactly (IsScript earlier) height_of_statements MOST_ROOM ts (parse_script MOST_ROOM earlier ts)
reads_script earlier ts = record {
  sound = λ t e. script_read MOST_ROOM earlier ts t e;
  complete = λ t i l. script_again_whole MOST_ROOM earlier ts t i l;
  one = λ t u i j. one_script earlier ts t u i j;
  leaves = λ left e. script_leaves_at MOST_ROOM earlier ts left e;
  deepens = λ left e. script_too_deep MOST_HEIGHT earlier ts left e;
}
