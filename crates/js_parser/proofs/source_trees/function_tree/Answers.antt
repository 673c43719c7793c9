use Rattle.std.proofs.Common.{arith, List, length, refl, ap}
use Rattle.js_lexer.specs.declared.token.Token as lexer
use Rattle.js_tree.specs.Height.{height}
use Rattle.js_parser_language.specs.Language.{IsFunction}
use Rattle.js_tree.specs.Views.{expression_view}
use Rattle.js_parser_readers.specs.Parsing.{parse_function}
use Rattle.js_parser_readers.specs.Views.{tokens_view}
use Rattle.js_parser_descent.specs.declared.limits.TheConstants.{MOST_ROOM}
use Rattle.js_parser.specs.Lexing.{lexed_view}
use Rattle.js_parser_language.specs.Places.{expression_places}
use Rattle.js_parser.proofs.AnswerLemmas.{told_as}
use Rattle.js_parser.proofs.SpanLemmas.{told_placed}
use Rattle.js_parser.proofs.LanguageLemmas.{reads_function}
use Rattle.js_parser.proofs.source_trees.function_tree.Goals as goal

pub returns-clause-answers : goal.returns-clause-answers
returns-clause-answers c =
    told_as IsFunction height c.args.source.now (λ x. expression_view x) MOST_ROOM (λ ts. parse_function MOST_ROOM ts)
    (lexed_view c.in_ok-lexed.lexed) (tokens_view c.as_slice.result.now) (length c.args.source.now)
    c.function_of-read.result c.tree_or_fault.result (omega arith) reads_function c.in_ok-lexed.ensures.tokens
    (ap (λ (ts : List lexer.Token). tokens_view ts) c.as_slice.ensures.value)
    c.in_ok-lexed.ensures.short refl c.function_of-read.ensures.gives c.function_of-read.ensures.height c.tree_or_fault.ensures

pub returns-clause-placed : goal.returns-clause-placed
returns-clause-placed c =
    told_placed expression_places c.args.source.now _ _ (lexed_view c.in_ok-lexed.lexed)
    (tokens_view c.as_slice.result.now) (length c.args.source.now)
    c.function_of-read.result c.tree_or_fault.result c.in_ok-lexed.ensures.tokens
    (ap (λ (ts : List lexer.Token). tokens_view ts) c.as_slice.ensures.value)
    c.function_of-read.ensures.placed c.function_of-read.ensures.forward c.function_of-read.ensures.numbers
    c.tree_or_fault.ensures
