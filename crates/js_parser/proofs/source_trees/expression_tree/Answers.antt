use Rattle.std.proofs.Common.{arith, List, length, refl, ap}
use Rattle.js_lexer.specs.declared.token.Token as lexer
use Rattle.js_tree.specs.Height.{height}
use Rattle.js_parser_language.specs.Language.{IsExpression}
use Rattle.js_tree.specs.Views.{expression_view}
use Rattle.js_parser_readers.specs.Parsing.{parse_expression}
use Rattle.js_parser_readers.specs.Views.{tokens_view}
use Rattle.js_parser_descent.specs.declared.limits.TheConstants.{MOST_ROOM}
use Rattle.js_parser.specs.Lexing.{lexed_view}
use Rattle.js_parser_language.specs.Places.{expression_places}
use Rattle.js_parser.proofs.AnswerLemmas.{told_as}
use Rattle.js_parser.proofs.SpanLemmas.{told_placed}
use Rattle.js_parser.proofs.LanguageLemmas.{reads_expression}
use Rattle.js_parser.proofs.source_trees.expression_tree.Goals as goal

pub returns-clause-answers : goal.returns-clause-answers
returns-clause-answers c =
    told_as IsExpression height c.args.source.now (λ x. expression_view x) MOST_ROOM
    (λ ts. parse_expression MOST_ROOM ts) (lexed_view c.in_ok-lexed.lexed) (tokens_view c.as_slice.result.now)
    (length c.args.source.now) c.expression_of-read.result c.tree_or_fault.result (omega arith)
    reads_expression c.in_ok-lexed.ensures.tokens
    (ap (λ (ts : List lexer.Token). tokens_view ts) c.as_slice.ensures.value)
    c.in_ok-lexed.ensures.short refl c.expression_of-read.ensures.gives c.expression_of-read.ensures.height
    c.tree_or_fault.ensures

pub returns-clause-placed : goal.returns-clause-placed
returns-clause-placed c =
    told_placed expression_places c.args.source.now _ _ (lexed_view c.in_ok-lexed.lexed)
    (tokens_view c.as_slice.result.now) (length c.args.source.now)
    c.expression_of-read.result c.tree_or_fault.result c.in_ok-lexed.ensures.tokens
    (ap (λ (ts : List lexer.Token). tokens_view ts) c.as_slice.ensures.value)
    c.expression_of-read.ensures.placed c.expression_of-read.ensures.forward c.expression_of-read.ensures.numbers
    c.tree_or_fault.ensures
