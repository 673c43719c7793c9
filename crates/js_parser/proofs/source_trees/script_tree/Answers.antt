use Rattle.std.proofs.Common.{arith, ℕ, List, length, refl, ap, subst}
use Rattle.js_lexer.specs.declared.token.Token as lexer
use Rattle.js_tree.specs.Height.{height_of_statements}
use Rattle.js_parser_language.specs.Language.{IsScript}
use Rattle.js_tree.specs.Views.{statements_view}
use Rattle.js_parser_readers.specs.Giving.{Gives}
use Rattle.js_parser_readers.specs.Parsing.{parse_script}
use Rattle.js_parser_readers.specs.Views.{tokens_view}
use Rattle.js_parser_descent.specs.declared.limits.TheConstants.{MOST_ROOM}
use Rattle.js_parser.specs.Lexing.{lexed_view}
use Rattle.js_parser_language.specs.Places.{statements_places}
use Rattle.js_parser.proofs.AnswerLemmas.{told_as}
use Rattle.js_parser.proofs.SpanLemmas.{told_placed}
use Rattle.js_parser.proofs.LanguageLemmas.{reads_script}
use Rattle.js_parser.proofs.source_trees.script_tree.Goals as goal

pub returns-clause-answers : goal.returns-clause-answers
returns-clause-answers c =
    let earlier = c.args.declared.now in
    let read = subst
    (λ (names : List (List ℕ)). Gives (λ x. statements_view x.0) c.script_of-read.result
    (parse_script MOST_ROOM names (tokens_view c.as_slice.result.now)))
    c.in_ok-names.ensures.names c.script_of-read.ensures.gives in
    told_as (IsScript earlier) height_of_statements c.args.source.now (λ x. statements_view x) MOST_ROOM
    (λ ts. parse_script MOST_ROOM earlier ts) (lexed_view c.in_ok-lexed.lexed) (tokens_view c.as_slice.result.now)
    (length c.args.source.now) c.script_of-read.result c.tree_or_fault.result (omega arith) (λ ts. reads_script earlier ts)
    c.in_ok-lexed.ensures.tokens (ap (λ (ts : List lexer.Token). tokens_view ts) c.as_slice.ensures.value)
    c.in_ok-lexed.ensures.short refl read c.script_of-read.ensures.height c.tree_or_fault.ensures

pub returns-clause-placed : goal.returns-clause-placed
returns-clause-placed c =
    told_placed statements_places c.args.source.now _ _ (lexed_view c.in_ok-lexed.lexed)
    (tokens_view c.as_slice.result.now) (length c.args.source.now)
    c.script_of-read.result c.tree_or_fault.result c.in_ok-lexed.ensures.tokens
    (ap (λ (ts : List lexer.Token). tokens_view ts) c.as_slice.ensures.value)
    c.script_of-read.ensures.placed c.script_of-read.ensures.forward c.script_of-read.ensures.numbers c.tree_or_fault.ensures
