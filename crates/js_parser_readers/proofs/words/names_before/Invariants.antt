use Rattle.std.proofs.Common.{length}
use Rattle.js_lexer.specs.declared.token.TokenKind.TheVariants as kinds
use Rattle.js_parser_readers.specs.Names.{texts}
use Rattle.js_parser_readers.specs.Productions.{one_of, names_before}
use Rattle.js_parser_readers.specs.Reading.{name_at, no_state}
use Rattle.js_parser_readers.specs.Views.{tokens_view}
use Rattle.js_parser_readers.proofs.LoopStepLemmas.{Elements}
use Rattle.js_parser_readers.proofs.words.names_before.Given as goal

abbrev pub invariant-names : goal.invariant-names
invariant-names l =
    Elements (one_of name_at) no_state kinds.RightParenthesis (names_before (tokens_view l.tokens))
    (texts l.names.items) tt (tokens_view l.rest)

abbrev pub decreases-names : goal.decreases-names
decreases-names l = length l.rest
