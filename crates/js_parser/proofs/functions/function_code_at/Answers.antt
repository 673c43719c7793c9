use Rattle.js_parser_readers.proofs.ClassLemmas.{start_function}
use Rattle.js_parser_readers.proofs.PlacedTokenLemmas.{symbol}
use Rattle.js_parser_language.specs.Tokens.{fixed}
use Rattle.std.proofs.Common.{sym}
use Rattle.js_lexer.specs.declared.token.TokenKind.TheVariants as kinds
use Rattle.js_parser.proofs.functions.function_code_at.Goals as goal

pub returns-in_ok-boxed-in-Function-clause-placed : goal.returns-in_ok-boxed-in-Function-clause-placed
returns-in_ok-boxed-in-Function-clause-placed c =
    rw c.in_ok-boxed-in-Function.ensures
    (c.in_ok-tree-in-Function.ensures.placed c.args.nodes.now
    (symbol _ (fixed kinds.Function) _ _ (start_function _ (sym c.in-Function.ensures)) c.tail.ensures))
