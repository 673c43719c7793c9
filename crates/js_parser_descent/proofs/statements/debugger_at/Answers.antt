use Rattle.js_parser_readers.proofs.PlacedLemmas.{closed, then}
use Rattle.js_parser_readers.proofs.PlacedTokenLemmas.{ended_so, expected}
use Rattle.js_parser_descent.proofs.statements.debugger_at.Goals as goal

pub returns-clause-placed : goal.returns-clause-placed
returns-clause-placed c =
    closed _ (then (expected _ _ _ _ c.in_ok-rest.ensures) (ended_so _ _ _ _ c.in_ok-rest-2.ensures))
    c.in_ok-node.ensures.span c.in_ok-node.ensures.number c.debugger_statement.ensures.places
