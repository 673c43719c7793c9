use Rattle.js_lexer.specs.State.{tokens_left}
use Rattle.js_parser.proofs.LexedLemmas.{Reads}
use Rattle.js_parser.proofs.lexing.read_tokens.Given as goal

abbrev pub invariant-loop-item : goal.invariant-loop-item
invariant-loop-item l =
    (goal.iterator-loop-item).can_next l.item-iterator ×
    (goal.iterator-loop-item).is_finite l.item-iterator ×
    Reads (tokens_left l.items) l.tokens.items (tokens_left l.item-iterator)
