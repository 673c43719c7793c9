use Rattle.std.proofs.lemmas.List.Elements.{All-nil}
use Rattle.js_parser_language.specs.Places.{expression_places}
use Rattle.js_parser_readers.specs.Placed.{IsForward}
use Rattle.js_parser.proofs.NumberLemmas.{from_zero}
use Rattle.js_parser.proofs.parse.parse_function.Goals as goal

pub returns-clause-spans : goal.returns-clause-spans
returns-clause-spans c =
    c.in_ok-spans.ensures.exact _ c.in_ok-tree.ensures.placed.exact
    (c.in_ok-tree.ensures.placed.forward (rw c.new-nodes.ensures (All-nil IsForward)))

pub returns-clause-numbered : goal.returns-clause-numbered
returns-clause-numbered c =
    from_zero _ _ (expression_places c.in_ok-tree.tree)
    _ c.new-nodes.ensures c.in_ok-tree.ensures.placed.numbers c.in_ok-spans.ensures.counted
