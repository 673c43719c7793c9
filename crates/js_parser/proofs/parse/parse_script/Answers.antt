use Rattle.std.proofs.lemmas.List.Elements.{All-nil}
use Rattle.js_parser_language.specs.Places.{statements_places}
use Rattle.js_parser_readers.specs.Placed.{IsForward}
use Rattle.js_parser.proofs.NumberLemmas.{from_zero}
use Rattle.js_parser.proofs.parse.parse_script.Goals as goal

pub returns-clause-spans : goal.returns-clause-spans
returns-clause-spans c =
    c.in_ok-spans.ensures.exact _ c.in_ok-body.ensures.placed.exact
    (c.in_ok-body.ensures.placed.forward (rw c.new-nodes.ensures (All-nil IsForward)))

pub returns-clause-numbered : goal.returns-clause-numbered
returns-clause-numbered c =
    from_zero _ _ (statements_places c.in_ok-body.body)
    _ c.new-nodes.ensures c.in_ok-body.ensures.placed.numbers c.in_ok-spans.ensures.counted
