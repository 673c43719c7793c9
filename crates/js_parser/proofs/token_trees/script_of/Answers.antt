use Rattle.js_parser_readers.proofs.PlacedLemmas.{no_tokens, whole_source}
use Rattle.std.proofs.Common.{sym, ◌∙◌}
use Rattle.js_parser.proofs.token_trees.script_of.Goals as goal

pub returns-clause-placed : goal.returns-clause-placed
returns-clause-placed c =
    whole_source c.in_ok-body.ensures.placed
    (no_tokens c.in_ok-body.rest.now (sym c.is_empty.ensures ∙ c.if-not-is_empty.false))

pub returns-clause-forward : goal.returns-clause-forward
returns-clause-forward c = c.in_ok-body.ensures.placed.forward

pub returns-clause-numbers : goal.returns-clause-numbers
returns-clause-numbers c = c.in_ok-body.ensures.placed.stands.numbers
