use Rattle.js_parser_readers.proofs.PlacedNameLemmas.{parameters_placed}
use Rattle.js_parser.proofs.functions.arrow_of_parameters.Goals as goal

pub returns-clause-placed : goal.returns-clause-placed
returns-clause-placed c =
    c.arrow_rest.ensures.placed c.args.nodes.now (parameters_placed _ _ _ _ c.in_ok-parameters.ensures.gives)
