use Rattle.std.proofs.Common.{length}
use Rattle.js_parser_readers.specs.Views.{tokens_view}
use Rattle.js_parser_readers.proofs.ParameterLemmas.{ReadsParameters}
use Rattle.js_parser_readers.proofs.names.parameters_before.Given as goal

abbrev pub invariant-parameters : goal.invariant-parameters
invariant-parameters l = ReadsParameters (tokens_view l.tokens) l.parameters.items l.names (tokens_view l.rest)

abbrev pub decreases-parameters : goal.decreases-parameters
decreases-parameters l = length l.rest
