use Rattle.std.proofs.Common.{◌≡◌, true, length}
use Rattle.js_parser_readers.specs.Classes.{past_names}
use Rattle.js_parser_readers.specs.Views.{tokens_view}
use Rattle.js_parser_readers.proofs.classes.arrows.past_names.Given as goal

abbrev pub invariant-loop-rest : goal.invariant-loop-rest
invariant-loop-rest l = past_names true (tokens_view l.fn.tokens) ≡ past_names l.at_name (tokens_view l.rest)

abbrev pub decreases-loop-rest : goal.decreases-loop-rest
decreases-loop-rest l = length l.rest
