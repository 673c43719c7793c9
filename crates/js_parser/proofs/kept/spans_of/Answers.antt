use Rattle.js_parser.proofs.SpanLemmas.{all_within}
use Rattle.js_parser.proofs.kept.spans_of.Goals as goal

pub returns-in-Ok-clause-exact : goal.returns-in-Ok-clause-exact
returns-in-Ok-clause-exact c =
    λ places p f. rw c.in-Ok.ensures.spans (all_within c.args.source.now c.args.nodes.now places p f)
