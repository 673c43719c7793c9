use Rattle.std.proofs.Common.{take}
use Rattle.js_parser_readers.proofs.SpanLemmas.{all_within}
use Rattle.js_parser_readers.proofs.nodes.Nodes.spans_within.Goals as goal

pub returns-clause-within : goal.returns-clause-within
returns-clause-within c =
    rw (c.from_vec.ensures, c.loop-span.invariant)
    (all_within c.args.end (take c.loop-span.span-index c.deref-span-items.result.now))
