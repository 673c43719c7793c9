use Rattle.std.proofs.Common.{◌≡◌, map, take}
use Rattle.js_parser_readers.specs.Places as spec
use Rattle.js_parser_readers.proofs.nodes.Nodes.spans_within.Given as goal

abbrev pub invariant-loop-span : goal.invariant-loop-span
invariant-loop-span l = l.items.items ≡ map (spec.cut_at l.end) (take l.span-index l.span-items)
