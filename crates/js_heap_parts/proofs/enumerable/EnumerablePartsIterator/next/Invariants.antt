use Rattle.std.proofs.Common.{◌≡◌, length}
use Rattle.js_heap_parts.specs.Parts.{enumerable}
use Rattle.js_heap_parts.proofs.enumerable.EnumerablePartsIterator.next.Given as goal

abbrev pub invariant-loop-part : goal.invariant-loop-part
invariant-loop-part l = enumerable l.self-inside.parts ≡ enumerable l.initial.self-inside.parts

abbrev pub decreases-loop-part : goal.decreases-loop-part
decreases-loop-part l = length l.self-inside.parts
