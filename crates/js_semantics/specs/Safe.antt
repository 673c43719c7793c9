-- Operators' results that are safe integers: from -(2^53 - 1) to 2^53 - 1.
use Rattle.js_heap.specs.declared.computed.Computed.{Computed as Result}
use Rattle.js_heap.specs.declared.computed.Computed.TheVariants.{Value as a_value}
use Rattle.js_heap.specs.Safe.{IsSafe}

-- a result that is a number is a safe integer
abbrev pub AnswersSafe : Result → Type 0
AnswersSafe (a_value v) = IsSafe v
AnswersSafe _ = Unit {0}
