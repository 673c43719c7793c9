-- Values whose numbers are safe integers.
use Rattle.std.specs.Prelude.{◌<◌, ◌^◌, nat_abs}
use Rattle.js_heap.specs.declared.value.Value.{Value}
use Rattle.js_heap.specs.declared.value.Value.TheVariants as values

-- a value that is a number is a safe integer, from -(2^53 - 1) to 2^53 - 1
abbrev pub IsSafe : Value → Type 0
IsSafe (values.Number z) = nat_abs z < 2 ^ 53
IsSafe _ = Unit {0}
