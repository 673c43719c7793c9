use Rattle.std.proofs.Common.{◌≡◌, drop}
use Rattle.std.specs.Str.{all_ascii_digits}
use Rattle.js_heap.proofs.keys.is_digits.Given as goal

abbrev pub invariant-loop-unit : goal.invariant-loop-unit
invariant-loop-unit l = all_ascii_digits l.key ≡ all_ascii_digits (drop l.unit-index l.key)
