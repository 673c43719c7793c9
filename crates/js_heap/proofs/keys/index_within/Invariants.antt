use Rattle.std.proofs.Common.{◌≡◌, ◌<◌, true, drop}
use Rattle.std.specs.Str.{all_ascii_digits}
use Rattle.std.specs.Str.Parse.{digits_value, digits_value_after}
use Rattle.js_heap.proofs.keys.index_within.Given as goal

abbrev pub invariant-loop-unit : goal.invariant-loop-unit
invariant-loop-unit l = record {
  small : l.value < 4294967295;
  digits : all_ascii_digits (drop l.unit-index l.key) ≡ true;
  same : digits_value_after 10 l.value (drop l.unit-index l.key) ≡ digits_value 10 l.key;
}
