use Rattle.std.proofs.Common.{◌≡◌, ◌<◌, ◌^◌, drop}
use Rattle.js_lexer.specs.Numbers.{digits_value}
use Rattle.js_lexer.proofs.number.digits_value.Given as goal

abbrev pub invariant-loop-d : goal.invariant-loop-d
invariant-loop-d l = record {
  value : digits_value l.base l.value (drop l.d-index l.digits) ≡ digits_value l.base 0 l.digits;
  safe : l.value < 2 ^ 53;
}
