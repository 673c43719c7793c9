use Rattle.std.proofs.Common.{◌≡◌, ◌<◌, ◌^◌, drop, map}
use Rattle.std.specs.Str.{all_ascii_digits}
use Rattle.std.specs.Str.Parse.{digits_value, digits_value_after}
use Rattle.cdp_text.proofs.decimal.read_digits.Given as goal

-- what was passed are digits, and the number so far goes on with those that are left
abbrev pub invariant-loop-digit : goal.invariant-loop-digit
invariant-loop-digit g l =
    let code = g.C.CodeUnit.code in
    record {
      small : l.number < 2 ^ 64;
      digits : all_ascii_digits (map code (drop l.digit-index l.digits)) ≡ all_ascii_digits (map code l.digits);
      value : digits_value_after 10 l.number (map code (drop l.digit-index l.digits))
          ≡ digits_value 10 (map code l.digits);
    }
