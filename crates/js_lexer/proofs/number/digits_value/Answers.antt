use Rattle.std.proofs.Common.{◌≡◌, ◌^◌, false, ltb, get_or, arith}
use Rattle.js_lexer.specs.Numbers.{digit_value, digits_value}
use Rattle.js_lexer.proofs.NumberLemmas.{too_great}
use Rattle.js_lexer.proofs.number.digits_value.Goals as goal

pub returns-then-value-gt-MAX_NUMBER : goal.returns-then-value-gt-MAX_NUMBER
returns-then-value-gt-MAX_NUMBER c =
    let d : c.digit_value.result ≡ digit_value (get_or c.args.digits.now c.loop-d.d-index 0)
    = c.digit_value.ensures.value in
    let e : ltb (digits_value c.args.base 0 c.args.digits.now) (2 ^ 53)
    ≡ false = too_great c.args.base c.loop-d.value c.loop-d.d-index (digits_value c.args.base 0 c.args.digits.now)
    c.args.digits.now (omega arith) (omega arith) c.loop-d.invariant.value (omega arith) in
    rw e
