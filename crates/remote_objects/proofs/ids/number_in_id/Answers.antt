use Rattle.std.proofs.Common.{decimal, arith}
use Rattle.remote_objects.proofs.IdLemmas.{back_some, back_none, units-value, if_none}
use Rattle.remote_objects.proofs.ids.number_in_id.Goals as goal

pub returns-in_err-behind_number-clause-none : goal.returns-in_err-behind_number-clause-none
returns-in_err-behind_number-clause-none c =
    if_none c.from_residual.result (λ number id. c.in_err-behind_number.ensures.none (decimal number) id.written)

pub returns-clause-some : goal.returns-clause-some
returns-clause-some c =
    let back = c.in_ok-behind_number.field-0.now in
    back_some c.args.session c.args.text.now back c.read_decimal_units.result c.in_ok-behind_number.ensures.some
    (units-value back c.read_decimal_units.result c.read_decimal_units.ensures.value)

pub returns-clause-none : goal.returns-clause-none
returns-clause-none c =
    let back = c.in_ok-behind_number.field-0.now in
    back_none c.args.session c.args.text.now back c.read_decimal_units.result (omega (arith, c.ranges.session))
    c.in_ok-behind_number.ensures.some
    (units-value back c.read_decimal_units.result c.read_decimal_units.ensures.value)
