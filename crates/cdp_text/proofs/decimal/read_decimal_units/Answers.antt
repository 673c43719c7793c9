use Rattle.std.proofs.Common.{◌≡◌, None, map, rules}
use Rattle.cdp_text.specs.Decimal.{decimal_value}
use Rattle.cdp_text.proofs.DecimalLemmas.{none_from_value}
use Rattle.cdp_text.proofs.decimal.read_decimal_units.Goals as goal

pub returns-else-begins_shortest-clause-none : goal.returns-else-begins_shortest-clause-none
unfolding decimal_value
returns-else-begins_shortest-clause-none g c =
    let e : None ≡ decimal_value (map g.C.CodeUnit.code c.args.digits.now) = search rules in
    none_from_value (map g.C.CodeUnit.code c.args.digits.now) None e
