use Rattle.std.proofs.Common.{◌≡◌, Some, sym, ap, ◌∙◌, arith}
use Rattle.std.proofs.lemmas.List.{map-id}
use Rattle.remote_objects.proofs.IdLemmas.{units-halves, no_halves, other_front, front_read, if_none}
use Rattle.remote_objects.proofs.ids.behind_number.Goals as goal

pub returns-in_err-front-clause-none : goal.returns-in_err-front-clause-none
returns-in_err-front-clause-none c =
    if_none c.from_residual.result
    (no_halves c.args.number c.args.text.now (omega (arith, c.ranges.number))
    (units-halves c.args.text.now _ c.in_err-front.ensures))

pub returns-in_err-read_decimal_units-clause-none : goal.returns-in_err-read_decimal_units-clause-none
returns-in_err-read_decimal_units-clause-none c =
    if_none c.from_residual-in_err-read_decimal_units.result
    (other_front c.args.number c.args.text.now _ _ (omega (arith, c.ranges.number))
    (units-halves c.args.text.now _ c.in_ok-front.ensures) (sym c.in_err-read_decimal_units.ensures.value) (λ e. cc))

pub returns-then-branch-number-clause-none : goal.returns-then-branch-number-clause-none
returns-then-branch-number-clause-none c =
    other_front c.args.number c.args.text.now _ _ (omega (arith, c.ranges.number))
    (units-halves c.args.text.now _ c.in_ok-front.ensures) (sym c.in_ok-read_decimal_units.ensures.value)
    (λ e. c.if-branch-number.true (let same : c.in_ok-read_decimal_units.field-0 ≡ c.args.number = cc in same))

pub returns-clause-some : goal.returns-clause-some
returns-clause-some c =
    front_read c.args.number c.args.text.now _ c.in_ok-front.back.now
    (units-halves c.args.text.now _ c.in_ok-front.ensures)
    (sym c.in_ok-read_decimal_units.ensures.value ∙ ap (λ n. Some n) c.if-branch-number.false)
    (map-id c.in_ok-front.back.now)
