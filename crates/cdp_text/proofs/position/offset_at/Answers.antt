use Rattle.std.proofs.Common.{◌+◌, arith}
use Rattle.cdp_text.proofs.LineTableLemmas.{offset_in_line, offset_past_line, offset_past_text, Finds, Finds-none, Finds-some}
use Rattle.cdp_text.proofs.position.offset_at.Goals as goal

pub returns-in_err-start : goal.returns-in_err-start
returns-in_err-start c =
    let none : Finds c.args.u.now c.args.p c.from_residual.result = rw c.from_residual.ensures
    (Finds-none c.args.u.now c.args.p (λ i at. offset_past_text c.args.u.now c.args.p i c.in_err-start.ensures at))
    in
    record { found = none.found; undoes = none.undoes; none = none.none }

pub returns-then-offset-line_end : goal.returns-then-offset-line_end
returns-then-offset-line_end c =
    let start = c.in_ok-start.ensures in
    let at = offset_in_line c.args.u.now c.args.p c.in_ok-start.start start.0 start.1
    (omega (arith, c.line_end.ensures)) in
    let some = Finds-some c.args.u.now c.args.p (c.in_ok-start.start + c.args.p.col) at in
    record { found = some.found; undoes = some.undoes; none = some.none }

pub returns-else-offset-line_end : goal.returns-else-offset-line_end
returns-else-offset-line_end c =
    let start = c.in_ok-start.ensures in
    let none = Finds-none c.args.u.now c.args.p
    (λ i at. offset_past_line c.args.u.now c.args.p c.in_ok-start.start i start.1
    (omega (arith, c.line_end.ensures)) at)
    in
    record { found = none.found; undoes = none.undoes; none = none.none }
