use Rattle.std.proofs.Common.{ap, arith}
use Rattle.cdp_text.proofs.PositionLemmas.{position_bound}
use Rattle.cdp_text.proofs.line_table.LineTable.pos_at.Goals as goal

pub overflow_cast-result : goal.overflow_cast-result
overflow_cast-result c =
    omega (arith, ap (λ q. q.line) c.line_at-line.ensures.placed, (position_bound c.args.u.now c.args.offset).0)
