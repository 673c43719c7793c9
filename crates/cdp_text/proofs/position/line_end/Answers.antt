use Rattle.std.proofs.Common.{arith}
use Rattle.cdp_text.proofs.LineTableLemmas.{line_end_is}
use Rattle.cdp_text.proofs.position.line_end.Goals as goal

pub returns-then-is_line_terminator : goal.returns-then-is_line_terminator
returns-then-is_line_terminator c =
    line_end_is c.args.u.now c.args.start c.loop-i.i (omega arith) (omega arith) c.loop-i.invariant (λ _. cc)

pub returns : goal.returns
returns c =
    line_end_is c.args.u.now c.args.start _ (omega arith) (omega arith)
    (λ k from below. c.loop-i.invariant k from (omega arith)) (λ lt. absurd (omega arith))
