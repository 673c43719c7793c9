use Rattle.std.proofs.Common.{arith}
use Rattle.cdp_session.proofs.FrameIdLemmas.{depth-none, depth-past, depth-some}
use Rattle.cdp_session.proofs.evaluating.depth_of.Goals as goal

pub returns-in_err-depth : goal.returns-in_err-depth
returns-in_err-depth c = λ frames long.
    depth-none c.args.session c.args.stop c.args.count c.as_slice.result.now c.args.id.now frames c.from_residual.result
    c.as_slice.ensures c.in_err-depth.ensures.none (omega (arith, c.ranges.count)) long c.from_residual.ensures

pub returns-then-depth-count : goal.returns-then-depth-count
returns-then-depth-count c = λ frames long.
    depth-past c.args.session c.args.stop _ c.args.count c.as_slice.result.now c.args.id.now frames c.as_slice.ensures
    c.in_ok-depth.ensures.some c.if-depth-count.true long

pub returns : goal.returns
returns c = λ frames long.
    depth-some c.args.session c.args.stop _ c.as_slice.result.now c.args.id.now frames c.as_slice.ensures
    c.in_ok-depth.ensures.some
