use Rattle.std.proofs.Common.{refl, arith}
use Rattle.pure_eval.proofs.CallLemmas.{call-added}
use Rattle.pure_eval.proofs.calling.add_call.Goals as goal

pub returns : goal.returns
returns c =
    call-added c.args.table.now c.push.new.self _ c.in-Ok.number c.in_ok-push.ensures.items
    (omega (arith, c.in-Ok.ensures.1, c.len.ensures)) refl
