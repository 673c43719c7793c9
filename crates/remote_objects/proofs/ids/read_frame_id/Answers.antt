use Rattle.std.proofs.Common.{arith}
use Rattle.remote_objects.specs.Ids.{object_id}
use Rattle.remote_objects.proofs.IdLemmas.{frame_some, frame_none, if_none}
use Rattle.remote_objects.proofs.ids.read_frame_id.Goals as goal

pub returns-in_err-behind_number-clause-none : goal.returns-in_err-behind_number-clause-none
returns-in_err-behind_number-clause-none c =
    if_none c.from_residual.result
    (λ depth id. c.in_err-behind_number.ensures.none (object_id c.args.stop depth) id.written)

pub returns-clause-some : goal.returns-clause-some
returns-clause-some c =
    frame_some c.args.session c.args.stop c.args.text.now c.in_ok-behind_number.field-0.now c.number_in_id.result
    c.in_ok-behind_number.ensures.some c.number_in_id.ensures.some

pub returns-clause-none : goal.returns-clause-none
returns-clause-none c =
    frame_none c.args.session c.args.stop c.args.text.now c.in_ok-behind_number.field-0.now c.number_in_id.result
    (omega (arith, c.ranges.session)) c.in_ok-behind_number.ensures.some c.number_in_id.ensures.none
