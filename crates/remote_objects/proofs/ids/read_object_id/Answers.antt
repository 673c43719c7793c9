use Rattle.std.proofs.Common.{arith}
use Rattle.remote_objects.proofs.IdLemmas.{read-value}
use Rattle.remote_objects.proofs.ids.read_object_id.Goals as goal

pub returns-clause-value : goal.returns-clause-value
returns-clause-value c =
    read-value c.args.session c.args.text.now c.number_in_id.result (omega (arith, c.ranges.session))
    c.number_in_id.ensures.some c.number_in_id.ensures.none
