use Rattle.std.proofs.Common.{codes}
use Rattle.ws_service_devtools.proofs.MemberLemmas.{deeper, inserted}
use Rattle.ws_service_devtools.proofs.flag.with_params.Goals as goal

pub returns-in-Ok-clause-with : goal.returns-in-Ok-clause-with
returns-in-Ok-clause-with c = inserted (codes "params") c.args.command c.insert.new.self c.in_ok-name.name c.args.params c.in_ok-name.ensures.ok c.in-Ok.ensures.updates

pub returns-in-Ok-clause-depth : goal.returns-in-Ok-clause-depth
returns-in-Ok-clause-depth c = λ n below within. deeper c.args.command c.insert.new.self c.in_ok-name.name c.args.params n c.in-Ok.ensures.entries below within
