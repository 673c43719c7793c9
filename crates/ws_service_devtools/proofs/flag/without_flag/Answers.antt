use Rattle.ws_service_devtools.proofs.MemberLemmas.{without, without_result}
use Rattle.ws_service_devtools.proofs.flag.without_flag.Goals as goal

pub returns-clause-without : goal.returns-clause-without
returns-clause-without c = without_result c.with_params.result (λ whole updates. without c.args.command c.in-Object.members c.take_params-params.new.command _ _ whole c.in-Object.is c.take_params-params.ensures.given c.take_params-params.ensures.others c.without_parameter.ensures.without updates) c.with_params.ensures.with
