use Rattle.ws_service_devtools.specs.Texts.{flag_name}
use Rattle.ws_service_devtools.proofs.MemberLemmas.{removed_value, shallower_value}
use Rattle.ws_service_devtools.proofs.flag.without_parameter.Goals as goal

pub returns-clause-without : goal.returns-clause-without
returns-clause-without c = removed_value flag_name c.args.params c.remove.new.self c.remove.ensures.updates

pub returns-clause-depth : goal.returns-clause-depth
returns-clause-depth c = shallower_value c.args.params c.remove.new.self _ c.remove.ensures.entries
