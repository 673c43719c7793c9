use Rattle.std.proofs.Common.{codes, arith}
use Rattle.serde_json.specs.View.{members_view}
use Rattle.ws_service_devtools.proofs.MemberLemmas.{found_depth, given_params, has_params, removed, shallower}
use Rattle.ws_service_devtools.proofs.flag.take_params.Goals as goal

pub unreachable-requires : goal.unreachable-requires
unreachable-requires c = has_params c.args.command.now c.remove.result c.remove.ensures.value c.requires c.in-None.ensures

pub returns-clause-given : goal.returns-clause-given
returns-clause-given c = given_params c.args.command.now c.remove.result _ c.remove.ensures.value c.in-Some.ensures

pub returns-clause-others : goal.returns-clause-others
returns-clause-others c = removed (codes "params") c.args.command.now c.remove.new.self c.remove.ensures.updates

pub returns-clause-shallower : goal.returns-clause-shallower
returns-clause-shallower c = shallower c.args.command.now c.remove.new.self _ c.remove.ensures.entries

pub returns-clause-inside : goal.returns-clause-inside
returns-clause-inside c =
    let given = given_params c.args.command.now c.remove.result _ c.remove.ensures.value c.in-Some.ensures in
    omega (arith, found_depth (codes "params") (members_view c.args.command.now.entries) _ given)
