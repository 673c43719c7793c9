use Rattle.debug_host_plain_runs.proofs.TurnLemmas.{has_turned}
use Rattle.debug_host_plain_runs.proofs.turns.advance.Goals as goal

pub returns : goal.returns
returns c =
    let r = c.run_until-ran.ensures in
    has_turned c.args.machine.now c.run_until-ran.new.self c.take_printed.new.self _ c.run_until-ran.new.world
    c.run_until-ran.result.steps c.run_until-ran.result.why c.take_printed.result.items
    r.code r.end c.in_default.not-Memory r.run c.take_printed.ensures.texts c.take_printed.ensures.rest
