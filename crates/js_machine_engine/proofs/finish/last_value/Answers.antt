use Rattle.js_machine_engine.proofs.ClosingLemmas.{last-some}
use Rattle.js_machine_engine.proofs.finish.last_value.Goals as goal

pub returns-in-Some : goal.returns-in-Some
returns-in-Some c = last-some c.args.values.now c.in-Some.value.now c.in-Some.ensures.value
