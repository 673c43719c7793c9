use Rattle.cdp_host_worked_runs.proofs.Trees.{printer, is-printer}
use Rattle.cdp_host_worked_runs.proofs.laws.there_is_a_script_that_prints.Goals as goal

pub returns : goal.returns
returns c = (printer, is-printer)
