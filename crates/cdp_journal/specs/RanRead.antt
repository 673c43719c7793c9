-- A run as the code holds it.
use Rattle.cdp_journal.specs.declared.summaries.RunLine.{RunLine as Held}
use Rattle.cdp_journal.specs.Summaries.{RunLine}

-- the run that is held
abbrev pub ran_held : Held → RunLine
ran_held run = record { steps = run.steps; state = run.state.now }
