use Rattle.cdp_journal.proofs.RunLines.{printed-is, ran-is, ran-read, runs-read}
use Rattle.cdp_journal.proofs.laws.summaries_tell_lines.Goals as goal

pub returns-clause-printed : goal.returns-clause-printed
returns-clause-printed c = printed-is

pub returns-clause-is : goal.returns-clause-is
returns-clause-is c = ran-is

pub returns-clause-read : goal.returns-clause-read
returns-clause-read c = ran-read

pub returns-clause-runs : goal.returns-clause-runs
returns-clause-runs c = runs-read
