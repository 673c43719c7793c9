use Rattle.cdp_journal.proofs.DrillLines.{journal-cut, journal-read, steps-written}
use Rattle.cdp_journal.proofs.laws.drills_are_journals.Goals as goal

pub returns-clause-cut : goal.returns-clause-cut
returns-clause-cut c = journal-cut

pub returns-clause-form : goal.returns-clause-form
returns-clause-form c = steps-written

pub returns-clause-read : goal.returns-clause-read
returns-clause-read c = journal-read
