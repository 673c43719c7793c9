use Rattle.cdp_journal.proofs.TellableLemmas.{tellable-written}
use Rattle.cdp_journal.proofs.WrittenLemmas.{memory-none, written-cut, written-other, written-read}
use Rattle.cdp_journal.proofs.laws.written_journals_are_read.Goals as goal

pub returns-clause-cut : goal.returns-clause-cut
returns-clause-cut c = written-cut

pub returns-clause-read : goal.returns-clause-read
returns-clause-read c = written-read

pub returns-clause-memory : goal.returns-clause-memory
returns-clause-memory c = memory-none

pub returns-clause-others : goal.returns-clause-others
returns-clause-others c = written-other

pub returns-clause-told : goal.returns-clause-told
returns-clause-told c = tellable-written
