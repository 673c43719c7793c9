use Rattle.cdp_host_isolation.specs.Meanings.{begin}
use Rattle.cdp_host_record.proofs.ReadLemmas.{cut, cut-last, read}
use Rattle.cdp_host_record.proofs.laws.records_are_journals.Goals as goal

pub returns-clause-cut : goal.returns-clause-cut
returns-clause-cut g = λ P c wait history. cut P (begin c wait) history

pub returns-clause-last : goal.returns-clause-last
returns-clause-last g = λ P c wait history. cut-last P (begin c wait) history

pub returns-clause-read : goal.returns-clause-read
returns-clause-read g = λ P c wait history. read P (begin c wait) history
