use Rattle.cdp_host_isolation.specs.Meanings.{begin}
use Rattle.cdp_host_record.proofs.GrowthLemmas.{recorded-last, recorded-more}
use Rattle.cdp_host_record.proofs.laws.records_grow_by_lines.Goals as goal

pub returns-clause-more : goal.returns-clause-more
returns-clause-more g = λ P c wait history entry. recorded-more P (begin c wait) history entry

pub returns-clause-last : goal.returns-clause-last
returns-clause-last g = λ P c wait history more entry. recorded-last P (begin c wait) history more entry
