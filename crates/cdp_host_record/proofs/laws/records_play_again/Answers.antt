use Rattle.cdp_host_record.proofs.PartLemmas.{plays-first}
use Rattle.cdp_host_record.proofs.laws.records_play_again.Goals as goal

pub returns : goal.returns
returns g = plays-first
