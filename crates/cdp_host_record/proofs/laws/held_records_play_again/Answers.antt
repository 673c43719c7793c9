use Rattle.cdp_host_record.proofs.PartLemmas.{plays-held}
use Rattle.cdp_host_record.proofs.laws.held_records_play_again.Goals as goal

pub returns : goal.returns
returns g = plays-held
