use Rattle.cdp_host_record.proofs.PartLemmas.{plays-first}
use Rattle.cdp_host.specs.Programs.{start}
use Rattle.cdp_host.specs.Protocols.{protocol}
use Rattle.cdp_host.proofs.ProtocolLemmas.{enabled-kept}
use Rattle.cdp_host.proofs.RecordLemmas.{untouched-kept}
use Rattle.cdp_host.proofs.laws.a_record_plays_again.Goals as goal

pub returns : goal.returns
returns c = λ scripts input wait history fits.
    plays-first (protocol scripts) (start scripts input) wait history (enabled-kept scripts) (untouched-kept scripts) fits
