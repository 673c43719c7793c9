use Rattle.std.proofs.Common.{sym}
use Rattle.cdp_host.proofs.HolderLemmas.{nowhere-stops}
use Rattle.cdp_host.proofs.advance.Watch.is_held.Goals as goal

pub returns-in-None : goal.returns-in-None
returns-in-None c =
    λ unwanted. sym (nowhere-stops c.args.arrival.now c.args.self.now.seats.now c.in-None.is unwanted)
