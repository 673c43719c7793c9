use Rattle.std.proofs.Common.{refl, sym}
use Rattle.cdp_host_isolation.specs.Histories.{Detach}
use Rattle.cdp_host.proofs.HistoryLemmas.{stands-call}
use Rattle.cdp_host.proofs.host.Host.detach.Goals as goal

pub returns-then-attached-clause-stands : goal.returns-then-attached-clause-stands
returns-then-attached-clause-stands c = λ scripts input wait history stood.
    stands-call scripts input wait c.args.self.now c.leave.new.self history (Detach c.args.s) stood refl tt
    (sym c.if-attached.ensures) c.leave.ensures.leaves c.leave.ensures.works
