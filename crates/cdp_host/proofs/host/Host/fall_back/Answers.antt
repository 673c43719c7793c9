use Rattle.std.proofs.Common.{ap, ◌∙◌}
use Rattle.cdp_host_isolation.specs.Seats.{is_attached, some}
use Rattle.cdp_host.specs.Hosts.{NoneAttached}
use Rattle.cdp_host.specs.Protocols.{protocol}
use Rattle.cdp_host.proofs.IndexLemmas.{gone-indexed}
use Rattle.cdp_host.proofs.RunLemmas.{gone-fit}
use Rattle.cdp_host.proofs.host.Host.fall_back.Goals as goal

pub invariant_of-self : goal.invariant_of-self
invariant_of-self c =
    let a = c.self.inside in
    let none : NoneAttached c.restore.new.seats.items =
    ap (λ ss. some is_attached ss) c.restore.ensures.seats ∙ c.self.invariant.gone in
    record {
      lines = c.self.invariant.lines;
      spots = c.self.invariant.spots;
      code = c.self.invariant.code;
      shared = c.self.invariant.shared;
      handed = λ works. absurd cc;
      kept = λ works. absurd cc;
      quiet = λ works. absurd cc;
      room = λ works. absurd cc;
      alone = λ _. none;
      gone = ap (λ ss. some is_attached ss) c.restore.ensures.gone;
      indexed = gone-indexed c.restore.new.seats.items c.new.result none c.new.ensures;
      fit = gone-fit (protocol a.scripts.now) c.restore.new.seats.items none;
    }
