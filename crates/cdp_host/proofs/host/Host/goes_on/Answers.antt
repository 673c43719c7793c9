use Rattle.std.proofs.Common.{not, sym, ap, ◌∙◌}
use Rattle.cdp_host.specs.Hosts.{meaning_with}
use Rattle.cdp_host.proofs.StateLemmas.{goes-held, goes-ready}
use Rattle.cdp_host.proofs.host.Host.goes_on.Goals as goal

pub returns-then-not-is_held : goal.returns-then-not-is_held
returns-then-not-is_held c = λ works taken.
    goes-ready c.args.self.now.scripts (meaning_with c.args.self.now taken) c.is_over.result
    (sym c.if-not-is_held.ensures) (c.is_over.ensures works taken)

pub returns-else-not-is_held : goal.returns-else-not-is_held
returns-else-not-is_held c = λ works taken.
    ap not c.if-not-is_held.false
    ∙ goes-held c.args.self.now.scripts (meaning_with c.args.self.now taken) (sym c.if-not-is_held.ensures)
