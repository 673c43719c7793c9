use Rattle.std.proofs.Common.{not, sym, ap, ◌∙◌}
use Rattle.cdp_host_isolation.specs.Meanings.{is_ready}
use Rattle.cdp_host.specs.Protocols.{protocol}
use Rattle.cdp_host.specs.Hosts.{meaning_with}
use Rattle.cdp_host.proofs.StateLemmas.{ready-broken, ready-works}
use Rattle.cdp_host.proofs.host.Host.is_ready.Goals as goal

pub returns-then-not-self : goal.returns-then-not-self
returns-then-not-self c = λ taken.
    let works = sym (ap (λ h. h.broken) c.self.view_is) ∙ c.if-not-self.true in
    ready-works c.args.self.now.broken _
    (is_ready (protocol c.args.self.now.scripts) (meaning_with c.args.self.now taken)) works
    (c.goes_on.ensures works taken)

pub returns-else-not-self : goal.returns-else-not-self
returns-else-not-self c = λ taken.
    ap not c.if-not-self.false
    ∙ ready-broken c.args.self.now.broken
    (is_ready (protocol c.args.self.now.scripts) (meaning_with c.args.self.now taken))
    (sym (ap (λ h. h.broken) c.self.view_is) ∙ c.if-not-self.false)
