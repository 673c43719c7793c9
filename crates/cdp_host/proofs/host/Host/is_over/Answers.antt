use Rattle.std.proofs.Common.{ap, ◌∙◌}
use Rattle.cdp_host.proofs.host.Host.is_over.Goals as goal

pub returns : goal.returns
returns c = λ works taken.
    let a = c.self.inside in
    let kept = c.self.invariant.kept (ap (λ h. h.broken) c.self.view_is ∙ works) in
    rw (← c.self.view_is) (c.is_over.ensures kept a.heap taken)
