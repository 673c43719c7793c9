use Rattle.std.proofs.Common.{[]}
use Rattle.cdp_host.proofs.HostedLemmas.{owned-history, owned-idle, owned-state}
use Rattle.cdp_host.proofs.PresenceLemmas.{owned-shut}
use Rattle.cdp_host.proofs.hosted.HostHosted.state.Goals as goal

pub returns-clause-tells : goal.returns-clause-tells
returns-clause-tells g c = c.state.ensures []

pub returns-clause-history : goal.returns-clause-history
returns-clause-history g c = λ h stood. owned-history g.B.Beginning.scripts g.B.Beginning.input g.B.Beginning.wait c.args.self.now h stood

pub returns-clause-state : goal.returns-clause-state
returns-clause-state g c = λ h stood. owned-state g.B.Beginning.scripts g.B.Beginning.input g.B.Beginning.wait c.args.self.now c.state.result h c.state.ensures stood

pub returns-clause-idle : goal.returns-clause-idle
returns-clause-idle g c = λ k h stood. owned-idle g.B.Beginning.scripts g.B.Beginning.input g.B.Beginning.wait c.args.self.now k h stood

pub returns-clause-shut : goal.returns-clause-shut
returns-clause-shut g c = λ s held h stood.
    owned-shut g.B.Beginning.scripts g.B.Beginning.input g.B.Beginning.wait c.args.self.now s h stood c.state.result
    c.state.ensures held
