use Rattle.cdp_host_turns.specs.Entries.{told_entry}
use Rattle.cdp_host.proofs.HostedLemmas.{owned-on, tell-carries, tell-owned}
use Rattle.cdp_host.proofs.PresenceLemmas.{owned-fits}
use Rattle.cdp_host.proofs.hosted.HostHosted.tell.Goals as goal

pub returns-clause-stands : goal.returns-clause-stands
returns-clause-stands g c = λ k h stood owns.
    let old = c.args.self.now in
    let new = c.tell.new.self in
    let s = c.args.session in
    let text = c.args.text.now in
    let e = c.tell.ensures in
    owned-on g.B.Beginning.scripts g.B.Beginning.input g.B.Beginning.wait old new k (told_entry c.tell.result s text) h
    (tell-carries old new c.tell.result s text e.stands_kept e.stands_overrun e.stands_memory) (tell-owned c.tell.result s text k h owns) stood

pub returns-clause-fits : goal.returns-clause-fits
returns-clause-fits g c = λ h stood.
    owned-fits g.B.Beginning.scripts g.B.Beginning.input g.B.Beginning.wait c.args.self.now c.args.session h stood
    c.args.text.now c.tell.result c.requires c.tell.ensures.fits c.tell.ensures.over
