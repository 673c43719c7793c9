use Rattle.cdp_host_isolation.specs.Histories.{Ran}
use Rattle.cdp_host_turns.specs.Entries.{lost_for_memory}
use Rattle.cdp_host.proofs.HostedLemmas.{owned-fails, owned-longest, owned-on, owned-prints}
use Rattle.cdp_host.proofs.hosted.HostHosted.run.Goals as goal

pub returns-in-Ok-clause-stands : goal.returns-in-Ok-clause-stands
returns-in-Ok-clause-stands g c = λ k h stood.
    let ran = c.in-Ok.ran in
    owned-on g.B.Beginning.scripts g.B.Beginning.input g.B.Beginning.wait c.args.self.now c.run.new.self k (Ran ran.steps c.args.moment (lost_for_memory ran.lost.items)) h c.in-Ok.ensures.stands tt stood

pub returns-in-Ok-clause-longest : goal.returns-in-Ok-clause-longest
returns-in-Ok-clause-longest g c = λ ready h stood.
    let ran = c.in-Ok.ran in
    owned-longest g.B.Beginning.scripts g.B.Beginning.input g.B.Beginning.wait c.args.self.now c.run.new.self c.args.moment c.args.most ran.steps ran.printed.items ran.lost.items h c.in-Ok.ensures.runs ready stood

pub returns-in-Ok-clause-printed : goal.returns-in-Ok-clause-printed
returns-in-Ok-clause-printed g c = λ h stood.
    let ran = c.in-Ok.ran in
    owned-prints g.B.Beginning.scripts g.B.Beginning.input g.B.Beginning.wait c.args.self.now c.args.moment ran.steps (lost_for_memory ran.lost.items) ran.printed.items h c.in-Ok.ensures.prints stood

pub returns-in-Err-clause-err : goal.returns-in-Err-clause-err
returns-in-Err-clause-err g c = λ k h stood.
    let e = c.in-Err.ensures in
    owned-fails g.B.Beginning.scripts g.B.Beginning.input g.B.Beginning.wait c.args.self.now c.run.new.self c.fallen.new.self c.args.moment c.fallen.result.items k h e.err_works e.err.0 e.scripts e.err_seats e.err_fallen
    c.fallen.ensures.list c.fallen.ensures.stands stood
