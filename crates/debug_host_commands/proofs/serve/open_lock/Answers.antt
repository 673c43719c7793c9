use Rattle.debug_host_commands.proofs.ServeLemmas.{last-pass}
use Rattle.debug_host_commands.proofs.serve.open_lock.Goals as goal

pub returns-clause-pass : goal.returns-clause-pass
returns-clause-pass g c =
    (last-pass c.in_ok-lock.lock c.args.sessions c.in_ok-lock.doors.items c.pop.new.self.items c.in-Some.pass
    c.in_ok-lock.ensures.passes c.in-Some.ensures.items).1

pub returns-clause-doors : goal.returns-clause-doors
returns-clause-doors g c =
    (last-pass c.in_ok-lock.lock c.args.sessions c.in_ok-lock.doors.items c.pop.new.self.items c.in-Some.pass
    c.in_ok-lock.ensures.passes c.in-Some.ensures.items).0
