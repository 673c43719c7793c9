use Rattle.debug_host_commands.proofs.act.act.Goals as goal

pub returns-in-Tell-clause-acts : goal.returns-in-Tell-clause-acts
returns-in-Tell-clause-acts c = rw (c.in-Tell.is, ← c.deref.ensures) c.tell.ensures.acts

pub returns-in-Take-clause-acts : goal.returns-in-Take-clause-acts
returns-in-Take-clause-acts c = rw c.in-Take.is c.take.ensures.acts

pub returns-in-Detach-clause-acts : goal.returns-in-Detach-clause-acts
returns-in-Detach-clause-acts c = rw c.in-Detach.is c.detach.ensures.acts

pub returns-in-Run-clause-acts : goal.returns-in-Run-clause-acts
returns-in-Run-clause-acts c = rw c.in-Run.is c.run_program.ensures.acts
