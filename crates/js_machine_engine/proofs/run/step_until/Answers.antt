use Rattle.js_machine_engine.proofs.run.step_until.Goals as goal

pub run_on-stopped-requires-clause-stands : goal.run_on-stopped-requires-clause-stands
run_on-stopped-requires-clause-stands g c = rw c.of-position.ensures c.requires.stands

pub returns-clause-left : goal.returns-clause-left
returns-clause-left g c = λ taken. rw c.of-position.ensures at (c.run_on-stopped.ensures.left taken)

pub returns-clause-asked : goal.returns-clause-asked
returns-clause-asked g c = λ taken. rw c.of-position.ensures at (c.run_on-stopped.ensures.asked taken)

pub returns-clause-passed : goal.returns-clause-passed
returns-clause-passed g c = λ taken. rw c.of-position.ensures at (c.run_on-stopped.ensures.passed taken)

pub returns-clause-values : goal.returns-clause-values
returns-clause-values g c = λ taken. rw c.of-position.ensures at (c.run_on-stopped.ensures.values taken)

pub returns-clause-silent : goal.returns-clause-silent
returns-clause-silent g c = λ taken. rw c.of-position.ensures at (c.run_on-stopped.ensures.silent taken)

pub returns-clause-told : goal.returns-clause-told
returns-clause-told g c = λ taken.
    rw c.get.ensures (rw c.of-position.ensures at (c.run_on-stopped.ensures.told taken))

pub returns-clause-stands : goal.returns-clause-stands
returns-clause-stands g c = rw c.get.ensures c.run_on-stopped.ensures.stands
