use Rattle.js_machine_engine.proofs.settling.uncover.Goals as goal

pub returns-clause-term : goal.returns-clause-term
returns-clause-term c = rw c.get.ensures c.in_ok-uncover_part.ensures.term

pub returns-clause-at : goal.returns-clause-at
returns-clause-at c = rw c.get.ensures c.in_ok-uncover_part.ensures.at
