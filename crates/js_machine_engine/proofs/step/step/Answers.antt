use Rattle.js_machine_engine.proofs.step.step.Goals as goal

pub advance-went-requires-clause-stands : goal.advance-went-requires-clause-stands
advance-went-requires-clause-stands g c = rw c.of-position.ensures c.requires.stands

pub advance-went-requires-clause-going : goal.advance-went-requires-clause-going
advance-went-requires-clause-going g c = rw c.of-position.ensures c.requires.going

pub returns-then-went-clause-told : goal.returns-then-went-clause-told
returns-then-went-clause-told g c = λ taken.
    rw c.get.ensures
    (rw c.of-position.ensures at (rw c.if-went.true at (c.advance-went.ensures.told taken)))

pub returns-then-went-clause-stands : goal.returns-then-went-clause-stands
returns-then-went-clause-stands g c = rw c.get.ensures (rw c.if-went.true at c.advance-went.ensures.stands)

pub returns-clause-told : goal.returns-clause-told
returns-clause-told g c = λ taken.
    rw c.get.ensures
    (rw c.of-position.ensures at (rw c.if-went.false at (c.advance-went.ensures.told taken)))

pub returns-clause-stands : goal.returns-clause-stands
returns-clause-stands g c = rw c.get.ensures (rw c.if-went.false at c.advance-went.ensures.stands)
