use Rattle.js_machine.proofs.machine.Machine.depth.Goals as goal

pub returns : goal.returns
returns c = λ w taken. rw (← c.self.view_is) (c.depth.ensures w taken)
