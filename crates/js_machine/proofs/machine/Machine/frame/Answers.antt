use Rattle.js_machine.proofs.machine.Machine.frame.Goals as goal

pub returns-in-None : goal.returns-in-None
returns-in-None c =
    λ w taken. rw (← c.self.view_is, c.in-None.is)
    (let h = rw c.script_scope.ensures at (c.active_frame.ensures c.self.inside.names w taken) in h)
