use Rattle.js_machine_inspection.proofs.WalkLemmas.{walked-outward}
use Rattle.js_machine_inspection.proofs.walks.Walked.outward.Goals as goal

pub returns-clause-walked : goal.returns-clause-walked
returns-clause-walked c = λ root is.
    walked-outward root c.args.stack.now c.args.self.frames c.args.self.tasks c.tasks_outward.result is
    (c.tasks_outward.ensures root)
