use Rattle.js_machine_engine.proofs.travelling.travel.Goals as goal

pub take-requires-clause-scoped : goal.take-requires-clause-scoped
take-requires-clause-scoped g c = c.pass_outward.ensures.passed.scoped c.args.code.now.root c.requires.scoped
