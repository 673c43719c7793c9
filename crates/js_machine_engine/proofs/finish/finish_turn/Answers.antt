use Rattle.std.proofs.Common.{sym}
use Rattle.js_machine_engine.specs.Stacks.{extra_of}
use Rattle.js_machine_engine.proofs.ClosingLemmas.{turn-comes, no-turn-comes}
use Rattle.js_machine_engine.proofs.finish.finish_turn.Goals as goal

pub returns-in-Some : goal.returns-in-Some
returns-in-Some c =
    turn-comes c.args.table.now c.args.stack.now c.restage.new.stack c.args.task (extra_of c.args.stack.now)
    c.in-Some.field-0 c.requires.task c.requires.turn (sym c.in-Some.ensures) c.restage.ensures

pub returns-in-None : goal.returns-in-None
returns-in-None c =
    no-turn-comes c.args.table.now c.args.stack.now c.args.task (extra_of c.args.stack.now)
    c.requires.task c.requires.turn (sym c.in-None.ensures) c.requires.row
