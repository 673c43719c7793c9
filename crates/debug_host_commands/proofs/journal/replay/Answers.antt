use Rattle.debug_host_commands.proofs.ReplayedLemmas.{done-writes, refused-writes, writes-less, writes-part}
use Rattle.debug_host_commands.proofs.journal.replay.Goals as goal

pub returns-clause-done : goal.returns-clause-done
returns-clause-done g c is =
    done-writes c.play.result c.args.scripts.now c.args.input.items c.args.wait c.args.journal.now _ _
    c.play.ensures.end c.play.ensures.whole is

pub returns-clause-refused : goal.returns-clause-refused
returns-clause-refused g c line is =
    refused-writes c.play.result c.args.scripts.now c.args.input.items c.args.wait c.args.journal.now _ _
    c.play.ensures.end c.play.ensures.whole line is

pub returns-clause-part : goal.returns-clause-part
returns-clause-part g c =
    writes-part c.args.scripts.now c.args.input.items c.args.wait c.args.journal.now _ _ c.play.ensures.part

pub returns-clause-less : goal.returns-clause-less
returns-clause-less g c is =
    writes-less c.args.scripts.now c.args.input.items c.args.wait c.args.journal.now _ _ (c.play.ensures.less is)
