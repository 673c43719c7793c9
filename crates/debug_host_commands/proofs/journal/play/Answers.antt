use Rattle.debug_host_commands.proofs.journal.play.Goals as goal

pub returns-in-Ok-clause-end : goal.returns-in-Ok-clause-end
returns-in-Ok-clause-end g c =
    c.play_lines.ensures.end c.args.scripts.now c.args.input.items c.args.wait c.in-Ok.ensures.stands

pub returns-in-Ok-clause-whole : goal.returns-in-Ok-clause-whole
returns-in-Ok-clause-whole g c =
    c.play_lines.ensures.whole c.args.scripts.now c.args.input.items c.args.wait c.in-Ok.ensures.stands
