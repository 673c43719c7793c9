use Rattle.std.proofs.Common.{is_some, sym, ap, ◌∙◌, Some}
use Rattle.cdp_host.proofs.EndingLemmas.{ending-finished, ending-going, ending-other}
use Rattle.cdp_host.proofs.endings.ending_of.Goals as goal

pub returns-in-Some : goal.returns-in-Some
returns-in-Some c =
    λ heap taken. ap Some c.ending_by.ensures
    ∙ sym (ending-finished c.args.scripts.now c.args.machine.now heap taken c.in-Some.finish c.in-Some.ensures.over)

pub returns-in-Some-end : goal.returns-in-Some-end
returns-in-Some-end c = λ heap taken.
    sym (ending-other c.args.scripts.now c.args.machine.now heap taken c.requires.kept
    (ap is_some (sym c.in-Some-end.ensures)) (sym c.in-None.ensures.finish))

pub returns-in-None-end : goal.returns-in-None-end
returns-in-None-end c =
    λ heap taken. sym
    (ending-going c.args.scripts.now c.args.machine.now heap taken (sym c.in-None-end.ensures)
    c.in-None.ensures.left)
