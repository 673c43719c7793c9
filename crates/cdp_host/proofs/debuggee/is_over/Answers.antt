use Rattle.std.proofs.Common.{is_some, sym, ap, ◌∙◌}
use Rattle.cdp_host.proofs.PartLemmas.{finished-over, unfinished-over}
use Rattle.cdp_host.proofs.debuggee.is_over.Goals as goal

pub returns-in-Some : goal.returns-in-Some
returns-in-Some c = λ kept heap taken.
    sym (finished-over c.args.machine.now heap taken c.in-Some.field-0 c.in-Some.ensures.over)

pub returns-in-None : goal.returns-in-None
returns-in-None c = λ kept heap taken.
    c.is_some.ensures
    ∙ ap is_some c.end.ensures
    ∙ unfinished-over c.args.machine.now heap taken kept c.in-None.ensures.left
