use Rattle.std.proofs.Common.{sym, ◌∙◌}
use Rattle.pure_eval.proofs.WorkspaceLemmas.{none-behind, cut-to-first, emptied-working}
use Rattle.pure_eval.proofs.session_code.SessionCode.forget_kept.Goals as goal

pub returns-then-len-self-clause-program : goal.returns-then-len-self-clause-program
returns-then-len-self-clause-program c =
    none-behind c.args.self.now.evaluator c.args.self.now.scripts (sym c.len.ensures ∙ c.if-len-self.true)

pub returns-clause-holds : goal.returns-clause-holds
returns-clause-holds c =
    let code = c.args.self.now in
    emptied-working code.evaluator c.cut.new.self code.scripts code.start c.requires.working c.cut.ensures.back

pub returns-clause-program : goal.returns-clause-program
returns-clause-program c =
    let code = c.args.self.now in
    cut-to-first code.evaluator c.cut.new.self code.scripts code.start c.requires.working c.cut.ensures.back
