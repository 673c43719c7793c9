use Rattle.std.proofs.Common.{ap, sym, ◌∙◌}
use Rattle.std.proofs.lemmas.Result.{IfOk-weaker}
use Rattle.cdp_journal.specs.Lines.{line_of_text}
use Rattle.cdp_journal.proofs.LineLemmas.{held-is, held-one, line-read, line_of-utf8, line_of-other}
use Rattle.cdp_journal.proofs.line.read_line.Goals as goal

pub returns-in-Ok-clause-is : goal.returns-in-Ok-clause-is
returns-in-Ok-clause-is c =
    IfOk-weaker c.read_text.result _ _
    (λ read is. held-is c.args.bytes.now read
    (is ∙ ap line_of_text c.in-Ok.ensures.cases.0 ∙ sym (line_of-utf8 c.args.bytes.now c.in-Ok.ensures.cases.1)))
    c.read_text.ensures

pub returns-in-Ok-clause-one : goal.returns-in-Ok-clause-one
returns-in-Ok-clause-one c =
    IfOk-weaker c.read_text.result _ _
    (λ read is. held-one c.args.bytes.now read
    (is ∙ ap line_of_text c.in-Ok.ensures.cases.0 ∙ sym (line_of-utf8 c.args.bytes.now c.in-Ok.ensures.cases.1)))
    c.read_text.ensures

pub returns-in-Err-clause-one : goal.returns-in-Err-clause-one
returns-in-Err-clause-one c line is =
    sym (line_of-other c.args.bytes.now c.in-Err.ensures.cases.0) ∙ line-read c.args.bytes.now line is
