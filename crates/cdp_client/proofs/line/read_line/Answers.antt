use Rattle.std.proofs.Common.{◌≡◌, IfOk, Option, ap, sym, subst, ◌∙◌}
use Rattle.std.specs.Option.{option_map}
use Rattle.cdp_client.specs.Lines.{Line, line_of_text}
use Rattle.cdp_client.specs.LineRead.{line_held}
use Rattle.cdp_client.proofs.LineLemmas.{line_of-other, line_of-utf8}
use Rattle.cdp_client.proofs.line.read_line.Goals as goal

pub returns-in-Ok : goal.returns-in-Ok
returns-in-Ok c =
    let text = c.in-Ok.ensures.cases in
    subst (λ (o : Option Line). IfOk c.read_text.result (λ line. option_map line_held line ≡ o))
    (ap (line_of_text c.args.id) text.0 ∙ sym (line_of-utf8 c.args.id c.args.bytes.now text.1)) c.read_text.ensures

pub returns-in-Err : goal.returns-in-Err
returns-in-Err c = sym (line_of-other c.args.id c.args.bytes.now c.in-Err.ensures.cases.0)
