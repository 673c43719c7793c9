use Rattle.std.proofs.Common.{map, string_bytes, refl, ap, ◌∙◌, sym}
use Rattle.cdp_edge.specs.Outside.{gains}
use Rattle.debug_host_commands.proofs.ActLemmas.{less-as, offers, part-as, plays, refuses}
use Rattle.cdp_journal.specs.LineRead.{line_held}
use Rattle.debug_host_commands.specs.Output.{joined}
use Rattle.debug_host_commands.proofs.journal.play_line.Goals as goal
use Rattle.cdp_text.proofs.TestLemmas.{on-err}

pub returns-in_err-put_lines-clause-part : goal.returns-in_err-put_lines-clause-part
returns-in_err-put_lines-clause-part g c =
    let reads = rw c.in-Ok-Some.field-0-is at c.in-Ok-Some.ensures.value in
    let acts = rw c.in-Ok-Some-act.field-0-is at c.in-Ok-Some-act.ensures.acts in
    on-err c.from_residual.result _ λ s i w h stood.
    part-as _ _ _ _
    (offers c.args.text.now (line_held c.in-Ok-Some.line) (map string_bytes c.in-Ok-Some-act.lines.items)
    c.args.host.now c.act.new.host reads acts s i w h stood
    ∙ ap (λ xs. joined (map string_bytes xs)) (sym c.deref.ensures.value)) c.in_err-put_lines.ensures.err

pub returns-in_err-put_lines-clause-less : goal.returns-in_err-put_lines-clause-less
returns-in_err-put_lines-clause-less g c is =
    let reads = rw c.in-Ok-Some.field-0-is at c.in-Ok-Some.ensures.value in
    let acts = rw c.in-Ok-Some-act.field-0-is at c.in-Ok-Some-act.ensures.acts in
    λ s i w h stood.
    less-as _ _ _ _
    (offers c.args.text.now (line_held c.in-Ok-Some.line) (map string_bytes c.in-Ok-Some-act.lines.items)
    c.args.host.now c.act.new.host reads acts s i w h stood
    ∙ ap (λ xs. joined (map string_bytes xs)) (sym c.deref.ensures.value)) c.in_err-put_lines.ensures.err

pub returns-in-Ok-None-act-clause-refused : goal.returns-in-Ok-None-act-clause-refused
returns-in-Ok-None-act-clause-refused g c is =
    let reads = rw c.in-Ok-Some.field-0-is at c.in-Ok-Some.ensures.value in
    let acts = rw c.in-Ok-None-act.field-0-is at c.in-Ok-None-act.ensures.acts in
    (refl, refuses c.args.text.now (line_held c.in-Ok-Some.line) c.args.host.now c.act.new.host reads acts)

pub returns-clause-ok : goal.returns-clause-ok
returns-clause-ok g c =
    let reads = rw c.in-Ok-Some.field-0-is at c.in-Ok-Some.ensures.value in
    let acts = rw c.in-Ok-Some-act.field-0-is at c.in-Ok-Some-act.ensures.acts in
    let written = c.in_ok-put_lines.ensures.ok
    ∙ ap (λ xs. gains (g.O.Sink.content c.args.out.now) (joined (map string_bytes xs))) c.deref.ensures.value in
    plays c.args.text.now (line_held c.in-Ok-Some.line) (map string_bytes c.in-Ok-Some-act.lines.items)
    c.args.host.now c.act.new.host _ _ reads acts written
