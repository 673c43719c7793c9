use Rattle.std.proofs.Common.{rules, ◌≡◌, true, map, string_bytes, ap, ◌∙◌}
use Rattle.cdp_host_isolation.specs.Seats.{is_attached, seat_of}
use Rattle.debug_host_commands.specs.Output.{To, output_text}
use Rattle.debug_host_commands.proofs.ActLemmas.{take-done}
use Rattle.debug_host_commands.proofs.act.take.Goals as goal

pub returns-in_ok-sent_lines-in-Attached-clause-acts : goal.returns-in_ok-sent_lines-in-Attached-clause-acts
returns-in_ok-sent_lines-in-Attached-clause-acts c =
    let taken = c.take-texts.ensures in
    let held : is_attached (seat_of c.args.session c.args.host.now.meaning.seats) ≡ true = search rules in
    let lines = c.in_ok-sent_lines-in-Attached.ensures
    ∙ ap (λ texts. map output_text (map (To c.args.session) (map string_bytes texts))) c.deref.ensures.value in
    take-done c.args.host.now c.take-texts.new.self c.args.session (map string_bytes c.take-texts.result.items)
    (map string_bytes c.in_ok-sent_lines-in-Attached.field-0.items) c.requires held
    taken.leaves taken.stands taken.texts lines
