use Rattle.std.proofs.Common.{rules, ◌≡◌, ◌∷◌, [], map, string_bytes}
use Rattle.debug_host_commands.specs.Output.{Attached, output_text}
use Rattle.debug_host_commands.proofs.ActLemmas.{attach-done}
use Rattle.debug_host_commands.proofs.act.attach.Goals as goal

pub returns-clause-acts : goal.returns-clause-acts
returns-clause-acts c =
    let told = c.in_ok-session.ensures in
    let line : map string_bytes c.in_ok-vec.field-0.items ≡ output_text (Attached c.in_ok-session.session)
    ∷ [] = search rules in
    attach-done c.args.host.now c.attach.new.self c.in_ok-session.session (map string_bytes c.in_ok-vec.field-0.items)
    c.requires told.number told.leaves told.stands line
