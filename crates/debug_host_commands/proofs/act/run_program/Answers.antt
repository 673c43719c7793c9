use Rattle.std.proofs.Common.{◌≡◌, ◌∷◌, ◌++◌, [], map, string_bytes, ap, sym, ◌∙◌}
use Rattle.std.proofs.lemmas.List.{map-append}
use Rattle.cdp_host_turns.specs.Entries.{lost_for_memory}
use Rattle.debug_host_commands.specs.Output.{Out, Overran, output_text, overrun_in}
use Rattle.debug_host_commands.proofs.ActLemmas.{run-done, run-texts}
use Rattle.debug_host_commands.proofs.act.run_program.Goals as goal

pub returns-clause-acts : goal.returns-clause-acts
returns-clause-acts c =
    let ran = c.in_ok-ran.ran in
    let told = c.in_ok-ran.ensures in
    let nobody : lost_for_memory ran.lost.items ≡ [] = ap lost_for_memory (sym c.deref.ensures.value)
    ∙ c.some_for_memory.ensures c.if-some_for_memory.false in
    let prints = c.in_ok-lines.ensures ∙ ap (λ texts. map output_text (map Out texts)) c.deref-2.ensures.value in
    let loses = c.in_ok-push_overruns.ensures
    ∙ ap (λ losses. map string_bytes c.in_ok-lines.lines.items ++ map output_text (map Overran (overrun_in losses)))
    c.deref-3.ensures.value in
    let last = ap (map string_bytes) c.in_ok-push.ensures.items
    ∙ map-append string_bytes c.push_overruns.new.lines.items (c.in_ok-ran_line.field-0 ∷ []) in
    run-done c.args.moment c.args.most c.args.host.now c.run.new.self ran.steps ran.printed.items
    (map string_bytes c.push.new.self.items) ran.lost.items c.state.result
    c.requires.works told.same (told.runs c.requires.works) told.stands nobody c.state.ensures
    (run-texts ran.printed.items ran.lost.items ran.steps c.state.result _ _ _ _ prints loses last
    c.in_ok-ran_line.ensures)
