use Rattle.std.proofs.Common.{ap, sym, ◌∙◌}
use Rattle.js_machine_lowering_parts.specs.Literals.{literal_in}
use Rattle.js_machine_lowering_parts.proofs.LiteralLemmas.{found_parts}
use Rattle.js_machine_lowering_parts.proofs.literals.+add_literals.Goals as goal

pub add_literals-returns-in_ok-add_all_literals-in-None-2 : goal.add_literals-returns-in_ok-add_all_literals-in-None-2
add_literals-returns-in_ok-add_all_literals-in-None-2 t c =
    found_parts c.args.found.now.items c.add_all_literals.new.found.items c.add_all_literals-in-None.new.found.items
    c.args.term.now c.in-Part.form c.in-Part.now c.in-Part.later c.in-Part.is
    (sym c.in-None.is ∙ c.in_ok-units-in-Part.ensures ∙ ap literal_in c.deref.ensures)
    c.in_ok-add_all_literals-in-None.ensures c.in_ok-add_all_literals-in-None-2.ensures
