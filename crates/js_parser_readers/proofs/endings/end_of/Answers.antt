use Rattle.std.proofs.Common.{sym, ap, ◌∙◌}
use Rattle.js_parser_language.specs.Tokens.{after_expression}
use Rattle.js_tree.specs.declared.tree.Declarators.{out-Declarators}
use Rattle.js_tree.proofs.ViewLemmas.{declarators_listed}
use Rattle.js_parser_readers.proofs.EndLemmas.{last_end, no_end, one_present, one_omitted}
use Rattle.js_parser_readers.proofs.endings.end_of.Goals as goal

pub returns-in-Some-initializer : goal.returns-in-Some-initializer
returns-in-Some-initializer c =
    let found = rw (c.in-Some.is, c.deref.ensures.value) at c.last.ensures.value in
    rw declarators_listed
    (ap after_expression c.edge_of.ensures
    ∙ sym (last_end (out-Declarators c.args.declarators.now).items.items c.in-Some.last.now (sym found)
    ∙ one_present c.in-Some.last.now c.in-Some-initializer.tree c.in-Some-initializer.is))

pub returns-in-None-initializer : goal.returns-in-None-initializer
returns-in-None-initializer c =
    let found = rw (c.in-Some.is, c.deref.ensures.value) at c.last.ensures.value in
    rw declarators_listed
    (sym (last_end (out-Declarators c.args.declarators.now).items.items c.in-Some.last.now (sym found)
    ∙ one_omitted c.in-Some.last.now c.in-None-initializer.is))

pub returns-in-None : goal.returns-in-None
returns-in-None c =
    let found = rw (c.in-None.is, c.deref.ensures.value) at c.last.ensures.value in
    rw declarators_listed (sym (no_end (out-Declarators c.args.declarators.now).items.items (sym found)))
