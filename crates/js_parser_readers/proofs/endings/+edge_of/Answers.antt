use Rattle.std.proofs.Common.{sym, ◌∙◌}
use Rattle.js_tree.proofs.ViewLemmas.{view_comma, expressions_listed}
use Rattle.js_parser_readers.proofs.EndLemmas.{last_edge, no_edge}
use Rattle.js_parser_readers.proofs.endings.+edge_of.Goals as goal

pub returns-in-Some : goal.returns-in-Some
returns-in-Some t c =
    let found = rw (c.in-Some.is, c.deref-in-Comma.ensures.value) at c.last.ensures.value in
    rw (c.in-Comma.is, view_comma, expressions_listed)
    (c.edge_of-in-Some.ensures ∙ sym (last_edge c.in-Comma.expressions.items.items c.in-Some.last.now (sym found)))

pub returns-in-None : goal.returns-in-None
returns-in-None t c =
    let found = rw (c.in-None.is, c.deref-in-Comma.ensures.value) at c.last.ensures.value in
    rw (c.in-Comma.is, view_comma, expressions_listed) (sym (no_edge c.in-Comma.expressions.items.items (sym found)))
