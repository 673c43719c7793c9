use Rattle.std.proofs.Common.{sym, ◌∙◌}
use Rattle.js_parser_readers.proofs.NameLemmas.{first_name}
use Rattle.js_parser_readers.proofs.classes.statements.is_name.Goals as goal

pub returns-in-len1-up : goal.returns-in-len1-up
returns-in-len1-up c =
    c.eq-in-len1-up.ensures
    ∙ first_name c.args.name.now c.args.tokens.now c.token-item.result c.in-len1-up.len_at_least c.token-item.is
    (sym c.eq.ensures ∙ c.if-eq.true)
