use Rattle.std.proofs.Common.{sym, ◌∙◌}
use Rattle.js_machine_rows.proofs.UpdateLemmas.{no-text}
use Rattle.js_machine_rows.proofs.updates.updated_value.Goals as goal

pub unreachable-requires : goal.unreachable-requires
unreachable-requires c =
    no-text c.args.operator c.args.old c.in-Text.field-0 (sym c.in_ok-new.ensures ∙ c.in-Text.is)
