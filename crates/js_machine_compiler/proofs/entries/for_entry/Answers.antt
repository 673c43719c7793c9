use Rattle.js_machine_compiler.proofs.EntryLemmas.{for_known}
use Rattle.js_machine_compiler.proofs.entries.for_entry.Goals as goal

pub returns-clause-form : goal.returns-clause-form
returns-clause-form c = for_known _ _ _ _ _ c.in_ok-info.ensures.place c.in_ok-slots.ensures.slots
