use Rattle.js_machine_compiler.proofs.EntryLemmas.{block_known}
use Rattle.js_machine_compiler.proofs.entries.block_entry.Goals as goal

pub returns-clause-form : goal.returns-clause-form
returns-clause-form c = block_known _ _ _ _ _ c.in_ok-info.ensures.place c.in_ok-slots.ensures.slots
