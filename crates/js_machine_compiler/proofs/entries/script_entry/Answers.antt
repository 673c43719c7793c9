use Rattle.js_machine_compiler.proofs.EntryLemmas.{script_known}
use Rattle.js_machine_compiler.proofs.entries.script_entry.Goals as goal

pub returns-clause-form : goal.returns-clause-form
returns-clause-form c = script_known _ _ _ _ _ c.in_ok-info.ensures.place c.in_ok-slots.ensures.slots
