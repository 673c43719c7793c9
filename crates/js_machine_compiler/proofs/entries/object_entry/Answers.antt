use Rattle.js_machine_compiler.proofs.EntryLemmas.{object_known}
use Rattle.js_machine_compiler.proofs.entries.object_entry.Goals as goal

pub returns-clause-form : goal.returns-clause-form
returns-clause-form c = object_known _ _ _ _ _ c.in_ok-info.ensures.place c.in_ok-entries.ensures.members
