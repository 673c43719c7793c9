use Rattle.js_machine_compiler.proofs.EntryLemmas.{name_call_known}
use Rattle.js_machine_compiler.proofs.entries.name_call_entry.Goals as goal

pub returns-clause-form : goal.returns-clause-form
returns-clause-form c = name_call_known _ _ _ _ _ c.in_ok-info.ensures.place c.in_ok-name.ensures.known
