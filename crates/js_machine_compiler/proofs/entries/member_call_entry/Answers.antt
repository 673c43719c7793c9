use Rattle.js_machine_compiler.proofs.EntryLemmas.{member_call_known}
use Rattle.js_machine_compiler.proofs.entries.member_call_entry.Goals as goal

pub returns-clause-form : goal.returns-clause-form
returns-clause-form c = member_call_known _ _ _ _ _ c.in_ok-info.ensures.place c.in_ok-name.ensures.known
