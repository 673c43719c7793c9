use Rattle.js_machine_compiler.proofs.EntryLemmas.{call_known}
use Rattle.js_machine_compiler.proofs.entries.call_entry.Goals as goal

pub returns-clause-form : goal.returns-clause-form
returns-clause-form c = λ ts. call_known ts _ _ _ c.in_ok-info.ensures.place
