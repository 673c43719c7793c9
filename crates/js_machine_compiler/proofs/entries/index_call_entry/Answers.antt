use Rattle.js_machine_compiler.proofs.EntryLemmas.{index_call_known}
use Rattle.js_machine_compiler.proofs.entries.index_call_entry.Goals as goal

pub returns-clause-form : goal.returns-clause-form
returns-clause-form c = λ ts. index_call_known ts _ _ _ c.in_ok-info.ensures.place
