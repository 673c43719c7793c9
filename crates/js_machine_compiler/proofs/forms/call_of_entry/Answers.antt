use Rattle.std.proofs.Common.{ap}
use Rattle.js_semantics.specs.declared.form.Form.TheVariants as forms
use Rattle.js_machine_compiler.proofs.EntryLemmas.{same_call}
use Rattle.js_machine_compiler.proofs.forms.call_of_entry.Goals as goal

pub returns-in-Index-clause-form : goal.returns-in-Index-clause-form
returns-in-Index-clause-form c =
    same_call c.args.names.now c.index_call_entry.new.table c.index_call_entry.result _ _
    (ap (λ r. forms.CallOf r c.args.place c.args.statement) c.in-Index.is) c.index_call_entry.ensures.form
