use Rattle.std.proofs.Common.{ap}
use Rattle.js_semantics.specs.declared.form.Form.TheVariants as forms
use Rattle.js_machine_compiler.proofs.EntryLemmas.{same_form, same_entry}
use Rattle.js_machine_compiler.proofs.forms.catch_entry.Goals as goal

pub returns-in-Some-clause-form : goal.returns-in-Some-clause-form
returns-in-Some-clause-form c =
    same_form c.named.new.names c.named.result _ _ (ap forms.Catching c.in-Some.is) c.named.ensures.form

pub returns-in-None-clause-form : goal.returns-in-None-clause-form
returns-in-None-clause-form c =
    λ t. same_entry c.args.names.now t c.bare.result.op c.bare.result.info _ _ (ap forms.Catching c.in-None.is)
    (c.bare.ensures c.args.names.now t)
