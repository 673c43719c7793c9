use Rattle.std.proofs.Common.{ap}
use Rattle.js_semantics.specs.declared.form.Form.TheVariants as forms
use Rattle.js_machine_compiler.proofs.EntryLemmas.{same_form, same_entry}
use Rattle.js_machine_compiler.proofs.forms.assign_entry.Goals as goal

pub returns-in-Name-clause-form : goal.returns-in-Name-clause-form
returns-in-Name-clause-form c =
    same_form c.named.new.names c.named.result _ _ (ap forms.Assign c.in-Name.is) c.named.ensures.form

pub returns-in-Member-clause-form : goal.returns-in-Member-clause-form
returns-in-Member-clause-form c =
    same_form c.named-in-Member.new.names c.named-in-Member.result _ _ (ap forms.Assign c.in-Member.is)
    c.named-in-Member.ensures.form

pub returns-in-Index-clause-form : goal.returns-in-Index-clause-form
returns-in-Index-clause-form c =
    λ t. same_entry c.args.names.now t c.bare.result.op c.bare.result.info _ _ (ap forms.Assign c.in-Index.is)
    (c.bare.ensures c.args.names.now t)
