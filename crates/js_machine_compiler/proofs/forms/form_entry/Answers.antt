use Rattle.std.proofs.Common.{◌≡◌, ◌∙◌, ap, sym, false}
use Rattle.js_semantics.specs.declared.form.Form.TheVariants as forms
use Rattle.js_machine_nodes.specs.Ops.{operator_of}
use Rattle.js_machine_compiler.proofs.NeedsNames.{needs_names}
use Rattle.js_machine_compiler.proofs.GrownLemmas.{grows_same}
use Rattle.js_machine_compiler.proofs.EntryLemmas.{same_entry, answer_enters, needs_nothing}
use Rattle.js_machine_compiler.proofs.forms.form_entry.Goals as goal

pub returns-in_ok-named-in-Initialize-clause-entry : goal.returns-in_ok-named-in-Initialize-clause-entry
returns-in_ok-named-in-Initialize-clause-entry c =
    same_entry c.named.new.names c.args.table.now _ _ _ _ (c.in-Initialize.is)
    (c.in_ok-named-in-Initialize.ensures.form c.args.table.now)

pub returns-in_ok-named-in-TypeofName-clause-entry : goal.returns-in_ok-named-in-TypeofName-clause-entry
returns-in_ok-named-in-TypeofName-clause-entry c =
    same_entry c.named-in-TypeofName.new.names c.args.table.now _ _ _ _ (c.in-TypeofName.is)
    (c.in_ok-named-in-TypeofName.ensures.form c.args.table.now)

pub returns-in_ok-read_entry-in-Read-clause-entry : goal.returns-in_ok-read_entry-in-Read-clause-entry
returns-in_ok-read_entry-in-Read-clause-entry c =
    same_entry c.read_entry.new.names c.args.table.now _ _ _ _ (c.in-Read.is)
    (c.in_ok-read_entry-in-Read.ensures.form c.args.table.now)

pub returns-in_ok-assign_entry-in-Assign-clause-entry : goal.returns-in_ok-assign_entry-in-Assign-clause-entry
returns-in_ok-assign_entry-in-Assign-clause-entry c =
    same_entry c.assign_entry.new.names c.args.table.now _ _ _ _ (c.in-Assign.is)
    (c.in_ok-assign_entry-in-Assign.ensures.form c.args.table.now)

pub returns-in_ok-compound_entry-in-Compound-clause-entry : goal.returns-in_ok-compound_entry-in-Compound-clause-entry
returns-in_ok-compound_entry-in-Compound-clause-entry c =
    same_entry c.compound_entry.new.names c.args.table.now _ _ _ _ (c.in-Compound.is)
    (c.in_ok-compound_entry-in-Compound.ensures.form c.args.table.now)

pub returns-in_ok-delete_entry-in-Delete-clause-entry : goal.returns-in_ok-delete_entry-in-Delete-clause-entry
returns-in_ok-delete_entry-in-Delete-clause-entry c =
    same_entry c.delete_entry.new.names c.args.table.now _ _ _ _ (c.in-Delete.is)
    (c.in_ok-delete_entry-in-Delete.ensures.form c.args.table.now)

pub returns-in_ok-catch_entry-in-Catching-clause-entry : goal.returns-in_ok-catch_entry-in-Catching-clause-entry
returns-in_ok-catch_entry-in-Catching-clause-entry c =
    same_entry c.catch_entry.new.names c.args.table.now _ _ _ _ (c.in-Catching.is)
    (c.in_ok-catch_entry-in-Catching.ensures.form c.args.table.now)

pub returns-in_ok-update_entry-in-Update-clause-entry : goal.returns-in_ok-update_entry-in-Update-clause-entry
returns-in_ok-update_entry-in-Update-clause-entry c =
    same_entry c.update_entry.new.names c.args.table.now _ _ _ _
    (c.in-Update.is
    ∙ ap (λ o. forms.Update o c.in-Update.prefix c.in-Update.reference)
    (sym c.update_kind-kind.ensures.operator)
    ∙ ap (λ p. forms.Update (operator_of c.update_kind-kind.result) p c.in-Update.reference)
    (sym c.update_kind-kind.ensures.prefix))
    (c.in_ok-update_entry-in-Update.ensures.form c.args.table.now)

pub returns-in_ok-call_entry-in-Call-clause-entry : goal.returns-in_ok-call_entry-in-Call-clause-entry
returns-in_ok-call_entry-in-Call-clause-entry c =
    same_entry c.args.names.now c.call_entry.new.table _ _ _ _ c.in-Call.is
    (c.in_ok-call_entry-in-Call.ensures.form c.args.names.now)

pub returns-in_default : goal.returns-in_default
returns-in_default c =
    let e : needs_names c.args.form.now ≡ false = needs_nothing c.args.form.now c.in_default.not-Script
    c.in_default.not-EnterFor c.in_default.not-EnterForOf c.in_default.not-Block c.in_default.not-Initialize
    c.in_default.not-Catching c.in_default.not-Read c.in_default.not-TypeofName c.in_default.not-Function
    c.in_default.not-Object c.in_default.not-Method c.in_default.not-Assign c.in_default.not-Compound
    c.in_default.not-Update c.in_default.not-Delete c.in_default.not-Call c.in_default.not-CallOf in
    record {
      grows = grows_same c.args.names.now c.args.table.now;
      entry = answer_enters c.args.names.now c.args.table.now c.args.form.now c.alone_entry.result
          c.alone_entry.ensures e;
    }
