use Rattle.debug_host_script_files.proofs.ScriptLemmas.{script_is, within_other, fault_is, not_text}
use Rattle.debug_host_script_files.proofs.source.script_of.Goals as goal

pub returns-in_default-clause-fault : goal.returns-in_default-clause-fault
returns-in_default-clause-fault c = not_text c.args.declared.now c.args.bytes.now c.in_default.ensures.cases.0

pub returns-in-Ok-parse_script-clause-script : goal.returns-in-Ok-parse_script-clause-script
returns-in-Ok-parse_script-clause-script c =
    let p = c.in-Ok-parse_script.ensures in
    script_is c.args.declared.now c.args.before c.args.name.now c.args.bytes.now c.in-Ok.text.now
    c.in-Ok-units_of.source c.as_slice.result.now c.in-Some.number c.in-Ok-parse_script.script
    c.in-Ok.ensures.cases.0 c.in-Ok.ensures.cases.1 c.in-Ok-units_of.ensures.form c.as_slice.ensures c.in-Some.ensures
    p.found p.kept p.spans p.numbered

pub fault_of-requires : goal.fault_of-requires
fault_of-requires c =
    within_other c.args.declared.now c.in-Ok-units_of.source c.as_slice.result.now c.as_slice-in-Err.result.now
    c.in-Err.fault c.as_slice.ensures c.as_slice-in-Err.ensures c.in-Err.ensures.faults

pub returns-clause-fault : goal.returns-clause-fault
returns-clause-fault c =
    fault_is c.args.declared.now c.args.bytes.now c.in-Ok.text.now c.in-Ok-units_of.source c.as_slice.result.now
    c.as_slice-in-Err.result.now c.in-Err.fault c.fault_of.result
    c.in-Ok.ensures.cases.0 c.in-Ok.ensures.cases.1 c.in-Ok-units_of.ensures.form c.as_slice.ensures
    c.as_slice-in-Err.ensures c.in-Err.ensures.faults c.in-Err.ensures.first c.fault_of.ensures
