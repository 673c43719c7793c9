use Rattle.std.proofs.Common.{Ok, Err, length, refl}
use Rattle.debug_host_script_files.proofs.ScriptLemmas.{read_ok, read_fault}
use Rattle.debug_host_script_files.proofs.scripts.read_script.Goals as goal

pub returns-in-Ok-script_of-clause-script : goal.returns-in-Ok-script_of-clause-script
returns-in-Ok-script_of-clause-script g c =
    read_ok (Ok c.in-Ok-script_of.script) _ _ _ c.in-Ok.bytes c.args.name.now c.deref.result.now c.args.declared.now
    c.args.earlier.now (length c.args.earlier.now)
    refl c.in-Ok.ensures.content c.in-Ok.ensures.handed c.deref.ensures.value c.requires c.in-Ok-script_of.ensures.script

pub returns-in-Err-clause-fault : goal.returns-in-Err-clause-fault
returns-in-Err-clause-fault g c =
    read_fault (Err c.in-Err.fault) _ _ _ c.in-Ok.bytes c.args.name.now c.deref.result.now c.args.declared.now
    c.args.earlier.now _ _ c.in-Ok.ensures.content c.in-Ok.ensures.handed c.deref.ensures.value c.requires
    c.in-Ok.ensures.faults c.in-Err.ensures.fault
