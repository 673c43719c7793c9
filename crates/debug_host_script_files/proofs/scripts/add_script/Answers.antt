use Rattle.debug_host_script_files.proofs.ScriptLemmas.{given_one_more, fails_lent}
use Rattle.debug_host_script_files.proofs.scripts.add_script.Goals as goal

pub returns-in-Ok-keep-clause-script : goal.returns-in-Ok-keep-clause-script
returns-in-Ok-keep-clause-script g c =
    given_one_more _ c.deref.result.now c.args.scripts.now.items c.keep.new.scripts.items c.in-Ok.script c.args.name.now
    c.deref.ensures.value c.in-Ok.ensures.script c.in-Ok-keep.ensures.scripts

pub returns-in-Err-clause-fault : goal.returns-in-Err-clause-fault
returns-in-Err-clause-fault g c =
    fails_lent c.in-Err.fault _ c.deref.result.now c.args.scripts.now.items c.args.name.now _ _ c.deref.ensures.value
    c.in-Err.ensures.fault
