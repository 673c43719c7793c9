use Rattle.debug_host_script_files.proofs.ScriptLemmas.{kept_names}
use Rattle.debug_host_script_files.proofs.scripts.keep.Goals as goal

pub returns-clause-declared : goal.returns-clause-declared
returns-clause-declared c =
    kept_names c.args.declared.now.items c.add_names.new.names.items c.args.scripts.now.items c.push.new.self.items
    c.args.script c.requires c.in_ok-add_names.ensures c.in_ok-push.ensures.items
