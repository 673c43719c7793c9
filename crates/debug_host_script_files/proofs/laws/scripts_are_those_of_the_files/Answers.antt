use Rattle.debug_host_script_files.proofs.ToldLemmas.{scripts_kept}
use Rattle.debug_host_script_files.proofs.laws.scripts_are_those_of_the_files.Goals as goal

pub returns : goal.returns
returns c = scripts_kept
