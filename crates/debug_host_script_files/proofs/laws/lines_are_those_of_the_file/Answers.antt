use Rattle.debug_host_script_files.proofs.ToldLemmas.{input_kept}
use Rattle.debug_host_script_files.proofs.laws.lines_are_those_of_the_file.Goals as goal

pub returns : goal.returns
returns c = input_kept
