use Rattle.js_machine_compiler.proofs.PlainLaws.{trees-plain}
use Rattle.js_machine_compiler.proofs.laws.scripts_of_sources_have_code.Goals as goal

pub returns : goal.returns
returns c = trees-plain
