use Rattle.std.proofs.Common.{◌≡◌, take, map}
use Rattle.js_semantics.specs.Sources.{term_of_script}
use Rattle.js_machine_terms.specs.Views.{term_view}
use Rattle.js_machine.proofs.scripts.script_terms.Given as goal

abbrev pub invariant-loop-script : goal.invariant-loop-script
invariant-loop-script l = map term_view l.terms.items ≡ map term_of_script (take l.script-index l.scripts)
