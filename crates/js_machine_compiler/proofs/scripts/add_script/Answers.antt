use Rattle.std.proofs.Common.{refl}
use Rattle.js_machine_compiler.proofs.ScriptLemmas.{source_added}
use Rattle.js_machine_compiler.proofs.scripts.add_script.Goals as goal

pub returns-in_ok-push-in-Some-clause-source : goal.returns-in_ok-push-in-Some-clause-source
returns-in_ok-push-in-Some-clause-source c =
    source_added c.args.table.now c.add_term.new.table _ _ _ _ c.in_ok-root.ensures.grows.table.sources
    c.in_ok-push-in-Some.ensures.items refl refl
