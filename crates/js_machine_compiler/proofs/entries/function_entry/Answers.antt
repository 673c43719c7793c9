use Rattle.js_machine_compiler.proofs.GrownLemmas.{grows_then}
use Rattle.js_machine_compiler.proofs.KeepLemmas.{keeps_functions}
use Rattle.std.proofs.Common.{◌≡◌, length, rules}
use Rattle.js_machine_compiler.proofs.EntryLemmas.{function_known}
use Rattle.js_machine_compiler.proofs.entries.function_entry.Goals as goal

pub returns-clause-form : goal.returns-clause-form
returns-clause-form c =
    function_known _ _ _ _ _ c.in_ok-info.ensures.place c.in_ok-code.ensures.function
    (let h : c.in_ok-code.code.at ≡ length c.args.table.now.nodes.items = search rules in h)

pub returns-clause-grows : goal.returns-clause-grows
returns-clause-grows c =
    grows_then c.args.names.now c.code_of.new.names c.args.table.now _ c.in_ok-code.ensures.goes_on
    (keeps_functions c.args.table.now c.put.new.entries c.in_ok-code.code c.in_ok-info.ensures.more)
