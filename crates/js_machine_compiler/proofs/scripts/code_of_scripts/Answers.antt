use Rattle.js_machine_terms.specs.Views.{terms_view}
use Rattle.js_machine_compiler.proofs.SourceIndexes.{code_compiled}
use Rattle.js_machine_compiler.proofs.scripts.code_of_scripts.Goals as goal

pub returns-in_ok-with_indexes-in-Some-clause-code : goal.returns-in_ok-with_indexes-in-Some-clause-code
returns-in_ok-with_indexes-in-Some-clause-code c =
    code_compiled c.nodes_of_scripts.new.names (terms_view c.args.scripts.now)
    c.in-Some.code c.in_ok-with_indexes-in-Some.field-0 c.in_ok-code.field-0 c.in-Some.is c.in_ok-code.ensures.code
    c.in_ok-with_indexes-in-Some.ensures
