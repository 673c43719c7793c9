use Rattle.std.proofs.Common.{List, ℕ, ap, subst, sym, ◌∙◌}
use Rattle.js_machine_nodes.specs.Trees.{program_of}
use Rattle.js_machine_compiler.specs.Scripts.{IsOfScripts}
use Rattle.cdp_host.proofs.host.coded_scripts.Goals as goal

pub of-requires-clause-scripts : goal.of-requires-clause-scripts
of-requires-clause-scripts c =
    let P : List (List ℕ) → Type 0 = λ ts. IsOfScripts ts c.table.result.now in
    subst P (sym c.names.ensures) c.table.ensures.scripts

pub of-requires-2 : goal.of-requires-2
of-requires-2 c =
    ap (λ x. x.program) c.in_ok-code.ensures
    ∙ ap (λ ts. program_of ts c.table.result.now) c.names.ensures
    ∙ ap (program_of c.args.machine.now.names) c.table.ensures.table
    ∙ c.requires
