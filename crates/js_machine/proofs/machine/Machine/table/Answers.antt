use Rattle.std.proofs.Common.{subst}
use Rattle.js_machine_compiler.specs.Scripts.{IsOfScripts}
use Rattle.js_machine.specs.Machines.{Machine}
use Rattle.js_machine.proofs.machine.Machine.table.Goals as goal

pub returns-clause-scripts : goal.returns-clause-scripts
returns-clause-scripts c =
    let P : Machine → Type 0 = λ m. IsOfScripts m.names c.self.inside.table in
    subst P c.self.view_is c.self.invariant.scripts
