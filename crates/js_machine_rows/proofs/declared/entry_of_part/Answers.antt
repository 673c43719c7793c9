use Rattle.std.proofs.Common.{sym}
use Rattle.js_machine_rows.proofs.DeclaredLemmas.{none-declares, other-declares, function-declares}
use Rattle.js_machine_rows.proofs.declared.entry_of_part.Goals as goal

pub returns-in-None : goal.returns-in-None
returns-in-None c = λ ts scope k. none-declares ts c.args.table.now c.args.part scope k c.in-None.ensures

pub returns-then-is_function : goal.returns-then-is_function
returns-then-is_function c =
    λ ts scope k. function-declares ts c.args.table.now c.args.part c.in-Some.node _ scope k c.in-Some.ensures
    (sym c.if-is_function.ensures) c.function_entry.ensures

pub returns-else-is_function : goal.returns-else-is_function
returns-else-is_function c =
    λ ts scope k. other-declares ts c.args.table.now c.args.part c.in-Some.node scope k c.in-Some.ensures
    (sym c.if-is_function.ensures)
