-- A comma list.
use Rattle.std.specs.Prelude.{◌≡◌, ℕ, List}
use Rattle.js_semantics.specs.State.{State}
use Rattle.js_semantics.specs.Rows.{comma_row}
use Rattle.js_machine_nodes.specs.declared.table.NodeTable.{NodeTable}
use Rattle.js_machine_nodes.specs.Trees.{trees}
use Rattle.js_machine_engine.specs.declared.reduced.Reduced.{Reduced}
use Rattle.js_machine_engine.specs.Tasks.{Wide, later_of}
use Rattle.js_machine_rows.specs.Does.{Does}

-- a comma's row in every task with these kept parts
abbrev pub CommaOf : NodeTable → ℕ → ℕ → Reduced → Type 0
CommaOf t from to r =
    (ts : List (List ℕ)) (e : Wide) (s : State)
    → later_of ts t e ≡ trees ts t from to
    → Does ts t e (comma_row (later_of ts t e)) s r s
