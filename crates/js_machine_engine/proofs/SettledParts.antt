-- The innermost task behind a step of its parts.
use Rattle.std.specs.Prelude.{ℕ, List, [], ◌∷◌}
use Rattle.js_heap.specs.declared.value.Value.TheVariants as values
use Rattle.js_semantics.specs.Terms.{Term, done, settled}
use Rattle.js_machine_nodes.specs.declared.table.NodeTable.{NodeTable}
use Rattle.js_machine_engine.specs.Gaps.{resettled}
use Rattle.js_machine_engine.specs.Tasks.{Wide, task_form, later_of, gaps_of}
use Rattle.js_machine_engine.specs.Parts.{parts_of}

-- the parts of the innermost task have made a step
abbrev pub settled_parts : List (List ℕ) → NodeTable → List Wide → Term
settled_parts ts t [] = done values.Undefined
settled_parts ts t (w ∷ ws) =
    resettled (gaps_of ts t ws) (settled (task_form ts t w) (parts_of ts t (w ∷ ws)) (later_of ts t w))
