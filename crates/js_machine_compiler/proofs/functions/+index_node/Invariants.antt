use Rattle.std.proofs.Common.{◌≡◌, ℕ, ◌≤◌, List}
use Rattle.js_semantics.specs.Functions.{first_code, function_in_all}
use Rattle.js_machine_nodes.specs.Trees.{trees}
use Rattle.js_machine_compiler.specs.Index.{code_found}
use Rattle.js_machine_compiler.proofs.functions.+index_node.Given as goal

abbrev pub decreases-index_node : goal.decreases-index_node
decreases-index_node l = l.number

abbrev pub invariant-loop-place : goal.invariant-loop-place
invariant-loop-place l = record {
  begins : l.node.first ≤ l.place;
  finds : (ts : List (List ℕ)) (x : ℕ)
      → code_found ts l.table l.index.items x ≡ first_code (function_in_all x (trees ts l.table l.place l.node.end))
      (code_found ts l.table l.fn.index.items x);
}
