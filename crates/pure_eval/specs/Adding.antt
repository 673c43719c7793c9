-- One source more.
use Rattle.std.specs.Prelude.{◌≡◌, ℕ, List, [], ◌∷◌, ◌++◌}
use Rattle.js_heap.specs.declared.value.Addr.{Addr}
use Rattle.js_semantics.specs.declared.form.Source.TheVariants.{Kept as kept_source}
use Rattle.js_semantics.specs.Terms.{Term}
use Rattle.js_semantics.specs.Functions.{SourceTree}
use Rattle.js_heap_memory.specs.Names.{GoesOn}
use Rattle.js_machine_nodes.specs.declared.node.SourceEntry.{SourceEntry}
use Rattle.js_machine_nodes.specs.declared.table.NodeTable.{NodeTable}
use Rattle.js_machine_nodes.specs.Trees.{tree, program_of}
use Rattle.js_machine_compiler.specs.Grown.{Extends}
use Rattle.pure_eval.specs.Whole.{IsWhole}

-- the source that is kept at an address, with its term
abbrev pub kept_tree_at : Addr → Term → SourceTree
kept_tree_at at x = record { source = kept_source at; tree = x }

-- a table that goes on, with its sources in front
pub record GoesOnWith (t u : NodeTable) (es : List SourceEntry) : Type 0 where
  pub entries : Extends t u
  pub sources : u.sources.items ≡ t.sources.items ++ es

-- the source of a term is added behind the others, and its node has the term, however the names go on
pub record IsAdded (names : List (List ℕ)) (t : NodeTable) (at : Addr) (x : Term) (more : List (List ℕ)) (u : NodeTable)
    (root : ℕ) : Type 0 where
  pub goes_on : GoesOn names more
  pub entry : SourceEntry
  pub table : GoesOnWith t u (entry ∷ [])
  pub whole : IsWhole u
  pub tree : (us : List (List ℕ)) → GoesOn more us → tree us u root ≡ x
  pub program : (us : List (List ℕ)) → GoesOn more us → program_of us u ≡ program_of us t ++ kept_tree_at at x ∷ []
