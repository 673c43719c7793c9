-- The code of scripts.
use Rattle.std.specs.Prelude.{◌≡◌, ℕ, false, List, [], ◌∷◌, ◌++◌, Option, Some, None}
use Rattle.js_semantics.specs.declared.form.Form.TheVariants.{Scripts as scripts}
use Rattle.js_semantics.specs.declared.form.Source.TheVariants.{Script as script_source}
use Rattle.js_semantics.specs.Terms.{Terms, part, end}
use Rattle.js_semantics.specs.Functions.{Program}
use Rattle.js_semantics.specs.Run.{program_from}
use Rattle.js_heap_memory.specs.Names.{GoesOn}
use Rattle.js_machine_nodes.specs.Lists.{Items}
use Rattle.js_machine_nodes.specs.declared.node.SourceEntry.{SourceEntry}
use Rattle.js_machine_nodes.specs.declared.table.NodeTable.{NodeTable}
use Rattle.js_machine_nodes.specs.Codes.{HasFunctions}
use Rattle.js_machine_nodes.specs.Trees.{tree, IsTable, source_trees, program_of}
use Rattle.js_machine_compiler.specs.declared.scripts.ScriptCode.{ScriptCode}
use Rattle.js_machine_compiler.specs.Plain.{are_plain}
use Rattle.js_machine_compiler.specs.Grown.{Extends, HasPlaces}
use Rattle.js_machine_compiler.specs.Index.{AreIndexed}

-- names and a table that go on; the parts of each node stay before it
pub record Continues (ts : List (List ℕ)) (t : NodeTable) (us : List (List ℕ)) (u : NodeTable) : Type 0 where
  pub names : GoesOn ts us
  pub entries : Extends t u
  pub table : IsTable t → IsTable u
  pub places : HasPlaces t → HasPlaces u

-- one more source, the script of a number with its node
pub record IsSourceAdded (t u : NodeTable) (number root : ℕ) : Type 0 where
  pub entry : SourceEntry
  pub source : entry.source ≡ script_source number
  pub node : entry.root ≡ root
  pub sources : u.sources.items ≡ t.sources.items ++ entry ∷ []

-- one more source, where the script has a node
abbrev pub AddsSource : NodeTable → NodeTable → ℕ → Option ℕ → Type 0
AddsSource t u number None = Unit {0}
AddsSource t u number (Some root) = IsSourceAdded t u number root

-- the sources with their trees, however names and table go on
abbrev pub IsProgram : List (List ℕ) → NodeTable → Program → Type 0
IsProgram ts t p =
    (us : List (List ℕ)) (u : NodeTable) → GoesOn ts us → Extends t u → source_trees us u t.sources.items ≡ p

-- the nodes stand for the scripts, however the names go on
pub record HasNodes (ts : List (List ℕ)) (xs : Terms) (t : NodeTable) (root : ℕ) : Type 0 where
  pub table : IsTable t
  pub places : HasPlaces t
  pub program : (us : List (List ℕ)) → GoesOn ts us → program_of us t ≡ program_from 1 xs
  pub tree : (us : List (List ℕ)) → GoesOn ts us → tree us t root ≡ part scripts xs end

-- the answer: nodes that stand for the scripts, or none where no nodes can
abbrev pub HaveNodes : List (List ℕ) → Terms → Option ScriptCode → Type 0
HaveNodes ts xs None = are_plain xs ≡ false
HaveNodes ts xs (Some c) = HasNodes ts xs c.table c.root

-- a table with other sources
abbrev pub with_sources : NodeTable → Items SourceEntry → NodeTable
with_sources t es = record t { sources = es }

-- the code has an index for each source, and is otherwise the same
pub record IsIndexedCode (c d : ScriptCode) : Type 0 where
  pub sources : AreIndexed c.table c.table.sources.items d.table.sources.items
  pub others : d.table ≡ with_sources c.table d.table.sources
  pub root : d.root ≡ c.root

-- the code stands for the scripts, however the names go on, and each source's index finds its functions
pub record IsCompiled (ts : List (List ℕ)) (xs : Terms) (t : NodeTable) (root : ℕ) : Type 0 where
  pub table : IsTable t
  pub places : HasPlaces t
  pub functions : HasFunctions t
  pub program : (us : List (List ℕ)) → GoesOn ts us → program_of us t ≡ program_from 1 xs
  pub tree : (us : List (List ℕ)) → GoesOn ts us → tree us t root ≡ part scripts xs end

-- the answer: code, or none where the scripts have no nodes
abbrev pub AreCompiled : List (List ℕ) → Terms → Option ScriptCode → Type 0
AreCompiled ts xs None = are_plain xs ≡ false
AreCompiled ts xs (Some c) = IsCompiled ts xs c.table c.root

-- a table whose program is that of scripts, however the names go on
pub record IsOfScripts (ts : List (List ℕ)) (t : NodeTable) : Type 0 where
  pub terms : Terms
  pub program : (us : List (List ℕ)) → GoesOn ts us → program_of us t ≡ program_from 1 terms
