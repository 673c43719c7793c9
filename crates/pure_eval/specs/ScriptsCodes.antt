-- The code of a program's scripts, from which the evaluations of all its sessions go on.
use Rattle.std.specs.Prelude.{List, ℕ}
use Rattle.js_semantics.specs.Functions.{Program}
use Rattle.js_machine_nodes.specs.declared.table.NodeTable.{NodeTable}
use Rattle.js_machine_nodes.specs.Trees.{program_of}
use Rattle.js_machine_compiler.specs.Scripts.{IsOfScripts}
use Rattle.pure_eval.specs.Whole.{IsWhole}

-- the names of a program, and the program
pub record ScriptsCode : Type 0 where
  pub names : List (List ℕ)
  pub program : Program

-- those of a table with its names
abbrev pub scripts_code : List (List ℕ) → NodeTable → ScriptsCode
scripts_code ts t = record { names = ts; program = program_of ts t }

-- a table of scripts alone that means the same however it goes on
pub record IsShared (ts : List (List ℕ)) (t : NodeTable) : Type 0 where
  pub whole : IsWhole t
  pub scripts : IsOfScripts ts t
