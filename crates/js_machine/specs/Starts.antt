-- The start of a machine.
use Rattle.std.specs.Prelude.{◌≡◌, ℕ, List, [], None}
use Rattle.js_heap.specs.BuiltIns.{first_world}
use Rattle.js_semantics.specs.Terms.{Terms}
use Rattle.js_semantics.specs.Run as runs
use Rattle.js_heap_memory.specs.Heaps.{heap_world}
use Rattle.js_machine_compiler.specs.Scripts.{IsCompiled}
use Rattle.js_machine.specs.declared.start.PreparedScripts.{PreparedScripts}
use Rattle.js_machine.specs.declared.machine.Started.{Started}
use Rattle.js_machine.specs.Machines.{program_of, run_at}

-- the code of scripts and the cells before the first step
pub record IsPrepared (ts : Terms) (p : PreparedScripts) : Type 0 where
  pub code : IsCompiled p.names (runs.placed_scripts ts) p.code.table p.code.root
  pub cells : heap_world p.names p.heap ≡ first_world (runs.literals_of ts)

-- the machine is at the start of the scripts with their input
pub record IsStarted (ts : Terms) (input : List (List ℕ)) (s : Started) : Type 0 where
  pub going : s.machine.ended ≡ None
  pub program : program_of s.machine ≡ runs.program_of ts
  pub run : run_at s.machine (heap_world s.machine.names s.heap) [] ≡ runs.start ts input
