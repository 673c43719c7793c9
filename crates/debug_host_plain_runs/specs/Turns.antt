-- What many steps of a machine come to, whose texts are taken and written.
use Rattle.std.specs.Prelude.{◌≡◌, ℕ, List, [], ◌++◌}
use Rattle.cdp_edge.specs.Outside.{gains, GainsPrefix, GainsLess}
use Rattle.js_heap.specs.BuiltIns.{script_scope}
use Rattle.js_heap.specs.World.{World}
use Rattle.js_semantics.specs.Run.{Run, over, printed_of, steps_in}
use Rattle.js_machine_engine.specs.declared.stepped.Finish.{Finish}
use Rattle.js_machine_engine.specs.Stepping.{finish_of}
use Rattle.js_machine.specs.Machines.{Machine, program_of, run_at, state_of, HasSameCode}
use Rattle.cdp_edge_printing.specs.Printing.{printed_lines}

-- so many steps from where a machine is with its cells, behind the texts that were taken
abbrev pub run_from : Machine → World → List (List ℕ) → ℕ → Run
run_from m v taken k = steps_in k (program_of m) script_scope (run_at m v taken)

-- some steps lead from one machine with its cells to the other, and print these texts, which were taken
pub record HasTurned (m : Machine) (v : World) (n : Machine) (w : World) (texts : List (List ℕ)) : Type 0 where
  pub steps : ℕ
  pub code : HasSameCode m n
  pub rest : n.context.printed ≡ []
  pub run : (taken : List (List ℕ)) → run_at n w (taken ++ texts) ≡ run_from m v taken steps

-- some steps lead from one machine with its cells to the other, and what they print was written
pub record HasCome (m : Machine) (v : World) (n : Machine) (w : World) (before now : List ℕ) : Type 0 where
  pub texts : List (List ℕ)
  pub turned : HasTurned m v n w texts
  pub written : now ≡ gains before (printed_lines texts)

-- some steps from a machine with its cells print these texts
pub record Prints (m : Machine) (v : World) (texts : List (List ℕ)) : Type 0 where
  pub steps : ℕ
  pub are : (taken : List (List ℕ)) → printed_of (run_from m v taken steps) ≡ taken ++ texts

-- a first part of the lines that some steps print was written
pub record IsCutFrom (m : Machine) (v : World) (before now : List ℕ) : Type 0 where
  pub texts : List (List ℕ)
  pub prints : Prints m v texts
  pub part : GainsPrefix before now (printed_lines texts)

-- a first part of the lines that some steps print was written, and not all of them
pub record IsLessFrom (m : Machine) (v : World) (before now : List ℕ) : Type 0 where
  pub texts : List (List ℕ)
  pub prints : Prints m v texts
  pub less : GainsLess before now (printed_lines texts)

-- the run is over so
abbrev pub IsOverBy : Finish → Machine → World → Type 0
IsOverBy f n w = (taken : List (List ℕ)) → run_at n w taken ≡ over (finish_of f) (state_of n w taken)
