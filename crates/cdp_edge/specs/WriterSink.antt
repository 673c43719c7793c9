-- A sink over a writer, and what a write does to its log.
use Rattle.std.specs.Prelude.{Result, Ok, Err, ℕ, List, ◌++◌, take, Option}
use Rattle.cdp_edge.specs.declared.sink.SinkFault.{SinkFault}

-- what its writer holds, where that is known, what it took, and how often it failed
pub record WritingSink : Type 0 where
  pub holds : Option (List ℕ)
  pub taken : List ℕ
  pub faults : ℕ

-- what it took, after a write of this piece with this answer
abbrev pub taken_after : Result ℕ SinkFault → List ℕ → List ℕ → List ℕ
taken_after (Ok n) piece old = old ++ take n piece
taken_after (Err fault) piece old = old
