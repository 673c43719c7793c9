-- A sink in memory, and what a write does to it.
use Rattle.std.specs.Prelude.{Result, Ok, Err, ℕ, List, ◌++◌}
use Rattle.cdp_edge.specs.Outside.{one_more}
use Rattle.cdp_edge.specs.declared.sink.SinkFault.{SinkFault}
use Rattle.cdp_edge.specs.declared.sink.SinkFault.TheVariants.{Failed, Memory}

-- the bytes taken, how often it was called and how often it failed, and the numbers of the calls that fail, from 1
pub record MemorySink : Type 0 where
  pub taken : List ℕ
  pub calls : ℕ
  pub faults : ℕ
  pub fails : List ℕ

-- the sink after a write with this answer
abbrev pub after_write : Result ℕ SinkFault → List ℕ → MemorySink → MemorySink
after_write (Ok n) piece old = record old { taken = old.taken ++ piece; calls = one_more old.calls }
after_write (Err Failed) piece old = record old { calls = one_more old.calls; faults = one_more old.faults }
after_write (Err Memory) piece old = record old { calls = one_more old.calls }
