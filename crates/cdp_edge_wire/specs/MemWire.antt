-- A wire in memory, and what its calls do to it.
use Rattle.std.specs.Prelude.{Result, Ok, Err, ◌≡◌, ◌⊎◌, ◌+◌, ◌-◌, ℕ, List, ◌++◌, length, take, replicate, slice_index_or, Contains}
use Rattle.std.specs.List.{flat_map}
use Rattle.cdp_edge.specs.Outside.{one_more}
use Rattle.cdp_edge.specs.declared.sink.SinkFault.{SinkFault}
use Rattle.cdp_edge.specs.declared.sink.SinkFault.TheVariants as sink
use Rattle.cdp_edge_wire.specs.Arrived.{Arrived, arrived_of}
use Rattle.cdp_edge_wire.specs.Arrived as arrived
use Rattle.cdp_edge_wire.specs.declared.wire.Taken.{Taken}
use Rattle.cdp_edge_wire.specs.declared.wire.Taken.TheVariants.{Byte, Quiet, End, Failed}

-- what it was made with, how many of these it gave and how often the end after them, the bytes that it took, how often it was called and how often it failed, and the numbers of the calls that fail, from 1
pub record MemoryWire : Type 0 where
  pub given : List Taken
  pub place : ℕ
  pub written : List ℕ
  pub calls : ℕ
  pub faults : ℕ
  pub fails : List ℕ

-- its answers so far but the failures: those given, and the end after them so often
abbrev pub answers_in : MemoryWire → List Arrived
answers_in wire =
    flat_map arrived_of (take wire.place wire.given) ++ replicate (wire.place - length wire.given) arrived.End

-- the next of what it was made with, or the end
abbrev pub next_taken : MemoryWire → Taken
next_taken wire = slice_index_or wire.given wire.place End

-- its next call is listed, or its answers can't be counted any more
abbrev pub IsTired : MemoryWire → Type 0
IsTired wire = Contains wire.fails (one_more wire.calls) ⊎ wire.place ≡ 0xffff_ffff_ffff_ffff

-- the count of faults after an answer
abbrev pub faults_after : Taken → ℕ → ℕ
faults_after (Byte b) old = old
faults_after Quiet old = old
faults_after End old = old
faults_after Failed old = one_more old

-- the wire after it gave this answer
abbrev pub after_take : Taken → MemoryWire → MemoryWire
after_take answer old = record old {
  place = old.place + 1;
  calls = one_more old.calls;
  faults = faults_after answer old.faults;
}

-- the wire after a call that failed
abbrev pub after_fault : MemoryWire → MemoryWire
after_fault old = record old { calls = one_more old.calls; faults = one_more old.faults }

-- the wire after a write with this answer
abbrev pub after_write : Result ℕ SinkFault → List ℕ → MemoryWire → MemoryWire
after_write (Ok n) piece old = record old { written = old.written ++ piece; calls = one_more old.calls }
after_write (Err sink.Failed) piece old = after_fault old
after_write (Err sink.Memory) piece old = record old { calls = one_more old.calls }
