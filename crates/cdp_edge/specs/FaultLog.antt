-- What a log of faults tells.
use Rattle.std.specs.Prelude.{◌<◌, map, string_bytes, vec_len, vec_capacity}
use Rattle.cdp_edge.specs.Blame as blame
use Rattle.cdp_edge.specs.declared.fault_log.FaultLog.{FaultLog}
use Rattle.cdp_edge.specs.declared.fault_log.ShelfCall.{ShelfCall}
use Rattle.cdp_edge.specs.declared.fault_log.ShelfCall.TheVariants.{Read, Store}

-- the call that an entry of the log stands for
abbrev pub call_of : ShelfCall → blame.Call
call_of (Read name) = blame.Read (string_bytes name)
call_of (Store name) = blame.Store (string_bytes name)

-- the faults that a log tells
abbrev pub faults_of : FaultLog → blame.Faults
faults_of log = record { count = log.count; calls = map call_of log.calls.items }

-- there is room for one more call
abbrev pub HasRoom : FaultLog → Type 0
HasRoom log = vec_len log.calls < vec_capacity log.calls
