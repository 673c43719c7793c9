-- What a wire answers to a call that asks for a byte.
use Rattle.std.specs.Prelude.{ℕ, List, [], ◌∷◌, ◌++◌, Option, Some, None}
use Rattle.cdp_edge_wire.specs.declared.wire.Taken.{Taken}
use Rattle.cdp_edge_wire.specs.declared.wire.Taken.TheVariants as taken

-- an answer that is no failure
pub data Arrived : Type 0 where
  -- this byte
  Byte : ℕ → Arrived
  -- no byte had arrived
  Quiet : Arrived
  -- the peer closed, or went away
  End : Arrived

-- an answer as a list of at most one; a failure is none
abbrev pub arrived_of : Taken → List Arrived
arrived_of (taken.Byte b) = Byte b ∷ []
arrived_of taken.Quiet = Quiet ∷ []
arrived_of taken.End = End ∷ []
arrived_of taken.Failed = []

-- the answers that are told, with these after them; nothing where nothing is told
abbrev pub adds : Option (List Arrived) → List Arrived → Option (List Arrived)
adds None more = None
adds (Some old) more = Some (old ++ more)
