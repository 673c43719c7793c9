-- What a link answers to a call that asks for what arrived.
use Rattle.std.specs.Prelude.{◌≤◌, ℕ, List, [], ◌∷◌, length, string_bytes}
use Rattle.cdp_edge_server.specs.declared.link.Recv.{Recv}
use Rattle.cdp_edge_server.specs.declared.link.Recv.TheVariants as recv

-- an answer; want of memory is none
pub data Heard : Type 0 where
  -- a text of these bytes
  Text : List ℕ → Heard
  -- a binary message
  Binary : Heard
  -- a message above the limit
  TooBig : Heard
  -- no whole message had arrived
  Quiet : Heard
  -- the peer closed, or went away
  Closed : Heard
  -- the link failed
  Failed : Heard

-- an answer as a list of at most one
abbrev pub heard_of : Recv → List Heard
heard_of (recv.Text text) = Text (string_bytes text) ∷ []
heard_of recv.Binary = Binary ∷ []
heard_of recv.TooBig = TooBig ∷ []
heard_of recv.Quiet = Quiet ∷ []
heard_of recv.Closed = Closed ∷ []
heard_of recv.Failed = Failed ∷ []
heard_of recv.Memory = []

-- a text that is answered has at most 1,048,576 bytes
abbrev pub IsWithin : Recv → Type 0
IsWithin (recv.Text text) = length (string_bytes text) ≤ 1_048_576
IsWithin recv.Binary = Unit {0}
IsWithin recv.TooBig = Unit {0}
IsWithin recv.Quiet = Unit {0}
IsWithin recv.Closed = Unit {0}
IsWithin recv.Failed = Unit {0}
IsWithin recv.Memory = Unit {0}

-- nothing of what is to come was given: the link failed, or memory was wanting
abbrev pub IsNothing : Recv → Type 0
IsNothing (recv.Text text) = ⊥
IsNothing recv.Binary = ⊥
IsNothing recv.TooBig = ⊥
IsNothing recv.Quiet = ⊥
IsNothing recv.Closed = ⊥
IsNothing recv.Failed = Unit {0}
IsNothing recv.Memory = Unit {0}
