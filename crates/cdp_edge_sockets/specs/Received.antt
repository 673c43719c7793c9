-- What a read of a WebSocket gives.
use Rattle.cdp_edge_server.specs.Heard.{IsWithin}
use Rattle.cdp_edge_sockets.specs.declared.received.Received.{Received}
use Rattle.cdp_edge_sockets.specs.declared.received.Received.TheVariants as received

-- an answer that is given is one that a link may give
abbrev pub IsWithinLimit : Received → Type 0
IsWithinLimit (received.Answer answer) = IsWithin answer
IsWithinLimit received.Control = Unit {0}
IsWithinLimit received.Nothing = Unit {0}
IsWithinLimit (received.Broken code) = Unit {0}
