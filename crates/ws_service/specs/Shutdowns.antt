-- How a program is shut where something failed.
use Rattle.std.specs.Prelude.{◌≡◌, List, [], ◌∷◌, Option, Some, None}
use Rattle.cdp_host_isolation.specs.Histories.{Entry, Shut}
use Rattle.history_lock.specs.Histories.{limit}
use Rattle.history_lock.specs.Passes.{PassState, refused_pass}
use Rattle.cdp_host_turns.specs.Debuggings.{Debugging}
use Rattle.cdp_host_turns.specs.Turns.{Acts}
use Rattle.ws_service.specs.declared.shutdown.NotShut.{NotShut}

-- where the program wasn't shut, no ticket was left, of which this is so
abbrev pub HadNoTicket : Type 0 → Option NotShut → Type 0
HadNoTicket spent None = Unit {0}
HadNoTicket spent (Some unshut) = (unshut.ticket ≡ limit) × spent

-- the entries of that: one shut, or none
abbrev pub shut_entries : Option NotShut → List Entry
shut_entries None = Shut ∷ []
shut_entries (Some unshut) = []

-- the program was shut by one turn; or it wasn't, since no ticket was left, and the pass was refused one
abbrev pub ShutsDown : Debugging → PassState Entry → PassState Entry → Option NotShut → Type 0
ShutsDown d p q None = Acts d p q Shut
ShutsDown d p q (Some unshut) = (q ≡ refused_pass p) × (unshut.ticket ≡ limit)
