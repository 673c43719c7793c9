-- A host may be sent to another thread, with the scripts that it borrows.
use denote.Ref.{NamedLft}
use denote.Hole.{as_row}
use denote.Param.Send.{IsSend, sendable, view_send}
use denote.Param.SendFields.{as_row_send, declared_send}
use Rattle.std.proofs.Crossing.{Vec-send, crosses}
use Rattle.std.proofs.alloc.Global.TheSendSync as global
use Rattle.std.proofs.option.Option.TheSendSync as options
use Rattle.std.proofs.vec.Vec.TheSendSync as vectors
use Rattle.std.specs.contracts.alloc.Global as allocator
use Rattle.std.specs.contracts.impls.GlobalAllocator.TheImpl.{ghosts}
use Rattle.std.specs.contracts.vec.Vec as vector
use Rattle.cdp_text.proofs.line_table.LineTable.TheSendSync as lines
use Rattle.cdp_host_isolation.proofs.phase.Phase.TheSendSync as phase
use Rattle.cdp_host_isolation.proofs.seat.Seat.TheSendSync as seat
use Rattle.cdp_host_isolation.specs.contracts.seat.Seat as seats
use Rattle.cdp_host_seats.proofs.fallback.Fallback.TheSendSync as fallback
use Rattle.cdp_host_seats.proofs.losses.SessionLost.TheSendSync as lost
use Rattle.js_heap_memory.proofs.heap.BaseHeap.TheSendSync as heap
use Rattle.js_machine.proofs.machine.Machine.TheSendSync as machine
use Rattle.breakpoints.proofs.place_index.PlaceIndex.TheSendSync as places
use Rattle.breakpoints.proofs.script_spots.ScriptSpots.TheSendSync as spots
use Rattle.cdp_json.proofs.room.ReadingRoom.TheSendSync as room
use Rattle.cdp_session.proofs.SendLemmas.{coded-send, script-sync, session-send}
use Rattle.cdp_session.proofs.situation.Pause.TheSendSync as pause
use Rattle.cdp_session.specs.contracts.session.Session as session
use Rattle.cdp_host.specs.contracts.host.Host as host
use Rattle.cdp_host.specs.contracts.host.Host.TheInside as inside

seat-send : (ℓ : NamedLft) → IsSend (seats.the_row (session.the_row ℓ))
seat-send ℓ = seat.the_send (session.the_row ℓ) (session-send ℓ)

seats-send : (ℓ : NamedLft)
    → IsSend (as_row (vector.the_field (seats.the_row (session.the_row ℓ)) allocator.the_row ghosts))
seats-send ℓ =
    as_row_send (vector.the_field (seats.the_row (session.the_row ℓ)) allocator.the_row ghosts)
    (Vec-send _ (seat-send ℓ))

host-parts : (ℓ : NamedLft) → IsSend (inside.the_row ℓ)
host-parts ℓ =
    declared_send (inside.the_type ℓ) (
      search (global.the_field_send, sendable) depth 30,
      (
        search (script-sync, crosses, sendable) depth 30,
        (
          coded-send ℓ,
          (
            search (lines.the_send, vectors.the_send, crosses, sendable) depth 30,
            (
              spots.the_send,
              (
                machine.the_send,
                (
                  heap.the_send,
                  (
                    search (phase.the_field_send, sendable) depth 30,
                    (
                      search (pause.the_field_send, options.the_field_send, crosses, sendable) depth 30,
                      (
                        search sendable,
                        (
                          search sendable,
                          (
                            seats-send ℓ,
                            (
                              places.the_send,
                              (
                                search (room.the_field_send, crosses, sendable) depth 30,
                                (
                                  search sendable,
                                  (
                                    search (session-send ℓ, fallback.the_send, crosses, sendable) depth 60,
                                    (
                                      search (lost.the_field_send, vectors.the_send, crosses, sendable) depth 30,
                                      tt,
                                    ),
                                  ),
                                ),
                              ),
                            ),
                          ),
                        ),
                      ),
                    ),
                  ),
                ),
              ),
            ),
          ),
        ),
      ),
    )

pub host-send : (ℓ : NamedLft) → IsSend (host.the_row ℓ)
host-send ℓ = view_send _ _ _ _ _ (host-parts ℓ)
