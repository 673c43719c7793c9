-- The first step of a program that waited for a client.
use Rattle.std.specs.Prelude.{◌≡◌, ◌<◌, ℕ, List, Bool, true, false}
use Rattle.cdp_host_isolation.specs.Histories.{Entry, FitsEntry, Ran}
use Rattle.cdp_host_isolation.specs.Meanings.{is_paused}
use Rattle.cdp_host_isolation.specs.Seats.{seat_of}
use Rattle.cdp_host_isolation.specs.declared.seat.Seat.TheVariants.{Attached}
use Rattle.js_tree.specs.declared.script.Script.{Script}
use Rattle.cdp_session.specs.Sessions.{Session}
use Rattle.cdp_host.specs.Histories.{whole}
use Rattle.cdp_host.specs.Programs.{is_over}
use Rattle.cdp_host.specs.Protocols.{protocol}
use Rattle.cdp_host_laws.specs.Stopping.{then_ran}

-- Each run of at least one step that fits after this history makes just one, and the program is paused after it, where
-- a session is attached then that has the debugger enabled, and the program isn't over.
abbrev pub StopsAtFirstStep : List Script → List (List ℕ) → Bool → List Entry → Type 0
StopsAtFirstStep scripts input wait history =
    (n moment : ℕ) (gone : List ℕ) (r : ℕ) (y : Session)
    → FitsEntry (protocol scripts) (whole scripts input wait history) (Ran n moment gone)
    → 0 < n
    → seat_of r (whole scripts input wait (then_ran history n moment gone)).seats ≡ Attached y
    → y.rules.enabled ≡ true
    → is_over (whole scripts input wait (then_ran history n moment gone)).program ≡ false
    → (n ≡ 1) × (is_paused (whole scripts input wait (then_ran history n moment gone)) ≡ true)
