-- A host that stands for a history tells what its record asks.
use Rattle.std.proofs.Common.{◌≡◌, ℕ, List, Bool, true, false, ◌||◌, refl, ap, sym}
use Rattle.cdp_host_isolation.specs.Histories.{Entry}
use Rattle.cdp_host_isolation.specs.Makers.{entries_of}
use Rattle.cdp_host_isolation.specs.Seats.{is_attached, seat_of, some, waits_for_report}
use Rattle.cdp_host_isolation.specs.Standing.{fell}
use Rattle.cdp_host_isolation.proofs.StandingLemmas.{whole-none}
use Rattle.js_tree.specs.declared.script.Script.{Script}
use Rattle.js_semantics.specs.Run.{Run}
use Rattle.cdp_host_turns.specs.Debuggings.{meaning}
use Rattle.cdp_host_record.specs.Replays.{KeepsUntouched}
use Rattle.cdp_host_record.specs.Standing.{still_waits}
use Rattle.cdp_host_record.proofs.MeetLemmas.{attached-told, broken-attached, broken-owed, owed-told}
use Rattle.cdp_host.specs.Debugged.{StandsOwned, debugging}
use Rattle.cdp_host.specs.Histories.{Meaning, whole}
use Rattle.cdp_host.specs.Hosts.{HostState, meaning_with}
use Rattle.cdp_host.specs.Programs.{printed_of, start}
use Rattle.cdp_host.specs.Protocols.{protocol}

pub owned-attached : (scripts : List Script) (input : List (List ℕ)) (wait : Bool) (host : HostState) (s : ℕ)
    (h : List (ℕ × Entry)) → StandsOwned scripts input wait host h
    → (is_attached (seat_of s host.meaning.seats) || fell (seat_of s host.meaning.seats))
    ≡ is_attached (seat_of s (meaning (debugging scripts input wait) h).seats)
owned-attached scripts input wait host s h stood = by_works host.broken refl
  where
    m : Meaning Run
    m = whole scripts input wait (entries_of h)

    by_works : (b : Bool) → host.broken ≡ b
        → (is_attached (seat_of s host.meaning.seats) || fell (seat_of s host.meaning.seats))
        ≡ is_attached (seat_of s (meaning (debugging scripts input wait) h).seats)
    by_works true fails = sym (broken-attached host.meaning.seats m.seats s (stood.stands.lost fails))
    by_works false works =
        sym (attached-told (meaning_with host (printed_of m.program)) m s (stood.stands.means works)
        (whole-none (protocol scripts) (start scripts input) wait (entries_of h)))

pub owned-owed : (scripts : List Script) (input : List (List ℕ)) (wait : Bool) (host : HostState)
    (h : List (ℕ × Entry)) → StandsOwned scripts input wait host h
    → some still_waits host.meaning.seats ≡ some waits_for_report (meaning (debugging scripts input wait) h).seats
owned-owed scripts input wait host h stood = by_works host.broken refl
  where
    m : Meaning Run
    m = whole scripts input wait (entries_of h)

    by_works : (b : Bool) → host.broken ≡ b
        → some still_waits host.meaning.seats ≡ some waits_for_report (meaning (debugging scripts input wait) h).seats
    by_works true fails = sym (broken-owed host.meaning.seats m.seats (stood.stands.lost fails))
    by_works false works =
        sym (owed-told (meaning_with host (printed_of m.program)) m (stood.stands.means works)
        (whole-none (protocol scripts) (start scripts input) wait (entries_of h)))

-- taking no texts leaves a session as it was
pub untouched-kept : (scripts : List Script) → KeepsUntouched (protocol scripts)
untouched-kept scripts = λ x is. ap (λ texts. record x { outbox = texts }) (sym is)
