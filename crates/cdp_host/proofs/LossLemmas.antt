-- Owners who are told of a loss.
use Rattle.std.proofs.Common.{◌≡◌, ℕ, zero, suc, List, [], ◌∷◌, Bool, true, false, refl, ap, sym, subst, ◌∙◌}
use Rattle.std.proofs.lemmas.Bool.{or_parts, or_from}
use Rattle.cdp_host_isolation.specs.Histories.{Detach, apply, detach, with_seat}
use Rattle.cdp_host_isolation.specs.Seats.{is_attached, put, put_in, seat_of, some, waits_for_report}
use Rattle.cdp_host_isolation.specs.Standing.{BrokenAs, StandsAs}
use Rattle.cdp_host_isolation.specs.Texts.{Fits}
use Rattle.cdp_host_isolation.specs.declared.seat.Loss.TheVariants.{Overrun, Memory}
use Rattle.cdp_host_isolation.specs.declared.seat.Seat.{Seat}
use Rattle.cdp_host_isolation.specs.declared.seat.Seat.TheVariants.{Attached, Lost, Left}
use Rattle.cdp_host_isolation.proofs.LongerLemmas.{call-program}
use Rattle.cdp_host_isolation.proofs.BrokenLemmas.{unset-at, unset-put}
use Rattle.cdp_host_isolation.proofs.StandingLemmas.{fallen-attached, stands-detach-fallen, stands-detach-left, stands-detach-lost, whole-none}
use Rattle.js_tree.specs.declared.script.Script.{Script}
use Rattle.js_semantics.specs.Run.{Run}
use Rattle.cdp_session.specs.Sessions.{Session}
use Rattle.cdp_host_seats.specs.Losses.{owner_told}
use Rattle.cdp_host_seats.proofs.PlacedLemmas.{put-same}
use Rattle.cdp_host.specs.Histories.{Meaning, apply as applied, whole}
use Rattle.cdp_host.specs.Hosts.{CarriesOn, HostState, meaning_with}
use Rattle.cdp_host.specs.Programs.{printed_of, start}
use Rattle.cdp_host.specs.Protocols.{protocol}
use Rattle.cdp_host.proofs.HistoryLemmas.{stands-behind, stands-broken}
use Rattle.cdp_host.proofs.LeaveLemmas.{reseated}

-- ---- one seat

-- a seat that isn't attached fits, whoever was told
pub told-fits : (scripts : List Script) (seat : Seat Session)
    → is_attached seat ≡ false
    → Fits (protocol scripts) (owner_told seat)
told-fits scripts (Attached x) gone = absurd cc
told-fits scripts (Lost Overrun is_reported is_told) gone = tt
told-fits scripts (Lost Memory true is_told) gone = tt
told-fits scripts (Lost Memory false is_told) gone = tt
told-fits scripts Left gone = tt

-- nor is anybody attached then
pub told-gone : (seat : Seat Session) → is_attached seat ≡ false → is_attached (owner_told seat) ≡ false
told-gone (Attached x) gone = absurd cc
told-gone (Lost Overrun is_reported is_told) gone = refl
told-gone (Lost Memory true is_told) gone = refl
told-gone (Lost Memory false is_told) gone = refl
told-gone Left gone = refl

put_gone_in : (i : ℕ) (new : Seat Session) (seats : List (Seat Session))
    → is_attached new ≡ false
    → some is_attached seats ≡ false
    → some is_attached (put_in i new seats) ≡ false
put_gone_in i new [] gone none = none
put_gone_in zero new (seat ∷ seats) gone none =
    or_from (is_attached new) (some is_attached seats) gone
    (or_parts (is_attached seat) (some is_attached seats) none).1
put_gone_in (suc i) new (seat ∷ seats) gone none =
    let parts = or_parts (is_attached seat) (some is_attached seats) none in
    or_from (is_attached seat) (some is_attached (put_in i new seats)) parts.0 (put_gone_in i new seats gone parts.1)

-- nor among all seats
pub put-gone : (s : ℕ) (new : Seat Session) (seats : List (Seat Session))
    → is_attached new ≡ false
    → some is_attached seats ≡ false
    → some is_attached (put s new seats) ≡ false
put-gone zero new seats gone none = none
put-gone (suc i) new seats gone none = put_gone_in i new seats gone none

-- ---- a host that works

-- the owner of a session that isn't attached is told, and the host stands for the history with that
told-stands : (scripts : List Script) (host m : Meaning Run) (s : ℕ) (seat : Seat Session)
    → StandsAs host m
    → (is_told : Bool)
    → ((b : Bool) → seat_of s host.seats ≡ Lost Memory false b → is_attached (seat_of s m.seats) ≡ true)
    → seat_of s host.seats ≡ seat
    → is_attached seat ≡ false
    → StandsAs (with_seat s (owner_told seat) host) (apply (protocol scripts) m (Detach s))
told-stands scripts host m s (Attached x) stood b there at gone = absurd cc
told-stands scripts host m s (Lost Overrun is_reported is_told) stood b there at gone =
    stands-detach-lost (protocol scripts) host m s Overrun is_reported is_told stood at refl
told-stands scripts host m s (Lost Memory true is_told) stood b there at gone =
    stands-detach-lost (protocol scripts) host m s Memory true is_told stood at refl
told-stands scripts host m s (Lost Memory false is_told) stood b there at gone =
    stands-detach-fallen (protocol scripts) host m s is_told stood at (there is_told at)
told-stands scripts host m s Left stood b there at gone =
    let P : List (Seat Session)
    → Type 0 = λ ss.
    (let n : Meaning Run = record host { seats = ss } in StandsAs n (apply (protocol scripts) m (Detach s))) in
    subst P (sym (put-same s Left host.seats at)) (stands-detach-left (protocol scripts) host m s stood at)

-- ---- a host that want of memory broke

broken_by : (scripts : List Script) (m : Meaning Run) (s : ℕ) (seats : List (Seat Session)) (seat new : Seat Session)
    → BrokenAs seats m.seats
    → seat_of s m.seats ≡ seat → owner_told seat ≡ new → put s new m.seats ≡ (detach (protocol scripts) s m seat).seats
    → is_attached new ≡ false → waits_for_report new ≡ false
    → BrokenAs (put s (owner_told (seat_of s seats)) seats) (apply (protocol scripts) m (Detach s)).seats
broken_by scripts m s seats seat new broken at told leads gone reported =
    let here : owner_told (seat_of s seats) ≡ new =
    ap (λ ss. owner_told (seat_of s ss)) broken.same ∙ ap owner_told at ∙ told in
    let P : Seat Session → Type 0 = λ z. some is_attached (put s z seats) ≡ false in
    let Q : Seat Session → Type 0 = λ z. some waits_for_report (put s z seats) ≡ false in
    record {
      same = ap (λ z. put s z seats) here ∙ ap (put s new) broken.same ∙ leads
          ∙ ap (λ z. (detach (protocol scripts) s m z).seats) (sym at);
      alone = subst P (sym here) (unset-put is_attached s new seats gone broken.alone);
      all_told = subst Q (sym here) (unset-put waits_for_report s new seats reported broken.all_told);
    }

-- its owner is told, and its seats are those of the history with that
told-broken : (scripts : List Script) (m : Meaning Run) (s : ℕ) (seats : List (Seat Session)) (seat : Seat Session)
    → BrokenAs seats m.seats
    → seat_of s m.seats ≡ seat → is_attached seat ≡ false → waits_for_report seat ≡ false
    → BrokenAs (put s (owner_told (seat_of s seats)) seats) (apply (protocol scripts) m (Detach s)).seats
told-broken scripts m s seats (Attached x) broken at gone told = absurd cc
told-broken scripts m s seats (Lost loss false is_told) broken at gone told = absurd cc
told-broken scripts m s seats (Lost Overrun true is_told) broken at gone told =
    broken_by scripts m s seats (Lost Overrun true is_told) (Lost Overrun true true) broken at refl refl refl refl
told-broken scripts m s seats (Lost Memory true is_told) broken at gone told =
    broken_by scripts m s seats (Lost Memory true is_told) (Lost Memory true true) broken at refl refl refl refl
told-broken scripts m s seats Left broken at gone told =
    broken_by scripts m s seats Left Left broken at refl (put-same s Left m.seats at) refl refl

-- ---- any host

-- the owner of a session that isn't attached was told
pub loss-stands : (old : HostState) (s : ℕ) (b : Bool)
    → old.broken ≡ b
    → is_attached (seat_of s old.meaning.seats) ≡ false
    → CarriesOn old (Detach s) (reseated old s (owner_told (seat_of s old.meaning.seats)))
loss-stands old s false works gone = λ scripts input wait history stood.
    let m : Meaning Run = whole scripts input wait history in
    let new : HostState = reseated old s (owner_told (seat_of s old.meaning.seats)) in
    let taken : List (List ℕ) = printed_of m.program in
    let before = stood.means works in
    let same : printed_of (applied scripts m (Detach s)).program ≡ taken = ap printed_of
    (call-program (protocol scripts) m (Detach s) refl) in
    let Q : List (List ℕ) → Type 0 = λ texts. StandsAs (meaning_with new texts) (applied scripts m (Detach s)) in
    stands-behind scripts input wait old new history (Detach s) stood refl works tt
    (subst Q (sym same)
    (told-stands scripts (meaning_with old taken) m s (seat_of s old.meaning.seats) before false
    (λ is_told at. fallen-attached (meaning_with old taken) m s is_told before
    (whole-none (protocol scripts) (start scripts input) wait history) at)
    refl gone))
loss-stands old s true fails gone = λ scripts input wait history stood.
    let m : Meaning Run = whole scripts input wait history in
    let new : HostState = reseated old s (owner_told (seat_of s old.meaning.seats)) in
    let broken = stood.lost fails in
    let seats : List (Seat Session) = old.meaning.seats in
    let gone_there : is_attached (seat_of s m.seats) ≡ false =
    ap (λ ss. is_attached (seat_of s ss)) (sym broken.same) ∙ gone in
    let told_there : waits_for_report (seat_of s m.seats) ≡ false =
    ap (λ ss. waits_for_report (seat_of s ss)) (sym broken.same)
    ∙ unset-at waits_for_report s seats refl broken.all_told in
    stands-broken scripts input wait old new history (Detach s) stood refl fails tt
    (told-broken scripts m s seats (seat_of s m.seats) broken refl gone_there told_there)
