-- Where a program goes on until, while one session debugs it.
use Rattle.std.proofs.Common.{◌≡◌, ℕ, suc, ◌+◌, List, [], ◌∷◌, Bool, true, false, ◌&&◌, refl, ap, sym, subst, ◌∙◌, arith}
use Rattle.cdp_host_isolation.specs.Histories.{Entry, Attach, Tell, Take, Detach, Ran, Shut, FitsAll, FitsEntry, apply, steps_made}
use Rattle.cdp_host_isolation.specs.Meanings.{after_run, is_first, is_paused}
use Rattle.cdp_host_isolation.specs.Names.{IsSteady, NamesAlone, StopsAtFirstNamed}
use Rattle.cdp_host_isolation.specs.Runs.{names_seat}
use Rattle.cdp_host_isolation.specs.Seats.{is_attached, seat_of}
use Rattle.cdp_host_isolation.specs.Stops as stops_
use Rattle.cdp_host_isolation.specs.declared.seat.Seat.{Seat}
use Rattle.cdp_host_isolation.specs.declared.seat.Seat.TheVariants.{Attached, Lost, Left}
use Rattle.cdp_host_isolation.proofs.LongerLemmas.{whole-more}
use Rattle.cdp_host_isolation.proofs.NamesLemmas.{stops-first}
use Rattle.cdp_host_isolation.proofs.StopLemmas.{plain-way}
use Rattle.js_tree.specs.declared.script.Script.{Script}
use Rattle.js_semantics.specs.Run.{Run}
use Rattle.cdp_session.specs.Sessions.{Session}
use Rattle.cdp_host.specs.Histories.{Meaning, whole}
use Rattle.cdp_host.specs.Programs.{next, plain, start}
use Rattle.cdp_host.specs.Protocols.{begun_with, protocol}
use Rattle.cdp_host.specs.Rules.{NoOtherEnabled}
use Rattle.cdp_host.specs.Steps.{Step, names_stop, seen_behind, step_of}
use Rattle.cdp_host.proofs.ProgramLemmas.{plain-next}
use Rattle.cdp_host.proofs.ProtocolLemmas.{plain-same}
use Rattle.cdp_host.proofs.StepLemmas.{unnamed-disabled}
use Rattle.cdp_host.proofs.WatchLemmas.{names-same, told-asks}
use Rattle.cdp_host_laws.specs.Quiet.{AreQuiet}
use Rattle.cdp_host_laws.specs.Stopping.{GoesOnUntil, StopAlong, StopsAt, StopsWhere, then_ran, with_entry}
use Rattle.cdp_host_laws.proofs.AlongLemmas.{NamesLittle, StopsAlone, alone-along}
use Rattle.cdp_host_laws.proofs.RanLemmas.{NamesEnabled, ran-attached, ran-paused}

-- ---- who names stops

enabled_or_silent : (t : Step) (x : Session) (b : Bool) → x.rules.enabled ≡ b → names_stop t x ≡ true → b ≡ true
enabled_or_silent t x true is named = refl
enabled_or_silent t x false is named = let e : false ≡ true = sym (unnamed-disabled t x is) ∙ named in absurd cc

-- a session that names a step has the debugger enabled, and still has after the stop
pub names-enabled : (scripts : List Script) → NamesEnabled (protocol scripts)
names-enabled scripts = record {
  enabled = λ t x named. enabled_or_silent t x x.rules.enabled refl named;
  stays = λ number moment t x. ap (λ r. r.enabled) (told-asks (seen_behind scripts t) moment t x).rules;
}

-- what a session is told of a step changes nothing of what it names
steady : (scripts : List Script) → IsSteady (protocol scripts)
steady scripts =
    λ moment t u x. names-same u ((protocol scripts).told moment t x) x (told-asks (seen_behind scripts t) moment t x)

silent_seat : (scripts : List Script) (t : Step) (seat : Seat Session)
    → ((y : Session) → seat ≡ Attached y → y.rules.enabled ≡ false)
    → names_seat (protocol scripts) t seat ≡ false
silent_seat scripts t (Attached y) off = unnamed-disabled t y (off y refl)
silent_seat scripts t (Lost loss is_reported is_told) off = refl
silent_seat scripts t Left off = refl

-- where no other session has the debugger enabled, none names anything
names_alone : (scripts : List Script) (s : ℕ) (m : Meaning Run) → NoOtherEnabled s m
    → NamesAlone (protocol scripts) s m
names_alone scripts s m off = λ t r other. silent_seat scripts t (seat_of r m.seats) (λ y is. off r y other is)

-- ---- a run

-- the session names just the steps after which the program stands so, where the start rule has no say
abbrev pub NamesWhere : List Script → Session → (Run → Bool) → Type 0
NamesWhere scripts x meets = (r : Run) → names_stop (step_of scripts false r) x ≡ meets (next scripts r)

-- the step that leads from so many plain steps
step_there : (meets : Run → Bool) (scripts : List Script) (input : List (List ℕ)) (made j : ℕ) (x : Session)
    → NamesWhere scripts x meets
    → names_stop (step_of scripts false (stops_.plain (protocol scripts) (made + j) (start scripts input))) x
    ≡ meets (plain (made + j + 1) scripts input)
step_there meets scripts input made j x names =
    let e : suc (made + j) ≡ made + j + 1 = omega arith in
    ap (λ r. names_stop (step_of scripts false r) x) (plain-same (made + j) scripts input)
    ∙ names (plain (made + j) scripts input)
    ∙ ap meets (plain-next (made + j) scripts input ∙ ap (λ k. plain k scripts input) e)

-- a seat that is attached has a session
whose : {X : Type 0} → (seat : Seat X) → is_attached seat ≡ true → (x : X) × (seat ≡ Attached x)
whose (Attached x) there = (x, refl)
whose (Lost loss is_reported is_told) there = absurd cc
whose Left there = absurd cc

stops_where : (N : Step → Bool) (meets : Run → Bool) (scripts : List Script) (input : List (List ℕ)) (wait : Bool)
    (history : List Entry) (s n moment : ℕ) (gone : List ℕ)
    → StopsAlone (protocol scripts) s N (whole scripts input wait history)
    → ((r : Run) → N (step_of scripts false r) ≡ meets (next scripts r))
    → FitsEntry (protocol scripts) (whole scripts input wait history) (Ran n moment gone)
    → StopsWhere meets scripts input wait history s n moment gone
stops_where N meets scripts input wait history s n moment gone alone as_said fits =
    let P = protocol scripts in
    let m : Meaning Run = whole scripts input wait history in
    let made : ℕ = steps_made history in
    let k : Meaning Run = after_run P moment gone n m in
    let has : (x : Session) × (seat_of s m.seats ≡ Attached x) = whose (seat_of s m.seats) alone.attached in
    let x : Session = has.0 in
    let names : NamesWhere scripts x meets = λ r.
    let t : Step = step_of scripts false r in
    sym (ap (λ seat. names_seat P t seat) has.1) ∙ alone.own t ∙ as_said r in
    let found : StopsAtFirstNamed P (start scripts input) made moment gone s x m n
    = stops-first P (start scripts input) made moment gone s x m n (steady scripts)
    (plain-way P (start scripts input) wait history) alone.begun has.1 alone.others fits in
    let more : whole scripts input wait (then_ran history n moment gone) ≡ apply P m (Ran n moment gone)
    = whole-more P (start scripts input) wait history (Ran n moment gone) in
    record {
      passes_none = λ j below. sym (step_there meets scripts input made j x names) ∙ found.passes_none j below;
      stops_there = λ j last.
          let there : Bool = meets (plain (made + j + 1) scripts input) in
          ap (λ l. is_paused l) more
          ∙ ran-paused P moment gone n j m (names-enabled scripts) last
          ∙ found.stops_there j last
          ∙ ap (λ b. b && is_attached (seat_of s k.seats)) (step_there meets scripts input made j x names)
          ∙ ap (λ b. there && b) (sym (ran-attached P moment gone n j s m (names-enabled scripts) last))
          ∙ ap (λ l. there && is_attached (seat_of s l.seats)) (sym more);
    }

-- ---- entries in which nobody tells anything

names_little : (scripts : List Script) → NamesLittle (protocol scripts)
names_little scripts =
    record { fresh = λ t s. unnamed-disabled t (begun_with scripts s) refl; emptied = λ t x. refl }

stops_at : (N : Step → Bool) (meets : Run → Bool) (scripts : List Script) (input : List (List ℕ)) (wait : Bool)
    (history : List Entry) (s : ℕ) (entry : Entry)
    → StopsAlone (protocol scripts) s N (whole scripts input wait history)
    → ((r : Run) → N (step_of scripts false r) ≡ meets (next scripts r))
    → FitsEntry (protocol scripts) (whole scripts input wait history) entry
    → StopsAt meets scripts input wait s history entry
stops_at N meets scripts input wait history s Attach alone as_said fits = tt
stops_at N meets scripts input wait history s (Tell r text) alone as_said fits = tt
stops_at N meets scripts input wait history s (Take r) alone as_said fits = tt
stops_at N meets scripts input wait history s (Detach r) alone as_said fits = tt
stops_at N meets scripts input wait history s (Ran n moment gone) alone as_said fits =
    stops_where N meets scripts input wait history s n moment gone alone as_said fits
stops_at N meets scripts input wait history s Shut alone as_said fits = tt

stop_along : (more : List Entry) (N : Step → Bool) (meets : Run → Bool) (scripts : List Script)
    (input : List (List ℕ)) (wait : Bool) (history : List Entry) (s : ℕ)
    → StopsAlone (protocol scripts) s N (whole scripts input wait history)
    → ((r : Run) → N (step_of scripts false r) ≡ meets (next scripts r))
    → is_paused (whole scripts input wait history) ≡ false
    → AreQuiet more
    → FitsAll (protocol scripts) (whole scripts input wait history) more
    → StopAlong more meets scripts input wait s history
stop_along [] N meets scripts input wait history s alone as_said goes quiet fits = tt
stop_along (entry ∷ more) N meets scripts input wait history s alone as_said goes quiet fits =
    let P = protocol scripts in
    let m : Meaning Run = whole scripts input wait history in
    let is : whole scripts input wait (with_entry history entry) ≡ apply P m entry
    = whole-more P (start scripts input) wait history entry in (
      stops_at N meets scripts input wait history s entry alone as_said fits.0,
      λ still there.
          stop_along more N meets scripts input wait (with_entry history entry) s
          (subst (λ l. StopsAlone P s N l) (sym is)
          (alone-along P s N m entry (steady scripts) (names-enabled scripts) (names_little scripts) alone quiet.0
          fits.0 goes (ap (λ l. is_paused l) (sym is) ∙ still)
          (ap (λ l. is_attached (seat_of s l.seats)) (sym is) ∙ there)))
          as_said still quiet.1 (subst (λ l. FitsAll P l more) (sym is) fits.1),
    )

-- the program goes on until the first state that the one session names
pub goes-until : (meets : Run → Bool) (scripts : List Script) (input : List (List ℕ)) (wait : Bool)
    (history : List Entry) (s : ℕ) (x : Session)
    → is_paused (whole scripts input wait history) ≡ false
    → is_first (whole scripts input wait history).phase ≡ false
    → seat_of s (whole scripts input wait history).seats ≡ Attached x
    → NoOtherEnabled s (whole scripts input wait history)
    → NamesWhere scripts x meets
    → GoesOnUntil meets scripts input wait history s
goes-until meets scripts input wait history s x goes begun is off names =
    let P = protocol scripts in
    let m : Meaning Run = whole scripts input wait history in
    let N : Step → Bool = λ t. names_stop t x in
    let alone : StopsAlone P s N m
    = record {
      begun = begun;
      attached = ap (λ seat. is_attached seat) is;
      own = λ t. ap (λ seat. names_seat P t seat) is;
      others = names_alone scripts s m off;
    } in
    record {
      goes_on = goes;
      runs = λ more quiet fits. stop_along more N meets scripts input wait history s alone names goes quiet fits;
    }
