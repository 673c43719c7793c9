-- Where a run stops while one session asks for one step alone, and no other has the debugger enabled.
use Rattle.std.proofs.Common.{◌≡◌, ℕ, suc, ◌+◌, List, Bool, true, false, ◌&&◌, ◌||◌, not, is_some, refl, ap, sym, ◌∙◌, arith, if◌then◌else◌, Option, Some, None}
use Rattle.std.proofs.lemmas.Bool.{and_right}
use Rattle.cdp_text.specs.declared.position.Place.{Place}
use Rattle.cdp_host_isolation.specs.Histories.{FitsEntry, Ran}
use Rattle.cdp_host_isolation.specs.Meanings.{after_run, is_first}
use Rattle.cdp_host_isolation.specs.Names.{IsSteady, NamesAlone, StopsAtFirstNamed}
use Rattle.cdp_host_isolation.specs.Runs.{names_seat}
use Rattle.cdp_host_isolation.specs.Seats.{is_attached, seat_of}
use Rattle.cdp_host_isolation.specs.Stops as stops_
use Rattle.cdp_host_isolation.specs.declared.seat.Seat.{Seat}
use Rattle.cdp_host_isolation.specs.declared.seat.Seat.TheVariants.{Attached, Lost, Left}
use Rattle.cdp_host_isolation.proofs.NamesLemmas.{stops-first}
use Rattle.js_tree.specs.declared.script.Script.{Script}
use Rattle.js_semantics.specs.Run.{Run}
use Rattle.stepping.specs.Causes.{cause_at, ends_at}
use Rattle.stepping.specs.declared.arrival.Arrival.{Arrival}
use Rattle.stepping.specs.declared.cause.Cause.TheVariants as causes
use Rattle.stepping.specs.declared.rules.StepKind.{StepKind}
use Rattle.cdp_session.specs.Conditions.{hits, is_some_hit}
use Rattle.cdp_session.specs.Sessions.{Session}
use Rattle.cdp_session.specs.Situations.{Standing}
use Rattle.cdp_session.specs.Stops.{cause_of}
use Rattle.cdp_session.proofs.StopLemmas.{none-hit}
use Rattle.cdp_host.specs.Histories.{Meaning}
use Rattle.cdp_host.specs.Programs.{arrival_of, plain, start}
use Rattle.cdp_host.specs.Protocols.{protocol}
use Rattle.cdp_host.specs.Rules.{NoOtherEnabled, StepsAlone, StopsAtFirst, ends_step}
use Rattle.cdp_host.specs.Steps.{Step, names_stop, seen_behind, step_of}
use Rattle.cdp_host.proofs.ProgramLemmas.{plain-next}
use Rattle.cdp_host.proofs.ProtocolLemmas.{plain-same}
use Rattle.cdp_host.proofs.WatchLemmas.{names-same, told-asks}
use Rattle.cdp_text.proofs.TestLemmas.{or_false}

-- ---- one step alone

chosen : (debugger ends : Bool)
    → is_some (if debugger then Some causes.DebuggerStatement else if ends then Some causes.Step else None) ≡
    (debugger || ends)
chosen true ends = refl
chosen false true = refl
chosen false false = refl

by_place : (x : Session) (kind : StepKind) (depth : ℕ) (s : Standing) (a : Arrival) (o : Option Place)
    → StepsAlone x kind depth
    → is_some (cause_at x.rules a (is_some_hit (hits s x.workspace x.breakpoints o)) o) ≡
    (is_some o && (a.debugger || ends_at kind depth a.depth))
by_place x kind depth s a None alone = refl
by_place x kind depth s a (Some place) alone =
    rw (
      none-hit s x.workspace place x.breakpoints (alone.none_hit place),
      alone.rules.no_pause,
      alone.rules.step,
      alone.rules.no_place,
    )
    (chosen a.debugger (ends_at kind depth a.depth))

-- its rules name exactly the arrivals that end the step
pub causes-step : (x : Session) (kind : StepKind) (depth : ℕ) (s : Standing) (a : Arrival)
    → StepsAlone x kind depth
    → is_some (cause_of s a x) ≡ ends_step kind depth a
causes-step x kind depth s a alone =
    rw (alone.rules.enabled, alone.rules.heeded, alone.rules.no_throws) (by_place x kind depth s a a.place alone)

-- and so does the session, where the start rule has no say
names-alone : (t : Step) (x : Session) (kind : StepKind) (depth : ℕ)
    → t.first ≡ false
    → StepsAlone x kind depth
    → names_stop t x ≡ ends_step kind depth t.arrival
names-alone t x kind depth first alone =
    ap (λ b. is_some (cause_of t.standing t.arrival x) || (b && (x.rules.enabled && not t.standing.over))) first
    ∙ or_false (is_some (cause_of t.standing t.arrival x))
    ∙ causes-step x kind depth t.standing t.arrival alone

-- ---- others

-- a session that hasn't the debugger enabled names nothing
pub unnamed-disabled : (t : Step) (y : Session) → y.rules.enabled ≡ false → names_stop t y ≡ false
unnamed-disabled t y off = rw off (and_right t.first false refl)

unnamed_seat : (scripts : List Script) (t : Step) (seat : Seat Session)
    → ((y : Session) → seat ≡ Attached y → y.rules.enabled ≡ false)
    → names_seat (protocol scripts) t seat ≡ false
unnamed_seat scripts t (Attached y) off = unnamed-disabled t y (off y refl)
unnamed_seat scripts t (Lost loss is_reported is_told) off = refl
unnamed_seat scripts t Left off = refl

-- so where no other session has, none names anything
no-other : (scripts : List Script) (s : ℕ) (m : Meaning Run) → NoOtherEnabled s m → NamesAlone (protocol scripts) s m
no-other scripts s m off = λ t r other. unnamed_seat scripts t (seat_of r m.seats) (λ y is. off r y other is)

-- ---- a run

-- what a session is told changes nothing of what it names
steady : (scripts : List Script) → IsSteady (protocol scripts)
steady scripts =
    λ moment t u x. names-same u ((protocol scripts).told moment t x) x (told-asks (seen_behind scripts t) moment t x)

-- a program behind so many plain steps makes one that the session names where it ends the step
named_there : (kind : StepKind) (depth : ℕ) (scripts : List Script) (input : List (List ℕ)) (made j : ℕ) (x : Session)
    → StepsAlone x kind depth
    → names_stop (step_of scripts false (stops_.plain (protocol scripts) (made + j) (start scripts input))) x
    ≡ ends_step kind depth (arrival_of scripts (plain (made + j + 1) scripts input))
named_there kind depth scripts input made j x alone =
    let e : suc (made + j) ≡ made + j + 1 = omega arith in
    ap (λ r. names_stop (step_of scripts false r) x) (plain-same (made + j) scripts input)
    ∙ names-alone (step_of scripts false (plain (made + j) scripts input)) x kind depth refl alone
    ∙ ap (λ r. ends_step kind depth (arrival_of scripts r))
    (plain-next (made + j) scripts input ∙ ap (λ k. plain k scripts input) e)

-- it stops at the first step that ends the one that is asked for, or at none
pub steps-stop : (kind : StepKind) (depth : ℕ) (scripts : List Script) (input : List (List ℕ)) (made moment : ℕ)
    (gone : List ℕ) (s : ℕ) (x : Session) (m : Meaning Run) (n : ℕ)
    → m.program ≡ plain made scripts input
    → is_first m.phase ≡ false
    → seat_of s m.seats ≡ Attached x
    → StepsAlone x kind depth
    → NoOtherEnabled s m
    → FitsEntry (protocol scripts) m (Ran n moment gone) → StopsAtFirst kind depth scripts input made moment gone s m n
steps-stop kind depth scripts input made moment gone s x m n at begun is alone off ready =
    let found : StopsAtFirstNamed (protocol scripts) (start scripts input) made moment gone s x m n
    = stops-first (protocol scripts) (start scripts input) made moment gone s x m n (steady scripts)
    (at ∙ sym (plain-same made scripts input)) begun is (no-other scripts s m off) ready in
    record {
      passes_none = λ j below. sym (named_there kind depth scripts input made j x alone) ∙ found.passes_none j below;
      stops_there = λ j last.
          found.stops_there j last
          ∙ ap (λ b. b && is_attached (seat_of s (after_run (protocol scripts) moment gone n m).seats))
          (named_there kind depth scripts input made j x alone);
    }
