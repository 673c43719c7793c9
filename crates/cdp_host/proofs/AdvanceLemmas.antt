-- A stretch of steps of a machine, and what its last step does to the sessions, in the words of a host's meaning.
use Rattle.std.proofs.Common.{◌≡◌, ℕ, zero, suc, ◌-◌, ◌<◌, List, [], ◌∷◌, Bool, true, false, ◌||◌, ◌&&◌, not, is_some, IfSome, refl, ap, sym, subst, ◌∙◌, arith, if◌then◌else◌, Option, Some, None}
use Rattle.std.specs.Option.{option_map}
use Rattle.std.proofs.lemmas.Bool.{and_parts, not-true}
use Rattle.cdp_host_isolation.specs.Meanings.{behind, is_first, is_held, is_ready, next_number, seat_behind, stops_for, waits}
use Rattle.cdp_host_isolation.specs.Passes.{Behind, Over, any_set}
use Rattle.cdp_host_isolation.specs.Runs.{AllFit, HasMade, IsQuiet, names_seat}
use Rattle.cdp_host_isolation.specs.Seats.{each, some, waits_for_report}
use Rattle.cdp_host_isolation.specs.Standing.{fallen_in}
use Rattle.cdp_host_isolation.specs.Stops as stops_
use Rattle.cdp_host_isolation.specs.declared.phase.Phase.{Phase}
use Rattle.cdp_host_isolation.specs.declared.phase.Phase.TheVariants.{Waiting, Woken, Running}
use Rattle.cdp_host_isolation.specs.declared.seat.Seat.{Seat}
use Rattle.cdp_host_isolation.specs.declared.seat.Seat.TheVariants.{Attached, Lost, Left}
use Rattle.cdp_host_isolation.proofs.MadeLemmas.{stretch-made}
use Rattle.cdp_host_isolation.proofs.PassLemmas.{behind-each, over-mids}
use Rattle.js_tree.specs.declared.script.Script.{Script}
use Rattle.js_heap.specs.declared.value.Value.{Value}
use Rattle.js_semantics.specs.Run.{Run}
use Rattle.js_heap_memory.specs.Heaps.{Heap}
use Rattle.js_machine.specs.Machines.{Machine, IsKept}
use Rattle.stepping.specs.declared.arrival.Arrival.{Arrival}
use Rattle.cdp_session.specs.declared.ending.Ending.{Ending}
use Rattle.cdp_session.specs.declared.situation.Pause.{Pause}
use Rattle.cdp_session.specs.Sessions.{Session}
use Rattle.cdp_session.specs.Situations.{Standing}
use Rattle.cdp_session.specs.Stops.{cause_of}
use Rattle.cdp_host.specs.Histories.{Meaning}
use Rattle.cdp_host.specs.Programs.{arrival_of, next, nexts, is_over, prints_next}
use Rattle.cdp_host.specs.Protocols.{pause_at, protocol}
use Rattle.cdp_host.specs.Standings.{ending_of, standing_of}
use Rattle.cdp_host.specs.Steps.{Step, seen_behind, step_of, told}
use Rattle.cdp_host.specs.Hosts.{beside, beside_behind, machine_arrival, machine_run, machine_standing, machine_step, pause_behind}
use Rattle.cdp_host.specs.Ran.{Advances, stops_at, stops_seat}
use Rattle.cdp_host.specs.Watching.{prints_last}
use Rattle.cdp_host.proofs.EndingLemmas.{ending-none, ending-taken}
use Rattle.cdp_host.proofs.PartLemmas.{arrives}
use Rattle.cdp_host.proofs.StandingLemmas.{standing-taken}
use Rattle.cdp_text.proofs.TestLemmas.{or_false}

pub nexts-suc : (k : ℕ) (scripts : List Script) (r : Run) → nexts scripts (suc k) r ≡ next scripts (nexts scripts k r)
nexts-suc zero scripts r = refl
nexts-suc (suc k) scripts r = nexts-suc k scripts (next scripts r)

-- the plain run, step by step from the front or from the back
pub plain-nexts : (k : ℕ) (scripts : List Script) (r : Run) → stops_.plain (protocol scripts) k r ≡ nexts scripts k r
plain-nexts zero scripts r = refl
plain-nexts (suc k) scripts r = ap (next scripts) (plain-nexts k scripts r) ∙ sym (nexts-suc k scripts r)

-- so many steps are one behind the others
one_more : (k : ℕ) (scripts : List Script) (r : Run)
    → 0 < k
    → nexts scripts k r ≡ next scripts (nexts scripts (k - 1) r)
one_more zero scripts r few = absurd (omega arith)
one_more (suc j) scripts r few =
    let e : j ≡ suc j - 1 = omega arith in nexts-suc j scripts r ∙ ap (λ i. next scripts (nexts scripts i r)) e

-- ---- steps of which there is nothing to tell

-- a seat names a step that isn't the first exactly where a rule of its session does
named_seat : (scripts : List Script) (t : Step) (seat : Seat Session)
    → t.first ≡ false
    → names_seat (protocol scripts) t seat ≡ stops_seat t.standing t.arrival seat
named_seat scripts t (Attached x) first =
    ap (λ b. is_some (cause_of t.standing t.arrival x) || (b && (x.rules.enabled && not t.standing.over))) first
    ∙ or_false (is_some (cause_of t.standing t.arrival x))
named_seat scripts t (Lost loss is_reported is_told) first = refl
named_seat scripts t Left first = refl

named_seats : (scripts : List Script) (t : Step) (seats : List (Seat Session))
    → t.first ≡ false
    → some (names_seat (protocol scripts) t) seats ≡ stops_at t.standing t.arrival seats
named_seats scripts t [] first = refl
named_seats scripts t (seat ∷ seats) first =
    ap (λ b. b || some (names_seat (protocol scripts) t) seats) (named_seat scripts t seat first)
    ∙ ap (λ b. stops_seat t.standing t.arrival seat || b) (named_seats scripts t seats first)

silent_step : (scripts : List Script) (moment : ℕ) (t : Step) (x : Session)
    → t.values ≡ None
    → t.ending ≡ None
    → told (seen_behind scripts t) moment t x ≡ x
silent_step scripts moment t x values ending = rw (values, ending) refl

quiet : (scripts : List Script) (moment : ℕ) (r : Run) (seats : List (Seat Session))
    → prints_next scripts r ≡ None
    → is_over (next scripts r) ≡ false
    → stops_at (standing_of scripts (next scripts r)) (arrival_of scripts (next scripts r)) seats ≡ false
    → IsQuiet (protocol scripts) moment (step_of scripts false r) seats
quiet scripts moment r seats silent goes unnamed = record {
  silent =
      λ x. silent_step scripts moment (step_of scripts false r) x silent (ending-none scripts (next scripts r) goes);
  unnamed = named_seats scripts (step_of scripts false r) seats refl ∙ unnamed;
}

-- ---- where a machine stands

-- where a machine stands is what its last step told
told_there : (scripts : List Script) (n : Machine) (i : Heap) (after : List (List ℕ)) (values : Option (List Value))
    (first : Bool) (r : Run)
    → IsKept n.ended
    → machine_run n i after ≡ next scripts r
    → values ≡ prints_next scripts r
    → machine_step scripts n i values first ≡ step_of scripts first r
told_there scripts n i after values first r kept reached printed =
    let f : Standing
    → Arrival
    → Option (List Value)
    → Option Ending
    → Step = λ s a v e. record { standing = s; arrival = a; values = v; ending = e; first = first } in
    let s : machine_standing scripts n i ≡ standing_of scripts (next scripts r) = standing-taken scripts
    (record { machine = n; heap = i }) after
    ∙ ap (standing_of scripts) reached in
    let a : machine_arrival scripts n ≡ arrival_of scripts (next scripts r) = arrives scripts n i after kept
    ∙ ap (arrival_of scripts) reached in
    let e : ending_of scripts (machine_run n i []) ≡ ending_of scripts (next scripts r)
    = ending-taken scripts n i [] after
    ∙ ap (ending_of scripts) reached in
    ap (λ x. f x (machine_arrival scripts n) values (ending_of scripts (machine_run n i []))) s
    ∙ ap (λ x. f (standing_of scripts (next scripts r)) x values (ending_of scripts (machine_run n i []))) a
    ∙ ap (λ x. f (standing_of scripts (next scripts r)) (arrival_of scripts (next scripts r)) x
    (ending_of scripts (machine_run n i [])))
    printed
    ∙ ap (λ x. f (standing_of scripts (next scripts r)) (arrival_of scripts (next scripts r)) (prints_next scripts r) x)
    e

-- ---- what is kept beside it

beside_first : (b : Bool) → is_first (if b then Woken else Running) ≡ b
beside_first true = refl
beside_first false = refl

beside_waits : (b : Bool) → waits (if b then Woken else Running) ≡ false
beside_waits true = refl
beside_waits false = refl

beside_free : (first : Bool) (stops : ℕ) (seats : List (Seat Session)) (r : Run)
    → some waits_for_report seats ≡ false
    → is_held (beside first stops seats r) ≡ false
beside_free first stops seats r told_all = rw (beside_waits first, told_all) refl

beside_runs : (first : Bool) (k : ℕ) → (first ≡ true → k ≡ 1) → 1 < k → (if first then Woken else Running) ≡ Running
beside_runs true k one more = let e = one refl in absurd (omega (arith, e, more))
beside_runs false k one more = refl

stop_there : (scripts : List Script) (stops : ℕ) (stopped : Option ℕ) (q : Run)
    → IfSome stopped (λ depth. depth ≡ (arrival_of scripts q).depth)
    → option_map (pause_behind stops) stopped ≡
    (if is_some stopped then Some (pause_at scripts (next_number stops) q) else None)
stop_there scripts stops None q there = refl
stop_there scripts stops (Some depth) q there = ap (λ d. Some (pause_behind stops d)) there

-- behind the step it is what the definition says
behind_same : (scripts : List Script) (moment : ℕ) (first : Bool) (stops : ℕ) (seats news : List (Seat Session))
    (flags : List Bool) (r q : Run) (t : Step) (stopped : Option ℕ)
    → IfSome stopped (λ depth. depth ≡ (arrival_of scripts q).depth)
    → Over (Behind (protocol scripts) (is_some stopped) (next_number stops) moment t) seats news flags
    → beside_behind stopped stops news q ≡ behind (protocol scripts) moment (fallen_in news) t q (is_some stopped)
    (beside first stops seats r)
behind_same scripts moment first stops seats news flags r q t stopped there over =
    let f : Option Pause → List (Seat Session) → Meaning Run =
    λ o ss. record {
      program = q;
      phase = Running;
      stop = o;
      stops = if is_some stopped then next_number stops else stops;
      shut = false;
      seats = ss;
    } in
    let each_of = behind-each (protocol scripts) (is_some stopped) (next_number stops) moment t seats news flags over in
    ap (λ o. f o news) (stop_there scripts stops stopped q there)
    ∙ ap (f (if is_some stopped then Some (pause_at scripts (next_number stops) q) else None))
    (each_of.0
    ∙ ap (each (seat_behind (protocol scripts) (is_some stopped) (next_number stops) moment t))
    (over-mids (Behind (protocol scripts) (is_some stopped) (next_number stops) moment t)
    seats news flags over))

pub advance-made : (scripts : List Script) (moment most k : ℕ) (m n : Machine) (h i : Heap) (first : Bool) (stops : ℕ)
    (seats news : List (Seat Session)) (flags : List Bool)
    → (stopped : Option ℕ) (values : Option (List Value)) (before after : List (List ℕ))
    → Advances scripts seats most k (machine_run m h before) (machine_run n i after)
    → IsKept n.ended
    → (first ≡ true → k ≡ 1)
    → AllFit (protocol scripts) seats
    → some waits_for_report seats ≡ false
    → values ≡ prints_last scripts k (machine_run m h before)
    → IfSome stopped (λ depth. depth ≡ (machine_arrival scripts n).depth)
    → Over (Behind (protocol scripts) (is_some stopped) (next_number stops) moment
    (machine_step scripts n i values first))
    seats news flags
    → is_some stopped ≡ any_set flags
    → HasMade (protocol scripts) moment (beside first stops seats (machine_run m h before))
    (beside_behind stopped stops news (machine_run n i after)) k
advance-made scripts moment most k m n h i first stops seats news flags stopped values before after steps kept one fit
    told_all printed there over any =
    let P = protocol scripts in
    let r : Run = machine_run m h before in
    let q : Run = machine_run n i after in
    let a : Meaning Run = beside first stops seats r in
    let t : Step = machine_step scripts n i values first in
    let reached : q ≡ next scripts (nexts scripts (k - 1) r) = steps.reached ∙ one_more k scripts r steps.counts.some in
    let same : t ≡ step_of scripts first (nexts scripts (k - 1) r) = told_there scripts n i after values first
    (nexts scripts (k - 1) r) kept reached printed in
    let arrived : IfSome stopped (λ depth. depth ≡ (arrival_of scripts q).depth) =
    subst (λ b. IfSome stopped (λ depth. depth ≡ b.depth)) (arrives scripts n i after kept) there in
    let each_of = behind-each P (is_some stopped) (next_number stops) moment t seats news flags over in
    let middle = over-mids (Behind P (is_some stopped) (next_number stops) moment t) seats news flags over in
    stretch-made P moment k a (is_some stopped) t (beside_behind stopped stops news q)
    steps.counts.some
    (beside_free first stops seats r told_all)
    (λ more. beside_runs first k one more)
    (λ j below.
    let there_j = plain-nexts j scripts r in
    let further : next scripts (nexts scripts j r) ≡ nexts scripts (suc j) r = sym (nexts-suc j scripts r) in
    let Q : Run → Type 0 = λ s. IsQuiet P moment (step_of scripts false s) seats in
    subst Q (sym there_j)
    (quiet scripts moment (nexts scripts j r) seats (steps.silent j below)
    (ap is_over further ∙ steps.runs (suc j) (omega (arith, below)))
    (ap (λ s. stops_at (standing_of scripts s) (arrival_of scripts s) seats) further
    ∙ steps.passes (suc j) (omega arith) (omega (arith, below)))))
    fit
    (λ j below. ap is_over (plain-nexts j scripts r) ∙ steps.runs j below)
    (same
    ∙ ap (λ b. step_of scripts b (nexts scripts (k - 1) r)) (sym (beside_first first))
    ∙ ap (step_of scripts (is_first (if first then Woken else Running))) (sym (plain-nexts (k - 1) scripts r)))
    (any ∙ each_of.1 ∙ ap (some (stops_for P (next_number stops) moment t)) middle)
    (behind_same scripts moment first stops seats news flags r q t stopped arrived over
    ∙ ap (λ s. behind P moment (fallen_in news) t s (is_some stopped) a)
    (steps.reached ∙ sym (plain-nexts k scripts r)))

-- ---- a host that may make a step

-- it isn't held, and its program isn't over
pub ready-parts : (scripts : List Script) (m : Meaning Run)
    → is_ready (protocol scripts) m ≡ true
    → (is_held m ≡ false) × (is_over m.program ≡ false)
ready-parts scripts m go =
    let parts = and_parts (not (is_held m)) (not (is_over m.program)) go in
    (not-true (is_held m) parts.0, not-true (is_over m.program) parts.1)

held_none : (stop : Option Pause) (phase : Phase) (shut waiting : Bool)
    → (is_some stop || (waits phase || (shut || waiting))) ≡ false
    → (stop ≡ None) × (phase ≡ (if is_first phase then Woken else Running)) × (shut ≡ false) × (waiting ≡ false)
held_none (Some p) phase shut waiting free = absurd cc
held_none None Waiting shut waiting free = absurd cc
held_none None Woken true waiting free = absurd cc
held_none None Running true waiting free = absurd cc
held_none None Woken false true free = absurd cc
held_none None Running false true free = absurd cc
held_none None Woken false false free = (refl, refl, refl, refl)
held_none None Running false false free = (refl, refl, refl, refl)

-- so all losses were told
pub free-told : (m : Meaning Run) → is_held m ≡ false → some waits_for_report m.seats ≡ false
free-told m free = (held_none m.stop m.phase m.shut (some waits_for_report m.seats) free).3

-- and beside its program it is as what was made says
pub free-beside : (m : Meaning Run) → is_held m ≡ false → m ≡ beside (is_first m.phase) m.stops m.seats m.program
free-beside m free =
    let parts = held_none m.stop m.phase m.shut (some waits_for_report m.seats) free in
    let f : Option Pause
    → Phase
    → Bool
    → Meaning Run = λ o p b. record {
      program = m.program;
      phase = p;
      stop = o;
      stops = m.stops;
      shut = b;
      seats = m.seats;
    } in
    ap (λ o. f o m.phase m.shut) parts.0
    ∙ ap (λ p. f None p m.shut) parts.1
    ∙ ap (f None (if is_first m.phase then Woken else Running)) parts.2

pub free-shut : (m : Meaning Run) → is_held m ≡ false → m.shut ≡ false
free-shut m free = (held_none m.stop m.phase m.shut (some waits_for_report m.seats) free).2
