-- Where no session may name a stop.
use Rattle.std.proofs.Common.{◌≡◌, ℕ, ◌-◌, List, [], ◌∷◌, length, Bool, true, false, not, ◌||◌, is_some, Option, Some, None, refl, ap, sym, ◌∙◌}
use Rattle.std.specs.Option.{option_map}
use Rattle.cdp_host_isolation.specs.declared.seat.Seat.{Seat}
use Rattle.cdp_host_isolation.specs.declared.seat.Seat.TheVariants.{Attached, Lost, Left}
use Rattle.js_machine_inspection.specs.Catchers.{standing_throw}
use Rattle.js_machine_inspection.specs.Sources.{spans_in}
use Rattle.js_machine_inspection.specs.declared.standing.Thrown.{Thrown}
use Rattle.js_semantics.specs.Frames.{active, at, is_debugger, thrown, StandingThrow}
use Rattle.js_semantics.specs.State.{Frame, top_spot}
use Rattle.js_semantics.specs.Terms.{Term}
use Rattle.js_semantics.specs.declared.form.Mark.{Mark}
use Rattle.js_tree.specs.declared.script.Script.{Script}
use Rattle.stepping.specs.declared.arrival.Arrival.{Arrival}
use Rattle.cdp_session.specs.Sessions.{Session}
use Rattle.cdp_host.specs.Arrivals.{arrival_at, is_uncaught, place_at}
use Rattle.cdp_host.specs.Ran.{may_stop, may_stop_seat}
use Rattle.cdp_host.proofs.PartLemmas.{unraised}

-- what a test for nothing says
pub tested-none : {A : Type 0} → (o : Option A) (b : Bool) → is_some o ≡ not b → b ≡ true → o ≡ None
tested-none None b same is = refl
tested-none (Some x) b same is = let e : true ≡ false = same ∙ ap not is in absurd cc

-- a step that arrives nowhere and raised nothing
abbrev nowhere : ℕ → Bool → Arrival
nowhere depth debugger = record { place = None; depth = depth; debugger = debugger; raised = None }

unnamed_seat : (depth : ℕ) (debugger : Bool) (seat : Seat Session) → may_stop_seat (nowhere depth debugger) seat ≡ false
unnamed_seat depth debugger (Attached x) = unraised (not x.rules.enabled || x.rules.skip) x.rules.exceptions
unnamed_seat depth debugger (Lost loss is_reported is_told) = refl
unnamed_seat depth debugger Left = refl

unnamed : (depth : ℕ) (debugger : Bool) (seats : List (Seat Session)) → may_stop (nowhere depth debugger) seats ≡ false
unnamed depth debugger [] = refl
unnamed depth debugger (seat ∷ seats) = rw (unnamed_seat depth debugger seat) (unnamed depth debugger seats)

-- no session names such a step
pub unnamed-where : (scripts : List Script) (t : Term) (frames : List Frame) (seats : List (Seat Session))
    (mark : Option Mark) (throw : Option Thrown)
    → mark ≡ at (spans_in scripts (top_spot frames).source) t
    → standing_throw throw ≡ thrown t
    → mark ≡ None
    → throw ≡ None
    → false ≡ may_stop (arrival_at scripts t frames) seats
unnamed-where scripts t frames seats mark throw marks throws_it no_mark no_throw =
    let f : Option Mark → Option StandingThrow → Arrival = λ o r. record {
      place = place_at scripts (top_spot frames).source o;
      depth = length frames - 1;
      debugger = is_debugger (active t);
      raised = option_map is_uncaught r;
    } in
    let here : at (spans_in scripts (top_spot frames).source) t ≡ None = sym marks ∙ no_mark in
    let raised : thrown t ≡ None = sym throws_it ∙ ap standing_throw no_throw in
    sym
    (ap (λ o. may_stop (f o (thrown t)) seats) here
    ∙ ap (λ r. may_stop (f None r) seats) raised
    ∙ unnamed (length frames - 1) (is_debugger (active t)) seats)
