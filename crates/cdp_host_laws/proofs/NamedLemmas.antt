-- Which arrivals a session names by what it asks for.
use Rattle.std.proofs.Common.{◌≡◌, Bool, true, false, ◌&&◌, ◌||◌, not, is_some, if◌then◌else◌, Option, Some, None, refl, ap, ◌∙◌}
use Rattle.cdp_text.specs.declared.position.Place.{Place}
use Rattle.cdp_text.proofs.TestLemmas.{or_false}
use Rattle.stepping.specs.declared.arrival.Arrival.{Arrival}
use Rattle.stepping.specs.declared.rules.Exceptions.{Exceptions}
use Rattle.stepping.specs.declared.rules.Rules.{Rules}
use Rattle.stepping.specs.declared.rules.StepRequest.{StepRequest}
use Rattle.stepping.specs.declared.cause.Cause.TheVariants as causes
use Rattle.stepping.specs.Causes.{cause_at, first_cause, is_place, step_ends, stops_at_raise}
use Rattle.cdp_session.specs.Conditions.{is_some_hit}
use Rattle.cdp_session.specs.Sessions.{Session}
use Rattle.cdp_session.specs.Stops.{cause_of, hits_of}
use Rattle.cdp_host.specs.Steps.{Step, names_stop}

-- what a session asks for that has the debugger enabled and doesn't skip pauses
pub record Asks (x : Session) (exceptions : Exceptions) (pause : Bool) (step : Option StepRequest) (to : Option Place)
    : Type 0 where
  pub enabled : x.rules.enabled ≡ true
  pub heeds : x.rules.skip ≡ false
  pub same_throws : x.rules.exceptions ≡ exceptions
  pub same_pause : x.rules.pause ≡ pause
  pub same_step : x.rules.step ≡ step
  pub same_place : x.rules.to ≡ to

-- an arrival is named so, where a breakpoint is hit there or isn't
abbrev pub names_at : Bool → Option StepRequest → Option Place → Bool → Arrival → Option Place → Bool
names_at pause step to hit a None = false
names_at pause step to hit a (Some place) =
    hit || (a.debugger || (pause || (step_ends step a.depth || is_place to place)))

first_there : (hit debugger pause ends here : Bool)
    → is_some
    (if hit then Some causes.Breakpoint
    else if debugger then Some causes.DebuggerStatement
    else if pause then Some causes.Pause
    else if ends then Some causes.Step
    else if here then Some causes.ContinueTo else None)
    ≡ (hit || (debugger || (pause || (ends || here))))
first_there true debugger pause ends here = refl
first_there false true pause ends here = refl
first_there false false true ends here = refl
first_there false false false true here = refl
first_there false false false false true = refl
first_there false false false false false = refl

by_place : (r : Rules) (a : Arrival) (hit : Bool) (o : Option Place)
    → is_some (cause_at r a hit o) ≡ names_at r.pause r.step r.to hit a o
by_place r a hit None = refl
by_place r a hit (Some place) = first_there hit a.debugger r.pause (step_ends r.step a.depth) (is_place r.to place)

raised_or : (raises : Bool) (r : Rules) (a : Arrival) (hit : Bool) (o : Option Place)
    → is_some (if raises then Some causes.Exception else cause_at r a hit o)
    ≡ (raises || names_at r.pause r.step r.to hit a o)
raised_or true r a hit o = refl
raised_or false r a hit o = by_place r a hit o

-- the causes of rules that are heeded
by_rules : (r : Rules) (a : Arrival) (hit : Bool) → r.enabled ≡ true → r.skip ≡ false
    → is_some (first_cause r a hit)
    ≡ (stops_at_raise r.exceptions a.raised || names_at r.pause r.step r.to hit a a.place)
by_rules r a hit on heeds =
    ap (λ b. is_some (if not b || r.skip then None
    else if stops_at_raise r.exceptions a.raised then Some causes.Exception else cause_at r a hit a.place)) on
    ∙ ap (λ b. is_some (if b then None else if stops_at_raise r.exceptions a.raised then Some causes.Exception
    else cause_at r a hit a.place)) heeds
    ∙ raised_or (stops_at_raise r.exceptions a.raised) r a hit a.place

-- what such a session names, where the start rule has no say
pub names-by : (t : Step) (x : Session) (exceptions : Exceptions) (pause : Bool) (step : Option StepRequest)
    (to : Option Place)
    → t.first ≡ false
    → Asks x exceptions pause step to
    → names_stop t x
    ≡ (stops_at_raise exceptions t.arrival.raised ||
    names_at pause step to (is_some_hit (hits_of t.standing t.arrival x)) t.arrival t.arrival.place)
names-by t x exceptions pause step to first asks =
    let a : Arrival = t.arrival in
    let hit : Bool = is_some_hit (hits_of t.standing a x) in
    ap (λ b. is_some (cause_of t.standing a x) || (b && (x.rules.enabled && not t.standing.over))) first
    ∙ or_false (is_some (cause_of t.standing a x))
    ∙ by_rules x.rules a hit asks.enabled asks.heeds
    ∙ ap (λ e. stops_at_raise e a.raised || names_at x.rules.pause x.rules.step x.rules.to hit a a.place)
    asks.same_throws
    ∙ ap (λ p. stops_at_raise exceptions a.raised || names_at p x.rules.step x.rules.to hit a a.place) asks.same_pause
    ∙ ap (λ o. stops_at_raise exceptions a.raised || names_at pause o x.rules.to hit a a.place) asks.same_step
    ∙ ap (λ o. stops_at_raise exceptions a.raised || names_at pause step o hit a a.place) asks.same_place
