-- Where nothing was asked for, breakpoints alone name a plain step.
use Rattle.std.proofs.Common.{◌≡◌, Bool, true, false, not, ◌||◌, Option, Some, None, is_some, if◌then◌else◌, refl, ap, ◌∙◌, true≢false}
use Rattle.std.proofs.lemmas.Bool.{and_parts, not-true, or_parts}
use Rattle.cdp_text.specs.declared.position.Place.{Place}
use Rattle.stepping.specs.declared.rules.Rules.{Rules}
use Rattle.stepping.specs.declared.rules.Exceptions.{Exceptions}
use Rattle.stepping.specs.declared.rules.Exceptions.TheVariants as throws
use Rattle.stepping.specs.declared.rules.StepRequest.{StepRequest}
use Rattle.stepping.specs.declared.arrival.Arrival.{Arrival}
use Rattle.stepping.specs.declared.cause.Cause.{Cause}
use Rattle.stepping.specs.declared.cause.Cause.TheVariants as causes
use Rattle.stepping.specs.Beside.{is_plain}
use Rattle.stepping.specs.Causes.{cause_at, cause_there, first_cause, is_place, step_ends, stops_at_raise}
use Rattle.stepping.specs.Rules.{has_request}

none-of : {A : Type 0} (o : Option A) → is_some o ≡ false → o ≡ None
none-of None is = refl
none-of (Some x) is = absurd (true≢false is)

-- no throw is none of any kind
calm : (e : Exceptions) → stops_at_raise e None ≡ false
calm throws.Never = refl
calm throws.Uncaught = refl
calm throws.All = refl

-- a place at which nothing is met that was asked for
passed : (r : Rules) (a : Arrival) (place : Place)
    → a.debugger ≡ false
    → r.pause ≡ false
    → r.step ≡ None
    → r.to ≡ None
    → cause_there r a false place ≡ None
passed r a place no_statement no_pause no_step no_place =
    let runs : Option Place → Option Cause = λ to. if is_place to place then Some causes.ContinueTo else None in
    let steps : Option StepRequest → Option Cause = λ step.
    if step_ends step a.depth then Some causes.Step else runs r.to in
    let pauses : Bool → Option Cause = λ pause. if pause then Some causes.Pause else steps r.step in
    ap (λ b. if b then Some causes.DebuggerStatement else pauses r.pause) no_statement
    ∙ ap pauses no_pause
    ∙ ap steps no_step
    ∙ ap runs no_place

unnamed-by : (silent raised : Bool) (r : Rules) (a : Arrival) (o : Option Place)
    → raised ≡ false
    → ((place : Place) → cause_there r a false place ≡ None)
    → is_some (if silent then None else if raised then Some causes.Exception else cause_at r a false o) ≡ false
unnamed-by true raised r a o quiet none = refl
unnamed-by false true r a o quiet none = absurd (true≢false quiet)
unnamed-by false false r a None quiet none = refl
unnamed-by false false r a (Some place) quiet none = ap (λ c. is_some c) (none place)

-- no other rule names a plain step where nothing was asked for
pub plain-unnamed : (r : Rules) (a : Arrival)
    → has_request r ≡ false
    → is_plain a ≡ true
    → is_some (first_cause r a false) ≡ false
plain-unnamed r a nothing plain =
    let parts = or_parts r.pause (is_some r.step || is_some r.to) nothing in
    let later = or_parts (is_some r.step) (is_some r.to) parts.1 in
    let marks = and_parts (not a.debugger) (not (is_some a.raised)) plain in
    let no_throw = none-of a.raised (not-true (is_some a.raised) marks.1) in
    unnamed-by (not r.enabled || r.skip) (stops_at_raise r.exceptions a.raised) r a a.place
    (ap (stops_at_raise r.exceptions) no_throw ∙ calm r.exceptions)
    (λ place. passed r a place (not-true a.debugger marks.0) parts.0 (none-of r.step later.0) (none-of r.to later.1))
