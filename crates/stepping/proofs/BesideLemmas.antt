-- Which steps are named beside breakpoints.
use Rattle.std.proofs.Common.{◌≡◌, ◌↔◌, false, Option, Some, None, is_some, IsTrue, IfSome, IfNone, refl, subst}
use Rattle.std.proofs.lemmas.Bool.{false≢true}
use Rattle.stepping.specs.declared.rules.Rules.{Rules}
use Rattle.stepping.specs.declared.arrival.Arrival.{Arrival}
use Rattle.stepping.specs.declared.cause.Cause.{Cause}
use Rattle.stepping.specs.declared.cause.Cause.TheVariants as causes
use Rattle.stepping.specs.Beside.{IsNamedBeside}
use Rattle.stepping.specs.Causes.{Applies, Holds, IsFirst, NoneHolds}

-- no breakpoint is hit, so that rule doesn't hold
not-hit : (r : Rules) (a : Arrival) (c : Cause) → Holds r a false c → ¬ (c ≡ causes.Breakpoint)
not-hit r a c h e =
    let applies : Applies r a false causes.Breakpoint = subst (Applies r a false) e h.applies in
    false≢true applies.1

pub named-beside : (r : Rules) (a : Arrival) (o : Option Cause)
    → IfSome o (IsFirst r a false)
    → IfNone o (NoneHolds r a false)
    → IsTrue (is_some o) ↔ IsNamedBeside r a
named-beside r a (Some c) first none =
    (λ _. record { cause = c; other = not-hit r a c first.holds; holds = first.holds }, λ _. refl)
named-beside r a None first none = (λ f. absurd (false≢true f), λ n. absurd (none n.cause n.holds))
