-- A step that is named beside breakpoints.
use Rattle.std.specs.Prelude.{◌≡◌, ◌&&◌, Bool, false, is_some, not}
use Rattle.stepping.specs.declared.rules.Rules.{Rules}
use Rattle.stepping.specs.declared.arrival.Arrival.{Arrival}
use Rattle.stepping.specs.declared.cause.Cause.{Cause}
use Rattle.stepping.specs.declared.cause.Cause.TheVariants as causes
use Rattle.stepping.specs.Causes.{Holds}

-- a rule other than that of breakpoints holds: no other asks whether a breakpoint was hit
pub record IsNamedBeside (r : Rules) (a : Arrival) : Type 0 where
  pub cause : Cause
  pub other : ¬ (cause ≡ causes.Breakpoint)
  pub holds : Holds r a false cause

-- the step led to no `debugger` statement, and raised nothing
abbrev pub is_plain : Arrival → Bool
is_plain a = not a.debugger && not (is_some a.raised)
