-- A session that asks for one step and for nothing else.
use Rattle.std.specs.Prelude.{◌≡◌, ℕ, true, false, Some, None}
use Rattle.stepping.specs.declared.rules.Rules.{Rules}
use Rattle.stepping.specs.declared.rules.Exceptions.TheVariants as throws
use Rattle.stepping.specs.declared.rules.StepKind.{StepKind}

-- it is enabled, and has a request for a step of this kind, asked for at this depth
pub record AsksForStep (r : Rules) (kind : StepKind) (depth : ℕ) : Type 0 where
  pub enabled : r.enabled ≡ true
  pub heeded : r.skip ≡ false
  pub no_throws : r.exceptions ≡ throws.Never
  pub no_pause : r.pause ≡ false
  pub step : r.step ≡ Some (record { kind = kind; depth = depth })
  pub no_place : r.to ≡ None
