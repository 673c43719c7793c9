-- What an evaluation may change of its session, and what ends it.
use Rattle.std.specs.Prelude.{◌≡◌, ℕ, ◌≤◌, [], length, take, codes, Option, Some, None, option_and_then}
use Rattle.cdp_json.specs.Json.{Json, text}
use Rattle.cdp_session.specs.Objects.{numbered}
use Rattle.cdp_session.specs.Rows.{Row, Refuses, Does}
use Rattle.cdp_session.specs.Sessions.{Session}
use Rattle.cdp_session_laws.specs.Members.{value_of}
use Rattle.cdp_session.specs.declared.asks.Asks.TheVariants.{Nothing}

-- A session has all that another has, but for new handles, for what the evaluations made since, and for the count of
-- exceptions. Where no handle was made, what its evaluations made and kept is as before. Cells that they made before
-- stay as they are.
pub record OnlyEvaluates (x y : Session) : Type 0 where
  pub number : y.number ≡ x.number
  pub rules : y.rules ≡ x.rules
  pub runtime : y.runtime ≡ x.runtime
  pub breakpoints : y.breakpoints ≡ x.breakpoints
  pub outbox : y.outbox ≡ x.outbox
  pub counted : x.handles.made ≤ y.handles.made
  pub handles : (n : ℕ) → n ≤ x.handles.made → numbered y.handles.held n ≡ numbered x.handles.held n
  pub cells : take (length x.workspace.scratch.cells) y.workspace.scratch.cells ≡ x.workspace.scratch.cells
  pub forgets : y.handles ≡ x.handles → y.workspace ≡ x.workspace

-- a command is refused, or it only evaluates: it sends nothing but its reply, and asks nothing of the program
abbrev pub IsOnlyEvaluation : Session → Row → Type 0
IsOnlyEvaluation x (Refuses why) = Unit {0}
IsOnlyEvaluation x (Does done) =
    OnlyEvaluates x done.session × (done.before ≡ []) × (done.events ≡ []) × (done.asks ≡ Nothing)

-- the error that says that an evaluation would have had an effect
abbrev pub IsEffectError : Option Json → Type 0
IsEffectError None = ⊥
IsEffectError (Some j) =
    (value_of (codes "className") j ≡ Some (text (codes "EvalError"))) × (value_of (codes "description") j
    ≡ Some (text (codes "EvalError: Possible side-effect in debug-evaluate")))

-- a reply has that error as its result and as its exception
abbrev pub RepliesEffect : Row → Type 0
RepliesEffect (Refuses why) = ⊥
RepliesEffect (Does done) =
    IsEffectError (value_of (codes "result") done.result) × IsEffectError
    (option_and_then (value_of (codes "exception")) (value_of (codes "exceptionDetails") done.result))
