-- What a session asks for (Chrome DevTools Protocol 1.3, domains Debugger and Runtime).
use Rattle.std.specs.Prelude.{◌≡◌, ℕ, List, Bool, true, false, not, ◌&&◌, bytes_eq, None}
use Rattle.std.specs.List.{list_any}
use Rattle.cdp_text.specs.declared.position.Place.{Place}
use Rattle.serde_json.specs.Read.{read}
use Rattle.cdp_json.specs.Commands.{reading_of}
use Rattle.cdp_json.specs.declared.command.Reading.TheVariants.{Command}
use Rattle.cdp_json.specs.declared.method.Method.{Method}
use Rattle.cdp_json.specs.declared.params.Params.{Params}
use Rattle.breakpoints.specs.Breakpoints.{is_hit}
use Rattle.breakpoints.specs.Hits.{stands_at}
use Rattle.breakpoints.specs.declared.breakpoint.Breakpoint.{Breakpoint}
use Rattle.stepping.specs.declared.rules.Exceptions.TheVariants as throws
use Rattle.cdp_session.specs.Sessions.{Session}

-- a text is read as this command
pub record IsRead (text : List ℕ) (command : Params) : Type 0 where
  pub id : ℕ
  pub method : Method
  pub reads : reading_of (read text) ≡ Command id method command

-- a breakpoint stands at a place, and has another id than this
abbrev pub stands_beside : List ℕ → Place → Breakpoint → Bool
stands_beside id place b = stands_at place b && not (bytes_eq b.id id)

-- a session has the breakpoints that it had, but for those of this id
abbrev pub HasOthersThan : List ℕ → Session → Session → Type 0
HasOthersThan id x y =
    (place : Place)
    → is_hit place y.breakpoints ≡ (x.breakpoints.active && list_any (stands_beside id place) x.breakpoints.set)

-- a session asks for nothing: it hasn't the debugger enabled, and were it enabled, no rule of it would stop a program
pub record AsksNothing (x : Session) : Type 0 where
  pub disabled : x.rules.enabled ≡ false
  pub heeds : x.rules.skip ≡ false
  pub no_throws : x.rules.exceptions ≡ throws.Never
  pub no_pause : x.rules.pause ≡ false
  pub no_step : x.rules.step ≡ None
  pub no_place : x.rules.to ≡ None
  pub no_breakpoint : (place : Place) → is_hit place x.breakpoints ≡ false
  pub active : x.breakpoints.active ≡ true
