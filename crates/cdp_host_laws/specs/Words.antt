-- Where a command lets the program stop (Chrome DevTools Protocol 1.3, domain Debugger), by where it arrived.
--
-- Nothing here cites the rules by which sessions name stops: the laws say that those come to this.
use Rattle.std.specs.Prelude.{◌≡◌, ◌⊎◌, ℕ, List, [], ◌∷◌, Bool, true, false, nat_eq, nat_le, nat_lt, ◌&&◌, ◌||◌, is_some, Option, Some, None}
use Rattle.std.specs.List.{Contains}
use Rattle.cdp_text.specs.Position.{IsBefore}
use Rattle.cdp_text.specs.declared.position.Place.{Place}
use Rattle.cdp_text.specs.declared.position.Pos.{Pos}
use Rattle.js_tree.specs.declared.script.Script.{Script}
use Rattle.js_semantics.specs.Run.{Run}
use Rattle.locations.specs.Locations.{break_locations}
use Rattle.locations.specs.declared.spot.Spot.{Spot}
use Rattle.stepping.specs.declared.arrival.Arrival.{Arrival}
use Rattle.pure_eval.specs.Workspaces.{Workspace}
use Rattle.cdp_session.specs.Conditions.{holds}
use Rattle.cdp_host.specs.Programs.{arrival_of}
use Rattle.cdp_host.specs.Standings.{standing_of}

-- it is at a `debugger` statement
abbrev pub at_debugger : Arrival → Bool
at_debugger a = is_some a.place && a.debugger

-- `Debugger.stepInto` stops at the next break location, in whatever call
abbrev pub steps_into : Arrival → Bool
steps_into a = is_some a.place

-- `Debugger.stepOver` stops at the next break location that isn't in a call made meanwhile, or at a `debugger`
-- statement
abbrev pub steps_over : ℕ → Arrival → Bool
steps_over depth a = is_some a.place && (a.debugger || nat_le a.depth depth)

-- `Debugger.stepOut` stops at the next break location after the call has returned, or at a `debugger` statement
abbrev pub steps_out : ℕ → Arrival → Bool
steps_out depth a = is_some a.place && (a.debugger || nat_lt a.depth depth)

-- `Debugger.pause` stops at the next break location
abbrev pub pauses_at : Arrival → Bool
pauses_at a = is_some a.place

-- it is at this place: the script, the line and the column are the same
abbrev pub is_at : Place → Option Place → Bool
is_at place None = false
is_at place (Some here) =
    nat_eq place.script here.script && nat_eq place.pos.line here.pos.line && nat_eq place.pos.col here.pos.col

-- `Debugger.continueToLocation` stops at the place, or at a `debugger` statement
abbrev pub reaches : Place → Arrival → Bool
reaches place a = is_some a.place && (a.debugger || is_at place a.place)

-- a throw was raised
abbrev pub raised_any : Option Bool → Bool
raised_any None = false
raised_any (Some uncaught) = true

-- a throw was raised that no `catch` takes
abbrev pub raised_uncaught : Option Bool → Bool
raised_uncaught None = false
raised_uncaught (Some true) = true
raised_uncaught (Some false) = false

-- `Debugger.setPauseOnExceptions` with `all` stops at each throw that is raised, and at a `debugger` statement
abbrev pub at_any_throw : Arrival → Bool
at_any_throw a = raised_any a.raised || at_debugger a

-- with `uncaught` it stops at each throw that is raised and that no `catch` takes
abbrev pub at_uncaught_throw : Arrival → Bool
at_uncaught_throw a = raised_uncaught a.raised || at_debugger a

-- ---- places

-- it is at one of these places
abbrev pub is_at_any : List Place → Option Place → Bool
is_at_any [] here = false
is_at_any (place ∷ places) here = is_at place here || is_at_any places here

-- a breakpoint that stands at these places stops there, or at a `debugger` statement
abbrev pub reaches_any : List Place → Arrival → Bool
reaches_any places a = is_some a.place && (a.debugger || is_at_any places a.place)

-- a place in a script is that of its first break location that isn't before a position
pub record IsFirstFrom (script : Script) (from : Pos) (place : Place) : Type 0 where
  pub spot : Spot
  pub there : place ≡ record { script = script.number; pos = spot.pos }
  pub stands : Contains (break_locations script) spot
  pub not_before : ¬ IsBefore spot.pos from
  pub first : (other : Spot)
      → Contains (break_locations script) other
      → ¬ IsBefore other.pos from
      → ¬ IsBefore other.pos spot.pos

-- the places begin with that of a script of this URL, the first from a position
pub record StandsIn (url : List ℕ) (from : Pos) (script : Script) (places rest : List Place) : Type 0 where
  pub of_url : script.url ≡ url
  pub place : Place
  pub is_first : IsFirstFrom script from place
  pub more : places ≡ place ∷ rest

-- or the script has another URL, or no break location from there on
pub record StandsNotIn (url : List ℕ) (from : Pos) (script : Script) (places rest : List Place) : Type 0 where
  pub none : script.url ≡ url → (spot : Spot) → Contains (break_locations script) spot → IsBefore spot.pos from
  pub same : places ≡ rest

-- the places are, script by script, those of the first break locations in the scripts of a URL that aren't before a
-- position
abbrev pub AreFirstsOf : List Script → List ℕ → Pos → List Place → Type 0
AreFirstsOf [] url from places = places ≡ []
AreFirstsOf (script ∷ scripts) url from places =
    (rest : List Place)
    × AreFirstsOf scripts url from rest
    × (StandsIn url from script places rest ⊎ StandsNotIn url from script places rest)

-- a program stands at a breakpoint with this place and condition, which holds there, or at a `debugger` statement
abbrev pub breaks_where : List Script → Workspace → Place → List ℕ → Run → Bool
breaks_where scripts workspace place condition r =
    is_some (arrival_of scripts r).place && ((arrival_of scripts r).debugger ||
    (is_at place (arrival_of scripts r).place && holds (standing_of scripts r) workspace condition))
