-- By which rule a session names a stop, and what a stop and a resume do to it.
use Rattle.std.specs.Prelude.{◌≡◌, ℕ, List, [], Bool, true, false, map, is_some, if◌then◌else◌, Option, Some, None}
use Rattle.cdp_text.specs.declared.position.Place.{Place}
use Rattle.stepping.specs.declared.arrival.Arrival.{Arrival}
use Rattle.stepping.specs.declared.cause.Cause.{Cause}
use Rattle.stepping.specs.Causes.{first_cause}
use Rattle.stepping.specs.Rules.{without_requests}
use Rattle.breakpoints.specs.Breakpoints as breakpoints
use Rattle.breakpoints.specs.Breakpoints.{id_of, is_hit}
use Rattle.breakpoints.specs.declared.breakpoint.Breakpoint.{Breakpoint}
use Rattle.object_groups.specs.Handles as handles
use Rattle.remote_objects.specs.Making.{Made}
use Rattle.cdp_session.specs.Conditions.{hits, is_some_hit}
use Rattle.cdp_session.specs.Pauses.{pause_told}
use Rattle.cdp_session.specs.Sessions.{Session, sent, with_handles, with_rules, without_backtrace, if_enabled}
use Rattle.cdp_session.specs.Situations.{Situation, Standing}
use Rattle.cdp_session_messages.specs.Results.{resumed_text}

-- ---- the rules

-- the breakpoints of the session that are hit where the program arrived, in order of setting
abbrev pub hits_of : Standing → Arrival → Session → List Breakpoint
hits_of s a x = hits s x.workspace x.breakpoints a.place

-- the first rule by which a session names a stop behind a step that leads there and leaves the program so, if one does
abbrev pub cause_of : Standing → Arrival → Session → Option Cause
cause_of s a x = first_cause x.rules a (is_some_hit (hits_of s a x))

-- the ids of those that are hit; none where the session skips pauses
abbrev pub hit_ids : Standing → Arrival → Session → List (List ℕ)
hit_ids s a x = if x.rules.skip then [] else map id_of (hits_of s a x)

-- these are the ids of those that are hit, for a session that has the debugger enabled
abbrev pub AreHits : Standing → Arrival → Session → List (List ℕ) → Type 0
AreHits s a x ids = x.rules.enabled ≡ true → ids ≡ hit_ids s a x

-- ---- where a session may name a stop

-- an active breakpoint stands where the program arrived, if it did, whatever its condition
abbrev pub may_be_hit : Option Place → breakpoints.HeldBreakpoints → Bool
may_be_hit None b = false
may_be_hit (Some place) b = is_hit place b

-- a session names a stop there, or would if the conditions of its breakpoints held
abbrev pub may_name : Arrival → Session → Bool
may_name a x = is_some (first_cause x.rules a (may_be_hit a.place x.breakpoints))

-- ---- what names a stop beside breakpoints

-- a rule of the session other than that of breakpoints names a stop there
abbrev pub wants : Arrival → Session → Bool
wants a x = is_some (first_cause x.rules a false)

-- ---- stops and resumes

-- the event that tells of the stop of this number, with the objects that the session holds behind it
abbrev pub stop_told : Situation → ℕ → Arrival → Session → Made (List ℕ)
stop_told s number a x = pause_told s number (hit_ids s.standing a x) (cause_of s.standing a x) x

-- a session that has the debugger enabled is told
abbrev pub stop_texts : Situation → ℕ → Arrival → Session → List (List ℕ)
stop_texts s number a x = if_enabled x (stop_told s number a x).made

-- the objects that it holds behind that
abbrev pub stop_handles : Situation → ℕ → Arrival → Session → handles.HeldHandles
stop_handles s number a x = if x.rules.enabled then (stop_told s number a x).handles else x.handles

-- a stop ends the session's requests
abbrev pub stopped : Situation → ℕ → Arrival → Session → Session
stopped s number a x =
    sent (stop_texts s number a x) (with_handles (stop_handles s number a x) (with_rules (without_requests x.rules) x))

-- a resume ends the objects of the stop, and is told
abbrev pub resumed : Session → Session
resumed x = sent (if_enabled x resumed_text) (without_backtrace x)
