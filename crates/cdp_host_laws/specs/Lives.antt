-- The life of a session of a host: what happened to it since it was attached.
use Rattle.std.specs.Prelude.{◌≡◌, ℕ, List}
use Rattle.js_tree.specs.declared.script.Script.{Script}
use Rattle.pure_eval.specs.Workspaces.{begun}
use Rattle.cdp_session.specs.Sessions.{Session}
use Rattle.cdp_session_laws.specs.Events.{Event, lived}
use Rattle.cdp_session.specs.Code.{code_of}

-- It was attached under this number, to evaluate over the code of these scripts, and became what it is by events of a
-- session alone: texts that it told, prints, the end, stops and resumes that it was told of, and takings of its texts.
abbrev pub HasLived : List Script → ℕ → Session → Type 0
HasLived scripts s x = (events : List Event) × (x ≡ lived s (begun (code_of scripts)) events)
