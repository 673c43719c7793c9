-- A session that stops at uncaught throws is stopped at one that nothing catches, though a `finally` stands around
-- it; a resume then ends the run by the throw.
use Rattle.std.specs.Prelude.{List, [], ◌∷◌, codes}
use Rattle.cdp_host_turns.specs.declared.state.State.TheVariants as states
use Rattle.cdp_host_worked_runs.specs.Journals.{Call, Outcome, attach, tell, run}
use Rattle.cdp_host_worked_runs.specs.Texts.{joined}

-- the journal
abbrev pub uncaught : List Call
uncaught =
    attach
    ∷ tell 1 (codes "{\"id\":1,\"method\":\"Debugger.enable\"}")
    ∷ tell 1 (joined (
    codes "{\"id\":2,\"method\":\"Debugger.setPauseOnExceptions\","
    ∷ codes "\"params\":{\"state\":\"uncaught\"}}" ∷ []))
    ∷ run 1000 0
    ∷ tell 1 (codes "{\"id\":3,\"method\":\"Debugger.resume\"}")
    ∷ run 1000 0
    ∷ []

-- what it comes to
abbrev pub uncaught_outcome : Outcome
uncaught_outcome = record {
  runs = (8, states.Paused) ∷ (3, states.Threw) ∷ [];
  printed = [];
  sent = [];
}
