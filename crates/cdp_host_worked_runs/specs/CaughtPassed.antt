-- A session that stops at uncaught throws alone passes one that a `catch` of a caller takes.
use Rattle.std.specs.Prelude.{List, [], ◌∷◌, codes}
use Rattle.cdp_host_turns.specs.declared.state.State.TheVariants as states
use Rattle.cdp_host_worked_runs.specs.Journals.{Call, Outcome, attach, tell, run}
use Rattle.cdp_host_worked_runs.specs.Texts.{joined}

-- the journal
abbrev pub caught_passed : List Call
caught_passed =
    attach
    ∷ tell 1 (codes "{\"id\":1,\"method\":\"Debugger.enable\"}")
    ∷ tell 1 (joined (
    codes "{\"id\":2,\"method\":\"Debugger.setPauseOnExceptions\","
    ∷ codes "\"params\":{\"state\":\"uncaught\"}}" ∷ []))
    ∷ run 1000 0
    ∷ []

-- what it comes to
abbrev pub caught_passed_outcome : Outcome
caught_passed_outcome = record {
  runs = (14, states.Ended) ∷ [];
  printed = [];
  sent = [];
}
