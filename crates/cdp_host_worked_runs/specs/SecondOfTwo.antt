-- A second session has ids of its own for a stop that the first one named, hits no breakpoint there, and knows no
-- object of the first.
use Rattle.std.specs.Prelude.{List, [], ◌∷◌, codes}
use Rattle.cdp_host_turns.specs.declared.state.State.TheVariants as states
use Rattle.cdp_host_worked_runs.specs.Journals.{Call, Outcome, attach, tell, take, run}
use Rattle.cdp_host_worked_runs.specs.Texts.{joined, an_object, a_place, undefined}

-- the journal
abbrev pub second_of_two : List Call
second_of_two =
    attach
    ∷ tell 1 (codes "{\"id\":1,\"method\":\"Debugger.enable\"}")
    ∷ tell 1 (joined (
    codes "{\"id\":2,\"method\":\"Debugger.setBreakpointByUrl\",\"params\":{\"lineNumber\":0,"
    ∷ codes "\"url\":\"a.js\"}}" ∷ []))
    ∷ attach
    ∷ tell 2 (codes "{\"id\":1,\"method\":\"Debugger.enable\"}")
    ∷ run 100 0
    ∷ tell 2 (codes "{\"id\":9,\"method\":\"Runtime.getProperties\",\"params\":{\"objectId\":\"1.1\"}}")
    ∷ take 1
    ∷ take 2
    ∷ []

-- what it comes to
abbrev pub second_of_two_outcome : Outcome
second_of_two_outcome = record {
  runs = (1, states.Paused) ∷ [];
  printed = [];
  sent = joined (
      codes "{\"method\":\"Debugger.scriptParsed\",\"params\":{\"endColumn\":15,\"endLine\":0,"
      ∷ codes "\"executionContextId\":1,"
      ∷ codes "\"hash\":\"35c146f76e129477c64061bc84511e1090f3d4d8059713e6663dd4b35b1f7642\","
      ∷ codes "\"scriptId\":\"1\",\"startColumn\":0,\"startLine\":0,\"url\":\"a.js\"}}" ∷ [])
      ∷ codes "{\"id\":1,\"result\":{\"debuggerId\":\"1\"}}"
      ∷ joined (
      codes "{\"method\":\"Debugger.paused\","
      ∷ codes "\"params\":{\"callFrames\":[{\"callFrameId\":\"2.1.0\",\"functionName\":\"\","
      ∷ codes "\"location\":" ∷ a_place 0 0 ∷ codes ",\"scopeChain\":[{\"object\":" ∷ an_object 2 1
      ∷ codes ",\"type\":\"script\"},{\"object\":" ∷ an_object 2 2 ∷ codes ",\"type\":\"global\"}],\"this\":"
      ∷ undefined ∷ codes ",\"url\":\"a.js\"}],\"hitBreakpoints\":[],\"reason\":\"other\"}}" ∷ [])
      ∷ joined (
      codes "{\"error\":{\"code\":-32000,\"message\":\"Could not find object with given id\"},"
      ∷ codes "\"id\":9}" ∷ [])
      ∷ [];
}
