-- A session that stops at all throws is told of one that will be caught, with its value.
use Rattle.std.specs.Prelude.{List, [], ◌∷◌, codes}
use Rattle.cdp_host_turns.specs.declared.state.State.TheVariants as states
use Rattle.cdp_host_worked_runs.specs.Journals.{Call, Outcome, attach, tell, take, run}
use Rattle.cdp_host_worked_runs.specs.Texts.{joined, an_object, a_place, undefined}

-- the journal
abbrev pub caught : List Call
caught =
    attach
    ∷ tell 1 (codes "{\"id\":1,\"method\":\"Debugger.enable\"}")
    ∷ tell 1 (joined (
    codes "{\"id\":2,\"method\":\"Debugger.setPauseOnExceptions\"," ∷ codes "\"params\":{\"state\":\"all\"}}"
    ∷ []))
    ∷ run 1000 0
    ∷ take 1
    ∷ []

-- what it comes to
abbrev pub caught_outcome : Outcome
caught_outcome = record {
  runs = (10, states.Paused) ∷ [];
  printed = [];
  sent = joined (
      codes "{\"method\":\"Debugger.scriptParsed\",\"params\":{\"endColumn\":0,\"endLine\":4,"
      ∷ codes "\"executionContextId\":1,"
      ∷ codes "\"hash\":\"5a13ab3710c3d34cd61d24d499762f0e2f3b6546ec6d8c39162b78de2d55cc5f\","
      ∷ codes "\"scriptId\":\"1\",\"startColumn\":0,\"startLine\":0,\"url\":\"a.js\"}}" ∷ [])
      ∷ codes "{\"id\":1,\"result\":{\"debuggerId\":\"1\"}}"
      ∷ codes "{\"id\":2,\"result\":{}}"
      ∷ joined (
      codes "{\"method\":\"Debugger.paused\","
      ∷ codes "\"params\":{\"callFrames\":[{\"callFrameId\":\"1.1.0\",\"functionLocation\":" ∷ a_place 0 0
      ∷ codes ",\"functionName\":\"f\",\"location\":" ∷ a_place 1 8
      ∷ codes ",\"scopeChain\":[{\"name\":\"f\",\"object\":" ∷ an_object 1 1
      ∷ codes ",\"type\":\"local\"},{\"object\":" ∷ an_object 1 2 ∷ codes ",\"type\":\"script\"},{\"object\":"
      ∷ an_object 1 3 ∷ codes ",\"type\":\"global\"}],\"this\":" ∷ undefined
      ∷ codes ",\"url\":\"a.js\"},{\"callFrameId\":\"1.1.1\",\"functionName\":\"\",\"location\":"
      ∷ a_place 3 6 ∷ codes ",\"scopeChain\":[{\"object\":" ∷ an_object 1 4
      ∷ codes ",\"type\":\"script\"},{\"object\":" ∷ an_object 1 5 ∷ codes ",\"type\":\"global\"}],\"this\":"
      ∷ undefined ∷ codes ",\"url\":\"a.js\"}],\"data\":{\"description\":\"1\",\"type\":\"number\","
      ∷ codes "\"value\":1},\"hitBreakpoints\":[],\"reason\":\"exception\"}}" ∷ [])
      ∷ [];
}
