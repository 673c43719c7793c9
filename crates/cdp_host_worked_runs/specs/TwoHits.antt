-- Two breakpoints at one place stop the program there once, and are told in the order in which they were set.
use Rattle.std.specs.Prelude.{List, [], ◌∷◌, codes}
use Rattle.cdp_host_turns.specs.declared.state.State.TheVariants as states
use Rattle.cdp_host_worked_runs.specs.Texts.{a_place, an_object, joined, undefined}
use Rattle.cdp_host_worked_runs.specs.Journals.{Call, Outcome, attach, run, take, tell}

-- the journal
abbrev pub two_hits : List Call
two_hits =
    attach
    ∷ tell 1 (codes "{\"id\":1,\"method\":\"Debugger.enable\"}")
    ∷ tell 1 (joined (codes "{\"id\":2,\"method\":\"Debugger.setBreakpointByUrl\",\"params\":{\"lineNumber\":1,"
    ∷ codes "\"columnNumber\":2,\"url\":\"a.js\"}}" ∷ []))
    ∷ tell 1 (joined (codes "{\"id\":3,\"method\":\"Debugger.setBreakpointByUrl\",\"params\":{\"lineNumber\":1,"
    ∷ codes "\"url\":\"a.js\"}}" ∷ []))
    ∷ run 100 0
    ∷ take 1
    ∷ []

-- what it comes to
abbrev pub two_hits_outcome : Outcome
two_hits_outcome = record {
  runs = (4, states.Paused) ∷ [];
  printed = [];
  sent = joined (
      codes "{\"method\":\"Debugger.scriptParsed\",\"params\":{\"endColumn\":0,\"endLine\":5,"
      ∷ codes "\"executionContextId\":1,"
      ∷ codes "\"hash\":\"989f3ce24d3c4b9c39bd5c36cb3649291ef596677ebe146d5e0b6a3b1e5eee48\","
      ∷ codes "\"scriptId\":\"1\",\"startColumn\":0,\"startLine\":0,\"url\":\"a.js\"}}" ∷ [])
      ∷ codes "{\"id\":1,\"result\":{\"debuggerId\":\"1\"}}"
      ∷ joined (
      codes "{\"id\":2,\"result\":{\"breakpointId\":\"1:1:2:a.js\",\"locations\":[" ∷ a_place 1 2
      ∷ codes "]}}" ∷ [])
      ∷ joined (
      codes "{\"id\":3,\"result\":{\"breakpointId\":\"1:1:0:a.js\",\"locations\":[" ∷ a_place 1 2
      ∷ codes "]}}" ∷ [])
      ∷ joined (
      codes "{\"method\":\"Debugger.paused\","
      ∷ codes "\"params\":{\"callFrames\":[{\"callFrameId\":\"1.1.0\",\"functionLocation\":" ∷ a_place 0 0
      ∷ codes ",\"functionName\":\"f\",\"location\":" ∷ a_place 1 2
      ∷ codes ",\"scopeChain\":[{\"name\":\"f\",\"object\":" ∷ an_object 1 1
      ∷ codes ",\"type\":\"local\"},{\"object\":" ∷ an_object 1 2 ∷ codes ",\"type\":\"script\"},{\"object\":"
      ∷ an_object 1 3 ∷ codes ",\"type\":\"global\"}],\"this\":" ∷ undefined
      ∷ codes ",\"url\":\"a.js\"},{\"callFrameId\":\"1.1.1\",\"functionName\":\"\",\"location\":"
      ∷ a_place 3 0 ∷ codes ",\"scopeChain\":[{\"object\":" ∷ an_object 1 4
      ∷ codes ",\"type\":\"script\"},{\"object\":" ∷ an_object 1 5 ∷ codes ",\"type\":\"global\"}],\"this\":"
      ∷ undefined ∷ codes ",\"url\":\"a.js\"}],\"hitBreakpoints\":[\"1:1:2:a.js\",\"1:1:0:a.js\"],"
      ∷ codes "\"reason\":\"other\"}}" ∷ [])
      ∷ [];
}
