-- A step over a call ends at a breakpoint in the function, and the step is forgotten then: a resume runs to the end.
use Rattle.std.specs.Prelude.{List, [], ◌∷◌, codes}
use Rattle.cdp_host_turns.specs.declared.state.State.TheVariants as states
use Rattle.cdp_host_worked_runs.specs.Journals.{Call, Outcome, attach, tell, take, run}
use Rattle.cdp_host_worked_runs.specs.Texts.{joined, an_object, a_place, undefined}

-- the journal
abbrev pub step_over : List Call
step_over =
    attach
    ∷ tell 1 (codes "{\"id\":1,\"method\":\"Debugger.enable\"}")
    ∷ tell 1 (joined (
    codes "{\"id\":2,\"method\":\"Debugger.setBreakpointByUrl\",\"params\":{\"lineNumber\":3,"
    ∷ codes "\"url\":\"a.js\"}}" ∷ []))
    ∷ tell 1 (joined (
    codes "{\"id\":3,\"method\":\"Debugger.setBreakpointByUrl\",\"params\":{\"lineNumber\":1,"
    ∷ codes "\"url\":\"a.js\"}}" ∷ []))
    ∷ run 100 0
    ∷ tell 1 (codes "{\"id\":4,\"method\":\"Debugger.stepOver\"}")
    ∷ run 100 0
    ∷ tell 1 (codes "{\"id\":5,\"method\":\"Debugger.resume\"}")
    ∷ run 100 0
    ∷ take 1
    ∷ []

-- what it comes to
abbrev pub step_over_outcome : Outcome
step_over_outcome = record {
  runs = (1, states.Paused) ∷ (3, states.Paused) ∷ (6, states.Ended) ∷ [];
  printed = codes "2"
      ∷ [];
  sent = joined (
      codes "{\"method\":\"Debugger.scriptParsed\",\"params\":{\"endColumn\":0,\"endLine\":5,"
      ∷ codes "\"executionContextId\":1,"
      ∷ codes "\"hash\":\"989f3ce24d3c4b9c39bd5c36cb3649291ef596677ebe146d5e0b6a3b1e5eee48\","
      ∷ codes "\"scriptId\":\"1\",\"startColumn\":0,\"startLine\":0,\"url\":\"a.js\"}}" ∷ [])
      ∷ codes "{\"id\":1,\"result\":{\"debuggerId\":\"1\"}}"
      ∷ joined (
      codes "{\"id\":2,\"result\":{\"breakpointId\":\"1:3:0:a.js\",\"locations\":[" ∷ a_place 3 0
      ∷ codes "]}}" ∷ [])
      ∷ joined (
      codes "{\"id\":3,\"result\":{\"breakpointId\":\"1:1:0:a.js\",\"locations\":[" ∷ a_place 1 2
      ∷ codes "]}}" ∷ [])
      ∷ joined (
      codes "{\"method\":\"Debugger.paused\","
      ∷ codes "\"params\":{\"callFrames\":[{\"callFrameId\":\"1.1.0\",\"functionName\":\"\","
      ∷ codes "\"location\":" ∷ a_place 3 0 ∷ codes ",\"scopeChain\":[{\"object\":" ∷ an_object 1 1
      ∷ codes ",\"type\":\"script\"},{\"object\":" ∷ an_object 1 2 ∷ codes ",\"type\":\"global\"}],\"this\":"
      ∷ undefined ∷ codes ",\"url\":\"a.js\"}],\"hitBreakpoints\":[\"1:3:0:a.js\"],\"reason\":\"other\"}}"
      ∷ [])
      ∷ codes "{\"id\":4,\"result\":{}}"
      ∷ codes "{\"method\":\"Debugger.resumed\",\"params\":{}}"
      ∷ joined (
      codes "{\"method\":\"Debugger.paused\","
      ∷ codes "\"params\":{\"callFrames\":[{\"callFrameId\":\"1.2.0\",\"functionLocation\":" ∷ a_place 0 0
      ∷ codes ",\"functionName\":\"f\",\"location\":" ∷ a_place 1 2
      ∷ codes ",\"scopeChain\":[{\"name\":\"f\",\"object\":" ∷ an_object 1 3
      ∷ codes ",\"type\":\"local\"},{\"object\":" ∷ an_object 1 4 ∷ codes ",\"type\":\"script\"},{\"object\":"
      ∷ an_object 1 5 ∷ codes ",\"type\":\"global\"}],\"this\":" ∷ undefined
      ∷ codes ",\"url\":\"a.js\"},{\"callFrameId\":\"1.2.1\",\"functionName\":\"\",\"location\":"
      ∷ a_place 3 0 ∷ codes ",\"scopeChain\":[{\"object\":" ∷ an_object 1 6
      ∷ codes ",\"type\":\"script\"},{\"object\":" ∷ an_object 1 7 ∷ codes ",\"type\":\"global\"}],\"this\":"
      ∷ undefined ∷ codes ",\"url\":\"a.js\"}],\"hitBreakpoints\":[\"1:1:0:a.js\"],\"reason\":\"other\"}}"
      ∷ [])
      ∷ codes "{\"id\":5,\"result\":{}}"
      ∷ codes "{\"method\":\"Debugger.resumed\",\"params\":{}}"
      ∷ [];
}
