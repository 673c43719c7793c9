-- A client starts a program that waits, stops at its first step and at a breakpoint, evaluates, lists, steps over and
-- resumes.
use Rattle.std.specs.Prelude.{List, [], ◌∷◌, codes}
use Rattle.cdp_host_turns.specs.declared.state.State.TheVariants as states
use Rattle.cdp_host_worked_runs.specs.Journals.{Call, Outcome, attach, tell, take, detach, run}
use Rattle.cdp_host_worked_runs.specs.Texts.{joined, an_object, a_place, undefined}

-- the journal
abbrev pub client : List Call
client =
    attach
    ∷ tell 1 (codes "{\"id\":1,\"method\":\"Runtime.enable\"}")
    ∷ tell 1 (codes "{\"id\":2,\"method\":\"Debugger.enable\"}")
    ∷ tell 1 (joined (
    codes "{\"id\":3,\"method\":\"Debugger.setPauseOnExceptions\","
    ∷ codes "\"params\":{\"state\":\"uncaught\"}}" ∷ []))
    ∷ tell 1 (joined (
    codes "{\"id\":4,\"method\":\"Debugger.setAsyncCallStackDepth\"," ∷ codes "\"params\":{\"maxDepth\":32}}"
    ∷ []))
    ∷ tell 1 (joined (
    codes "{\"id\":5,\"method\":\"Debugger.setBreakpointByUrl\",\"params\":{\"lineNumber\":1,"
    ∷ codes "\"columnNumber\":0,\"url\":\"a.js\"}}" ∷ []))
    ∷ run 10 1000
    ∷ tell 1 (codes "{\"id\":6,\"method\":\"Runtime.runIfWaitingForDebugger\"}")
    ∷ run 100 1000
    ∷ tell 1 (codes "{\"id\":7,\"method\":\"Debugger.resume\"}")
    ∷ run 100 1000
    ∷ tell 1 (joined (
    codes "{\"id\":8,\"method\":\"Debugger.evaluateOnCallFrame\","
    ∷ codes "\"params\":{\"callFrameId\":\"1.2.0\",\"expression\":\"a * b\","
    ∷ codes "\"throwOnSideEffect\":true}}" ∷ []))
    ∷ tell 1 (joined (
    codes "{\"id\":9,\"method\":\"Runtime.getProperties\",\"params\":{\"objectId\":\"1.3\","
    ∷ codes "\"ownProperties\":true}}" ∷ []))
    ∷ tell 1 (codes "{\"id\":10,\"method\":\"Debugger.stepOver\"}")
    ∷ run 100 1000
    ∷ tell 1 (codes "{\"id\":11,\"method\":\"Debugger.resume\"}")
    ∷ run 100 2000
    ∷ take 1
    ∷ detach 1
    ∷ []

-- what it comes to
abbrev pub client_outcome : Outcome
client_outcome = record {
  runs = (0, states.Waiting) ∷ (1, states.Paused) ∷ (5, states.Paused) ∷ (5, states.Paused) ∷ (1, states.Ended) ∷ [];
  printed = codes "5"
      ∷ [];
  sent = joined (
      codes "{\"method\":\"Runtime.executionContextCreated\",\"params\":{\"context\":{\"id\":1,"
      ∷ codes "\"name\":\"debug_host\",\"origin\":\"\"}}}" ∷ [])
      ∷ codes "{\"id\":1,\"result\":{}}"
      ∷ joined (
      codes "{\"method\":\"Debugger.scriptParsed\",\"params\":{\"endColumn\":0,\"endLine\":4,"
      ∷ codes "\"executionContextId\":1,"
      ∷ codes "\"hash\":\"abb506c7c28392611b963c08bbbe57809744b29ba5aafbb88ded4dbd3b2a4b67\","
      ∷ codes "\"scriptId\":\"1\",\"startColumn\":0,\"startLine\":0,\"url\":\"a.js\"}}" ∷ [])
      ∷ codes "{\"id\":2,\"result\":{\"debuggerId\":\"1\"}}"
      ∷ codes "{\"id\":3,\"result\":{}}"
      ∷ codes "{\"id\":4,\"result\":{}}"
      ∷ joined (
      codes "{\"id\":5,\"result\":{\"breakpointId\":\"1:1:0:a.js\",\"locations\":[" ∷ a_place 1 2
      ∷ codes "]}}" ∷ [])
      ∷ codes "{\"id\":6,\"result\":{}}"
      ∷ joined (
      codes "{\"method\":\"Debugger.paused\","
      ∷ codes "\"params\":{\"callFrames\":[{\"callFrameId\":\"1.1.0\",\"functionName\":\"\","
      ∷ codes "\"location\":" ∷ a_place 3 0 ∷ codes ",\"scopeChain\":[{\"object\":" ∷ an_object 1 1
      ∷ codes ",\"type\":\"script\"},{\"object\":" ∷ an_object 1 2 ∷ codes ",\"type\":\"global\"}],\"this\":"
      ∷ undefined ∷ codes ",\"url\":\"a.js\"}],\"hitBreakpoints\":[],\"reason\":\"other\"}}" ∷ [])
      ∷ codes "{\"id\":7,\"result\":{}}"
      ∷ codes "{\"method\":\"Debugger.resumed\",\"params\":{}}"
      ∷ joined (
      codes "{\"method\":\"Debugger.paused\","
      ∷ codes "\"params\":{\"callFrames\":[{\"callFrameId\":\"1.2.0\",\"functionLocation\":" ∷ a_place 0 0
      ∷ codes ",\"functionName\":\"add\",\"location\":" ∷ a_place 1 2
      ∷ codes ",\"scopeChain\":[{\"name\":\"add\",\"object\":" ∷ an_object 1 3
      ∷ codes ",\"type\":\"local\"},{\"object\":" ∷ an_object 1 4 ∷ codes ",\"type\":\"script\"},{\"object\":"
      ∷ an_object 1 5 ∷ codes ",\"type\":\"global\"}],\"this\":" ∷ undefined
      ∷ codes ",\"url\":\"a.js\"},{\"callFrameId\":\"1.2.1\",\"functionName\":\"\",\"location\":"
      ∷ a_place 3 12 ∷ codes ",\"scopeChain\":[{\"object\":" ∷ an_object 1 6
      ∷ codes ",\"type\":\"script\"},{\"object\":" ∷ an_object 1 7 ∷ codes ",\"type\":\"global\"}],\"this\":"
      ∷ undefined ∷ codes ",\"url\":\"a.js\"}],\"hitBreakpoints\":[\"1:1:0:a.js\"],\"reason\":\"other\"}}"
      ∷ [])
      ∷ joined (
      codes "{\"id\":8,\"result\":{\"result\":{\"description\":\"6\",\"type\":\"number\","
      ∷ codes "\"value\":6}}}" ∷ [])
      ∷ joined (
      codes "{\"id\":9,\"result\":{\"result\":[{\"configurable\":true,\"enumerable\":true,"
      ∷ codes "\"isOwn\":true,\"name\":\"a\",\"value\":{\"description\":\"2\","
      ∷ codes "\"type\":\"number\",\"value\":2},\"writable\":true},{\"configurable\":true,"
      ∷ codes "\"enumerable\":true,\"isOwn\":true,\"name\":\"b\","
      ∷ codes "\"value\":{\"description\":\"3\",\"type\":\"number\",\"value\":3},"
      ∷ codes "\"writable\":true}]}}" ∷ [])
      ∷ codes "{\"id\":10,\"result\":{}}"
      ∷ codes "{\"method\":\"Debugger.resumed\",\"params\":{}}"
      ∷ joined (
      codes "{\"method\":\"Debugger.paused\","
      ∷ codes "\"params\":{\"callFrames\":[{\"callFrameId\":\"1.3.0\",\"functionName\":\"\","
      ∷ codes "\"location\":" ∷ a_place 3 8 ∷ codes ",\"scopeChain\":[{\"object\":" ∷ an_object 1 8
      ∷ codes ",\"type\":\"script\"},{\"object\":" ∷ an_object 1 9 ∷ codes ",\"type\":\"global\"}],\"this\":"
      ∷ undefined ∷ codes ",\"url\":\"a.js\"}],\"hitBreakpoints\":[],\"reason\":\"other\"}}" ∷ [])
      ∷ codes "{\"id\":11,\"result\":{}}"
      ∷ codes "{\"method\":\"Debugger.resumed\",\"params\":{}}"
      ∷ joined (
      codes "{\"method\":\"Runtime.consoleAPICalled\","
      ∷ codes "\"params\":{\"args\":[{\"description\":\"5\",\"type\":\"number\",\"value\":5}],"
      ∷ codes "\"executionContextId\":1,\"timestamp\":2000,\"type\":\"log\"}}" ∷ [])
      ∷ joined (
      codes "{\"method\":\"Runtime.executionContextDestroyed\","
      ∷ codes "\"params\":{\"executionContextId\":1}}" ∷ [])
      ∷ [];
}
