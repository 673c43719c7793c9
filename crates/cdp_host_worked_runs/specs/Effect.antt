-- An evaluation that would change a name of the program is answered with an `EvalError`, and the name has its value
-- after it.
use Rattle.std.specs.Prelude.{List, [], ◌∷◌, codes}
use Rattle.cdp_host_turns.specs.declared.state.State.TheVariants as states
use Rattle.cdp_host_worked_runs.specs.Journals.{Call, Outcome, attach, tell, take, run}
use Rattle.cdp_host_worked_runs.specs.Texts.{joined, an_object, a_place, undefined}

-- the journal
abbrev pub effect : List Call
effect =
    attach
    ∷ tell 1 (codes "{\"id\":1,\"method\":\"Debugger.enable\"}")
    ∷ run 100 0
    ∷ tell 1 (codes "{\"id\":2,\"method\":\"Runtime.evaluate\",\"params\":{\"expression\":\"f()\"}}")
    ∷ tell 1 (codes "{\"id\":3,\"method\":\"Runtime.evaluate\",\"params\":{\"expression\":\"n\"}}")
    ∷ tell 1 (codes "{\"id\":4,\"method\":\"Debugger.resume\"}")
    ∷ run 100 0
    ∷ take 1
    ∷ []

-- what it comes to
abbrev pub effect_outcome : Outcome
effect_outcome = record {
  runs = (6, states.Paused) ∷ (6, states.Ended) ∷ [];
  printed = codes "0"
      ∷ [];
  sent = joined (
      codes "{\"method\":\"Debugger.scriptParsed\",\"params\":{\"endColumn\":0,\"endLine\":4,"
      ∷ codes "\"executionContextId\":1,"
      ∷ codes "\"hash\":\"35dfaeb22bd412dc2983c72233deca4699e09cc2afab2b0421eb631e45601e4f\","
      ∷ codes "\"scriptId\":\"1\",\"startColumn\":0,\"startLine\":0,\"url\":\"a.js\"}}" ∷ [])
      ∷ codes "{\"id\":1,\"result\":{\"debuggerId\":\"1\"}}"
      ∷ joined (
      codes "{\"method\":\"Debugger.paused\","
      ∷ codes "\"params\":{\"callFrames\":[{\"callFrameId\":\"1.1.0\",\"functionName\":\"\","
      ∷ codes "\"location\":" ∷ a_place 2 0 ∷ codes ",\"scopeChain\":[{\"object\":" ∷ an_object 1 1
      ∷ codes ",\"type\":\"script\"},{\"object\":" ∷ an_object 1 2 ∷ codes ",\"type\":\"global\"}],\"this\":"
      ∷ undefined ∷ codes ",\"url\":\"a.js\"}],\"hitBreakpoints\":[],\"reason\":\"other\"}}" ∷ [])
      ∷ joined (
      codes "{\"id\":2,\"result\":{\"exceptionDetails\":{\"columnNumber\":0,"
      ∷ codes "\"exception\":{\"className\":\"EvalError\",\"description\":\"EvalError: Possible "
      ∷ codes "side-effect in debug-evaluate\",\"subtype\":\"error\",\"type\":\"object\"},"
      ∷ codes "\"exceptionId\":1,\"lineNumber\":0,\"text\":\"Uncaught\"},"
      ∷ codes "\"result\":{\"className\":\"EvalError\",\"description\":\"EvalError: Possible "
      ∷ codes "side-effect in debug-evaluate\",\"subtype\":\"error\",\"type\":\"object\"}}}" ∷ [])
      ∷ joined (
      codes "{\"id\":3,\"result\":{\"result\":{\"description\":\"0\",\"type\":\"number\","
      ∷ codes "\"value\":0}}}" ∷ [])
      ∷ codes "{\"id\":4,\"result\":{}}"
      ∷ codes "{\"method\":\"Debugger.resumed\",\"params\":{}}"
      ∷ [];
}
