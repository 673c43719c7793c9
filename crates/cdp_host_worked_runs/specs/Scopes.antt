-- The scopes of each frame are listed from the innermost outward, and a closure has its parameters and functions.
use Rattle.std.specs.Prelude.{List, [], ◌∷◌, codes}
use Rattle.cdp_host_turns.specs.declared.state.State.TheVariants as states
use Rattle.cdp_host_worked_runs.specs.Journals.{Call, Outcome, attach, tell, take, run}
use Rattle.cdp_host_worked_runs.specs.Texts.{joined, an_object, a_place, undefined}

-- the journal
abbrev pub scopes : List Call
scopes =
    attach
    ∷ tell 1 (codes "{\"id\":1,\"method\":\"Debugger.enable\"}")
    ∷ run 100 0
    ∷ tell 1 (codes "{\"id\":2,\"method\":\"Runtime.getProperties\",\"params\":{\"objectId\":\"1.4\"}}")
    ∷ take 1
    ∷ []

-- what it comes to
abbrev pub scopes_outcome : Outcome
scopes_outcome = record {
  runs = (16, states.Paused) ∷ [];
  printed = [];
  sent = joined (
      codes "{\"method\":\"Debugger.scriptParsed\",\"params\":{\"endColumn\":0,\"endLine\":10,"
      ∷ codes "\"executionContextId\":1,"
      ∷ codes "\"hash\":\"ab452877908d627ca99432205032ccd1413d277d2befc53d19229b1aca2d1b85\","
      ∷ codes "\"scriptId\":\"1\",\"startColumn\":0,\"startLine\":0,\"url\":\"a.js\"}}" ∷ [])
      ∷ codes "{\"id\":1,\"result\":{\"debuggerId\":\"1\"}}"
      ∷ joined (
      codes "{\"method\":\"Debugger.paused\","
      ∷ codes "\"params\":{\"callFrames\":[{\"callFrameId\":\"1.1.0\",\"functionLocation\":" ∷ a_place 1 2
      ∷ codes ",\"functionName\":\"g\",\"location\":" ∷ a_place 4 6 ∷ codes ",\"scopeChain\":[{\"object\":"
      ∷ an_object 1 1 ∷ codes ",\"type\":\"block\"},{\"object\":" ∷ an_object 1 2
      ∷ codes ",\"type\":\"catch\"},{\"name\":\"g\",\"object\":" ∷ an_object 1 3
      ∷ codes ",\"type\":\"local\"},{\"name\":\"f\",\"object\":" ∷ an_object 1 4
      ∷ codes ",\"type\":\"closure\"},{\"object\":" ∷ an_object 1 5
      ∷ codes ",\"type\":\"script\"},{\"object\":" ∷ an_object 1 6 ∷ codes ",\"type\":\"global\"}],\"this\":"
      ∷ undefined ∷ codes ",\"url\":\"a.js\"},{\"callFrameId\":\"1.1.1\",\"functionLocation\":" ∷ a_place 0 0
      ∷ codes ",\"functionName\":\"f\",\"location\":" ∷ a_place 7 2
      ∷ codes ",\"scopeChain\":[{\"name\":\"f\",\"object\":" ∷ an_object 1 7
      ∷ codes ",\"type\":\"local\"},{\"object\":" ∷ an_object 1 8 ∷ codes ",\"type\":\"script\"},{\"object\":"
      ∷ an_object 1 9 ∷ codes ",\"type\":\"global\"}],\"this\":" ∷ undefined
      ∷ codes ",\"url\":\"a.js\"},{\"callFrameId\":\"1.1.2\",\"functionName\":\"\",\"location\":"
      ∷ a_place 9 0 ∷ codes ",\"scopeChain\":[{\"object\":" ∷ an_object 1 10
      ∷ codes ",\"type\":\"script\"},{\"object\":" ∷ an_object 1 11 ∷ codes ",\"type\":\"global\"}],\"this\":"
      ∷ undefined ∷ codes ",\"url\":\"a.js\"}],\"hitBreakpoints\":[],\"reason\":\"other\"}}" ∷ [])
      ∷ joined (
      codes "{\"id\":2,\"result\":{\"result\":[{\"configurable\":true,\"enumerable\":true,"
      ∷ codes "\"isOwn\":true,\"name\":\"p\",\"value\":{\"description\":\"5\","
      ∷ codes "\"type\":\"number\",\"value\":5},\"writable\":true},{\"configurable\":true,"
      ∷ codes "\"enumerable\":true,\"isOwn\":true,\"name\":\"g\","
      ∷ codes "\"value\":{\"className\":\"Function\",\"description\":\"function g() {\\n    try "
      ∷ codes "{ throw 1; } catch (e) {\\n      let b = e;\\n      debugger;\\n    }\\n  }\","
      ∷ codes "\"objectId\":\"1.12\",\"type\":\"function\"},\"writable\":true}]}}" ∷ [])
      ∷ [];
}
