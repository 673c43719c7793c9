-- The break locations of an empty function are its closing brace and a call of it; a place resolves to the first that
-- is not before it.
use Rattle.std.specs.Prelude.{List, [], ◌∷◌, codes}
use Rattle.cdp_host_worked_runs.specs.Journals.{Call, Outcome, attach, tell, take}
use Rattle.cdp_host_worked_runs.specs.Texts.{joined, a_place}

-- the journal
abbrev pub places : List Call
places =
    attach
    ∷ tell 1 (codes "{\"id\":1,\"method\":\"Debugger.enable\"}")
    ∷ tell 1 (joined (
    codes "{\"id\":2,\"method\":\"Debugger.getPossibleBreakpoints\","
    ∷ codes "\"params\":{\"start\":{\"scriptId\":\"1\",\"lineNumber\":0}}}" ∷ []))
    ∷ tell 1 (joined (
    codes "{\"id\":3,\"method\":\"Debugger.setBreakpointByUrl\",\"params\":{\"lineNumber\":1,"
    ∷ codes "\"url\":\"a.js\"}}" ∷ []))
    ∷ tell 1 (joined (
    codes "{\"id\":4,\"method\":\"Debugger.setBreakpointByUrl\",\"params\":{\"lineNumber\":3,"
    ∷ codes "\"url\":\"a.js\"}}" ∷ []))
    ∷ tell 1 (joined (
    codes "{\"id\":5,\"method\":\"Debugger.setBreakpointByUrl\",\"params\":{\"lineNumber\":3,"
    ∷ codes "\"url\":\"a.js\"}}" ∷ []))
    ∷ tell 1 (joined (
    codes "{\"id\":6,\"method\":\"Debugger.setBreakpoint\","
    ∷ codes "\"params\":{\"location\":{\"scriptId\":\"1\",\"lineNumber\":3}}}" ∷ []))
    ∷ take 1
    ∷ []

-- what it comes to
abbrev pub places_outcome : Outcome
places_outcome = record {
  runs = [];
  printed = [];
  sent = joined (
      codes "{\"method\":\"Debugger.scriptParsed\",\"params\":{\"endColumn\":0,\"endLine\":3,"
      ∷ codes "\"executionContextId\":1,"
      ∷ codes "\"hash\":\"06361624c77938f46dbce9cf1e9d2a29fe80123723f66ab39387630379169438\","
      ∷ codes "\"scriptId\":\"1\",\"startColumn\":0,\"startLine\":0,\"url\":\"a.js\"}}" ∷ [])
      ∷ codes "{\"id\":1,\"result\":{\"debuggerId\":\"1\"}}"
      ∷ joined (
      codes "{\"id\":2,\"result\":{\"locations\":[{\"columnNumber\":0,\"lineNumber\":1,"
      ∷ codes "\"scriptId\":\"1\",\"type\":\"return\"},{\"columnNumber\":0,\"lineNumber\":2,"
      ∷ codes "\"scriptId\":\"1\",\"type\":\"call\"}]}}" ∷ [])
      ∷ joined (
      codes "{\"id\":3,\"result\":{\"breakpointId\":\"1:1:0:a.js\",\"locations\":[" ∷ a_place 1 0
      ∷ codes "]}}" ∷ [])
      ∷ codes "{\"id\":4,\"result\":{\"breakpointId\":\"1:3:0:a.js\",\"locations\":[]}}"
      ∷ joined (
      codes "{\"error\":{\"code\":-32000,\"message\":\"Breakpoint at specified location "
      ∷ codes "already exists.\"},\"id\":5}" ∷ [])
      ∷ joined (
      codes "{\"error\":{\"code\":-32000,\"message\":\"Could not resolve breakpoint\"}," ∷ codes "\"id\":6}"
      ∷ [])
      ∷ [];
}
