-- Columns count UTF-16 code units.
use Rattle.std.specs.Prelude.{List, [], ◌∷◌, codes}
use Rattle.cdp_host_turns.specs.declared.state.State.TheVariants as states
use Rattle.cdp_host_worked_runs.specs.Journals.{Call, Outcome, attach, tell, take, run}
use Rattle.cdp_host_worked_runs.specs.Texts.{joined, an_object, a_place, undefined}

-- the journal
abbrev pub smile : List Call
smile =
    attach
    ∷ tell 1 (codes "{\"id\":1,\"method\":\"Debugger.enable\"}")
    ∷ run 9 0
    ∷ take 1
    ∷ []

-- what it comes to
abbrev pub smile_outcome : Outcome
smile_outcome = record {
  runs = (2, states.Paused) ∷ [];
  printed = [];
  sent = joined (
      codes "{\"method\":\"Debugger.scriptParsed\",\"params\":{\"endColumn\":15,\"endLine\":0,"
      ∷ codes "\"executionContextId\":1,"
      ∷ codes "\"hash\":\"96f3a6a5767994aa7b7baab66f058b6552e593697a0ac27f703c81ca2bccddbb\","
      ∷ codes "\"scriptId\":\"1\",\"startColumn\":0,\"startLine\":0,\"url\":\"a.js\"}}" ∷ [])
      ∷ codes "{\"id\":1,\"result\":{\"debuggerId\":\"1\"}}"
      ∷ joined (
      codes "{\"method\":\"Debugger.paused\","
      ∷ codes "\"params\":{\"callFrames\":[{\"callFrameId\":\"1.1.0\",\"functionName\":\"\","
      ∷ codes "\"location\":" ∷ a_place 0 6 ∷ codes ",\"scopeChain\":[{\"object\":" ∷ an_object 1 1
      ∷ codes ",\"type\":\"script\"},{\"object\":" ∷ an_object 1 2 ∷ codes ",\"type\":\"global\"}],\"this\":"
      ∷ undefined ∷ codes ",\"url\":\"a.js\"}],\"hitBreakpoints\":[],\"reason\":\"other\"}}" ∷ [])
      ∷ [];
}
