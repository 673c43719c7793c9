-- An object is answered by a handle, which a call takes as its `this`, or by value; a text that is no expression, and
-- an evaluation that may have effects, get none.
use Rattle.std.specs.Prelude.{List, [], ◌∷◌, codes}
use Rattle.cdp_host_worked_runs.specs.Journals.{Call, Outcome, attach, tell, take}
use Rattle.cdp_host_worked_runs.specs.Texts.{joined, an_object, undefined}

-- the journal
abbrev pub evaluations : List Call
evaluations =
    attach
    ∷ tell 1 (codes "{\"id\":2,\"method\":\"Runtime.evaluate\",\"params\":{\"expression\":\"({x:7})\"}}")
    ∷ tell 1 (joined (
    codes "{\"id\":3,\"method\":\"Runtime.callFunctionOn\","
    ∷ codes "\"params\":{\"functionDeclaration\":\"function(k) { return this[k]; }\","
    ∷ codes "\"objectId\":\"1.1\",\"arguments\":[{\"value\":\"x\"}]}}" ∷ []))
    ∷ tell 1 (joined (
    codes "{\"id\":4,\"method\":\"Runtime.evaluate\",\"params\":{\"expression\":\"({x:[1,"
    ∷ codes "null]})\",\"returnByValue\":true}}" ∷ []))
    ∷ tell 1 (codes "{\"id\":5,\"method\":\"Runtime.evaluate\",\"params\":{\"expression\":\"1 +\"}}")
    ∷ tell 1 (codes "{\"id\":6,\"method\":\"Runtime.evaluate\",\"params\":{\"expression\":\"1\"}}")
    ∷ tell 1 (joined (
    codes "{\"id\":7,\"method\":\"Runtime.evaluate\",\"params\":{\"expression\":\"1\","
    ∷ codes "\"throwOnSideEffect\":false}}" ∷ []))
    ∷ take 1
    ∷ []

-- what it comes to
abbrev pub evaluations_outcome : Outcome
evaluations_outcome = record {
  runs = [];
  printed = [];
  sent = joined (
      codes "{\"id\":2,\"result\":{\"result\":" ∷ an_object 1 1 ∷ codes "}}" ∷ [])
      ∷ joined (
      codes "{\"id\":3,\"result\":{\"result\":{\"description\":\"7\",\"type\":\"number\","
      ∷ codes "\"value\":7}}}" ∷ [])
      ∷ joined (
      codes "{\"id\":4,\"result\":{\"result\":{\"className\":\"Object\","
      ∷ codes "\"description\":\"Object\",\"type\":\"object\",\"value\":{\"x\":[1,null]}}}}" ∷ [])
      ∷ joined (
      codes "{\"id\":5,\"result\":{\"exceptionDetails\":{\"columnNumber\":0,\"exceptionId\":1,"
      ∷ codes "\"lineNumber\":0,\"text\":\"Uncaught SyntaxError: Unexpected token\"},\"result\":" ∷ undefined
      ∷ codes "}}" ∷ [])
      ∷ joined (
      codes "{\"id\":6,\"result\":{\"result\":{\"description\":\"1\",\"type\":\"number\","
      ∷ codes "\"value\":1}}}" ∷ [])
      ∷ joined (
      codes "{\"error\":{\"code\":-32000,\"message\":\"Evaluation needs throwOnSideEffect\"},"
      ∷ codes "\"id\":7}" ∷ [])
      ∷ [];
}
