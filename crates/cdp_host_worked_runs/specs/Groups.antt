-- A group ends the objects that were made in it, and no others.
use Rattle.std.specs.Prelude.{List, [], ◌∷◌, codes}
use Rattle.cdp_host_worked_runs.specs.Journals.{Call, Outcome, attach, tell, take}
use Rattle.cdp_host_worked_runs.specs.Texts.{joined, an_object}

-- the journal
abbrev pub groups : List Call
groups =
    attach
    ∷ tell 1 (joined (
    codes "{\"id\":1,\"method\":\"Runtime.evaluate\",\"params\":{\"expression\":\"({})\","
    ∷ codes "\"objectGroup\":\"a\"}}" ∷ []))
    ∷ tell 1 (joined (
    codes "{\"id\":2,\"method\":\"Runtime.evaluate\",\"params\":{\"expression\":\"({})\","
    ∷ codes "\"objectGroup\":\"b\"}}" ∷ []))
    ∷ tell 1 (codes "{\"id\":3,\"method\":\"Runtime.evaluate\",\"params\":{\"expression\":\"({})\"}}")
    ∷ tell 1 (joined (
    codes "{\"id\":4,\"method\":\"Runtime.releaseObjectGroup\"," ∷ codes "\"params\":{\"objectGroup\":\"a\"}}"
    ∷ []))
    ∷ tell 1 (joined (
    codes "{\"id\":5,\"method\":\"Runtime.getProperties\",\"params\":{\"objectId\":\"1.1\","
    ∷ codes "\"ownProperties\":true}}" ∷ []))
    ∷ tell 1 (joined (
    codes "{\"id\":6,\"method\":\"Runtime.getProperties\",\"params\":{\"objectId\":\"1.2\","
    ∷ codes "\"ownProperties\":true}}" ∷ []))
    ∷ tell 1 (joined (
    codes "{\"id\":7,\"method\":\"Runtime.getProperties\",\"params\":{\"objectId\":\"1.3\","
    ∷ codes "\"ownProperties\":true}}" ∷ []))
    ∷ tell 1 (joined (
    codes "{\"id\":8,\"method\":\"Runtime.releaseObjectGroup\"," ∷ codes "\"params\":{\"objectGroup\":\"a\"}}"
    ∷ []))
    ∷ take 1
    ∷ []

-- what it comes to
abbrev pub groups_outcome : Outcome
groups_outcome = record {
  runs = [];
  printed = [];
  sent = joined (
      codes "{\"id\":1,\"result\":{\"result\":" ∷ an_object 1 1 ∷ codes "}}" ∷ [])
      ∷ joined (
      codes "{\"id\":2,\"result\":{\"result\":" ∷ an_object 1 2 ∷ codes "}}" ∷ [])
      ∷ joined (
      codes "{\"id\":3,\"result\":{\"result\":" ∷ an_object 1 3 ∷ codes "}}" ∷ [])
      ∷ codes "{\"id\":4,\"result\":{}}"
      ∷ joined (
      codes "{\"error\":{\"code\":-32000,\"message\":\"Could not find object with given id\"},"
      ∷ codes "\"id\":5}" ∷ [])
      ∷ codes "{\"id\":6,\"result\":{\"result\":[]}}"
      ∷ codes "{\"id\":7,\"result\":{\"result\":[]}}"
      ∷ codes "{\"id\":8,\"result\":{}}"
      ∷ [];
}
