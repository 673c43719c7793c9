-- Properties come with the integer keys first, in ascending order, and then the others as they were made; a preview
-- shows the first five.
use Rattle.std.specs.Prelude.{List, [], ◌∷◌, codes}
use Rattle.cdp_host_worked_runs.specs.Journals.{Call, Outcome, attach, tell, take}
use Rattle.cdp_host_worked_runs.specs.Texts.{joined, an_object}

-- the journal
abbrev pub order : List Call
order =
    attach
    ∷ tell 1 (joined (
    codes "{\"id\":1,\"method\":\"Runtime.evaluate\",\"params\":{\"expression\":\"({b:1,2:2,"
    ∷ codes "a:3,1:4})\"}}" ∷ []))
    ∷ tell 1 (joined (
    codes "{\"id\":2,\"method\":\"Runtime.getProperties\",\"params\":{\"objectId\":\"1.1\","
    ∷ codes "\"ownProperties\":true}}" ∷ []))
    ∷ tell 1 (joined (
    codes "{\"id\":3,\"method\":\"Runtime.evaluate\",\"params\":{\"expression\":\"({a:1,b:2,"
    ∷ codes "c:3,d:4,e:5,f:6})\",\"generatePreview\":true}}" ∷ []))
    ∷ take 1
    ∷ []

-- what it comes to
abbrev pub order_outcome : Outcome
order_outcome = record {
  runs = [];
  printed = [];
  sent = joined (
      codes "{\"id\":1,\"result\":{\"result\":" ∷ an_object 1 1 ∷ codes "}}" ∷ [])
      ∷ joined (
      codes "{\"id\":2,\"result\":{\"result\":[{\"configurable\":true,\"enumerable\":true,"
      ∷ codes "\"isOwn\":true,\"name\":\"1\",\"value\":{\"description\":\"4\","
      ∷ codes "\"type\":\"number\",\"value\":4},\"writable\":true},{\"configurable\":true,"
      ∷ codes "\"enumerable\":true,\"isOwn\":true,\"name\":\"2\","
      ∷ codes "\"value\":{\"description\":\"2\",\"type\":\"number\",\"value\":2},"
      ∷ codes "\"writable\":true},{\"configurable\":true,\"enumerable\":true,\"isOwn\":true,"
      ∷ codes "\"name\":\"b\",\"value\":{\"description\":\"1\",\"type\":\"number\",\"value\":1},"
      ∷ codes "\"writable\":true},{\"configurable\":true,\"enumerable\":true,\"isOwn\":true,"
      ∷ codes "\"name\":\"a\",\"value\":{\"description\":\"3\",\"type\":\"number\",\"value\":3},"
      ∷ codes "\"writable\":true}]}}" ∷ [])
      ∷ joined (
      codes "{\"id\":3,\"result\":{\"result\":{\"className\":\"Object\","
      ∷ codes "\"description\":\"Object\",\"objectId\":\"1.2\","
      ∷ codes "\"preview\":{\"description\":\"Object\",\"overflow\":true,"
      ∷ codes "\"properties\":[{\"name\":\"a\",\"type\":\"number\",\"value\":\"1\"},"
      ∷ codes "{\"name\":\"b\",\"type\":\"number\",\"value\":\"2\"},{\"name\":\"c\","
      ∷ codes "\"type\":\"number\",\"value\":\"3\"},{\"name\":\"d\",\"type\":\"number\","
      ∷ codes "\"value\":\"4\"},{\"name\":\"e\",\"type\":\"number\",\"value\":\"5\"}],"
      ∷ codes "\"type\":\"object\"},\"type\":\"object\"}}}" ∷ [])
      ∷ [];
}
