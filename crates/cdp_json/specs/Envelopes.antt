-- The beginnings and the end of messages (JSON-RPC 2.0).
use Rattle.std.specs.Prelude.{ℕ, List, ◌++◌, codes, decimal}
use Rattle.json.specs.Print.{quoted}

-- the reply to the command of this id, up to its result
abbrev pub result_front : ℕ → List ℕ
result_front id = codes "{\"id\":" ++ (decimal id ++ codes ",\"result\":")

-- an event of this method, up to its parameters
abbrev pub event_front : List ℕ → List ℕ
event_front method = codes "{\"method\":" ++ (quoted method ++ codes ",\"params\":")

-- what stands behind the result or the parameters
abbrev pub message_back : List ℕ
message_back = codes "}"
