-- What becomes of a client's text: it is handed in as it came, or without a parameter, or it is answered.
use Rattle.std.specs.Prelude.{◌≡◌, ◌≤◌, ◌||◌, ◌&&◌, ℕ, List, codes, bytes_eq, length, Bool, true, false, Option, Some, None, option_and_then, is_some, if◌then◌else◌}
use Rattle.serde_json.specs.Data.{Data, Items, no_items, item}
use Rattle.serde_json.specs.Find.{get, as_array, as_bool, as_object, as_str}
use Rattle.serde_json.specs.Read.{read}
use Rattle.cdp_json.specs.Commands.{id_of}
use Rattle.cdp_json.specs.Json.{object, no_members}
use Rattle.cdp_json.specs.Members.{required}
use Rattle.cdp_json.specs.Messages.{result_text}
use Rattle.cdp_edge_server.specs.declared.link.TheConstants.{MOST_BYTES}

-- ---- the table

-- a method that is answered whatever its parameters are
abbrev pub is_answered : List ℕ → Bool
is_answered name =
    bytes_eq name (codes "Profiler.enable")
    || bytes_eq name (codes "Profiler.disable")
    || bytes_eq name (codes "Profiler.setSamplingInterval")
    || bytes_eq name (codes "HeapProfiler.enable")
    || bytes_eq name (codes "Runtime.getIsolateId")
    || bytes_eq name (codes "Runtime.discardConsoleEntries")
    || bytes_eq name (codes "Runtime.compileScript")
    || bytes_eq name (codes "Network.enable")
    || bytes_eq name (codes "Network.configureDurableMessages")
    || bytes_eq name (codes "Network.setAttachDebugStack")
    || bytes_eq name (codes "Network.setBlockedURLs")
    || bytes_eq name (codes "Network.overrideNetworkState")
    || bytes_eq name (codes "Page.enable")
    || bytes_eq name (codes "Log.enable")

-- a list without items
abbrev pub lists_nothing : Option Items → Bool
lists_nothing None = false
lists_nothing (Some no_items) = true
lists_nothing (Some (item d ds)) = false

-- the method that is answered where its list of patterns is empty
abbrev pub sets_no_pattern : List ℕ → Data → Bool
sets_no_pattern name d =
    bytes_eq name (codes "Debugger.setBlackboxPatterns")
    && lists_nothing (option_and_then (required as_array (codes "patterns")) (get (codes "params") d))

-- a command of this method is answered
abbrev pub answers_method : Data → List ℕ → Bool
answers_method d name = is_answered name || sets_no_pattern name d

-- the id of a command, where it is answered
abbrev pub answered_by : Data → Option (List ℕ) → Option ℕ
answered_by d None = None
answered_by d (Some name) = if answers_method d name then id_of d else None

-- the id of the command that a value is, where that is answered
abbrev pub answered_id : Data → Option ℕ
answered_id d = answered_by d (required as_str (codes "method") d)

-- the reply to a command of this id: an empty result
abbrev pub empty_reply : ℕ → List ℕ
empty_reply id = result_text id (object no_members)

-- ---- the parameter

-- the parameter that asks whether an evaluation with effects is to fail
abbrev pub flag_name : List ℕ
flag_name = codes "throwOnSideEffect"

-- a truth value that is false
abbrev pub is_false : Option Bool → Bool
is_false None = false
is_false (Some true) = false
is_false (Some false) = true

-- a command sets it to false
abbrev pub clears_flag : Data → Bool
clears_flag d = is_false (option_and_then (required as_bool flag_name) (get (codes "params") d))

-- an object has this at a name, or nothing, and at each other name what another object has
abbrev pub Updates : List ℕ → Option Data → Data → Data → Type 0
Updates name member d e =
    (is_some (as_object e) ≡ true) × ((k : List ℕ) → get k e ≡ (if bytes_eq name k then member else get k d))

-- a command is another one but for the parameter, which it doesn't have
pub record IsWithoutFlag (d e : Data) : Type 0 where
  pub params : Data
  pub others : Data
  pub given : get (codes "params") d ≡ Some params
  pub is_object : is_some (as_object params) ≡ true
  pub command : Updates (codes "params") (Some others) d e
  pub parameters : Updates flag_name None params others

-- ---- texts

-- a text that is neither answered nor changed: it is no JSON, or its value is neither
abbrev pub IsPlain : Option Data → Type 0
IsPlain None = Unit {0}
IsPlain (Some d) = (answered_id d ≡ None) × (clears_flag d ≡ false)

-- a text is a command that is answered, of this id
pub record IsAnswered (text : List ℕ) (id : ℕ) : Type 0 where
  pub value : Data
  pub reads : read text ≡ Some value
  pub is : answered_id value ≡ Some id

-- a text is a command that clears the flag, and isn't answered
pub record ClearsFlag (text : List ℕ) : Type 0 where
  pub value : Data
  pub reads : read text ≡ Some value
  pub unanswered : answered_id value ≡ None
  pub clears : clears_flag value ≡ true

-- for a text another one is handed in: that is read as the same command without the flag
pub record IsChanged (text other : List ℕ) : Type 0 where
  pub clears : ClearsFlag text
  pub without : Data
  pub reads : read other ≡ Some without
  pub is : IsWithoutFlag clears.value without
  pub fits : length other ≤ MOST_BYTES
