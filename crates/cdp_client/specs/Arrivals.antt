-- What a text that arrives is, and the line that is written of it.
use Rattle.std.specs.Prelude.{ℕ, ◌==◌, List, [], ◌∷◌, ◌++◌, Bool, false, if◌then◌else◌, codes, decimal, Option, Some, None, is_some}
use Rattle.std.specs.Option.{option_and_then}
use Rattle.serde_json.specs.Data.{Data}
use Rattle.serde_json.specs.Find.{get, as_number, as_str, as_u64}
use Rattle.serde_json.specs.Read.{read}
use Rattle.cdp_journal.specs.Escapes.{escaped}
use Rattle.cdp_client.specs.Lines.{Command}

-- what a text that arrives is
pub data ArrivedText : Type 0 where
  -- the reply to this command, which is awaited
  Reply : Command → ArrivedText
  -- an event, of this method where that is a text
  Event : Option (List ℕ) → ArrivedText
  -- neither
  Other : ArrivedText

-- a number is there, and is this
abbrev pub is_number : ℕ → Option ℕ → Bool
is_number id None = false
is_number id (Some found) = found == id

-- the member `id` is this number
abbrev pub has_id : ℕ → Data → Bool
has_id id value = is_number id (option_and_then as_u64 (option_and_then as_number (get (codes "id") value)))

-- what a value without `id` is, by its member `method`
abbrev pub event_of : Option Data → ArrivedText
event_of None = Other
event_of (Some method) = Event (as_str method)

-- what a value is that is no reply: an event is an object with a `method` and without `id`
abbrev pub unasked : Data → ArrivedText
unasked value = if is_some (get (codes "id") value) then Other else event_of (get (codes "method") value)

-- what a value is where the reply to this command is awaited, if one is
abbrev pub value_arrival : Option Command → Data → ArrivedText
value_arrival None value = unasked value
value_arrival (Some command) value = if has_id command.id value then Reply command else unasked value

-- what a text is that has this value, if it is JSON
abbrev pub read_arrival : Option Command → Option Data → ArrivedText
read_arrival awaited None = Other
read_arrival awaited (Some value) = value_arrival awaited value

-- what a text is
abbrev pub arrival_of : Option Command → List ℕ → ArrivedText
arrival_of awaited text = read_arrival awaited (read text)

-- ---- what is written of it

-- what stands before the text on its line
abbrev pub front_of : ArrivedText → List ℕ
front_of (Reply command) = codes "reply " ++ (decimal command.id ++ 32 ∷ (command.method ++ 32 ∷ []))
front_of (Event method) = codes "event "
front_of Other = codes "other "

-- the line of a text, in which `%`, LF and CR are `%25`, `%0A` and `%0D`
abbrev pub line_written : ArrivedText → List ℕ → List ℕ
line_written arrival text = front_of arrival ++ escaped text
