-- What the code makes of a command's method, as a row whose result is a text.
use Rattle.std.specs.Prelude.{◌≡◌, ℕ, List, ◌∷◌, ◌++◌, map, string_bytes, option_map, option_to_list, Option, Some, None, Result, Ok, Err}
use Rattle.std.specs.declared.alloc.Global.{Global}
use Rattle.std.specs.declared.string.String.{String}
use Rattle.cdp_json.specs.Compact.{compact_text}
use Rattle.cdp_json.specs.Envelopes.{message_back, result_front}
use Rattle.cdp_json.specs.Views.{json_view}
use Rattle.cdp_session.specs.declared.asks.Asks.{Asks}
use Rattle.cdp_session.specs.declared.done.Answer.{Answer}
use Rattle.cdp_session.specs.declared.done.Answer.TheVariants as answers
use Rattle.cdp_session.specs.declared.done.Done.{Done as Held}
use Rattle.cdp_session.specs.declared.done.Fault.{Fault}
use Rattle.cdp_session.specs.declared.done.Fault.TheVariants as faults
use Rattle.cdp_json.specs.Json.{Json}
use Rattle.cdp_json.specs.declared.refusal.Refusal.{Refusal}
use Rattle.cdp_json.specs.declared.refusal.Refusal.TheVariants as refusals
use Rattle.remote_objects.specs.Making.{Made as Described}
use Rattle.remote_objects.specs.declared.by_value.ByValueFault.{ByValueFault}
use Rattle.remote_objects.specs.declared.by_value.ByValueFault.TheVariants as values
use Rattle.cdp_session.specs.Sessions.{Session, with_handles}
use Rattle.breakpoints.specs.declared.fault.AddFault.{AddFault}
use Rattle.breakpoints.specs.declared.fault.AddFault.TheVariants as adds
use Rattle.cdp_session.specs.Rows.{Row, Refuses, Does, refusal_for}

-- the text of a result
unfoldable pub spelt : Json → List ℕ
spelt result = compact_text result

-- the text of a result, whether it is still to be written or was written
abbrev pub answer_text : Answer → List ℕ
answer_text (answers.Tree j) = spelt (json_view j)
answer_text (answers.Text text) = string_bytes text

-- what a method that is done leaves: its session, the events before the reply, the text of its result, the events
-- behind the reply, and what it asks of the program
pub record Written : Type 0 where
  pub session : Session
  pub before : List (List ℕ)
  pub result : List ℕ
  pub events : List (List ℕ)
  pub asks : Asks

-- a method is refused, or it is done
pub data WrittenRow : Type 0 where
  RefusesSo : Refusal → WrittenRow
  DoesSo : Written → WrittenRow

-- a row with the text of its result
abbrev pub written_row : Row → WrittenRow
written_row (Refuses q) = RefusesSo q
written_row (Does d) = DoesSo (record {
  session = d.session;
  before = d.before;
  result = spelt d.result;
  events = d.events;
  asks = d.asks;
})

-- what is done, with the session that it leaves
abbrev pub written_of : Held → Session → Written
written_of d x =
    record {
      session = x;
      before = map string_bytes d.before.items;
      result = answer_text d.answer;
      events = map string_bytes
          (option_to_list d.event);
      asks = d.asks;
    }

-- the reply to the command of this id whose result has this text
unfoldable pub reply_text : ℕ → List ℕ → List ℕ
reply_text id result = result_front id ++ (result ++ message_back)

-- the texts of a command of this id that is done
abbrev pub done_texts : ℕ → Held → List (List ℕ)
done_texts id d =
    map string_bytes d.before.items ++ reply_text id (answer_text d.answer) ∷ map string_bytes (option_to_list d.event)

-- the row is this result, with the session that it leaves; want of memory says nothing
abbrev pub Makes : Result Held Fault → Session → Row → Type 0
Makes (Ok d) new r = written_row r ≡ DoesSo (written_of d new)
Makes (Err (faults.Refused q)) new r = r ≡ Refuses q
Makes (Err faults.Memory) new r = Unit {0}

-- what is refused leaves what it acts on as it was
abbrev pub KeepsIfRefused : {A S : Type 0} → Result A Fault → S → S → Type 0
KeepsIfRefused (Ok d) old new = Unit {0}
KeepsIfRefused (Err (faults.Refused q)) old new = new ≡ old
KeepsIfRefused (Err faults.Memory) old new = Unit {0}

-- the fault of a command that is this fault of setting a breakpoint
abbrev pub made_fault : AddFault → Fault
made_fault adds.Memory = faults.Memory
made_fault fault = faults.Refused (refusal_for fault)

-- the fault of a command whose value isn't given by value
abbrev pub fault_by_value : ByValueFault → Fault
fault_by_value values.TooLong = faults.Refused refusals.ReferenceChainTooLong
fault_by_value values.Memory = faults.Memory

-- the text of a value is given by value; what is too long is refused, and want of memory says nothing
abbrev pub GivesValue : Result (String Global) Fault → Option Json → Type 0
GivesValue (Ok text) o = option_map spelt o ≡ Some (string_bytes text)
GivesValue (Err (faults.Refused q)) o = (o ≡ None) × (q ≡ refusals.ReferenceChainTooLong)
GivesValue (Err faults.Memory) o = Unit {0}

-- what is described, with its text in its place
abbrev pub spelt_made : Described Json → Described (List ℕ)
spelt_made m = record { made = spelt m.made; handles = m.handles }

-- a value is described by this text, and this session has the handles behind it; what is too long is refused, and want
-- of memory says nothing
abbrev pub Describes : Result (String Global) Fault → Session → Session → Option (Described Json) → Type 0
Describes (Ok text) new x o =
    (option_map spelt_made o ≡ Some (record { made = string_bytes text; handles = new.handles }))
    × (new ≡ with_handles new.handles x)
Describes (Err (faults.Refused q)) new x o = (o ≡ None) × (q ≡ refusals.ReferenceChainTooLong)
Describes (Err faults.Memory) new x o = Unit {0}
