-- What the replay of the record of a history does.
use Rattle.std.specs.Prelude.{◌≡◌, ◌<◌, ◌^◌, ℕ, List, [], ◌++◌, map, Bool, false, Option, None, codes}
use Rattle.cdp_text.specs.Lines.{lines_of}
use Rattle.cdp_host_isolation.specs.Histories.{Entry, steps_made}
use Rattle.js_tree.specs.declared.script.Script.{Script}
use Rattle.cdp_host.specs.Histories.{begin, sent_to}
use Rattle.cdp_host.specs.Programs.{plain, printed_of}
use Rattle.cdp_host.specs.Protocols.{protocol}
use Rattle.cdp_host_record.specs.Records.{has_ended}
use Rattle.cdp_journal.specs.Escapes.{escaped, printed_escaped}
use Rattle.cdp_journal.specs.Fronts.{behind_each}
use Rattle.debug_host_commands.specs.Shown.{to_front}

-- A replay that was refused at this line, if at one, and wrote this output, has played a history again: no line was
-- refused, the lines `out ` have what the program prints in a first part of that history, and the lines `to S ` the texts
-- that this part hands out to the session S. It is all of the history, unless an entry of it ends its record, which then
-- ends with the line `memory`.
pub record ReplaysAgain (scripts : List Script) (input : List (List ℕ)) (wait : Bool) (history : List Entry)
    (line : Option ℕ) (output : List ℕ) : Type 0 where
  pub unrefused : line ≡ None
  pub first : List Entry
  pub rest : List Entry
  pub whole : history ≡ first ++ rest
  pub kept : has_ended (protocol scripts) (begin scripts input wait) history ≡ false → rest ≡ []
  pub prints : behind_each (codes "out ") (lines_of output) ≡ map printed_escaped
      (printed_of (plain (steps_made first) scripts input))
  pub sends : (s : ℕ)
      → s < 2 ^ 64
      → behind_each (to_front s) (lines_of output) ≡ map escaped (sent_to scripts input wait s first)
