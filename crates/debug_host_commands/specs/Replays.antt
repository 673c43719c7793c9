-- The replay of a journal over a program.
use Rattle.std.specs.Prelude.{◌≡◌, ℕ, List, Bool, Option, Some, None}
use Rattle.cdp_edge.specs.Outside.{gains, GainsPrefix, GainsLess}
use Rattle.cdp_text.specs.Lines.{lines_of}
use Rattle.cdp_host_isolation.specs.Histories.{Entry}
use Rattle.js_tree.specs.declared.script.Script.{Script}
use Rattle.cdp_host.specs.Histories.{begin}
use Rattle.debug_host_commands.specs.Applied.{AreEntries, RefusesAt}
use Rattle.debug_host_commands.specs.Headline.{Headline}
use Rattle.debug_host_commands.specs.Journal.{refused}
use Rattle.debug_host_commands.specs.Output.{output_bytes, output_of}
use Rattle.debug_host_commands.specs.Played.{journal_output}

-- these entries are those of all lines of a journal, or of the lines before the one of this number, which is refused
abbrev pub AppliesUpTo : Option ℕ → List Script → List (List ℕ) → Bool → List (List ℕ) → List Entry → Type 0
AppliesUpTo None scripts input wait texts history = AreEntries scripts (begin scripts input wait) texts history
AppliesUpTo (Some number) scripts input wait texts history =
    RefusesAt scripts 1 (begin scripts input wait) texts history number

-- This is the output of a journal's replay over a program, up to the line that is refused, if one is. The replay has a
-- history, and the output shows what a debugger leaves of the run in it. The files decide both the line and the output.
pub record IsReplay (scripts : List Script) (input : List (List ℕ)) (wait : Bool) (journal : List ℕ) (line : Option ℕ)
    (output : List ℕ) : Type 0 where
  pub history : List Entry
  pub applied : AppliesUpTo line scripts input wait (lines_of journal) history
  pub writes : output ≡ output_bytes (output_of scripts (begin scripts input wait) history)
  pub headline : Headline scripts input wait history output
  pub decided : line ≡ refused scripts 1 (begin scripts input wait) (lines_of journal)
  pub only : output ≡ journal_output scripts (begin scripts input wait) (lines_of journal)

-- ---- of a sink that had this content before and after

-- all output of a replay is written
pub record WritesReplay (scripts : List Script) (input : List (List ℕ)) (wait : Bool) (journal : List ℕ)
    (line : Option ℕ) (before now : List ℕ) : Type 0 where
  pub output : List ℕ
  pub replay : IsReplay scripts input wait journal line output
  pub whole : now ≡ gains before output

-- a first part of a replay's output is written
pub record WritesPart (scripts : List Script) (input : List (List ℕ)) (wait : Bool) (journal : List ℕ)
    (before now : List ℕ) : Type 0 where
  pub line : Option ℕ
  pub output : List ℕ
  pub replay : IsReplay scripts input wait journal line output
  pub part : GainsPrefix before now output

-- a first part of a replay's output is written, and not all of it
pub record WritesLess (scripts : List Script) (input : List (List ℕ)) (wait : Bool) (journal : List ℕ)
    (before now : List ℕ) : Type 0 where
  pub line : Option ℕ
  pub output : List ℕ
  pub replay : IsReplay scripts input wait journal line output
  pub less : GainsLess before now output
