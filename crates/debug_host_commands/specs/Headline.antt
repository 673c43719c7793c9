-- What debugging leaves of a run: the program prints what it prints without a debugger; it stops at exactly the steps
-- that the rules of its sessions or the start rule name; and each session is sent exactly what a host with no other
-- session sends it, given the program's steps, stops and resumes.
use Rattle.std.specs.Prelude.{◌≡◌, ◌<◌, ◌^◌, ℕ, List, [], ◌∷◌, ◌++◌, map, Bool, true, is_some, codes, decimal}
use Rattle.std.specs.List.{list_all, list_any}
use Rattle.cdp_text.specs.Lines.{lines_of}
use Rattle.cdp_text.specs.Parts.{behind}
use Rattle.cdp_host_isolation.specs.Histories.{Entry, steps_made}
use Rattle.cdp_host_isolation.specs.Seats.{numbers_from}
use Rattle.cdp_host_isolation.specs.Stops.{AllStopExactly}
use Rattle.js_tree.specs.declared.script.Script.{Script}
use Rattle.js_semantics.specs.Laws.{IsPrefix}
use Rattle.cdp_host.specs.Histories.{IsHistory, begin, sent_alone, sent_to, view, whole}
use Rattle.cdp_host.specs.Programs.{plain, printed_of, start}
use Rattle.cdp_host.specs.Protocols.{protocol}
use Rattle.cdp_host.specs.Rules.{PrintsAsPlain}
use Rattle.cdp_journal.specs.Escapes.{escaped, printed_escaped}
use Rattle.cdp_journal.specs.Fronts.{behind_each}
use Rattle.debug_host_commands.specs.Journal.{is_there}
use Rattle.debug_host_commands.specs.Shown.{attached_by, losses_of, ran_texts, texts_to, to_front, waiting_to}

-- ---- its output, cut into lines

-- the program prints what it prints without a debugger
pub record PrintsPlainly (scripts : List Script) (input : List (List ℕ)) (history : List Entry) (output : List ℕ)
    : Type 0 where
  -- the texts on the lines `out TEXT` are what the run without a debugger has printed after as many steps
  pub lines : behind_each (codes "out ") (lines_of output) ≡ map printed_escaped
      (printed_of (plain (steps_made history) scripts input))
  -- these are a prefix of what it prints in any further steps, and all of that once it is over
  pub is_prefix : PrintsAsPlain scripts input (steps_made history) (plain (steps_made history) scripts input)

-- it stops at exactly the steps that the rules of its sessions or the start rule name
pub record StopsWhereNamed (scripts : List Script) (input : List (List ℕ)) (wait : Bool) (history : List Entry)
    (output : List ℕ) : Type 0 where
  -- each step of a run is made where the program is ready: it isn't paused, doesn't wait, wasn't shut, and owes no
  -- report of a loss
  pub is_history : IsHistory scripts input wait history
  -- it stops at each step that a session or the start rule names, but for one at which all that name it are lost, and
  -- at no other
  pub exactly : AllStopExactly (protocol scripts) (start scripts input) 0 (begin scripts input wait) history
  -- the lines `ran K STATE` tell each run's steps, and say `paused` exactly where it stops at the last of them
  pub lines : behind_each (codes "ran ") (lines_of output) ≡ ran_texts scripts input 0 (begin scripts input wait)
      history

-- each session is sent exactly what a host with no other session sends it, given the program's steps, stops and resumes
pub record SendsAsAlone (scripts : List Script) (input : List (List ℕ)) (wait : Bool) (history : List Entry)
    (output : List ℕ) : Type 0 where
  -- the texts on the lines `to S TEXT` are those that the takes of the session S hand out
  pub lines : (s : ℕ)
      → s < 2 ^ 64
      → behind_each (to_front s) (lines_of output) ≡ map escaped (sent_to scripts input wait s history)
  -- and these are what it would be sent with no other session there, given what it sees of the history
  pub alone : (s : ℕ)
      → sent_to scripts input wait s history ≡ sent_alone scripts input wait s (view scripts input wait s history)
  -- for a session that is attached at the end, the texts on its lines and those that wait for it are all answers and
  -- events that its commands and the steps make for it
  pub all : (s : ℕ) → s < 2 ^ 64 → is_there (whole scripts input wait history) s ≡ true
      → behind_each (to_front s) (lines_of output) ++ map escaped
      (waiting_to s scripts (whole scripts input wait history)) ≡ map escaped
      (texts_to s scripts input wait history)
  -- for any session the texts on its lines are the first of these
  pub first : (s : ℕ)
      → s < 2 ^ 64
      → IsPrefix (behind_each (to_front s) (lines_of output)) (map escaped (texts_to s scripts input wait history))
  -- and the lines `overrun S` tell each session that is lost, since more texts would have waited for it than may
  pub losses : behind_each (codes "overrun ") (lines_of output) ≡ map decimal
      (losses_of scripts (begin scripts input wait) history)

-- how a line may begin
abbrev pub fronts : List (List ℕ)
fronts = codes "attached " ∷ codes "to " ∷ codes "out " ∷ codes "overrun " ∷ codes "ran " ∷ []

-- a line begins in one of these ways
abbrev pub is_of_a_kind : List ℕ → Bool
is_of_a_kind line = list_any (λ front. is_some (behind front line)) fronts

-- it tells nothing else but the numbers of the sessions, which count from 1
pub record TellsNothingElse (history : List Entry) (output : List ℕ) : Type 0 where
  pub attached : behind_each (codes "attached ") (lines_of output) ≡ map decimal (numbers_from 1 (attached_by history))
  pub kinds : list_all is_of_a_kind (lines_of output) ≡ true

-- what holds of the output of a history of these scripts with their input, where they may be to wait
pub record Headline (scripts : List Script) (input : List (List ℕ)) (wait : Bool) (history : List Entry)
    (output : List ℕ) : Type 0 where
  pub prints : PrintsPlainly scripts input history output
  pub stops : StopsWhereNamed scripts input wait history output
  pub sends : SendsAsAlone scripts input wait history output
  pub rest : TellsNothingElse history output
