-- Which lines of a journal are applied, and which one is refused.
use Rattle.std.specs.Prelude.{◌≡◌, ◌≢◌, ◌⊎◌, ℕ, ◌+◌, List, [], ◌∷◌, ◌++◌, length, fold, true}
use Rattle.cdp_host_isolation.specs.Histories.{Entry, Attach as Attached, Tell as Told, Take as Taken, Detach as Detached, Ran, Shut as ShutDown}
use Rattle.cdp_host_isolation.specs.Meanings.{after_steps}
use Rattle.cdp_host_isolation.specs.Runs.{IsLongest}
use Rattle.js_tree.specs.declared.script.Script.{Script}
use Rattle.js_semantics.specs.Run.{Run as Program}
use Rattle.cdp_host.specs.Histories.{Meaning, apply}
use Rattle.cdp_host.specs.Protocols.{protocol}
use Rattle.debug_host_commands.specs.Journal.{is_there}
use Rattle.cdp_journal.specs.Lines.{Line, Attach, Tell, Take, Detach, Run, Shut, IsLine, memory_text}

-- a line may stand there, and this is its entry: one that attaches or shuts at any place, one that tells, takes or
-- detaches where its session is attached, and one that runs at any place, for the longest run of at most its steps at
-- its moment that loses nobody for want of memory
abbrev pub MayStand : List Script → Meaning Program → Line → Entry → Type 0
MayStand scripts m Attach entry = entry ≡ Attached
MayStand scripts m (Tell s text) entry = (is_there m s ≡ true) × (entry ≡ Told s text)
MayStand scripts m (Take s) entry = (is_there m s ≡ true) × (entry ≡ Taken s)
MayStand scripts m (Detach s) entry = (is_there m s ≡ true) × (entry ≡ Detached s)
MayStand scripts m (Run most moment) entry =
    (n : ℕ)
    × IsLongest (protocol scripts) moment most m (after_steps (protocol scripts) moment n m) n
    × (entry ≡ Ran n moment [])
MayStand scripts m Shut entry = entry ≡ ShutDown

-- the text is a line of its form, which may stand there and has this entry
pub record IsEntry (scripts : List Script) (m : Meaning Program) (text : List ℕ) (entry : Entry) : Type 0 where
  pub line : Line
  pub is : IsLine text line
  pub stands : MayStand scripts m line entry

-- each text is a line that may stand there, and these are their entries; the last may be the line `memory`, which has
-- none
abbrev pub AreEntries : List Script → Meaning Program → List (List ℕ) → List Entry → Type 0
AreEntries scripts m [] [] = Unit {0}
AreEntries scripts m [] (entry ∷ entries) = ⊥
AreEntries scripts m (text ∷ texts) [] = (text ≡ memory_text) × (texts ≡ [])
AreEntries scripts m (text ∷ texts) (entry ∷ entries) =
    IsEntry scripts m text entry × AreEntries scripts (apply scripts m entry) texts entries

-- the last text is the line `memory`
abbrev pub EndsWithMemory : List (List ℕ) → Type 0
EndsWithMemory texts = (front : List (List ℕ)) × (texts ≡ front ++ memory_text ∷ [])

-- a text may not follow these, whose entries these are: they end with the line `memory`; or it is neither that line nor
-- one of its form that may stand there
abbrev pub MayNotFollow : List Script → Meaning Program → List (List ℕ) → List Entry → List ℕ → Type 0
MayNotFollow scripts m before entries text =
    EndsWithMemory before
    ⊎ ((text ≢ memory_text) × ((entry : Entry) → ¬ (IsEntry scripts (fold (apply scripts) m entries) text entry)))

-- the text of this number, where the first has the first number, may not follow those before it, whose entries these are
pub record RefusesAt (scripts : List Script) (first : ℕ) (m : Meaning Program) (texts : List (List ℕ))
    (entries : List Entry) (number : ℕ) : Type 0 where
  pub before : List (List ℕ)
  pub text : List ℕ
  pub behind : List (List ℕ)
  pub parts : texts ≡ before ++ text ∷ behind
  pub numbered : number ≡ first + length before
  pub applied : AreEntries scripts m before entries
  pub refused : MayNotFollow scripts m before entries text
