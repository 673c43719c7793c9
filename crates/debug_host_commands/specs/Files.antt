-- What the files that were handed in hold under the names of a command, and which of them is the first that isn't
-- taken.
use Rattle.std.specs.Prelude.{◌≡◌, ◌⊎◌, ℕ, List, [], ◌++◌, Option, Some, None}
use Rattle.cdp_edge.specs.Outside.{NamedFile, one_file}
use Rattle.js_tree.specs.declared.script.Script.{Script}
use Rattle.debug_host_script_files.specs.declared.fault.TextFault.{TextFault}
use Rattle.debug_host_script_files.specs.Input.{HoldsInput, HoldsNoText}
use Rattle.debug_host_script_files.specs.Scripts.{AreScripts, IsAmong, IsReachedAt, IsRefusedAt}
use Rattle.debug_host_options.specs.Requests.{ReplayWords, Sources}

-- ---- a program: its input comes before its scripts

-- the file of this name was handed in, with these lines of input; without a name there is none
abbrev pub HoldsLines : List NamedFile → Option (List ℕ) → List (List ℕ) → Type 0
HoldsLines given None lines = (given ≡ []) × (lines ≡ [])
HoldsLines given (Some name) lines = HoldsInput given name lines

-- The files that were handed in are a program's, in order: that of its input, if it has a name, holds these lines, and
-- those of its scripts hold these scripts. None is left out, and there is no other.
pub record HoldsSources (given : List NamedFile) (sources : Sources) (scripts : List Script) (input : List (List ℕ))
    : Type 0 where
  pub first : List NamedFile
  pub rest : List NamedFile
  pub parts : given ≡ first ++ rest
  pub lines : HoldsLines first sources.input input
  pub are : AreScripts rest sources.scripts scripts

-- the files that were handed in are a program's, with some scripts and some input
pub record HoldsProgram (given : List NamedFile) (sources : Sources) : Type 0 where
  pub scripts : List Script
  pub input : List (List ℕ)
  pub holds : HoldsSources given sources scripts input

-- the input was handed in, and isn't taken
pub record IsRefusedInput (given : List NamedFile) (sources : Sources) (name : List ℕ) (r : TextFault) : Type 0 where
  pub named : sources.input ≡ Some name
  pub refused : HoldsNoText given name r

-- the input is taken, and of the scripts that of this name is the first that isn't, and the last that was handed in
pub record IsRefusedScript (given : List NamedFile) (sources : Sources) (name : List ℕ) (r : TextFault) : Type 0 where
  pub first : List NamedFile
  pub rest : List NamedFile
  pub parts : given ≡ first ++ rest
  pub input : List (List ℕ)
  pub lines : HoldsLines first sources.input input
  pub refused : IsRefusedAt rest sources.scripts name r

-- the first of a program's files that isn't taken has this name
abbrev pub IsRefusedIn : List NamedFile → Sources → List ℕ → TextFault → Type 0
IsRefusedIn given sources name r = IsRefusedInput given sources name r ⊎ IsRefusedScript given sources name r

-- one of a program's files has this name
abbrev pub IsNamed : Sources → List ℕ → Type 0
IsNamed sources name = (sources.input ≡ Some name) ⊎ IsAmong sources.scripts name

-- the input and the scripts before that of this name were handed in, and are taken
pub record IsReachedScript (given : List NamedFile) (sources : Sources) (name : List ℕ) : Type 0 where
  pub first : List NamedFile
  pub rest : List NamedFile
  pub parts : given ≡ first ++ rest
  pub input : List (List ℕ)
  pub lines : HoldsLines first sources.input input
  pub reached : IsReachedAt rest sources.scripts name

-- a program's files before that of this name were handed in, and are taken
abbrev pub IsReachedIn : List NamedFile → Sources → List ℕ → Type 0
IsReachedIn given sources name = ((sources.input ≡ Some name) × (given ≡ [])) ⊎ IsReachedScript given sources name

-- ---- a replay: its journal comes before its program

-- the files that were handed in are a replay's: first this journal, and then those of these scripts and lines of input
pub record HoldsReplay (given : List NamedFile) (request : ReplayWords) (journal : List ℕ) (scripts : List Script)
    (input : List (List ℕ)) : Type 0 where
  pub rest : List NamedFile
  pub parts : given ≡ one_file request.journal journal ++ rest
  pub sources : HoldsSources rest request.sources scripts input

-- the journal was handed in, and the first of the program's files that isn't taken has this name
pub record IsRefusedBehind (given : List NamedFile) (request : ReplayWords) (name : List ℕ) (r : TextFault) : Type 0 where
  pub journal : List ℕ
  pub rest : List NamedFile
  pub parts : given ≡ one_file request.journal journal ++ rest
  pub refused : IsRefusedIn rest request.sources name r

-- the journal or one of the program's files has this name
abbrev pub IsNamedBy : ReplayWords → List ℕ → Type 0
IsNamedBy request name = (request.journal ≡ name) ⊎ IsNamed request.sources name

-- the journal was handed in, and the program's files before that of this name were, and are taken
pub record IsReachedBehind (given : List NamedFile) (request : ReplayWords) (name : List ℕ) : Type 0 where
  pub journal : List ℕ
  pub rest : List NamedFile
  pub parts : given ≡ one_file request.journal journal ++ rest
  pub reached : IsReachedIn rest request.sources name

-- the files before that of this name were handed in, and are taken
abbrev pub IsReachedBy : List NamedFile → ReplayWords → List ℕ → Type 0
IsReachedBy given request name = ((request.journal ≡ name) × (given ≡ [])) ⊎ IsReachedBehind given request name
