-- The scripts that files hold, one after another as they were handed in.
use Rattle.std.specs.Prelude.{◌≡◌, ◌+◌, ℕ, List, [], ◌∷◌, ◌++◌, length, map, true}
use Rattle.std.specs.List.{range_with_len}
use Rattle.std.specs.Str.{is_utf8}
use Rattle.std.specs.Borrow.{Bor}
use Rattle.cdp_edge.specs.Blame.{Faults, Blames, Read}
use Rattle.cdp_edge.specs.Outside.{NamedFile, Given, one_file}
use Rattle.cdp_text.specs.Units.{utf16_of}
use Rattle.js_tree.specs.declared.script.Script.{Script}
use Rattle.js_tree.specs.Height.{height_of_statements}
use Rattle.js_tree.specs.Views.{statements_view}
use Rattle.js_parser_language.specs.Language.{IsScript}
use Rattle.js_parser_language.specs.Places.{numbers_of, statements_places}
use Rattle.js_parser.specs.Sources.{IsSource}
use Rattle.js_parser.specs.Spans.{AreSpansIn}
use Rattle.debug_host_script_files.specs.declared.fault.TextFault.{TextFault}
use Rattle.debug_host_script_files.specs.declared.fault.FileFault.{FileFault}
use Rattle.debug_host_script_files.specs.declared.fault.FileFault.TheVariants as faults
use Rattle.debug_host_script_files.specs.TopNames.{declared_in}
use Rattle.debug_host_script_files.specs.Refusals.{IsRefused}

-- a name that is lent
abbrev pub name_held : Bor (List ℕ) → List ℕ
name_held name = name.now

-- names that are lent
abbrev pub names_held : List (Bor (List ℕ)) → List (List ℕ)
names_held names = map name_held names

-- These bytes are this script, under this name, behind so many scripts that declare these names: its source is what the
-- bytes spell, its tree the one of that source, and its nodes are numbered in the order in which they end.
pub record IsScriptOf (declared : List (List ℕ)) (before : ℕ) (name bytes : List ℕ) (s : Script) : Type 0 where
  pub utf8 : is_utf8 bytes ≡ true
  pub number : s.number ≡ before + 1
  pub url : s.url ≡ utf16_of name
  pub source : s.source ≡ utf16_of bytes
  pub tree : IsSource (IsScript declared) height_of_statements (utf16_of bytes) (statements_view s.body)
  pub spans : AreSpansIn (utf16_of bytes) s.spans (statements_places s.body)
  pub numbered : numbers_of (statements_places s.body) ≡ range_with_len 0 (length s.spans)

-- one file of this name was handed in, and it holds this script, after these
pub record HoldsScript (given : List NamedFile) (earlier : List Script) (name : List ℕ) (s : Script) : Type 0 where
  pub bytes : List ℕ
  pub there : given ≡ one_file name bytes
  pub script : IsScriptOf (declared_in earlier) (length earlier) name bytes s

-- the files that were handed in have these names and hold these scripts, each in order, after those scripts
abbrev pub AreScriptsBehind : List NamedFile → List Script → List (List ℕ) → List Script → Type 0
AreScriptsBehind [] earlier [] [] = Unit {0}
AreScriptsBehind [] earlier [] (s ∷ ss) = ⊥
AreScriptsBehind [] earlier (name ∷ names) ss = ⊥
AreScriptsBehind (file ∷ given) earlier [] ss = ⊥
AreScriptsBehind (file ∷ given) earlier (name ∷ names) [] = ⊥
AreScriptsBehind (file ∷ given) earlier (name ∷ names) (s ∷ ss) =
    (file.name ≡ name)
    × IsScriptOf (declared_in earlier) (length earlier) name file.bytes s
    × AreScriptsBehind given (earlier ++ s ∷ []) names ss

-- the files that were handed in have these names and hold these scripts, from the first on
abbrev pub AreScripts : List NamedFile → List (List ℕ) → List Script → Type 0
AreScripts given names ss = AreScriptsBehind given [] names ss

-- ---- faults

-- one file of this name was handed in, and it is refused after these scripts
pub record IsRefusedNext (given : List NamedFile) (earlier : List Script) (name : List ℕ) (r : TextFault) : Type 0 where
  pub bytes : List ℕ
  pub there : given ≡ one_file name bytes
  pub refused : IsRefused (declared_in earlier) bytes r

-- of these names this one stands behind those
pub record StandsBehind (names before : List (List ℕ)) (name : List ℕ) : Type 0 where
  pub behind : List (List ℕ)
  pub parts : names ≡ before ++ name ∷ behind

-- this one is among them
abbrev pub IsAmong : List (List ℕ) → List ℕ → Type 0
IsAmong names name = (before : List (List ℕ)) × StandsBehind names before name

-- the files of the names before this one were handed in, and they hold scripts
pub record IsReachedAt (given : List NamedFile) (names : List (List ℕ)) (name : List ℕ) : Type 0 where
  pub before : List (List ℕ)
  pub stands : StandsBehind names before name
  pub scripts : List Script
  pub are : AreScripts given before scripts

-- and then that of this name, which is refused after them: of the files of these names it is the first that holds no
-- script
pub record IsRefusedAt (given : List NamedFile) (names : List (List ℕ)) (name : List ℕ) (r : TextFault) : Type 0 where
  pub earlier : List NamedFile
  pub last : List NamedFile
  pub parts : given ≡ earlier ++ last
  pub reached : IsReachedAt earlier names name
  pub next : IsRefusedNext last reached.scripts name r

-- ---- answers, of a shelf that handed in what `Hands` says, and that had these faults before and after

-- why bytes aren't taken as a script behind scripts that declare these names
abbrev pub FailsAs : FileFault → List (List ℕ) → List ℕ → Type 0
FailsAs (faults.Refused r) declared bytes = IsRefused declared bytes r
FailsAs faults.CannotRead declared bytes = ⊥
FailsAs faults.Memory declared bytes = Unit {0}

-- why the file of this name isn't taken as the one after these scripts
abbrev pub FailsNext : FileFault → (List NamedFile → Type 0) → List Script → List ℕ → Faults → Faults → Type 0
FailsNext (faults.Refused r) Hands earlier name before after =
    (after ≡ before) × Given Hands (λ given. IsRefusedNext given earlier name r)
FailsNext faults.CannotRead Hands earlier name before after = Blames (Read name) before after × Hands []
FailsNext faults.Memory Hands earlier name before after = (after ≡ before) × Given Hands (λ given. Unit {0})

-- why the file of this name isn't taken as the next of these
abbrev pub Fails : FileFault → (List NamedFile → Type 0) → List (List ℕ) → List ℕ → Faults → Faults → Type 0
Fails (faults.Refused r) Hands names name before after =
    (after ≡ before) × Given Hands (λ given. IsRefusedAt given names name r)
Fails faults.CannotRead Hands names name before after =
    Blames (Read name) before after × IsAmong names name × Given Hands (λ given. IsReachedAt given names name)
Fails faults.Memory Hands names name before after = (after ≡ before) × Given Hands (λ given. Unit {0})

-- one script more, which the file holds that was handed in under this name
pub record IsOneMore (given : List NamedFile) (old new : List Script) (name : List ℕ) : Type 0 where
  pub script : Script
  pub added : new ≡ old ++ script ∷ []
  pub holds : HoldsScript given old name script
