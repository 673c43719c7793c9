-- What the files hold of a shelf that tells them.
use Rattle.std.specs.Prelude.{◌≡◌, ℕ, List, [], ◌∷◌, ◌++◌, length, Some, true}
use Rattle.std.specs.Str.{is_utf8}
use Rattle.cdp_edge.specs.Outside.{NamedFile, content_of}
use Rattle.js_tree.specs.declared.script.Script.{Script}
use Rattle.debug_host_script_files.specs.Input.{input_of}
use Rattle.debug_host_script_files.specs.Scripts.{IsScriptOf}
use Rattle.debug_host_script_files.specs.TopNames.{declared_in}

-- the file of this name holds this script, after these
pub record KeepsScript (files : List NamedFile) (earlier : List Script) (name : List ℕ) (s : Script) : Type 0 where
  pub bytes : List ℕ
  pub there : content_of name files ≡ Some bytes
  pub script : IsScriptOf (declared_in earlier) (length earlier) name bytes s

-- the files of these names hold these scripts in order, after those
abbrev pub KeepScripts : List NamedFile → List Script → List (List ℕ) → List Script → Type 0
KeepScripts files earlier [] [] = Unit {0}
KeepScripts files earlier [] (s ∷ ss) = ⊥
KeepScripts files earlier (name ∷ names) [] = ⊥
KeepScripts files earlier (name ∷ names) (s ∷ ss) =
    KeepsScript files earlier name s × KeepScripts files (earlier ++ s ∷ []) names ss

-- the file of this name is UTF-8, and these are its lines
pub record KeepsInput (files : List NamedFile) (name : List ℕ) (lines : List (List ℕ)) : Type 0 where
  pub bytes : List ℕ
  pub there : content_of name files ≡ Some bytes
  pub utf8 : is_utf8 bytes ≡ true
  pub are : lines ≡ input_of bytes
