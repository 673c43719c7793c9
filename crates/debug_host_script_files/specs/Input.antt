-- The lines of input that a file holds that was handed in.
use Rattle.std.specs.Prelude.{◌≡◌, ℕ, List, [], map, true, false}
use Rattle.std.specs.Str.{is_utf8}
use Rattle.cdp_edge.specs.Blame.{Faults, Blames, Read}
use Rattle.cdp_edge.specs.Outside.{NamedFile, Given, one_file}
use Rattle.cdp_text.specs.Lines.{lines_of}
use Rattle.cdp_text.specs.Units.{utf16_of}
use Rattle.debug_host_script_files.specs.declared.fault.FileFault.{FileFault}
use Rattle.debug_host_script_files.specs.declared.fault.FileFault.TheVariants as faults
use Rattle.debug_host_script_files.specs.declared.fault.TextFault.{TextFault}
use Rattle.debug_host_script_files.specs.declared.fault.TextFault.TheVariants as refusals

-- the lines of a text: it is cut at LF alone, and a last line without LF counts
abbrev pub input_of : List ℕ → List (List ℕ)
input_of bytes = map utf16_of (lines_of bytes)

-- one file of this name was handed in; it is UTF-8, and these are its lines
pub record HoldsInput (given : List NamedFile) (name : List ℕ) (lines : List (List ℕ)) : Type 0 where
  pub bytes : List ℕ
  pub there : given ≡ one_file name bytes
  pub utf8 : is_utf8 bytes ≡ true
  pub are : lines ≡ input_of bytes

-- one file of this name was handed in, and it isn't UTF-8
pub record HoldsNoText (given : List NamedFile) (name : List ℕ) (r : TextFault) : Type 0 where
  pub bytes : List ℕ
  pub there : given ≡ one_file name bytes
  pub utf8 : is_utf8 bytes ≡ false
  pub told : r ≡ refusals.NotUtf8

-- why the file of this name isn't taken as input, of a shelf that handed in what `Hands` says
abbrev pub FailsInput : FileFault → (List NamedFile → Type 0) → List ℕ → Faults → Faults → Type 0
FailsInput (faults.Refused r) Hands name before after = (after ≡ before) × Given Hands (λ given. HoldsNoText given name r)
FailsInput faults.CannotRead Hands name before after = Blames (Read name) before after × Hands []
FailsInput faults.Memory Hands name before after = (after ≡ before) × Given Hands (λ given. Unit {0})
