-- Why bytes aren't taken as a script.
use Rattle.std.specs.Prelude.{◌≡◌, ◌≤◌, ◌<◌, ◌^◌, ◌⊎◌, ℕ, List, length, true, false, Option, Some, None}
use Rattle.std.specs.Str.{is_utf8}
use Rattle.cdp_text.specs.Position.{position}
use Rattle.cdp_text.specs.Units.{utf16_of}
use Rattle.js_tree.specs.Height.{height_of_statements}
use Rattle.js_parser_language.specs.Language.{IsScript}
use Rattle.js_parser_readers.specs.declared.fault.ParseFault.{ParseFault}
use Rattle.js_parser_readers.specs.declared.fault.ParseFault.TheVariants as faults
use Rattle.js_parser.specs.Faults.{Caused, IsCause, ComesFirst}
use Rattle.debug_host_script_files.specs.declared.fault.TextFault.{TextFault}
use Rattle.debug_host_script_files.specs.declared.fault.TextFault.TheVariants as refusals
use Rattle.debug_host_script_files.specs.declared.fault.FileFault.{FileFault}
use Rattle.debug_host_script_files.specs.declared.fault.FileFault.TheVariants as files

-- what is told of a fault that the parser finds in a source; want of memory is none of the source's
abbrev pub refusal_of : List ℕ → ParseFault → Option TextFault
refusal_of source (faults.TooLong units) = Some (refusals.TooLong units)
refusal_of source (faults.Token at) = Some (refusals.UnexpectedToken (position source at))
refusal_of source (faults.Syntax at) = Some (refusals.UnexpectedToken (position source at))
refusal_of source (faults.TooMany at) = Some refusals.TooManyTokens
refusal_of source faults.TooDeep = Some refusals.TooDeep
refusal_of source faults.Memory = None

-- the place of a fault stands in its source, which isn't too long for positions
abbrev pub StandsWithin : List ℕ → ParseFault → Type 0
StandsWithin source (faults.Token at) = (at ≤ length source) × (length source < 2 ^ 32)
StandsWithin source (faults.Syntax at) = (at ≤ length source) × (length source < 2 ^ 32)
StandsWithin source f = Unit {0}

-- This fault stands in a source behind scripts that declare these names, and the source has no cause of a fault at an
-- earlier place.
pub record IsFaultOf (declared : List (List ℕ)) (source : List ℕ) (f : ParseFault) : Type 0 where
  pub caused : Caused (IsScript declared) height_of_statements source f
  pub first : (g : ParseFault) → IsCause (IsScript declared) source g → ComesFirst f g

-- a fault of the source that is told so
pub record IsRefusedBy (declared : List (List ℕ)) (source : List ℕ) (f : ParseFault) (r : TextFault) : Type 0 where
  pub fault : IsFaultOf declared source f
  pub told : refusal_of source f ≡ Some r

-- Bytes are refused as a script behind scripts that declare these names: they aren't UTF-8, or what they spell has this
-- fault.
abbrev pub IsRefused : List (List ℕ) → List ℕ → TextFault → Type 0
IsRefused declared bytes r =
    ((is_utf8 bytes ≡ false) × (r ≡ refusals.NotUtf8))
    ⊎ ((is_utf8 bytes ≡ true) × ((f : ParseFault) × IsRefusedBy declared (utf16_of bytes) f r))

-- the fault of a file that is told so
abbrev pub fault_told : Option TextFault → FileFault
fault_told (Some r) = files.Refused r
fault_told None = files.Memory
