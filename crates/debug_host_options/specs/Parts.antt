-- Which of the words after a command's name are options, and which are operands.
use Rattle.std.specs.Prelude.{ℕ, List, [], ◌∷◌, Bool, true, nat_eq, bytes_eq, codes, map, Option, Some, None, if◌then◌else◌}
use Rattle.std.specs.List.{starts_with}
use Rattle.std.specs.Option.{option_and_then, option_map}
use Rattle.cdp_text.specs.Parts.{behind, Halves, halves}
use Rattle.debug_host_options.specs.declared.command.Subcommand.{Subcommand}
use Rattle.debug_host_options.specs.declared.command.OptionName.{OptionName}
use Rattle.debug_host_options.specs.Commands.{option_named, has_option, has_value}

-- a part of a command line
pub data Part : Type 0 where
  -- a word that is no option
  Operand : List ℕ → Part
  -- an option with its value
  Valued : OptionName → List ℕ → Part
  -- an option that has no value
  Flag : OptionName → Part

-- what a word before `--` is
pub data WordKind : Type 0 where
  -- `--`: the words after it are operands
  End : WordKind
  -- a part by itself
  Whole : Part → WordKind
  -- an option whose value is the next word
  Awaiting : OptionName → WordKind
  -- neither an operand nor an option of the command
  Unknown : WordKind

-- a word that begins with no `-`, or is `-` alone
abbrev pub is_operand : List ℕ → Bool
is_operand word = if starts_with nat_eq word (codes "-") then bytes_eq word (codes "-") else true

-- an option, where the command has it
abbrev pub option_had : Subcommand → OptionName → Option OptionName
option_had command option = if has_option command option then Some option else None

-- the option of this name, where the command has it
abbrev pub option_of : Subcommand → List ℕ → Option OptionName
option_of command name = option_and_then (option_had command) (option_named name)

-- what a word is, where it may be unknown
abbrev pub known : Option WordKind → WordKind
known None = Unknown
known (Some kind) = kind

-- `--NAME=VALUE`, of an option
abbrev pub valued_kind : List ℕ → OptionName → WordKind
valued_kind value option = if has_value option then Whole (Valued option value) else Unknown

-- `--NAME`, of an option
abbrev pub alone_kind : OptionName → WordKind
alone_kind option = if has_value option then Awaiting option else Whole (Flag option)

-- what stands after `--`: a name alone, or one before `=` and a value after it
abbrev pub named_kind : Subcommand → List ℕ → Option Halves → WordKind
named_kind command text None = known (option_map alone_kind (option_of command text))
named_kind command text (Some parts) = known (option_map (valued_kind parts.back) (option_of command parts.front))

-- a word by what stands after `--`
abbrev pub long_kind : Subcommand → Option (List ℕ) → WordKind
long_kind command None = Unknown
long_kind command (Some text) = named_kind command text (halves 61 text)

-- what a word is
abbrev pub kind_of : Subcommand → List ℕ → WordKind
kind_of command word =
    if is_operand word then Whole (Operand word)
    else if bytes_eq word (codes "--") then End else long_kind command (behind (codes "--") word)

-- one part before others, where there are others
abbrev pub begun : Part → Option (List Part) → Option (List Part)
begun part parts = option_map (λ rest. part ∷ rest) parts

-- these words as operands
abbrev pub operands_alone : List (List ℕ) → List Part
operands_alone words = map (λ word. Operand word) words

-- the parts that begin with a word of this kind, by the words after it, and by their parts without a value and with one
abbrev pub parts_by : WordKind → List (List ℕ) → Option (List Part) → (OptionName → Option (List Part))
    → Option (List Part)
parts_by End words parts valued = Some (operands_alone words)
parts_by (Whole part) words parts valued = begun part parts
parts_by (Awaiting option) words parts valued = valued option
parts_by Unknown words parts valued = None

abbrev mutual
  -- the parts of the words after a command's name, if they have parts
  pub parts_of : Subcommand → List (List ℕ) → Option (List Part)
  parts_of command [] = Some []
  parts_of command (word ∷ words) =
      parts_by (kind_of command word) words (parts_of command words) (valued_parts command words)

  -- the parts of words of which the first is the value of this option
  pub valued_parts : Subcommand → List (List ℕ) → OptionName → Option (List Part)
  valued_parts command [] option = None
  valued_parts command (value ∷ words) option =
      if is_operand value then begun (Valued option value) (parts_of command words) else None
