-- What the parts of a command line give.
use Rattle.std.specs.Prelude.{ℕ, List, [], ◌∷◌, Bool, true, false, Option, Some, None, if◌then◌else◌}
use Rattle.std.specs.List.{filter_map, list_any}
use Rattle.std.specs.Option.{option_map_or}
use Rattle.debug_host_options.specs.declared.command.OptionName.{OptionName}
use Rattle.debug_host_options.specs.Commands.{same_option}
use Rattle.debug_host_options.specs.Parts.{Part, Operand, Valued, Flag}

-- the option that a part is
abbrev pub option_in : Part → Option OptionName
option_in (Operand word) = None
option_in (Valued option value) = Some option
option_in (Flag option) = Some option

-- whether a part is this option
abbrev pub is_named : OptionName → Part → Bool
is_named option part = option_map_or (λ other. same_option other option) (option_in part) false

-- whether an option is one of these parts
abbrev pub is_given : OptionName → List Part → Bool
is_given option parts = list_any (is_named option) parts

-- whether a part is an option that is one of these parts too
abbrev pub is_again : Part → List Part → Bool
is_again part parts = option_map_or (λ option. is_given option parts) (option_in part) false

-- whether an option is given twice
abbrev pub has_repeat : List Part → Bool
has_repeat [] = false
has_repeat (part ∷ parts) = if is_again part parts then true else has_repeat parts

-- the value that a part has
abbrev pub own_value : Part → Option (List ℕ)
own_value (Operand word) = None
own_value (Valued option value) = Some value
own_value (Flag option) = None

-- the value of this option, where a part is that
abbrev pub value_in : OptionName → Part → Option (List ℕ)
value_in option part = if is_named option part then own_value part else None

-- the first that is there
abbrev pub first_of : Option (List ℕ) → Option (List ℕ) → Option (List ℕ)
first_of None other = other
first_of (Some text) other = Some text

-- the value of this option, where it is given
abbrev pub value_of : OptionName → List Part → Option (List ℕ)
value_of option [] = None
value_of option (part ∷ parts) = first_of (value_in option part) (value_of option parts)

-- the operand that a part is
abbrev pub operand_in : Part → Option (List ℕ)
operand_in (Operand word) = Some word
operand_in (Valued option value) = None
operand_in (Flag option) = None

-- the operands, in order
abbrev pub operands_of : List Part → List (List ℕ)
operands_of parts = filter_map operand_in parts
