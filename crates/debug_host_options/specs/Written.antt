-- How what is asked for is written in words.
use Rattle.std.specs.Prelude.{◌≡◌, ◌⊎◌, ℕ, List, [], ◌∷◌, ◌++◌, Bool, true, false, codes, Some, None}
use Rattle.debug_host_options.specs.declared.command.Subcommand.{Subcommand}
use Rattle.debug_host_options.specs.declared.command.Subcommand.TheVariants.{Run, Replay, Drill, Serve, Send}
use Rattle.debug_host_options.specs.declared.command.OptionName.{OptionName}
use Rattle.debug_host_options.specs.declared.command.OptionName.TheVariants.{Port, Sessions, Input, Journal, Wait, Devtools, Explain}
use Rattle.debug_host_options.specs.Commands.{has_option, has_value}
use Rattle.debug_host_options.specs.Parts.{Part, Operand, Valued, Flag, is_operand, operands_alone}
use Rattle.debug_host_options.specs.Requests.{Request, Help, Version, request_of}

-- the name of a command
abbrev pub command_text : Subcommand → List ℕ
command_text Run = codes "run"
command_text Replay = codes "replay"
command_text Drill = codes "drill"
command_text Serve = codes "serve"
command_text Send = codes "send"

-- the name of an option
abbrev pub option_text : OptionName → List ℕ
option_text Port = codes "port"
option_text Sessions = codes "sessions"
option_text Input = codes "input"
option_text Journal = codes "journal"
option_text Wait = codes "wait"
option_text Devtools = codes "devtools"
option_text Explain = codes "explain"

-- `--NAME`
abbrev pub option_word : OptionName → List ℕ
option_word option = codes "--" ++ option_text option

-- `--NAME=VALUE`
abbrev pub valued_word : OptionName → List ℕ → List ℕ
valued_word option value = option_word option ++ (61 ∷ value)

-- a command has an option, and whether this has a value
abbrev pub HasOption : Subcommand → OptionName → Bool → Type 0
HasOption command option valued = (has_option command option ≡ true) × (has_value option ≡ valued)

-- the words are one part and others after it: an operand, `--NAME`, `--NAME=VALUE`, or `--NAME VALUE` with a value like an operand
abbrev pub Begins : Subcommand → Part → List (List ℕ) → List (List ℕ) → Type 0
Begins command (Operand word) words rest = (is_operand word ≡ true) × (words ≡ word ∷ rest)
Begins command (Flag option) words rest = HasOption command option false × (words ≡ option_word option ∷ rest)
Begins command (Valued option value) words rest =
    HasOption command option true
    × ((words ≡ valued_word option value ∷ rest)
    ⊎ ((is_operand value ≡ true) × (words ≡ option_word option ∷ value ∷ rest)))

-- the words are `--`, and after it operands
abbrev pub AreOperands : List Part → List (List ℕ) → Type 0
AreOperands parts words =
    (operands : List (List ℕ)) × (words ≡ codes "--" ∷ operands) × (parts ≡ operands_alone operands)

-- the words are these parts one after another, of which the last ones may be operands after `--`
abbrev pub AreParts : Subcommand → List Part → List (List ℕ) → Type 0
AreParts command [] words = (words ≡ []) ⊎ AreOperands [] words
AreParts command (part ∷ parts) words =
    ((rest : List (List ℕ)) × Begins command part words rest × AreParts command parts rest)
    ⊎ AreOperands (part ∷ parts) words

-- the words are one that asks for help
abbrev pub AsksHelp : List (List ℕ) → Type 0
AsksHelp words = (words ≡ codes "--help" ∷ []) ⊎ (words ≡ codes "-h" ∷ [])

-- the words after a command's name ask for this
abbrev pub AsksAfter : Subcommand → List (List ℕ) → Request → Type 0
AsksAfter command words request =
    (AsksHelp words × (request ≡ Help (Some command)))
    ⊎ ((parts : List Part) × AreParts command parts words × (request_of command parts ≡ Some request))

-- the words ask for this: for help, for the version, or by a command's name
abbrev pub AsksFor : List (List ℕ) → Request → Type 0
AsksFor words request =
    (AsksHelp words × (request ≡ Help None))
    ⊎ (((words ≡ codes "--version" ∷ []) × (request ≡ Version))
    ⊎ ((command : Subcommand)
    × (rest : List (List ℕ))
    × (words ≡ command_text command ∷ rest)
    × AsksAfter command rest request))
