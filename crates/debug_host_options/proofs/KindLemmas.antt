-- What a word is, and how it is spelled.
use Rattle.std.proofs.Common.{◌≡◌, ℕ, List, [], ◌∷◌, ◌++◌, Bool, true, false, Option, Some, None, refl, sym, ap, ◌∙◌, codes, bytes_eq, if◌then◌else◌}
use Rattle.std.specs.Option.{option_map}
use Rattle.std.proofs.lemmas.Option.{cond_some, none-some, option_and_then_some}
use Rattle.std.proofs.lemmas.Slice.Eq.{bytes_eq-Decides}
use Rattle.cdp_text.specs.Parts.{behind, Halves, halves}
use Rattle.cdp_text.proofs.PartsLemmas.{behind-some, halves-some}
use Rattle.debug_host_options.specs.declared.command.Subcommand.{Subcommand}
use Rattle.debug_host_options.specs.declared.command.Subcommand.TheVariants.{Run, Replay, Drill, Serve, Send}
use Rattle.debug_host_options.specs.declared.command.OptionName.{OptionName}
use Rattle.debug_host_options.specs.declared.command.OptionName.TheVariants.{Port, Sessions, Input, Journal, Wait, Devtools, Explain}
use Rattle.debug_host_options.specs.Commands.{command_named, option_named, has_option, has_value}
use Rattle.debug_host_options.specs.Parts.{Part, Operand, Valued, Flag, WordKind, End, Whole, Awaiting, Unknown, alone_kind, is_operand, kind_of, known, long_kind, named_kind, option_had, option_of, valued_kind}
use Rattle.debug_host_options.specs.Written.{HasOption, command_text, option_text, option_word, valued_word}

-- ---- a spelled word is what was spelled

pub kind-operand : (command : Subcommand) (word : List ℕ) → is_operand word ≡ true
    → kind_of command word ≡ Whole (Operand word)
kind-operand command word is =
    ap (λ b. if b then Whole (Operand word) else if bytes_eq word (codes "--") then End
    else long_kind command (behind (codes "--") word)) is

-- the word of an option by the option that the command has
had : (command : Subcommand) (option : OptionName) → has_option command option ≡ true
    → option_had command option ≡ Some option
had command option has = ap (λ b. if b then Some option else None) has

alone-had : (command : Subcommand) (option : OptionName) → has_option command option ≡ true
    → known (option_map alone_kind (option_had command option)) ≡ alone_kind option
alone-had command option has = ap (λ o. known (option_map alone_kind o)) (had command option has)

valued-had : (command : Subcommand) (option : OptionName) (value : List ℕ) → has_option command option ≡ true
    → known (option_map (valued_kind value) (option_had command option)) ≡ valued_kind value option
valued-had command option value has = ap (λ o. known (option_map (valued_kind value) o)) (had command option has)

kind-alone : (command : Subcommand) (option : OptionName) → has_option command option ≡ true
    → kind_of command (option_word option) ≡ alone_kind option
kind-alone command Port has = alone-had command Port has
kind-alone command Sessions has = alone-had command Sessions has
kind-alone command Input has = alone-had command Input has
kind-alone command Journal has = alone-had command Journal has
kind-alone command Wait has = alone-had command Wait has
kind-alone command Devtools has = alone-had command Devtools has
kind-alone command Explain has = alone-had command Explain has

kind-joined : (command : Subcommand) (option : OptionName) (value : List ℕ) → has_option command option ≡ true
    → kind_of command (valued_word option value) ≡ valued_kind value option
kind-joined command Port value has = valued-had command Port value has
kind-joined command Sessions value has = valued-had command Sessions value has
kind-joined command Input value has = valued-had command Input value has
kind-joined command Journal value has = valued-had command Journal value has
kind-joined command Wait value has = valued-had command Wait value has
kind-joined command Devtools value has = valued-had command Devtools value has
kind-joined command Explain value has = valued-had command Explain value has

pub kind-flag : (command : Subcommand) (option : OptionName) → HasOption command option false
    → kind_of command (option_word option) ≡ Whole (Flag option)
kind-flag command option has =
    kind-alone command option has.0 ∙ ap (λ b. if b then Awaiting option else Whole (Flag option)) has.1

pub kind-awaiting : (command : Subcommand) (option : OptionName) → HasOption command option true
    → kind_of command (option_word option) ≡ Awaiting option
kind-awaiting command option has =
    kind-alone command option has.0 ∙ ap (λ b. if b then Awaiting option else Whole (Flag option)) has.1

pub kind-valued : (command : Subcommand) (option : OptionName) (value : List ℕ) → HasOption command option true
    → kind_of command (valued_word option value) ≡ Whole (Valued option value)
kind-valued command option value has =
    kind-joined command option value has.0
    ∙ ap (λ b. if b then Whole (Valued option value) else Unknown) has.1

-- ---- and a word is spelled so

-- how a part that is one word is spelled
abbrev pub IsWord : Subcommand → List ℕ → Part → Type 0
IsWord command word (Operand text) = (is_operand text ≡ true) × (word ≡ text)
IsWord command word (Flag option) = HasOption command option false × (word ≡ option_word option)
IsWord command word (Valued option value) = HasOption command option true × (word ≡ valued_word option value)

-- how a word of this kind is spelled
abbrev pub IsSpelled : Subcommand → List ℕ → WordKind → Type 0
IsSpelled command word End = word ≡ codes "--"
IsSpelled command word (Whole part) = IsWord command word part
IsSpelled command word (Awaiting option) = HasOption command option true × (word ≡ option_word option)
IsSpelled command word Unknown = Unit {0}

name_step : (b : Bool) (name : List ℕ) (named option : OptionName) (others : Option OptionName)
    → (b ≡ true → name ≡ option_text named)
    → (others ≡ Some option → name ≡ option_text option)
    → (if b then Some named else others) ≡ Some option → name ≡ option_text option
name_step true name named option others same more is = same refl ∙ ap (λ o. option_name o) is
  where
    option_name : Option OptionName → List ℕ
    option_name None = []
    option_name (Some o) = option_text o
name_step false name named option others same more is = more is

option_named-some : (name : List ℕ) (option : OptionName) → option_named name ≡ Some option → name ≡ option_text option
option_named-some name option is =
    name_step (bytes_eq name (codes "port")) name Port option _ ((bytes_eq-Decides name (codes "port")).0)
    (name_step (bytes_eq name (codes "sessions")) name Sessions option _ ((bytes_eq-Decides name (codes "sessions")).0)
    (name_step (bytes_eq name (codes "input")) name Input option _ ((bytes_eq-Decides name (codes "input")).0)
    (name_step (bytes_eq name (codes "journal")) name Journal option _ ((bytes_eq-Decides name (codes "journal")).0)
    (name_step (bytes_eq name (codes "wait")) name Wait option _ ((bytes_eq-Decides name (codes "wait")).0)
    (name_step (bytes_eq name (codes "devtools")) name Devtools option _ ((bytes_eq-Decides name (codes "devtools")).0)
    (name_step (bytes_eq name (codes "explain")) name Explain option None ((bytes_eq-Decides name (codes "explain")).0)
    (λ none. absurd (none-some option none))))))))
    is

-- a command has an option of this name
abbrev IsNamed : Subcommand → OptionName → List ℕ → Type 0
IsNamed command option name = (has_option command option ≡ true) × (name ≡ option_text option)

option_of-some : (command : Subcommand) (name : List ℕ) (option : OptionName)
    → option_of command name ≡ Some option
    → IsNamed command option name
option_of-some command name option is =
    option_and_then_some (option_had command) (option_named name) option is (λ named named_is had_is.
    let chosen = cond_some (has_option command named) named option had_is in (
      ap (has_option command) (sym chosen.1) ∙ chosen.0,
      option_named-some name named named_is ∙ ap option_text chosen.1,
    ))

alone_by : (command : Subcommand) (word : List ℕ) (option : OptionName) (b : Bool)
    → has_option command option ≡ true
    → word ≡ option_word option
    → has_value option ≡ b
    → IsSpelled command word (if b then Awaiting option else Whole (Flag option))
alone_by command word option true has is valued = ((has, valued), is)
alone_by command word option false has is valued = ((has, valued), is)

alone-spelled : (command : Subcommand) (word text : List ℕ) (o : Option OptionName)
    → word ≡ codes "--" ++ text
    → ((option : OptionName) → o ≡ Some option → IsNamed command option text)
    → IsSpelled command word (known (option_map alone_kind o))
alone-spelled command word text None is named = tt
alone-spelled command word text (Some option) is named =
    let name = named option refl in
    alone_by command word option (has_value option) name.0 (is ∙ ap (λ t. codes "--" ++ t) name.1) refl

valued_by : (command : Subcommand) (word value : List ℕ) (option : OptionName) (b : Bool)
    → has_option command option ≡ true
    → word ≡ valued_word option value
    → has_value option ≡ b
    → IsSpelled command word (if b then Whole (Valued option value) else Unknown)
valued_by command word value option true has is valued = ((has, valued), is)
valued_by command word value option false has is valued = tt

valued-spelled : (command : Subcommand) (word name value : List ℕ) (o : Option OptionName)
    → word ≡ codes "--" ++ (name ++ (61 ∷ value))
    → ((option : OptionName) → o ≡ Some option → IsNamed command option name)
    → IsSpelled command word (known (option_map (valued_kind value) o))
valued-spelled command word name value None is named = tt
valued-spelled command word name value (Some option) is named =
    let named_is = named option refl in
    valued_by command word value option (has_value option) named_is.0
    (is ∙ ap (λ t. codes "--" ++ (t ++ (61 ∷ value))) named_is.1) refl

named-spelled : (command : Subcommand) (word text : List ℕ) (o : Option Halves)
    → word ≡ codes "--" ++ text
    → ((parts : Halves) → o ≡ Some parts → text ≡ parts.front ++ 61 ∷ parts.back)
    → IsSpelled command word (named_kind command text o)
named-spelled command word text None is cut =
    alone-spelled command word text (option_of command text) is (λ option. option_of-some command text option)
named-spelled command word text (Some parts) is cut =
    valued-spelled command word parts.front parts.back (option_of command parts.front)
    (is ∙ ap (λ t. codes "--" ++ t) (cut parts refl)) (λ option. option_of-some command parts.front option)

long-spelled : (command : Subcommand) (word : List ℕ) (o : Option (List ℕ))
    → ((text : List ℕ) → o ≡ Some text → word ≡ codes "--" ++ text)
    → IsSpelled command word (long_kind command o)
long-spelled command word None after = tt
long-spelled command word (Some text) after =
    named-spelled command word text (halves 61 text) (after text refl) (λ parts. halves-some 61 text parts)

end_by : (command : Subcommand) (word : List ℕ) (b : Bool) (kind : WordKind)
    → (b ≡ true → word ≡ codes "--")
    → IsSpelled command word kind
    → IsSpelled command word (if b then End else kind)
end_by command word true kind same other = same refl
end_by command word false kind same other = other

operand_by : (command : Subcommand) (word : List ℕ) (b : Bool) (kind : WordKind)
    → is_operand word ≡ b
    → IsSpelled command word kind
    → IsSpelled command word (if b then Whole (Operand word) else kind)
operand_by command word true kind is other = (is, refl)
operand_by command word false kind is other = other

pub word-spelled : (command : Subcommand) (word : List ℕ) → IsSpelled command word (kind_of command word)
word-spelled command word =
    operand_by command word (is_operand word) _ refl
    (end_by command word (bytes_eq word (codes "--")) _ ((bytes_eq-Decides word (codes "--")).0)
    (long-spelled command word (behind (codes "--") word) (λ text. behind-some (codes "--") word text)))

-- ---- commands by their names

command_step : (b : Bool) (name : List ℕ) (named command : Subcommand) (others : Option Subcommand)
    → (b ≡ true → name ≡ command_text named)
    → (others ≡ Some command → name ≡ command_text command)
    → (if b then Some named else others) ≡ Some command → name ≡ command_text command
command_step true name named command others same more is = same refl ∙ ap (λ o. command_name o) is
  where
    command_name : Option Subcommand → List ℕ
    command_name None = []
    command_name (Some c) = command_text c
command_step false name named command others same more is = more is

pub command_named-some : (name : List ℕ) (command : Subcommand) → command_named name ≡ Some command
    → name ≡ command_text command
command_named-some name command is =
    command_step (bytes_eq name (codes "run")) name Run command _ ((bytes_eq-Decides name (codes "run")).0)
    (command_step (bytes_eq name (codes "replay")) name Replay command _ ((bytes_eq-Decides name (codes "replay")).0)
    (command_step (bytes_eq name (codes "drill")) name Drill command _ ((bytes_eq-Decides name (codes "drill")).0)
    (command_step (bytes_eq name (codes "serve")) name Serve command _ ((bytes_eq-Decides name (codes "serve")).0)
    (command_step (bytes_eq name (codes "send")) name Send command None ((bytes_eq-Decides name (codes "send")).0)
    (λ none. absurd (none-some command none))))))
    is
