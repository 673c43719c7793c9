-- Words ask for what they are read as, and for nothing else.
use Rattle.std.proofs.Common.{◌≡◌, ◌⊎◌, ℕ, List, [], ◌∷◌, Bool, true, false, Option, Some, None, IfSome, refl, sym, ap, ap₂, ◌∙◌, inl, inr, codes, bytes_eq, true≢false, if◌then◌else◌}
use Rattle.std.specs.Option.{option_map, option_and_then}
use Rattle.std.proofs.lemmas.Bool.{or_cases}
use Rattle.std.proofs.lemmas.Option.{none-some, same_Some, option_and_then_some}
use Rattle.std.proofs.lemmas.Slice.Eq.{bytes_eq-Decides}
use Rattle.debug_host_options.specs.declared.command.Subcommand.{Subcommand}
use Rattle.debug_host_options.specs.declared.command.Subcommand.TheVariants.{Run, Replay, Drill, Serve, Send}
use Rattle.debug_host_options.specs.declared.request.Request.{Request as HeldRequest}
use Rattle.debug_host_options.specs.Commands.{command_named}
use Rattle.debug_host_options.specs.Parts.{Part, parts_of}
use Rattle.debug_host_options.specs.Requests.{Request, Help, Version, alone, asks_help, command_words, form, is_help, named_words, request_of}
use Rattle.debug_host_options.specs.Held.{request_held}
use Rattle.debug_host_options.specs.Written.{AsksFor, AsksAfter, AsksHelp, command_text}
use Rattle.debug_host_options.proofs.KindLemmas.{command_named-some}
use Rattle.debug_host_options.proofs.WrittenLemmas.{parts-read, parts-some}

-- ---- a word that asks for help is no part of any command

long-unread : (command : Subcommand) → parts_of command (codes "--help" ∷ []) ≡ None
long-unread Run = refl
long-unread Replay = refl
long-unread Drill = refl
long-unread Serve = refl
long-unread Send = refl

short-unread : (command : Subcommand) → parts_of command (codes "-h" ∷ []) ≡ None
short-unread Run = refl
short-unread Replay = refl
short-unread Drill = refl
short-unread Serve = refl
short-unread Send = refl

help-word : (word : List ℕ) → is_help word ≡ true → (word ≡ codes "--help") ⊎ (word ≡ codes "-h")
help-word word is = elim (or_cases (bytes_eq word (codes "--help")) (bytes_eq word (codes "-h")) is) [
  | inl long ↦ inl ((bytes_eq-Decides word (codes "--help")).0 long)
  | inr short ↦ inr ((bytes_eq-Decides word (codes "-h")).0 short)
]

help-unread : (command : Subcommand) (word : List ℕ) → is_help word ≡ true → parts_of command (word ∷ []) ≡ None
help-unread command word is = elim (help-word word is) [
  | inl long ↦ ap (λ w. parts_of command (w ∷ [])) long ∙ long-unread command
  | inr short ↦ ap (λ w. parts_of command (w ∷ [])) short ∙ short-unread command
]

one-asks : (command : Subcommand) (word : List ℕ) (parts : List Part) (b : Bool) → is_help word ≡ b
    → parts_of command (word ∷ []) ≡ Some parts
    → b ≡ false
one-asks command word parts true is read = absurd (none-some parts (sym (help-unread command word is) ∙ read))
one-asks command word parts false is read = refl

parts-ask : (command : Subcommand) (words : List (List ℕ)) (parts : List Part) → parts_of command words ≡ Some parts
    → asks_help words ≡ false
parts-ask command [] parts read = refl
parts-ask command (word ∷ []) parts read = one-asks command word parts (is_help word) refl read
parts-ask command (word ∷ other ∷ words) parts read = refl

-- ---- words that ask for something are read as that

help-read : (words : List (List ℕ)) → AsksHelp words → form words ≡ Some (Help None)
help-read words asks = elim asks [
  | inl long ↦ ap form long
  | inr short ↦ ap form short
]

help-asked : (words : List (List ℕ)) → AsksHelp words → asks_help words ≡ true
help-asked words asks = elim asks [
  | inl long ↦ ap asks_help long
  | inr short ↦ ap asks_help short
]

named-read : (command : Subcommand) (words : List (List ℕ))
    → form (command_text command ∷ words) ≡ command_words command words
named-read Run words = refl
named-read Replay words = refl
named-read Drill words = refl
named-read Serve words = refl
named-read Send words = refl

-- what words after a command's name ask for, by whether they ask for help
abbrev words_by : Subcommand → Bool → Option (List Part) → Option Request
words_by command helps parts = if helps then Some (Help (Some command)) else option_and_then (request_of command) parts

after-read : (command : Subcommand) (words : List (List ℕ)) (request : Request) → AsksAfter command words request
    → command_words command words ≡ Some request
after-read command words request asks = elim asks [
  | inl help ↦ ap (λ b. words_by command b (parts_of command words)) (help-asked words help.0)
      ∙ ap (λ r. Some r) (sym help.1)
  | inr given ↦
      let read : parts_of command words ≡ Some given.0 = parts-read command given.0 words given.1 in
      ap₂ (words_by command) (parts-ask command words given.0 read) read ∙ given.2
]

pub asks-read : (words : List (List ℕ)) (request : Request) → AsksFor words request → form words ≡ Some request
asks-read words request asks = elim asks [
  | inl help ↦ help-read words help.0 ∙ ap (λ r. Some r) (sym help.1)
  | inr others ↦ elim others [
    | inl version ↦ ap form version.0 ∙ ap (λ r. Some r) (sym version.1)
    | inr named ↦ ap form named.2
        ∙ named-read named.0 named.1
        ∙ after-read named.0 named.1 request named.3
  ]
]

-- ---- and what words are read as, they ask for

alone-some : (request other : Request) (words : List (List ℕ)) → alone request words ≡ Some other
    → (words ≡ []) × (other ≡ request)
alone-some request other [] is = (refl, sym (same_Some request other is))
alone-some request other (word ∷ words) is = absurd (none-some other is)

one-help : (word : List ℕ) (words : List (List ℕ)) → is_help word ≡ true → words ≡ [] → AsksHelp (word ∷ words)
one-help word words is none = elim (help-word word is) [
  | inl long ↦ inl (ap₂ (λ w ws. w ∷ ws) long none)
  | inr short ↦ inr (ap₂ (λ w ws. w ∷ ws) short none)
]

asked-help : (words : List (List ℕ)) → asks_help words ≡ true → AsksHelp words
asked-help [] is = absurd (true≢false (sym is))
asked-help (word ∷ []) is = one-help word [] is refl
asked-help (word ∷ other ∷ words) is = absurd (true≢false (sym is))

after-some : (command : Subcommand) (words : List (List ℕ)) (request : Request) (b : Bool) → asks_help words ≡ b
    → words_by command b (parts_of command words) ≡ Some request
    → AsksAfter command words request
after-some command words request true helps is =
    inl (asked-help words helps, sym (same_Some (Help (Some command)) request is))
after-some command words request false helps is =
    option_and_then_some (request_of command) (parts_of command words) request is (λ parts parts_is given.
    inr (parts, parts-some command words parts parts_is, given))

named-some : (word : List ℕ) (words : List (List ℕ)) (request : Request)
    → option_and_then (named_words words) (command_named word) ≡ Some request
    → AsksFor (word ∷ words) request
named-some word words request is =
    option_and_then_some (named_words words) (command_named word) request is (λ command named given.
    inr (inr (
      command,
      words,
      ap (λ w. w ∷ words) (command_named-some word command named),
      after-some command words request (asks_help words) refl given,
    )))

version-some : (b : Bool) (word : List ℕ) (words : List (List ℕ)) (request : Request) (others : Option Request)
    → (b ≡ true → word ≡ codes "--version")
    → (others ≡ Some request → AsksFor (word ∷ words) request)
    → (if b then alone Version words else others) ≡ Some request → AsksFor (word ∷ words) request
version-some true word words request others same more is =
    let only = alone-some Version request words is in
    inr (inl (ap₂ (λ w ws. w ∷ ws) (same refl) only.0, only.1))
version-some false word words request others same more is = more is

help-some : (b : Bool) (word : List ℕ) (words : List (List ℕ)) (request : Request) (others : Option Request)
    → is_help word ≡ b
    → (others ≡ Some request → AsksFor (word ∷ words) request)
    → (if b then alone (Help None) words else others) ≡ Some request → AsksFor (word ∷ words) request
help-some true word words request others helps more is =
    let only = alone-some (Help None) request words is in
    inl (one-help word words helps only.0, only.1)
help-some false word words request others helps more is = more is

pub form-some : (words : List (List ℕ)) (request : Request) → form words ≡ Some request → AsksFor words request
form-some [] request is = absurd (none-some request is)
form-some (word ∷ words) request is =
    help-some (is_help word) word words request _ refl
    (version-some (bytes_eq word (codes "--version")) word words request _
    ((bytes_eq-Decides word (codes "--version")).0) (named-some word words request))
    is

-- ---- what the code read, and what it didn't

pub held-asks : (words : List (List ℕ)) (r : Option HeldRequest)
    → option_map request_held r ≡ form words
    → IfSome r (λ request. AsksFor words (request_held request))
held-asks words None read = tt
held-asks words (Some request) read = form-some words (request_held request) (sym read)

pub held-one : (words : List (List ℕ)) (r : Option HeldRequest)
    → option_map request_held r ≡ form words
    → (request : Request)
    → AsksFor words request
    → option_map request_held r ≡ Some request
held-one words r read request asks = read ∙ asks-read words request asks
