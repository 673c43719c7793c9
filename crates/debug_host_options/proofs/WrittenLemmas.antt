-- The parts of words are those that the words are written of, and words that are written of parts have these.
use Rattle.std.proofs.Common.{◌≡◌, ℕ, List, [], ◌∷◌, Bool, true, false, Option, Some, None, refl, sym, ap, ap₂, subst, ◌∙◌, inl, inr, if◌then◌else◌}
use Rattle.std.proofs.lemmas.Option.{none-some, same_Some}
use Rattle.debug_host_options.specs.declared.command.Subcommand.{Subcommand}
use Rattle.debug_host_options.specs.declared.command.OptionName.{OptionName}
use Rattle.debug_host_options.specs.Parts.{Part, Operand, Valued, Flag, WordKind, End, Whole, Awaiting, Unknown, begun, is_operand, kind_of, operands_alone, parts_by, parts_of, valued_parts}
use Rattle.debug_host_options.specs.Written.{AreOperands, AreParts, Begins, option_word, valued_word}
use Rattle.debug_host_options.proofs.KindLemmas.{IsSpelled, IsWord, kind-awaiting, kind-flag, kind-operand, kind-valued, word-spelled}

-- ---- words that are written of parts

-- the parts of words by what the first of them is
by-kind : (command : Subcommand) (word : List ℕ) (words : List (List ℕ)) (kind : WordKind) → kind_of command word ≡ kind
    → parts_of command (word ∷ words) ≡ parts_by kind words (parts_of command words) (valued_parts command words)
by-kind command word words kind is =
    ap (λ k. parts_by k words (parts_of command words) (valued_parts command words)) is

-- a word that is a part, before others
one-read : (command : Subcommand) (word : List ℕ) (words : List (List ℕ)) (part : Part) (parts : List Part)
    → kind_of command word ≡ Whole part
    → parts_of command words ≡ Some parts
    → parts_of command (word ∷ words) ≡ Some (part ∷ parts)
one-read command word words part parts kind rest = by-kind command word words (Whole part) kind ∙ ap (begun part) rest

-- an option's word, and its value in a word of its own
two-read : (command : Subcommand) (option : OptionName) (word value : List ℕ) (words : List (List ℕ)) (parts : List Part)
    → kind_of command word ≡ Awaiting option
    → is_operand value ≡ true
    → parts_of command words ≡ Some parts
    → parts_of command (word ∷ value ∷ words) ≡ Some (Valued option value ∷ parts)
two-read command option word value words parts kind is rest =
    by-kind command word (value ∷ words) (Awaiting option) kind
    ∙ ap (λ b. if b then begun (Valued option value) (parts_of command words) else None) is
    ∙ ap (begun (Valued option value)) rest

operands-read : (command : Subcommand) (parts : List Part) (words : List (List ℕ)) → AreOperands parts words
    → parts_of command words ≡ Some parts
operands-read command parts words are =
    ap (parts_of command) are.1 ∙ ap (λ ps. Some ps) (sym are.2)

begun-read : (command : Subcommand) (part : Part) (parts : List Part) (words rest : List (List ℕ))
    → Begins command part words rest
    → parts_of command rest ≡ Some parts
    → parts_of command words ≡ Some (part ∷ parts)
begun-read command (Operand word) parts words rest begins others =
    ap (parts_of command) begins.1
    ∙ one-read command word rest (Operand word) parts (kind-operand command word begins.0) others
begun-read command (Flag option) parts words rest begins others =
    ap (parts_of command) begins.1
    ∙ one-read command (option_word option) rest (Flag option) parts (kind-flag command option begins.0) others
begun-read command (Valued option value) parts words rest begins others = elim begins.1 [
  | inl joined ↦ ap (parts_of command) joined
      ∙ one-read command (valued_word option value) rest (Valued option value) parts
      (kind-valued command option value begins.0) others
  | inr apart ↦ ap (parts_of command) apart.1
      ∙ two-read command option (option_word option) value rest parts (kind-awaiting command option begins.0) apart.0
      others
]

pub parts-read : (command : Subcommand) (parts : List Part) (words : List (List ℕ)) → AreParts command parts words
    → parts_of command words ≡ Some parts
parts-read command [] words are = elim are [
  | inl none ↦ ap (parts_of command) none
  | inr operands ↦ operands-read command [] words operands
]
parts-read command (part ∷ parts) words are = elim are [
  | inl more ↦ begun-read command part parts words more.0 more.1 (parts-read command parts more.0 more.2)
  | inr operands ↦ operands-read command (part ∷ parts) words operands
]

-- ---- and the parts of words

operands-are : (command : Subcommand) (parts : List Part) (words : List (List ℕ)) → AreOperands parts words
    → AreParts command parts words
operands-are command [] words are = inr are
operands-are command (part ∷ parts) words are = inr are

begun-some : {P : Type 0} (part : Part) (o : Option (List Part)) (parts : List Part)
    → begun part o ≡ Some parts
    → ((rest : List Part) → o ≡ Some rest → part ∷ rest ≡ parts → P)
    → P
begun-some part None parts is from = absurd (none-some parts is)
begun-some part (Some rest) parts is from = from rest refl (same_Some (part ∷ rest) parts is)

one-begins : (command : Subcommand) (word : List ℕ) (words : List (List ℕ)) (part : Part) → IsWord command word part
    → Begins command part (word ∷ words) words
one-begins command word words (Operand text) is = (is.0, ap (λ w. w ∷ words) is.1)
one-begins command word words (Flag option) is = (is.0, ap (λ w. w ∷ words) is.1)
one-begins command word words (Valued option value) is = (is.0, inl (ap (λ w. w ∷ words) is.1))

-- the words begin with this option's value
abbrev BeginsValue : Subcommand → OptionName → List Part → List (List ℕ) → Type 0
BeginsValue command option parts words =
    (value : List ℕ)
    × (rest : List (List ℕ))
    × (others : List Part)
    × (words ≡ value ∷ rest)
    × (is_operand value ≡ true)
    × (Valued option value ∷ others ≡ parts)
    × AreParts command others rest

value-begins : (command : Subcommand) (option : OptionName) (value : List ℕ) (words : List (List ℕ)) (parts : List Part)
    (b : Bool)
    → is_operand value ≡ b
    → ((ps : List Part) → parts_of command words ≡ Some ps → AreParts command ps words)
    → (if b then begun (Valued option value) (parts_of command words) else None) ≡ Some parts
    → BeginsValue command option parts (value ∷ words)
value-begins command option value words parts true operand more is =
    begun-some (Valued option value) (parts_of command words) parts is (λ rest rest_is whole.
    (value, words, rest, refl, operand, whole, more rest rest_is))
value-begins command option value words parts false operand more is = absurd (none-some parts is)

kind-some : (command : Subcommand) (word : List ℕ) (words : List (List ℕ)) (parts : List Part) (kind : WordKind)
    → IsSpelled command word kind
    → ((ps : List Part) → parts_of command words ≡ Some ps → AreParts command ps words)
    → ((option : OptionName) (ps : List Part) → valued_parts command words option ≡ Some ps
    → BeginsValue command option ps words)
    → parts_by kind words (parts_of command words) (valued_parts command words) ≡ Some parts
    → AreParts command parts (word ∷ words)
kind-some command word words parts End spelled more valued is =
    operands-are command parts (word ∷ words)
    (words, ap (λ w. w ∷ words) spelled, sym (same_Some (operands_alone words) parts is))
kind-some command word words parts (Whole part) spelled more valued is =
    begun-some part (parts_of command words) parts is (λ rest rest_is whole.
    subst (λ ps. AreParts command ps (word ∷ words)) whole
    (inl (words, one-begins command word words part spelled, more rest rest_is)))
kind-some command word words parts (Awaiting option) spelled more valued is =
    let begins = valued option parts is in
    subst (λ ps. AreParts command ps (word ∷ words)) begins.5
    (inl (begins.1, (spelled.0, inr (begins.4, ap₂ (λ w ws. w ∷ ws) spelled.1 begins.3)), begins.6))
kind-some command word words parts Unknown spelled more valued is = absurd (none-some parts is)

-- both of words, and of words that begin with a value
both-some : (command : Subcommand) (words : List (List ℕ))
    → ((parts : List Part) → parts_of command words ≡ Some parts → AreParts command parts words)
    × ((option : OptionName) (parts : List Part) → valued_parts command words option ≡ Some parts
    → BeginsValue command option parts words)
both-some command [] = (
  λ parts is. subst (λ ps. AreParts command ps []) (same_Some [] parts is) (inl refl),
  λ option parts is. absurd (none-some parts is),
)
both-some command (word ∷ words) =
    let more = both-some command words in (
      λ parts is. kind-some command word words parts _ (word-spelled command word) more.0 more.1 is,
      λ option parts is. value-begins command option word words parts (is_operand word) refl more.0 is,
    )

pub parts-some : (command : Subcommand) (words : List (List ℕ)) (parts : List Part) → parts_of command words ≡ Some parts
    → AreParts command parts words
parts-some command words parts is = (both-some command words).0 parts is
