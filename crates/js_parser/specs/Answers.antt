-- What an answer says of its source.
use Rattle.std.specs.Prelude.{◌≡◌, ◌<◌, ℕ, List, length, Result, Ok, Err, IfOk, IfErr}
use Rattle.js_parser_language.specs.Tokens.{Token}
use Rattle.js_parser_readers.specs.declared.fault.ParseFault.{ParseFault}
use Rattle.js_parser_readers.specs.declared.fault.ParseFault.TheVariants as faults
use Rattle.js_parser.specs.declared.limits.TheConstants.{MOST_UNITS}
use Rattle.js_parser.specs.Sources.{IsSource}
use Rattle.js_parser.specs.Faults.{StandsInSource, Caused, IsCause, ComesFirst}

-- the answer is this, or memory ran out
abbrev pub OkOrMemory : {A : Type 0} → (A → Type 0) → Result A ParseFault → Type 0
OkOrMemory Holds (Ok x) = Holds x
OkOrMemory Holds (Err f) = f ≡ faults.Memory

-- the answer is this fault, or memory ran out, or a tree would be too deep
abbrev pub FailsBy : {A : Type 0} → ParseFault → Result A ParseFault → Type 0
FailsBy f (Ok x) = ⊥
FailsBy f (Err faults.Memory) = Unit {0}
FailsBy f (Err faults.TooDeep) = Unit {0}
FailsBy f (Err g) = g ≡ f

-- What an answer, whose tree is seen by look, says of its source.
pub record Answers {A Tree : Type 0} (Is : List Token → Tree → Type 0) (height_of : Tree → ℕ) (source : List ℕ)
    (look : A → Tree) (answer : Result A ParseFault) : Type 0 where
  pub found : IfOk answer (λ x. IsSource Is height_of source (look x))
  pub only : (t : Tree) → IsSource Is height_of source t → OkOrMemory (λ x. look x ≡ t) answer
  pub long : MOST_UNITS < length source → answer ≡ Err (faults.TooLong (length source))
  pub caused : IfErr answer (λ f. Caused Is height_of source f)
  pub exact : (f : ParseFault) → StandsInSource Is height_of source f → FailsBy f answer
  pub first : (g : ParseFault) → IsCause Is source g → IfErr answer (λ f. ComesFirst f g)
