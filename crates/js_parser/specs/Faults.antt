-- The faults that stand in a source, and which of them comes first.
use Rattle.std.specs.Prelude.{◌≡◌, ◌≤◌, ◌<◌, ◌⊎◌, ℕ, List, [], ◌∷◌, ◌++◌, length, Some, None}
use Rattle.js_parser_language.specs.Tokens.{Token}
use Rattle.js_parser_language.specs.Language.{BeginsLanguage}
use Rattle.js_parser_readers.specs.declared.fault.ParseFault.{ParseFault}
use Rattle.js_parser_readers.specs.declared.fault.ParseFault.TheVariants as faults
use Rattle.js_parser_laws.specs.Exact.{LeavesAfter, TooDeepFrom}
use Rattle.js_parser_descent.specs.declared.limits.TheConstants.{MOST_HEIGHT}
use Rattle.js_parser.specs.declared.limits.TheConstants.{MOST_UNITS, MOST_TOKENS}
use Rattle.js_parser.specs.Sources.{tokens_of, bad_place, HasDeepTree}

-- ---- causes
-- Tokens begin a language where some tokens behind them, of whatever number, make them one of its sources
-- (BeginsLanguage). The greatest numbers of tokens and of code units play no part in that. Of the first tokens of a
-- source that says as much as that a text of the language begins with them (BeginsText, and the clause texts of each
-- call).

-- where the first of these last tokens of a source begins; where none is left, the end of the source, none of whose
-- tokens is bad
abbrev pub IsPlace : List ℕ → List Token → ℕ → Type 0
IsPlace source [] at = (bad_place source ≡ None) × (at ≡ length source)
IsPlace source (t ∷ left) at = at ≡ t.start

-- The language is left at this place of the source: the tokens before it begin the language, and with the one that
-- stands here they don't; or here is the end, and all tokens begin the language and aren't in it.
pub record LeavesLanguage {Tree : Type 0} (Is : List Token → Tree → Type 0) (source : List ℕ) (at : ℕ) : Type 0 where
  pub before : List Token
  pub left : List Token
  pub parts : tokens_of source ≡ before ++ left
  pub place : IsPlace source left at
  pub begins : BeginsLanguage Is before
  pub leaves : LeavesAfter Is before left

-- The first token that is more than a source may have stands at this place.
pub record PassesLimit (source : List ℕ) (at : ℕ) : Type 0 where
  pub before : List Token
  pub next : Token
  pub left : List Token
  pub parts : tokens_of source ≡ before ++ next ∷ left
  pub place : at ≡ next.start
  pub counted : length before ≡ MOST_TOKENS

-- ---- faults
-- Each is its cause, with nothing wrong before it.

-- a bad token, behind tokens that begin the language and aren't too many
abbrev pub HasBadToken : {Tree : Type 0} → (List Token → Tree → Type 0) → List ℕ → ℕ → Type 0
HasBadToken Is source at =
    (bad_place source ≡ Some at) × (length (tokens_of source) ≤ MOST_TOKENS) × BeginsLanguage Is (tokens_of source)

-- the place where the language is left, behind no more tokens than a source may have
abbrev pub HasSyntaxFault : {Tree : Type 0} → (List Token → Tree → Type 0) → List ℕ → ℕ → Type 0
HasSyntaxFault Is source at = (l : LeavesLanguage Is source at) × (length l.before ≤ MOST_TOKENS)

-- a token that is one too many, and the tokens through it begin the language
abbrev pub HasTooMany : {Tree : Type 0} → (List Token → Tree → Type 0) → List ℕ → ℕ → Type 0
HasTooMany Is source at = (p : PassesLimit source at) × BeginsLanguage Is (p.before ++ p.next ∷ [])

-- This fault stands in the source. In a source that isn't too long that is the first of these: a bad token, a syntax
-- fault, a token too many. A tree is too deep where none of these stands.
abbrev pub StandsInSource : {Tree : Type 0} → (List Token → Tree → Type 0) → (Tree → ℕ) → List ℕ → ParseFault → Type 0
StandsInSource Is height_of source (faults.TooLong units) = (MOST_UNITS < length source) × (units ≡ length source)
StandsInSource Is height_of source (faults.Token at) = (length source ≤ MOST_UNITS) × HasBadToken Is source at
StandsInSource Is height_of source (faults.Syntax at) = (length source ≤ MOST_UNITS) × HasSyntaxFault Is source at
StandsInSource Is height_of source (faults.TooMany at) = (length source ≤ MOST_UNITS) × HasTooMany Is source at
StandsInSource Is height_of source faults.TooDeep = HasDeepTree Is height_of source
StandsInSource Is height_of source faults.Memory = ⊥

-- The source isn't too long, and some of its first tokens begin the language, but only trees that are deeper than a
-- source's may be.
abbrev pub BeginsTooDeep : {Tree : Type 0} → (List Token → Tree → Type 0) → (Tree → ℕ) → List ℕ → Type 0
BeginsTooDeep Is height_of source =
    (length source ≤ MOST_UNITS) × TooDeepFrom Is height_of (tokens_of source) MOST_HEIGHT

-- What each fault says of a source. A tree is too deep where the source is in the language with a tree that is deeper
-- than may be, or where its first tokens begin only such trees; such a source that has another fault besides may get
-- either.
abbrev pub Caused : {Tree : Type 0} → (List Token → Tree → Type 0) → (Tree → ℕ) → List ℕ → ParseFault → Type 0
Caused Is height_of source faults.TooDeep = HasDeepTree Is height_of source ⊎ BeginsTooDeep Is height_of source
Caused Is height_of source faults.Memory = Unit {0}
Caused Is height_of source f = StandsInSource Is height_of source f

-- ---- the order of faults

-- the source has this cause of a fault at this place, whatever else is wrong with it
abbrev pub IsCause : {Tree : Type 0} → (List Token → Tree → Type 0) → List ℕ → ParseFault → Type 0
IsCause Is source (faults.Token at) = bad_place source ≡ Some at
IsCause Is source (faults.Syntax at) = LeavesLanguage Is source at
IsCause Is source (faults.TooMany at) = PassesLimit source at
IsCause Is source f = ⊥

-- of two places the earlier one comes first, and at one place the lower rank
abbrev pub IsNoLater : ℕ → ℕ → ℕ → ℕ → Type 0
IsNoLater a rank b other = (a < b) ⊎ ((a ≡ b) × (rank ≤ other))

-- a place of this rank comes no later than the place of a fault, if the fault has one
abbrev pub IsNoLaterThan : ℕ → ℕ → ParseFault → Type 0
IsNoLaterThan a rank (faults.Token b) = IsNoLater a rank b 0
IsNoLaterThan a rank (faults.Syntax b) = IsNoLater a rank b 1
IsNoLaterThan a rank (faults.TooMany b) = IsNoLater a rank b 2
IsNoLaterThan a rank g = Unit {0}

-- The first of these faults comes first, if both have places: at the earlier place, and at one place in the order
-- Token, Syntax, TooMany.
abbrev pub ComesFirst : ParseFault → ParseFault → Type 0
ComesFirst (faults.Token a) g = IsNoLaterThan a 0 g
ComesFirst (faults.Syntax a) g = IsNoLaterThan a 1 g
ComesFirst (faults.TooMany a) g = IsNoLaterThan a 2 g
ComesFirst f g = Unit {0}
