-- What is read of a source: at most so many tokens and one more, and what is answered for where the reading of them is
-- stuck.
use Rattle.std.specs.Prelude.{ℕ, zero, suc, List, [], ◌∷◌, length, ◌-◌, slice_get, Bool, true, false, nat_lt, Option, Some, None, Result, Ok, Err}
use Rattle.js_lexer.specs.State.{items_of}
use Rattle.js_lexer.specs.Tokens.{Lent}
use Rattle.js_parser_language.specs.Tokens.{Token}
use Rattle.js_parser.specs.declared.lexing.Lexed as code
use Rattle.js_parser.specs.declared.lexing.LexingEnd as declared
use Rattle.js_parser.specs.declared.lexing.LexingEnd.TheVariants as stops
use Rattle.js_parser_descent.specs.declared.limits.TheConstants.{MOST_HEIGHT}
use Rattle.js_parser.specs.declared.limits.TheConstants.{MOST_TOKENS}
use Rattle.js_parser.specs.Sources.{lent_view}
use Rattle.js_parser_readers.specs.declared.fault.ParseError.{ParseError}
use Rattle.js_parser_readers.specs.declared.fault.ParseError.TheVariants as errors
use Rattle.js_parser_readers.specs.declared.fault.ParseFault.{ParseFault}
use Rattle.js_parser_readers.specs.declared.fault.ParseFault.TheVariants as faults
use Rattle.js_parser_readers.specs.Views.{tokens_view}

-- why no further tokens are read: one is bad, or one is too many
pub data LexingEnd : Type 0 where
  bad : ℕ → LexingEnd
  many : ℕ → LexingEnd

-- the tokens that are read, with the first that is too many, and why no further ones are
pub record Lexed : Type 0 where
  pub tokens : List Token
  pub stop : Option LexingEnd

-- what is read, with a token in front
abbrev pub with_token : Lent → Lexed → Lexed
with_token t rest = record { tokens = lent_view t ∷ rest.tokens; stop = rest.stop }

-- what is read of at most so many tokens, and one more
abbrev pub lexed : ℕ → List (Result Lent ℕ) → Lexed
lexed n [] = record { tokens = []; stop = None }
lexed n (Err at ∷ is) = record { tokens = []; stop = Some (bad at) }
lexed zero (Ok t ∷ is) = record { tokens = lent_view t ∷ []; stop = Some (many t.start) }
lexed (suc n) (Ok t ∷ is) = with_token t (lexed n is)

-- what is read of a source
abbrev pub lexed_of : List ℕ → Lexed
lexed_of source = lexed MOST_TOKENS (items_of source)

-- ---- how the code's values are seen

-- why the code reads no further tokens
abbrev pub stop_view : Option declared.LexingEnd → Option LexingEnd
stop_view None = None
stop_view (Some (stops.Bad at)) = Some (bad at)
stop_view (Some (stops.Many at)) = Some (many at)

-- what the code reads of a source
abbrev pub lexed_view : code.Lexed → Lexed
lexed_view l = record { tokens = tokens_view l.tokens.items; stop = stop_view l.stop }

-- ---- what is told of a source

-- the start of the token from which so many are left, or else the end of the source
abbrev pub start_or : ℕ → Option Token → ℕ
start_or end None = end
start_or end (Some t) = t.start

-- a fault for want of further tokens, or else at the end of the source
abbrev pub stop_fault : ℕ → Option LexingEnd → ParseFault
stop_fault end None = faults.Syntax end
stop_fault end (Some (bad at)) = faults.Token at
stop_fault end (Some (many at)) = faults.TooMany at

-- the fault of a source whose tokens aren't read
abbrev pub fault_of : Lexed → ℕ → ParseError → ParseFault
fault_of l end errors.Memory = faults.Memory
fault_of l end (errors.TooDeep left) = faults.TooDeep
fault_of l end (errors.Syntax zero) = stop_fault end l.stop
fault_of l end (errors.Syntax (suc left)) =
    faults.Syntax (start_or end (slice_get l.tokens (length l.tokens - suc left)))

-- a tree of this height, unless it is too deep
abbrev pub unless_deep : {A : Type 0} → Bool → A → Result A ParseFault
unless_deep true x = Err faults.TooDeep
unless_deep false x = Ok x

-- what is told of a source whose tokens were read as a tree of this height: where there are no further tokens for a
-- cause, that cause
abbrev pub complete : {A : Type 0} → ℕ → Option LexingEnd → A → ℕ → Result A ParseFault
complete end None x height = unless_deep (nat_lt MOST_HEIGHT height) x
complete end (Some stop) x height = Err (stop_fault end (Some stop))

-- what is told of a source: of the tree that was read with its height, or of why reading stopped
abbrev pub tree_or_fault : {A : Type 0} → Lexed → ℕ → Result (A × ℕ) ParseError → Result A ParseFault
tree_or_fault l end (Ok x) = complete end l.stop x.0 x.1
tree_or_fault l end (Err e) = Err (fault_of l end e)
