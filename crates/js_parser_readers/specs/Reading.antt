-- Reading from the front of a list of tokens: what a reader answers, and the readers that everything is made of.
use Rattle.std.specs.Prelude.{ℕ, zero, suc, Bool, true, false, List, [], ◌∷◌, length, Option, Some, None, Result, Ok, Err, if◌then◌else◌}
use Rattle.js_lexer.specs.declared.token.TokenKind.{TokenKind}
use Rattle.js_lexer.specs.declared.token.TokenKind.TheVariants as kinds
use Rattle.js_tree.specs.Trees.{Identifier}
use Rattle.js_parser_language.specs.Tokens.{Token, StatementEnd, head_of, tail_of, is_on_line, is_word, absent}
use Rattle.js_parser_language.specs.Well.{is_among}
use Rattle.js_parser_language.specs.Kinds.{is_kind}

-- Why a reader stops: so many tokens are left from the one that goes on with no source of the language; or a tree would
-- be too deep, and so many are left behind those that show it.
pub data Fault : Type 0 where
  stuck : ℕ → Fault
  deep : ℕ → Fault

-- what is read from the front of tokens: a value with the tokens after it, or why reading stops
abbrev pub Read : Type 0 → Type 0
Read A = Result (A × List Token) Fault

-- What reads a value from the front, and answers it with the tokens after it.
abbrev pub Reader : Type 0 → Type 0
Reader A = List Token → Read A

infixl 10 ◌>>=◌
abbrev pub ◌>>=◌ : {A B : Type 0} → Read A → (A × List Token → Read B) → Read B
(Ok x) >>= f = f x
(Err e) >>= f = Err e

-- ---- single tokens

-- a token of this kind
unfoldable pub expect : TokenKind → Reader (Unit {0})
expect k ts = if is_kind k (head_of ts) then Ok (tt, tail_of ts) else Err (stuck (length ts))

-- a token of this kind on the line of the one before it
unfoldable pub expect_near : TokenKind → Reader (Unit {0})
expect_near k ts = if is_on_line (head_of ts) then expect k ts else Err (stuck (length ts))

-- the string value of the next token
abbrev pub text_of : Option Token → List ℕ
text_of None = []
text_of (Some t) = t.string_value

-- a name that isn't reserved
unfoldable pub name_at : Reader Identifier
name_at ts = if is_kind kinds.Name (head_of ts) then Ok (text_of (head_of ts), tail_of ts) else Err (stuck (length ts))

-- a name that differs from these
unfoldable pub fresh_name : List Identifier → Reader Identifier
fresh_name taken ts = if is_among taken (text_of (head_of ts)) then Err (stuck (length ts)) else name_at ts

-- the next token is a name or a reserved word
abbrev pub is_word_next : Option Token → Bool
is_word_next None = false
is_word_next (Some t) = is_word t.kind

-- a name or a reserved word
unfoldable pub word_at : Reader (List ℕ)
word_at ts = if is_word_next (head_of ts) then Ok (text_of (head_of ts), tail_of ts) else Err (stuck (length ts))

-- the semicolon of a statement that ends so, present or absent
unfoldable pub semicolon_at : StatementEnd → Reader (Unit {0})
semicolon_at end ts =
    if is_kind kinds.Semicolon (head_of ts) then Ok (tt, tail_of ts)
    else (if absent end (head_of ts) then Ok (tt, ts) else Err (stuck (length ts)))

-- ---- lists

-- what comes after an element of a list that this token ends
pub data AfterElement : Type 0 where
  goes_on : AfterElement
  ends : AfterElement
  neither : AfterElement

-- what it is where the token that ends the list comes, and where a comma does
abbrev pub after_by : Bool → Bool → AfterElement
after_by true comma = ends
after_by false true = goes_on
after_by false false = neither

-- what comes after an element, by the next token
abbrev pub after : TokenKind → Option Token → AfterElement
after closer o = after_by (is_kind closer o) (is_kind kinds.Comma o)

-- A list with commas between its elements and the token that ends it, before which a comma may stand. Each element is
-- read with a state that the elements before it made. The bound on the turns, here and below, is never too small.
abbrev pub go_after : {A : Type 0} → Reader (List A) → AfterElement → Reader (List A)
go_after go goes_on ts = go (tail_of ts)
go_after go ends ts = Ok ([], tail_of ts)
go_after go neither ts = Err (stuck (length ts))

-- the elements from here on, where the token that ends them comes next or doesn't
abbrev pub elements_by : {S A : Type 0}
    → (S → Reader A)
    → (S → A → S)
    → (S → Reader (List A))
    → TokenKind
    → S
    → Bool
    → Reader (List A)
elements_by one next go closer s true ts = Ok ([], tail_of ts)
elements_by one next go closer s false ts = do
  x ← one s ts
  y ← go_after (go (next s x.0)) (after closer (head_of x.1)) x.1
  Ok (x.0 ∷ y.0, y.1)

-- the elements of a list up to the token that ends it, and that token
unfoldable pub elements : {S A : Type 0} → (S → Reader A) → (S → A → S) → TokenKind → ℕ → S → Reader (List A)
elements one next closer zero s ts = Err (deep (length ts))
elements one next closer (suc k) s ts =
    elements_by one next (λ s r. elements one next closer k s r) closer s (is_kind closer (head_of ts)) ts

-- further elements, each behind a comma
abbrev pub others_by : {S A : Type 0}
    → (S → Reader A)
    → (S → A → S)
    → (S → Reader (List A))
    → S
    → Bool
    → Reader (List A)
others_by one next go s false ts = Ok ([], ts)
others_by one next go s true ts = do
  x ← one s (tail_of ts)
  y ← go (next s x.0) x.1
  Ok (x.0 ∷ y.0, y.1)

-- the elements behind a first one, for as long as a comma follows
unfoldable pub others : {S A : Type 0} → (S → Reader A) → (S → A → S) → ℕ → S → Reader (List A)
others one next zero s ts = Err (deep (length ts))
others one next (suc k) s ts = others_by one next (λ s r. others one next k s r) s (is_kind kinds.Comma (head_of ts)) ts

-- whether a list of statements ends here
abbrev pub ends_list : Option Token → Bool
ends_list None = true
ends_list (Some t) = is_kind kinds.RightBrace (Some t)

-- elements up to what ends a list of statements
abbrev pub items_by : {S A : Type 0} → (S → Reader A) → (S → A → S) → (S → Reader (List A)) → S → Bool → Reader (List A)
items_by one next go s true ts = Ok ([], ts)
items_by one next go s false ts = do
  x ← one s ts
  y ← go (next s x.0) x.1
  Ok (x.0 ∷ y.0, y.1)

-- the elements of a list of statements, of which there may be none
unfoldable pub items : {S A : Type 0} → (S → Reader A) → (S → A → S) → ℕ → S → Reader (List A)
items one next zero s ts = Err (deep (length ts))
items one next (suc k) s ts = items_by one next (λ s r. items one next k s r) s (ends_list (head_of ts)) ts

-- ---- states of lists

-- the elements before say nothing
abbrev pub no_state : {A : Type 0} → Unit {0} → A → Unit {0}
no_state s x = tt

-- the names before, the last first
abbrev pub with_name : List Identifier → Identifier → List Identifier
with_name taken n = n ∷ taken

-- the names before, and some more behind them
abbrev pub with_names : List Identifier → List Identifier → List Identifier
with_names taken [] = taken
with_names taken (n ∷ ns) = with_names (n ∷ taken) ns
