-- What is read of a source, in words of all its tokens.
use Rattle.std.proofs.Common.{◌≡◌, ℕ, zero, suc, ◌≤◌, List, [], ◌∷◌, ◌++◌, length, Option, Some, None, Result, Ok, Err, refl, sym, ap, ◌∙◌, append_assoc, arith}
use Rattle.std.proofs.lemmas.List.{append-nil, length-append}
use Rattle.js_lexer.specs.State.{items_of}
use Rattle.js_lexer.specs.Tokens.{Lent}
use Rattle.js_parser_language.specs.Tokens.{Token}
use Rattle.js_parser.specs.Lexing.{LexingEnd, bad, many, lexed, lexed_of}
use Rattle.js_parser.specs.declared.limits.TheConstants.{MOST_TOKENS}
use Rattle.js_parser.specs.Sources.{lent_view, tokens_in, bad_in, tokens_of, bad_place}

-- the first of all tokens are read, and of those behind them the one that begins here
pub record IsCut (n : ℕ) (all read : List Token) (at : ℕ) : Type 0 where
  pub before : List Token
  pub next : Token
  pub left : List Token
  pub parts : all ≡ before ++ next ∷ left
  pub taken : read ≡ before ++ next ∷ []
  pub place : at ≡ next.start
  pub counted : length before ≡ n

-- of all tokens, and the place of a bad one behind them, at most n and one more are read, up to this stop
abbrev pub IsRead : ℕ → List Token → Option ℕ → List Token → Option LexingEnd → Type 0
IsRead n all place read None = (read ≡ all) × (place ≡ None) × (length all ≤ n)
IsRead n all place read (Some (bad at)) = (read ≡ all) × (place ≡ Some at) × (length all ≤ n)
IsRead n all place read (Some (many at)) = IsCut n all read at

with_one : (x : Token) (n : ℕ) (all : List Token) (place : Option ℕ) (read : List Token) (stop : Option LexingEnd)
    → IsRead n all place read stop
    → IsRead (suc n) (x ∷ all) place (x ∷ read) stop
with_one x n all place read None r = (ap (λ (ts : List Token). x ∷ ts) r.0, r.1, omega (arith, r.2))
with_one x n all place read (Some (bad at)) r = (ap (λ (ts : List Token). x ∷ ts) r.0, r.1, omega (arith, r.2))
with_one x n all place read (Some (many at)) r = record {
  before = x ∷ r.before;
  next = r.next;
  left = r.left;
  parts = ap (λ (ts : List Token). x ∷ ts) r.parts;
  taken = ap (λ (ts : List Token). x ∷ ts) r.taken;
  place = r.place;
  counted = omega (arith, r.counted);
}

pub is_read : (n : ℕ) (is : List (Result Lent ℕ))
    → IsRead n (tokens_in is) (bad_in is) (lexed n is).tokens (lexed n is).stop
is_read n [] = (refl, refl, omega arith)
is_read n (Err at ∷ is) = (refl, refl, omega arith)
is_read zero (Ok t ∷ is) =
    record {
      before = [];
      next = lent_view t;
      left = tokens_in is;
      parts = refl;
      taken = refl;
      place = refl;
      counted = refl;
    }
is_read (suc n) (Ok t ∷ is) =
    with_one (lent_view t) n (tokens_in is) (bad_in is) (lexed n is).tokens (lexed n is).stop (is_read n is)

-- what is read of a source
abbrev pub IsReadOf : List ℕ → List Token → Option LexingEnd → Type 0
IsReadOf source read stop = IsRead MOST_TOKENS (tokens_of source) (bad_place source) read stop

pub is_read_of : (source : List ℕ) → IsReadOf source (lexed_of source).tokens (lexed_of source).stop
is_read_of source = is_read MOST_TOKENS (items_of source)

-- what is read are first tokens of all, and at most one too many
pub record AreFirst (n : ℕ) (all read : List Token) : Type 0 where
  pub left : List Token
  pub parts : all ≡ read ++ left
  pub few : length read ≤ suc n

pub are_first : (n : ℕ) (all : List Token) (place : Option ℕ) (read : List Token) (stop : Option LexingEnd)
    → IsRead n all place read stop
    → AreFirst n all read
are_first n all place read None r =
    record {
      left = [];
      parts = sym r.0
          ∙ sym (append-nil read);
      few = omega (arith, r.2, ap (λ (ts : List Token). length ts) r.0);
    }
are_first n all place read (Some (bad at)) r =
    record {
      left = [];
      parts = sym r.0
          ∙ sym (append-nil read);
      few = omega (arith, r.2, ap (λ (ts : List Token). length ts) r.0);
    }
are_first n all place read (Some (many at)) r = record {
  left = r.left;
  parts =
      r.parts ∙ sym (append_assoc r.before (r.next ∷ []) r.left) ∙ ap (λ (ts : List Token). ts ++ r.left) (sym r.taken);
  few = omega (arith, ap (λ (ts : List Token). length ts) r.taken, length-append r.before (r.next ∷ []), r.counted);
}

-- where no token is bad and none is too many, all are read
pub reads_all : (n : ℕ) (all : List Token) (place : Option ℕ) (read : List Token) (stop : Option LexingEnd)
    → IsRead n all place read stop
    → place ≡ None
    → length all ≤ n
    → (stop ≡ None) × (read ≡ all)
reads_all n all place read None r e le = (refl, r.0)
reads_all n all place read (Some (bad at)) r e le = let s : place ≡ Some at = r.1 in absurd cc
reads_all n all place read (Some (many at)) r e le =
    absurd (omega
    (arith, le, ap (λ (ts : List Token). length ts) r.parts, length-append r.before (r.next ∷ r.left), r.counted))
