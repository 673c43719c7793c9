-- What a loop over the items of a source has read.
use Rattle.std.proofs.Common.{◌≡◌, ℕ, zero, suc, ◌+◌, List, [], ◌∷◌, ◌++◌, length, Result, Ok, refl, ap, ◌∙◌, arith}
use Rattle.std.proofs.lemmas.List.{length-append}
use Rattle.js_lexer.specs.declared.token.Token as lexer
use Rattle.js_lexer.specs.Tokens.{Lent}
use Rattle.js_parser_language.specs.Tokens.{Token}
use Rattle.js_parser_readers.specs.Views.{tokens_view, token_view}
use Rattle.js_parser.specs.Lexing.{Lexed, lexed}
use Rattle.js_parser.specs.declared.limits.TheConstants.{MOST_TOKENS}
use Rattle.js_parser.specs.Sources.{lent_view}

abbrev with_front : List Token → Lexed → Lexed
with_front ts l = record { tokens = ts ++ l.tokens; stop = l.stop }

-- what was read, and what is left
pub record Reads (all : List (Result Lent ℕ)) (tokens : List lexer.Token) (left : List (Result Lent ℕ)) : Type 0 where
  pub room : ℕ
  pub fits : length tokens + room ≡ MOST_TOKENS
  pub same : lexed MOST_TOKENS all ≡ with_front (tokens_view tokens) (lexed room left)

front_nil : (l : Lexed) → l ≡ with_front [] l
front_nil l = refl

pub begins : (all : List (Result Lent ℕ)) → Reads all [] all
begins all = record { room = MOST_TOKENS; fits = refl; same = front_nil (lexed MOST_TOKENS all) }

abbrev pub lent : lexer.Token → Lent
lent t = record { kind = t.kind; text = t.text.now; start = t.start; newline_before = t.newline_before }

regroup : (ts : List lexer.Token) (t : lexer.Token) (l : Lexed)
    → with_front (tokens_view ts) (record { tokens = lent_view (lent t) ∷ l.tokens; stop = l.stop }) ≡ with_front
    (tokens_view (ts ++ t ∷ [])) l
regroup ts t l = ap (λ (us : List Token). record { tokens = us; stop = l.stop }) (moves ts)
  where
    moves : (ts : List lexer.Token)
        → tokens_view ts ++ (lent_view (lent t) ∷ l.tokens) ≡ tokens_view (ts ++ t ∷ []) ++ l.tokens
    moves [] = refl
    moves (x ∷ ts) = ap (λ (us : List Token). token_view x ∷ us) (moves ts)

pub one_more : (all : List (Result Lent ℕ)) (ts : List lexer.Token) (t : lexer.Token) (left rest : List (Result Lent ℕ))
    → Reads all ts left
    → left ≡ Ok (lent t) ∷ rest
    → (length ts ≡ MOST_TOKENS → ⊥)
    → Reads all (ts ++ t ∷ []) rest
one_more all ts t left rest r e n = by_room r.room r.fits r.same
  where
    by_room : (room : ℕ)
        → length ts + room ≡ MOST_TOKENS
        → lexed MOST_TOKENS all ≡ with_front (tokens_view ts) (lexed room left)
        → Reads all (ts ++ t ∷ []) rest
    by_room zero f s = absurd (n (omega arith))
    by_room (suc k) f s = record {
      room = k;
      fits = omega (arith, length-append ts (t ∷ []));
      same =
          s
          ∙ ap (λ (is : List (Result Lent ℕ)). with_front (tokens_view ts) (lexed (suc k) is)) e
          ∙ regroup ts t (lexed k rest);
    }
