-- A text for each kind of token, and names that no reserved word is.
use Rattle.std.proofs.Common.{◌≡◌, ℕ, Bool, true, false, not, cond, eqb, ◌&&◌, ◌||◌, List, [], ◌∷◌, refl, sym, ap, inl, inr, arith}
use Rattle.std.specs.List.{list_all}
use Rattle.std.proofs.lemmas.Bool.{eqb-true, and_parts}
use Rattle.js_lexer.specs.declared.token.TokenKind.{TokenKind}
use Rattle.js_lexer.specs.declared.token.TokenKind.TheVariants as kinds
use Rattle.js_lexer.specs.Classes.{is_word_start, is_word_part}
use Rattle.js_lexer.specs.Words.{is_word, reserved_words}
use Rattle.js_lexer.specs.Punctuators.{punctuators}
use Rattle.js_lexer.specs.Tokens.{IsListed, IsToken}
use Rattle.js_lexer.specs.Tokens.IsToken.{name, reserved, number, string, punctuator}
use Rattle.js_lexer.proofs.TableLemmas.{all_listed}
use Rattle.js_parser_language.specs.Kinds.{is_same_kind}
use Rattle.js_parser_language.proofs.KindLemmas.{same_kind}

-- ---- tables

abbrev Table : Type 0
Table = List (TokenKind × List ℕ)

-- the table has a text for the kind
abbrev is_in : TokenKind → Table → Bool
is_in k [] = false
is_in k (e ∷ es) = cond (is_same_kind e.0 k) true (is_in k es)

-- the first one
abbrev text_in : TokenKind → Table → List ℕ
text_in k [] = []
text_in k (e ∷ es) = cond (is_same_kind e.0 k) e.1 (text_in k es)

listed_by : (k : TokenKind) (e : TokenKind × List ℕ) (es : Table)
    → (is_in k es ≡ true → IsListed (k, text_in k es) es)
    → (b : Bool)
    → is_same_kind e.0 k ≡ b
    → cond b true (is_in k es) ≡ true
    → IsListed (k, cond b e.1 (text_in k es)) (e ∷ es)
listed_by k e es go true s h = inl (ap (λ (k : TokenKind). (k, e.1)) (sym (same_kind e.0 k s)))
listed_by k e es go false s h = inr (go h)

listed : (k : TokenKind) (es : Table) → is_in k es ≡ true → IsListed (k, text_in k es) es
listed k [] h = absurd cc
listed k (e ∷ es) h = listed_by k e es (λ h. listed k es h) (is_same_kind e.0 k) refl h

-- ---- a text for each kind

abbrev is_fixed : TokenKind → Bool
is_fixed k = cond (is_in k reserved_words) true (is_in k punctuators)

abbrev fixed_text : TokenKind → List ℕ
fixed_text k = cond (is_in k reserved_words) (text_in k reserved_words) (text_in k punctuators)

-- a token of the kind: the name x, the number 0, an empty string, or the one text of the kind
abbrev pub text_of_kind : TokenKind → List ℕ
text_of_kind kinds.Name = 120 ∷ []
text_of_kind kinds.Number = 48 ∷ []
text_of_kind kinds.String = 34 ∷ 34 ∷ []
text_of_kind k = fixed_text k

fixed_token : (k : TokenKind) → is_fixed k ≡ true → IsToken k (fixed_text k) []
fixed_token k h = by_test (is_in k reserved_words) refl h
  where
    by_test : (b : Bool)
        → is_in k reserved_words ≡ b
        → cond b true (is_in k punctuators) ≡ true
        → IsToken k (cond b (text_in k reserved_words) (text_in k punctuators)) []
    by_test true s h = reserved (listed k reserved_words s)
    by_test false s h = punctuator (listed k punctuators h)

-- ---- free names

-- Such a name is none of the reserved words: none of them begins with o or x.
abbrev pub is_free : List ℕ → Bool
is_free [] = false
is_free (c ∷ cs) = (eqb c 111 || eqb c 120) && list_all is_word_part cs

reserved_not_free : list_all (λ (e : TokenKind × List ℕ). not (is_free e.1)) reserved_words ≡ true
unfolding reserved_words
reserved_not_free = refl

free_not_reserved : (n : List ℕ) → is_free n ≡ true → (k : TokenKind) → IsListed (k, n) reserved_words → ⊥
free_not_reserved n f k l =
    let h : not (is_free n) ≡ true = all_listed (λ (e : TokenKind × List ℕ). not (is_free e.1))
    reserved_words reserved_not_free (k, n) l in
    let no : false ≡ true = rw f at h in
    cc

free_start : (c : ℕ) (a b : Bool) → eqb c 111 ≡ a → eqb c 120 ≡ b → (a || b) ≡ true → is_word_start c ≡ true
free_start c true b p q h = rw (eqb-true c 111 p) refl
free_start c false true p q h = rw (eqb-true c 120 q) refl
free_start c false false p q h = absurd cc

free_is_word : (n : List ℕ) → is_free n ≡ true → is_word n ≡ true
free_is_word [] f = absurd cc
free_is_word (c ∷ cs) f =
    let p = and_parts (eqb c 111 || eqb c 120) (list_all is_word_part cs) f in
    rw (free_start c (eqb c 111) (eqb c 120) refl refl p.0, p.1) refl

pub free_token : (n : List ℕ) → is_free n ≡ true → IsToken kinds.Name n []
free_token n f = name refl (free_is_word n f) (free_not_reserved n f)

-- ---- each kind has a token

pub kind_token : (k : TokenKind) → IsToken k (text_of_kind k) []
unfolding reserved_words punctuators
kind_token kinds.Name = free_token (120 ∷ []) refl
kind_token kinds.Number = number refl (record { numeral = refl; safe = omega arith }) refl
kind_token kinds.String =
    string refl
    ([], record { quote = 34; characters = []; quoted = refl; spelled = refl; each = tt; stands_for = refl })
kind_token k = fixed_token k refl
