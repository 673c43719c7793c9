-- The tables of words and punctuators.
use Rattle.std.proofs.Common.{◌≡◌, ℕ, ◌≤◌, Bool, true, false, not, cond, eqb, leb, List, [], ◌∷◌, ◌++◌, length, drop, Option, Some, None, refl, sym, ap, ◌∙◌, ◌⊎◌, inl, inr, eq-eqb, arith, ◌&&◌}
use Rattle.std.specs.List.{list_all}
use Rattle.std.proofs.lemmas.Bool.{eqb-true, leb-true, and_parts}
use Rattle.std.proofs.lemmas.List.{append-nil, length-drop}
use Rattle.js_lexer.specs.declared.token.TokenKind.{TokenKind}
use Rattle.js_lexer.specs.declared.token.TokenKind.TheVariants.{Name, Number, String}
use Rattle.js_lexer.specs.Classes.{begins, is_word_part, is_quote}
use Rattle.js_lexer.specs.Spellings.{is_prefix_of, is_same, kind_in, first_in}
use Rattle.js_lexer.specs.Words.{is_word, reserved_words}
use Rattle.js_lexer.specs.Punctuators.{punctuators}
use Rattle.js_lexer.specs.Tokens.{IsListed}
use Rattle.js_lexer.proofs.SpellingLemmas.{prefix_is, prefix_self}

-- an entry of a table
abbrev pub Entry : Type 0
Entry = TokenKind × List ℕ

-- what holds of each entry holds of one
pub all_listed : (p : Entry → Bool) (table : List Entry)
    → list_all p table ≡ true
    → (e : Entry)
    → IsListed e table
    → p e ≡ true
all_listed p [] h e l = absurd l
all_listed p (x ∷ xs) h e (inl q) = ap p q ∙ (and_parts (p x) (list_all p xs) h).0
all_listed p (x ∷ xs) h e (inr l) = all_listed p xs (and_parts (p x) (list_all p xs) h).1 e l

-- ---- words

empty_back : (t us : List ℕ) → length us ≡ length t → us ≡ t ++ drop (length t) us → us ≡ t
empty_back t us l e = by_rest (drop (length t) us) e (omega (arith, length-drop (length t) us))
  where
    by_rest : (r : List ℕ) → us ≡ t ++ r → length r ≡ 0 → us ≡ t
    by_rest [] e z = e ∙ append-nil t
    by_rest (u ∷ r) e z = absurd (omega arith)

same_is : (t us : List ℕ) → is_same t us ≡ true → us ≡ t
same_is t us e =
    let a = and_parts (eqb (length us) (length t)) (is_prefix_of t us) e in
    empty_back t us (eqb-true (length us) (length t) a.0) (prefix_is t us a.1)

same_self : (t : List ℕ) → is_same t t ≡ true
same_self t = rw (eq-eqb (length t) (length t) refl) (ap (is_prefix_of t) (sym (append-nil t)) ∙ prefix_self t [])

-- the kind that a table gives a word stands there with it, or the word isn't there and is a name
pub record IsKind (table : List Entry) (text : List ℕ) (kind : TokenKind) : Type 0 where
  pub either : IsListed (kind, text) table ⊎ ((kind ≡ Name) × ((k : TokenKind) → IsListed (k, text) table → ⊥))

pub kind_is : (table : List Entry) (text : List ℕ) → IsKind table text (kind_in table text)
kind_is [] text = record { either = inr (refl, λ k h. h) }
kind_is (e ∷ es) text = by_test (kind_is es text) (is_same e.1 text) refl
  where
    by_test : IsKind es text (kind_in es text)
        → (b : Bool)
        → is_same e.1 text ≡ b
        → IsKind (e ∷ es) text (cond b e.0 (kind_in es text))
    by_test h true p = record { either = inl (inl (ap (λ (l : List ℕ). (e.0, l)) (same_is e.1 text p))) }
    by_test h false p = elim h.either [
      | inl l ↦ record { either = inl (inr l) }
      | inr q ↦ record {
        either = inr (
          q.0,
          λ k l. elim l [
            | inl f ↦ (
                let same : text ≡ e.1 = ap (λ (x : Entry). x.1) f in
                let s : is_same e.1 text ≡ true = ap (is_same e.1) same ∙ same_self e.1 in
                cc
                )
            | inr l ↦ q.1 k l
          ],
        );
      }
    ]

-- ---- punctuators

-- no longer text stands below a shorter one
abbrev pub descends : List Entry → Bool
descends [] = true
descends (e ∷ es) = list_all (λ d. leb (length d.1) (length e.1)) es && descends es

-- the first entry that stands here
pub record IsFirst (table : List Entry) (us : List ℕ) (found : TokenKind × ℕ) : Type 0 where
  pub text : List ℕ
  pub listed : IsListed (found.0, text) table
  pub here : us ≡ text ++ drop (length text) us
  pub len : length text ≡ found.1
  pub longest : descends table ≡ true
      → (e : Entry)
      → IsListed e table
      → is_prefix_of e.1 us ≡ true
      → length e.1 ≤ found.1

-- and where none stands here
pub record IsNone (table : List Entry) (us : List ℕ) : Type 0 where
  pub none : (e : Entry) → IsListed e table → is_prefix_of e.1 us ≡ true → ⊥

abbrev pub Firsts : List Entry → List ℕ → Option (TokenKind × ℕ) → Type 0
Firsts table us None = IsNone table us
Firsts table us (Some found) = IsFirst table us found

first_here : (e : Entry) (es : List Entry) (us : List ℕ)
    → is_prefix_of e.1 us ≡ true
    → IsFirst (e ∷ es) us (e.0, length e.1)
first_here e es us b = record {
  text = e.1;
  listed = inl refl;
  here = prefix_is e.1 us b;
  len = refl;
  longest = λ d f l h. elim l [
    | inl q ↦ omega (arith, ap (λ (x : Entry). length x.1) q)
    | inr l ↦ leb-true (length f.1) (length e.1)
        (all_listed (λ d. leb (length d.1) (length e.1)) es
        (and_parts (list_all (λ d. leb (length d.1) (length e.1)) es) (descends es) d).0 f l)
  ];
}

first_below : (e : Entry) (es : List Entry) (us : List ℕ)
    → is_prefix_of e.1 us ≡ false
    → (o : Option (TokenKind × ℕ))
    → Firsts es us o
    → Firsts (e ∷ es) us o
first_below e es us b None h = record {
  none = λ f l p. elim l [
    | inl q ↦ (
        let g : is_prefix_of f.1 us ≡ is_prefix_of e.1 us = ap (λ (x : Entry). is_prefix_of x.1 us) q in
        cc
        )
    | inr l ↦ h.none f l p
  ];
}
first_below e es us b (Some t) h = record {
  text = h.text;
  listed = inr h.listed;
  here = h.here;
  len = h.len;
  longest = λ d f l p. elim l [
    | inl q ↦ (
        let g : is_prefix_of f.1 us ≡ is_prefix_of e.1 us = ap (λ (x : Entry). is_prefix_of x.1 us) q in
        absurd cc
        )
    | inr l ↦ h.longest (and_parts (list_all (λ d. leb (length d.1) (length e.1)) es) (descends es) d).1 f l p
  ];
}

pub first_is : (table : List Entry) (us : List ℕ) → Firsts table us (first_in table us)
first_is [] us = record { none = λ e l p. l }
first_is (e ∷ es) us = by_test (first_is es us) (is_prefix_of e.1 us) refl
  where
    by_test : Firsts es us (first_in es us)
        → (b : Bool)
        → is_prefix_of e.1 us ≡ b
        → Firsts (e ∷ es) us (cond b (Some (e.0, length e.1)) (first_in es us))
    by_test h true p = first_here e es us p
    by_test h false p = first_below e es us p (first_in es us) h

-- ---- facts by computing

-- neither a word nor a number nor a string begins so
abbrev pub is_mark : ℕ → Bool
is_mark c = not (is_word_part c) && not (is_quote c)

reserved_table : list_all (λ (e : Entry). is_word e.1) reserved_words ≡ true
unfolding reserved_words
reserved_table = refl

pub reserved_is_word : (k : TokenKind) (t : List ℕ) → IsListed (k, t) reserved_words → is_word t ≡ true
reserved_is_word k t l = all_listed (λ e. is_word e.1) reserved_words reserved_table (k, t) l

mark_table : list_all (λ (e : Entry). begins is_mark e.1) punctuators ≡ true
unfolding punctuators
mark_table = refl

pub punctuator_is_mark : (k : TokenKind) (t : List ℕ) → IsListed (k, t) punctuators → begins is_mark t ≡ true
punctuator_is_mark k t l = all_listed (λ e. begins is_mark e.1) punctuators mark_table (k, t) l

pub punctuators_descend : descends punctuators ≡ true
unfolding punctuators
punctuators_descend = refl

-- the kinds of numbers and strings stand in no table
is_fixed : TokenKind → Bool
is_fixed Name = false
is_fixed Number = false
is_fixed String = false
is_fixed k = true

reserved_fixed : list_all (λ (e : Entry). is_fixed e.0) reserved_words ≡ true
unfolding reserved_words is_fixed
reserved_fixed = refl

mark_fixed : list_all (λ (e : Entry). is_fixed e.0) punctuators ≡ true
unfolding punctuators is_fixed
mark_fixed = refl

number_not_fixed : is_fixed Number ≡ false
unfolding is_fixed
number_not_fixed = refl

pub number_not_reserved : (t : List ℕ) → IsListed (Number, t) reserved_words → ⊥
number_not_reserved t l =
    let f = all_listed (λ e. is_fixed e.0) reserved_words reserved_fixed (Number, t) l in
    let g = number_not_fixed in
    cc

pub number_not_mark : (t : List ℕ) → IsListed (Number, t) punctuators → ⊥
number_not_mark t l =
    let f = all_listed (λ e. is_fixed e.0) punctuators mark_fixed (Number, t) l in
    let g = number_not_fixed in
    cc
