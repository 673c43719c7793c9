-- The token at the front.
use Rattle.std.proofs.Common.{◌≡◌, ℕ, suc, ◌+◌, ◌<◌, ◌≤◌, ◌⊎◌, inl, inr, Bool, true, false, not, cond, eqb, List, [], ◌∷◌, ◌++◌, length, take, drop, Option, Some, None, refl, sym, ap, subst, ◌∙◌, arith, ◌&&◌, ◌||◌}
use Rattle.std.specs.List.{list_all}
use Rattle.std.specs.Prelude.{is_some}
use Rattle.std.proofs.lemmas.List.{take-append-drop, length-take, length-append}
use Rattle.std.proofs.lemmas.Bool.{eqb-true, and_parts}
use Rattle.std.proofs.lemmas.Bool.Decides.{nat_tests}
use Rattle.std.proofs.Math.Seq.{take-append_seam, drop-append_seam}
use Rattle.js_lexer.specs.declared.token.TokenKind.{TokenKind}
use Rattle.js_lexer.specs.declared.token.TokenKind.TheVariants.{Number, String}
use Rattle.js_lexer.specs.Classes.{begins, is_digit, is_quote, is_word_start, is_word_part, leading}
use Rattle.js_lexer.specs.Spellings.{is_prefix_of, kind_in, first_in}
use Rattle.js_lexer.specs.Gaps.{opens_comment}
use Rattle.js_lexer.specs.Words.{is_word, reserved_words}
use Rattle.js_lexer.specs.Punctuators.{punctuators}
use Rattle.js_lexer.specs.Numbers.{IsNumber, goes_on}
use Rattle.js_lexer.specs.Tokens.{IsListed, IsToken, BeginsAs, IsLongest}
use Rattle.js_lexer.specs.Tokens.IsToken.{name, reserved, number, string, punctuator}
use Rattle.js_lexer.specs.Scanning.{number_of, word_token, number_token, string_token, token_at}
use Rattle.js_lexer.proofs.LeadingLemmas.{leading_all, leading_within, leading_longest, leading_exact}
use Rattle.js_lexer.proofs.NumberLemmas.{number_begins, number_parts, number_some, number_is}
use Rattle.js_lexer.specs.Pieces.{run}
use Rattle.js_lexer.specs.Strings.{IsStringLiteral}
use Rattle.js_lexer.specs.Characters.{character_len}
use Rattle.js_lexer.proofs.LiteralLemmas.{literal_found, literal_known, literal_begins}
use Rattle.js_lexer.proofs.SpellingLemmas.{prefix_self}
use Rattle.js_lexer.proofs.TableLemmas.{kind_is, IsKind, Firsts, first_is, is_mark, reserved_is_word, punctuator_is_mark, punctuators_descend, number_not_reserved, number_not_mark}

-- ---- what a token looks like

pub data Shape (text more : List ℕ) : Type 0 where
  a_word : is_word text ≡ true → Shape text more
  a_number : IsNumber text → begins goes_on more ≡ false → Shape text more
  a_string : IsStringLiteral text → Shape text more
  a_punctuator : (k : TokenKind) → IsListed (k, text) punctuators → Shape text more

shape_of : (k : TokenKind) (t m : List ℕ) → IsToken k t m → Shape t m
shape_of k t m (name e w n) = a_word w
shape_of k t m (reserved l) = a_word (reserved_is_word k t l)
shape_of k t m (number e h f) = a_number h f
shape_of k t m (string e h) = a_string h
shape_of k t m (punctuator l) = a_punctuator k l

pub begins_front : (p : ℕ → Bool) (t m : List ℕ) → begins p t ≡ true → begins p (t ++ m) ≡ true
begins_front p [] m e = absurd cc
begins_front p (c ∷ t) m e = e

pub word_begins : (t : List ℕ) → is_word t ≡ true → begins is_word_start t ≡ true
word_begins [] e = absurd cc
word_begins (c ∷ t) e = (and_parts (is_word_start c) (list_all is_word_part t) e).0

pub word_parts : (t : List ℕ) → is_word t ≡ true → list_all is_word_part t ≡ true
word_parts [] e = refl
word_parts (c ∷ t) e =
    let a = and_parts (is_word_start c) (list_all is_word_part t) e in
    rw (a.0, a.1) refl

-- a unit that begins a token of one shape begins none of another
pub start_no_digit : (us : List ℕ) → begins is_word_start us ≡ true → begins is_digit us ≡ true → ⊥
start_no_digit [] e f = cc
start_no_digit (u ∷ us) e f = grind (arith, nat_tests)

no_part : (s d q : Bool) → s ≡ true → (not (s || d) && not q) ≡ true → ⊥
no_part true d q e f = cc
no_part false d q e f = cc

no_part_either : (s d q : Bool) → d ≡ true → (not (s || d) && not q) ≡ true → ⊥
no_part_either true d q e f = cc
no_part_either false true q e f = cc
no_part_either false false q e f = cc

start_no_mark : (us : List ℕ) → begins is_word_start us ≡ true → begins is_mark us ≡ true → ⊥
start_no_mark [] e f = cc
start_no_mark (u ∷ us) e f = no_part (is_word_start u) (is_digit u) (is_quote u) e f

digit_no_mark : (us : List ℕ) → begins is_digit us ≡ true → begins is_mark us ≡ true → ⊥
digit_no_mark [] e f = cc
digit_no_mark (u ∷ us) e f = no_part_either (is_word_start u) (is_digit u) (is_quote u) e f

number_ends : (us : List ℕ) → begins goes_on us ≡ false → begins is_word_part us ≡ false
number_ends [] e = refl
number_ends (u ∷ us) e = by_test (is_word_part u) (eqb u 46) e
  where
    by_test : (b d : Bool) → (b || d) ≡ false → b ≡ false
    by_test true d e = e
    by_test false d e = refl

quote_no_mark : (us : List ℕ) → begins is_quote us ≡ true → begins is_mark us ≡ true → ⊥
quote_no_mark [] e f = cc
quote_no_mark (u ∷ us) e f = no_quote (is_word_part u) (is_quote u) e f
  where
    no_quote : (p q : Bool) → q ≡ true → (not p && not q) ≡ true → ⊥
    no_quote true q e f = cc
    no_quote false true e f = cc
    no_quote false false e f = cc

-- no word and no number begins with a quote
pub quote_first : (us : List ℕ)
    → begins is_quote us ≡ true
    → (begins is_word_start us ≡ false) × (begins is_digit us ≡ false)
quote_first [] e = absurd cc
quote_first (u ∷ us) e = by_tests (eqb u 34) refl (eqb u 39) refl e
  where
    by_tests : (a : Bool)
        → eqb u 34 ≡ a
        → (b : Bool)
        → eqb u 39 ≡ b
        → (a || b) ≡ true
        → (is_word_start u ≡ false) × (is_digit u ≡ false)
    by_tests true f b g e = rw (eqb-true u 34 f) (refl, refl)
    by_tests false f true g e = rw (eqb-true u 39 g) (refl, refl)
    by_tests false f false g e = absurd cc

-- ---- the ways to find a token

-- a token of this kind with so many units, than which none is longer
pub record IsFront (us : List ℕ) (k : TokenKind) (n : ℕ) : Type 0 where
  pub within : n ≤ length us
  pub some : 0 < n
  pub token : IsToken k (take n us) (drop n us)
  pub longest : (t m : List ℕ) → us ≡ t ++ m → Shape t m → length t ≤ n

-- no token
pub record NoFront (us : List ℕ) : Type 0 where
  pub none : (t m : List ℕ) → us ≡ t ++ m → Shape t m → ⊥

abbrev Front : List ℕ → Option (TokenKind × ℕ) → Type 0
Front us None = NoFront us
Front us (Some found) = IsFront us found.0 found.1

word_taken : (us : List ℕ)
    → begins is_word_start us ≡ true
    → (0 < leading is_word_part us) × (is_word (take (leading is_word_part us) us) ≡ true)
word_taken [] e = absurd cc
word_taken (u ∷ us) e = rw (e, e) (omega arith, leading_all is_word_part us)

kind_token : (k : TokenKind) (t m : List ℕ) → is_word t ≡ true → IsKind reserved_words t k → IsToken k t m
kind_token k t m w h = elim h.either [ inl l ↦ reserved l | inr q ↦ name q.0 w q.1 ]

word_front : (us : List ℕ) → begins is_word_start us ≡ true → Front us (word_token (leading is_word_part us) us)
word_front us b = let w = word_taken us b in record {
  within = leading_within is_word_part us;
  some = w.0;
  token =
      kind_token (kind_in reserved_words (take (leading is_word_part us) us)) (take (leading is_word_part us) us)
      (drop (leading is_word_part us) us) w.1 (kind_is reserved_words (take (leading is_word_part us) us));
  longest = λ t m p s. elim s [
    | a_word w ↦ subst (λ (l : List ℕ). length t ≤ leading is_word_part l) (sym p)
        (leading_longest is_word_part t m (word_parts t w))
    | a_number h f ↦ absurd
        (start_no_digit us b
        (subst (λ (l : List ℕ). begins is_digit l ≡ true) (sym p) (begins_front is_digit t m (number_begins t h))))
    | a_string h ↦ (
        let x = (quote_first us
        (subst (λ (l : List ℕ). begins is_quote l ≡ true) (sym p)
        (begins_front is_quote t m (literal_begins t h)))).0 in
        absurd cc
        )
    | a_punctuator k l ↦ absurd
        (start_no_mark us b
        (subst (λ (l : List ℕ). begins is_mark l ≡ true) (sym p)
        (begins_front is_mark t m (punctuator_is_mark k t l))))
  ];
}

-- a number that stands here has just the units that a word could hold
number_len : (us t m : List ℕ)
    → us ≡ t ++ m
    → IsNumber t
    → begins goes_on m ≡ false
    → leading is_word_part us ≡ length t
number_len us t m p h f =
    ap (leading is_word_part) p ∙ leading_exact is_word_part t m (number_parts t h) (number_ends m f)

digit_shape : (us : List ℕ)
    → begins is_digit us ≡ true
    → (t m : List ℕ)
    → us ≡ t ++ m
    → Shape t m
    → IsNumber t × (begins goes_on m ≡ false)
digit_shape us b t m p (a_word w) =
    absurd (start_no_digit us
    (subst (λ (l : List ℕ). begins is_word_start l ≡ true) (sym p)
    (begins_front is_word_start t m (word_begins t w)))
    b)
digit_shape us b t m p (a_number h f) = (h, f)
digit_shape us b t m p (a_string h) =
    let x = (quote_first us
    (subst (λ (l : List ℕ). begins is_quote l ≡ true) (sym p)
    (begins_front is_quote t m (literal_begins t h)))).1 in
    absurd cc
digit_shape us b t m p (a_punctuator k l) =
    absurd (digit_no_mark us b
    (subst (λ (l : List ℕ). begins is_mark l ≡ true) (sym p) (begins_front is_mark t m (punctuator_is_mark k t l))))

digit_taken : (us : List ℕ) → begins is_digit us ≡ true → 0 < leading is_word_part us
digit_taken [] e = absurd cc
digit_taken (u ∷ us) e = by_start (is_word_start u)
  where
    by_start : (b : Bool) → 0 < cond (b || is_digit u) (suc (leading is_word_part us)) 0
    by_start true = omega arith
    by_start false = rw e (omega arith)

number_front : (us : List ℕ) → begins is_digit us ≡ true → Front us (number_token (leading is_word_part us) us)
number_front us b =
    by_tests (leading is_word_part us) refl (is_some (number_of (take (leading is_word_part us) us))) refl
    (begins goes_on (drop (leading is_word_part us) us)) refl
  where
    no_such : (n : ℕ)
        → leading is_word_part us ≡ n
        → (t m : List ℕ)
        → us ≡ t ++ m
        → IsNumber t × (begins goes_on m ≡ false)
        → (is_some (number_of (take n us)) ≡ false) ⊎ (begins goes_on (drop n us) ≡ true)
        → ⊥
    no_such n l t m p h e =
        let len : n ≡ length t = sym l ∙ number_len us t m p h.0 h.1 in
        let front : take n us ≡ t = ap (λ n. take n us) len ∙ ap (take (length t)) p ∙ take-append_seam t m in
        let back : drop n us ≡ m = ap (λ n. drop n us) len ∙ ap (drop (length t)) p ∙ drop-append_seam t m in
        elim e [
          | inl f ↦ (
              let x : is_some (number_of t) ≡ false = ap (λ l. is_some (number_of l)) (sym front) ∙ f in
              let y = number_some t h.0 in
              cc
              )
          | inr f ↦ (
              let x : begins goes_on m ≡ true = ap (begins goes_on) (sym back) ∙ f in
              let y = h.1 in
              cc
              )
        ]

    by_tests : (n : ℕ)
        → leading is_word_part us ≡ n
        → (s : Bool)
        → is_some (number_of (take n us)) ≡ s
        → (g : Bool)
        → begins goes_on (drop n us) ≡ g
        → Front us (cond (s && not g) (Some (Number, n)) None)
    by_tests n l true e false f = record {
      within = omega (arith, leading_within is_word_part us);
      some = omega (arith, digit_taken us b);
      token = number refl (number_is (take n us) e) f;
      longest = λ t m p s. let h = digit_shape us b t m p s in omega (arith, number_len us t m p h.0 h.1);
    }
    by_tests n l true e true f = record { none = λ t m p s. no_such n l t m p (digit_shape us b t m p s) (inr f) }
    by_tests n l false e g f = record { none = λ t m p s. no_such n l t m p (digit_shape us b t m p s) (inl e) }

quote_shape : (us : List ℕ) → begins is_quote us ≡ true → (t m : List ℕ) → us ≡ t ++ m → Shape t m → IsStringLiteral t
quote_shape us b t m p (a_word w) =
    let x : begins is_word_start us ≡ true = subst (λ (l : List ℕ). begins is_word_start l ≡ true) (sym p)
    (begins_front is_word_start t m (word_begins t w)) in
    let y = (quote_first us b).0 in
    absurd cc
quote_shape us b t m p (a_number h f) =
    let x : begins is_digit us ≡ true = subst (λ (l : List ℕ). begins is_digit l ≡ true) (sym p)
    (begins_front is_digit t m (number_begins t h)) in
    let y = (quote_first us b).1 in
    absurd cc
quote_shape us b t m p (a_string h) = h
quote_shape us b t m p (a_punctuator k l) =
    absurd (quote_no_mark us b
    (subst (λ (l : List ℕ). begins is_mark l ≡ true) (sym p) (begins_front is_mark t m (punctuator_is_mark k t l))))

string_front : (us : List ℕ) → begins is_quote us ≡ true → Front us (string_token us)
string_front [] b = absurd cc
string_front (q ∷ us) b =
    by_end (run (character_len q) 0 us) refl (begins (λ c. eqb c q) (drop (run (character_len q) 0 us) us)) refl
  where
    by_end : (n : ℕ)
        → run (character_len q) 0 us ≡ n
        → (e : Bool)
        → begins (λ c. eqb c q) (drop n us) ≡ e
        → Front (q ∷ us) (cond e (Some (String, n + 2)) None)
    by_end n r true e =
        let f = literal_found q n us b r e in
        record {
          within = f.0;
          some = omega arith;
          token = string refl f.1;
          longest = λ t m p s. let k = literal_known q us t m p (quote_shape (q ∷ us) b t m p s) in omega (arith, k.0);
        }
    by_end n r false e = record {
      none = λ t m p s.
          let k = literal_known q us t m p (quote_shape (q ∷ us) b t m p s) in
          let x : begins (λ c. eqb c q) (drop n us) ≡ true = subst (λ (n : ℕ). begins (λ c. eqb c q) (drop n us) ≡ true)
          r k.1 in
          cc;
    }

mark_shape : (us : List ℕ)
    → begins is_word_start us ≡ false
    → begins is_digit us ≡ false
    → begins is_quote us ≡ false
    → (t m : List ℕ)
    → us ≡ t ++ m
    → Shape t m
    → (k : TokenKind) × IsListed (k, t) punctuators
mark_shape us a b q t m p (a_word w) =
    let x : begins is_word_start us ≡ true = subst (λ (l : List ℕ). begins is_word_start l ≡ true) (sym p)
    (begins_front is_word_start t m (word_begins t w)) in
    absurd cc
mark_shape us a b q t m p (a_number h f) =
    let x : begins is_digit us ≡ true = subst (λ (l : List ℕ). begins is_digit l ≡ true) (sym p)
    (begins_front is_digit t m (number_begins t h)) in
    absurd cc
mark_shape us a b q t m p (a_string h) =
    let x : begins is_quote us ≡ true = subst (λ (l : List ℕ). begins is_quote l ≡ true) (sym p)
    (begins_front is_quote t m (literal_begins t h)) in
    absurd cc
mark_shape us a b q t m p (a_punctuator k l) = (k, l)

some_mark : (t : List ℕ) → begins is_mark t ≡ true → 0 < length t
some_mark [] e = absurd cc
some_mark (c ∷ t) e = omega arith

punctuator_front : (us : List ℕ)
    → begins is_word_start us ≡ false
    → begins is_digit us ≡ false
    → begins is_quote us ≡ false
    → Front us (first_in punctuators us)
punctuator_front us a b q = by_found (first_in punctuators us) (first_is punctuators us)
  where
    stands : (t m : List ℕ) → us ≡ t ++ m → is_prefix_of t us ≡ true
    stands t m p = ap (is_prefix_of t) p ∙ prefix_self t m

    by_found : (o : Option (TokenKind × ℕ)) → Firsts punctuators us o → Front us o
    by_found None h =
        record { none = λ t m p s. let l = mark_shape us a b q t m p s in h.none (l.0, t) l.1 (stands t m p) }
    by_found (Some found) h =
        let front : take found.1 us ≡ h.text = ap (λ n. take n us) (sym h.len)
        ∙ ap (take (length h.text)) h.here
        ∙ take-append_seam h.text (drop (length h.text) us) in
        record {
          within =
              omega (
                arith,
                ap (λ (l : List ℕ). length l) h.here,
                length-append h.text (drop (length h.text) us),
                h.len,
              );
          some = omega (arith, h.len, some_mark h.text (punctuator_is_mark found.0 h.text h.listed));
          token = subst (λ (l : List ℕ). IsToken found.0 l (drop found.1 us)) (sym front) (punctuator h.listed);
          longest =
              λ t m p s. let l = mark_shape us a b q t m p s in
              h.longest punctuators_descend (l.0, t) l.1 (stands t m p);
        }

-- the token at the front, where no comment begins
token_front : (us : List ℕ) → opens_comment us ≡ false → Front us (token_at us)
unfolding token_at
token_front us o =
    by_tests (begins is_word_start us) refl (begins is_digit us) refl (begins is_quote us) refl (opens_comment us) o
  where
    by_tests : (a : Bool)
        → begins is_word_start us ≡ a
        → (b : Bool)
        → begins is_digit us ≡ b
        → (q : Bool)
        → begins is_quote us ≡ q
        → (c : Bool)
        → c ≡ false
        → Front us
        (cond a (word_token (leading is_word_part us) us)
        (cond b (number_token (leading is_word_part us) us)
        (cond q (string_token us) (cond c None (first_in punctuators us)))))
    by_tests true e b f q h c g = word_front us e
    by_tests false e true f q h c g = number_front us f
    by_tests false e false f true h c g = string_front us h
    by_tests false e false f false h true g = absurd cc
    by_tests false e false f false h false g = punctuator_front us e f h

-- where a comment begins, no word, no number and no string does
slash_opens : (a x y : Bool) → ((a && x) || (a && y)) ≡ true → a ≡ true
slash_opens true x y e = refl
slash_opens false x y e = cc

comment_first : (us : List ℕ)
    → opens_comment us ≡ true
    → (begins is_word_start us ≡ false) × (begins is_digit us ≡ false) × (begins is_quote us ≡ false)
comment_first [] e = absurd cc
comment_first (u ∷ us) e =
    let h : u ≡ 47 = eqb-true u 47 (slash_opens (eqb u 47) (is_prefix_of (47 ∷ []) us) (is_prefix_of (42 ∷ []) us) e) in
    rw h (refl, refl, refl)

none_at_comment : (us : List ℕ) → opens_comment us ≡ true → token_at us ≡ None
unfolding token_at
none_at_comment us o = let f = comment_first us o in rw (f.0, f.1, f.2, o) refl

-- ---- the longest token

pub longest_here : (us : List ℕ) (k : TokenKind) (n : ℕ)
    → token_at us ≡ Some (k, n)
    → (n ≤ length us) × (0 < n) × (opens_comment us ≡ false) × IsLongest k (take n us) (drop n us)
longest_here us k n e = by_comment (opens_comment us) refl
  where
    by_comment : (b : Bool)
        → opens_comment us ≡ b
        → (n ≤ length us) × (0 < n) × (opens_comment us ≡ false) × IsLongest k (take n us) (drop n us)
    by_comment true o = let f = none_at_comment us o in absurd cc
    by_comment false o =
        let f : IsFront us k n = subst (λ (x : Option (TokenKind × ℕ)). Front us x) e (token_front us o) in
        let whole : take n us ++ drop n us ≡ us = take-append-drop n us in (
          f.within,
          f.some,
          o,
          record {
            here = record { token = f.token; no_comment = ap opens_comment whole ∙ o };
            longest =
                λ j t m p h. omega
                (arith, f.longest t m (sym whole ∙ p) (shape_of j t m h.token), f.within, length-take n us);
          },
        )

pub none_here : (us : List ℕ) → token_at us ≡ None → (k : TokenKind) (t m : List ℕ) → us ≡ t ++ m → BeginsAs k t m → ⊥
none_here us e k t m p h =
    let o : opens_comment us ≡ false = ap opens_comment p ∙ h.no_comment in
    let f : NoFront us = subst (λ (x : Option (TokenKind × ℕ)). Front us x) e (token_front us o) in
    f.none t m p (shape_of k t m h.token)

-- a token of the kind of numbers is a number
number_token_is : (k : TokenKind) (t m : List ℕ) → IsToken k t m → k ≡ Number → IsNumber t
number_token_is k t m (name e w n) p = absurd cc
number_token_is k t m (reserved l) p =
    absurd (number_not_reserved t (subst (λ (k : TokenKind). IsListed (k, t) reserved_words) p l))
number_token_is k t m (number e h f) p = h
number_token_is k t m (string e h) p = absurd cc
number_token_is k t m (punctuator l) p =
    absurd (number_not_mark t (subst (λ (k : TokenKind). IsListed (k, t) punctuators) p l))

pub number_here : (us : List ℕ) (k : TokenKind) (n : ℕ) → token_at us ≡ Some (k, n) → k ≡ Number → IsNumber (take n us)
number_here us k n e p = number_token_is k (take n us) (drop n us) (longest_here us k n e).3.here.token p
