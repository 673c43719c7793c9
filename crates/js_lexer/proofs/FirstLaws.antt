-- The first tokens of a source are those of some units, whatever is written behind these.
use Rattle.std.proofs.Common.{◌≡◌, ℕ, zero, suc, ◌+◌, ◌<◌, ◌≤◌, ◌⊎◌, inl, inr, Bool, true, false, not, cond, eqb, List, [], ◌∷◌, ◌++◌, length, take, drop, Option, Some, None, Result, Ok, codes, refl, sym, ap, subst, ◌∙◌, arith, ◌&&◌, ◌||◌, append_assoc}
use Rattle.std.specs.Prelude.{is_some}
use Rattle.std.specs.List.{list_all, concat}
use Rattle.std.proofs.lemmas.Bool.{eqb-true, and_parts}
use Rattle.std.proofs.lemmas.List.{take-append-drop, length-take, length-append}
use Rattle.std.proofs.Math.Seq.{take-append_seam, drop-append_seam}
use Rattle.js_lexer.specs.declared.token.TokenKind.{TokenKind}
use Rattle.js_lexer.specs.declared.token.TokenKind.TheVariants.{Number, String}
use Rattle.js_lexer.specs.Classes.{begins, is_blank, is_digit, is_quote, is_word_start, is_word_part, leading}
use Rattle.js_lexer.specs.Spellings.{is_prefix_of, kind_in, first_in}
use Rattle.js_lexer.specs.Gaps.{IsGapPiece, ends_line, opens_comment, has_line_terminator}
use Rattle.js_lexer.specs.Gaps.IsGapPiece.{blank, line_comment, block_comment}
use Rattle.js_lexer.specs.Words.{reserved_words}
use Rattle.js_lexer.specs.Punctuators.{punctuators}
use Rattle.js_lexer.specs.Numbers.{goes_on}
use Rattle.js_lexer.specs.Characters.{character_len}
use Rattle.js_lexer.specs.Pieces.{Each, run}
use Rattle.js_lexer.specs.Tokens.{IsListed, Lent}
use Rattle.js_lexer.specs.Scanning.{gap_piece, gap_len, number_of, word_token, number_token, string_token, token_at, items}
use Rattle.js_lexer.specs.State.{items_of}
use Rattle.js_lexer.specs.Written.{WrittenToken, AreTokens, blank_before, written, lent, tokens_then, end_after}
use Rattle.js_lexer.proofs.LeadingLemmas.{leading_all, leading_stops, leading_exact}
use Rattle.js_lexer.proofs.RunLemmas.{run_exact}
use Rattle.js_lexer.proofs.GapLemmas.{gap_knows}
use Rattle.js_lexer.proofs.SpellingLemmas.{prefix_is, prefix_self}
use Rattle.js_lexer.proofs.TableLemmas.{Firsts, first_is, all_listed, punctuators_descend}
use Rattle.js_lexer.proofs.LiteralLemmas.{literal_found}
use Rattle.js_lexer.proofs.FrontLemmas.{longest_here}
use Rattle.js_lexer.proofs.TilingLemmas.{gap_is, gap_within, no_more, bad_one, one_more}
use Rattle.js_lexer.proofs.WrittenLaws.{Breaks, breaks, found, string_alone, mark_alone, not_true, no_comment, written_are}

-- ---- units that are the same up to a blank

-- the second units are the first ones up to their end, or up to a blank
abbrev Agree : List ℕ → List ℕ → Type 0
Agree us [] = Unit {0}
Agree us (c ∷ cs) = ((line : Bool) × (c ≡ blank_before line)) ⊎ ((rest : List ℕ) × (us ≡ c ∷ rest) × Agree rest cs)

agree_breaks : (us more : List ℕ) → Breaks more → Agree us more
agree_breaks us [] b = tt
agree_breaks us (c ∷ cs) b = inl b

agree_behind : (front us vs : List ℕ) → Agree us vs → Agree (front ++ us) (front ++ vs)
agree_behind [] us vs a = a
agree_behind (c ∷ front) us vs a = inr (front ++ us, refl, agree_behind front us vs a)

-- what the next unit of the first isn't, and no blank is, the next unit of the second isn't
agree_next : (p : ℕ → Bool)
    → ((line : Bool) → p (blank_before line) ≡ false)
    → (us vs : List ℕ)
    → Agree us vs
    → begins p us ≡ false
    → begins p vs ≡ false
agree_next p h us [] a e = refl
agree_next p h us (c ∷ cs) (inl b) e = ap p b.1 ∙ h b.0
agree_next p h us (c ∷ cs) (inr r) e = sym (ap (begins p) r.1) ∙ e

not_part : (line : Bool) → is_word_part (blank_before line) ≡ false
not_part true = refl
not_part false = refl

not_going_on : (line : Bool) → goes_on (blank_before line) ≡ false
not_going_on true = refl
not_going_on false = refl

-- a text without blanks
abbrev is_solid : List ℕ → Bool
is_solid t = list_all (λ c. not (eqb c 10) && not (eqb c 32)) t

no_blank : (line : Bool) (c : ℕ) → (not (eqb c 10) && not (eqb c 32)) ≡ true → eqb (blank_before line) c ≡ true → ⊥
no_blank true c s e = let is : 10 ≡ c = eqb-true 10 c e in absurd (solid_is c (sym is) s)
  where
    solid_is : (c : ℕ) → c ≡ 10 → (not (eqb c 10) && not (eqb c 32)) ≡ true → ⊥
    solid_is c is s = let no : false ≡ true = rw is at s in cc
no_blank false c s e = let is : 32 ≡ c = eqb-true 32 c e in absurd (solid_is c (sym is) s)
  where
    solid_is : (c : ℕ) → c ≡ 32 → (not (eqb c 10) && not (eqb c 32)) ≡ true → ⊥
    solid_is c is s = let no : false ≡ true = rw is at s in cc

-- what begins the second also begins the first
agree_begins : (t us vs : List ℕ)
    → is_solid t ≡ true
    → Agree us vs
    → is_prefix_of t vs ≡ true
    → is_prefix_of t us ≡ true
agree_begins [] us vs s a e = refl
agree_begins (c ∷ t) us [] s a e = absurd cc
agree_begins (c ∷ t) us (v ∷ vs) s (inl b) e =
    let p = and_parts (not (eqb c 10) && not (eqb c 32)) (is_solid t) s in
    let q = and_parts (eqb v c) (is_prefix_of t vs) e in
    absurd (no_blank b.0 c p.0 (sym (ap (λ v. eqb v c) b.1) ∙ q.0))
agree_begins (c ∷ t) us (v ∷ vs) s (inr r) e =
    let p = and_parts (not (eqb c 10) && not (eqb c 32)) (is_solid t) s in
    let q = and_parts (eqb v c) (is_prefix_of t vs) e in
    subst (λ (us : List ℕ). is_prefix_of (c ∷ t) us ≡ true) (sym r.1) (rw (q.0, agree_begins t r.0 vs p.1 r.2 q.1) refl)

no_comment_by : (us vs : List ℕ)
    → Agree us vs
    → opens_comment us ≡ false
    → (x : Bool)
    → is_prefix_of (codes "//") vs ≡ x
    → (y : Bool)
    → is_prefix_of (codes "/*") vs ≡ y
    → (x || y) ≡ false
no_comment_by us vs a o true p y q =
    let b = agree_begins (codes "//") us vs refl a p in let no : true ≡ false = rw b at o in cc
no_comment_by us vs a o false p true q =
    either_false (is_prefix_of (codes "//") us) (is_prefix_of (codes "/*") us)
    (agree_begins (codes "/*") us vs refl a q) o
  where
    either_false : (x y : Bool) → y ≡ true → (x || y) ≡ false → true ≡ false
    either_false true y e f = f
    either_false false y e f = sym e ∙ f
no_comment_by us vs a o false p false q = refl

agree_comment : (us vs : List ℕ) → Agree us vs → opens_comment us ≡ false → opens_comment vs ≡ false
agree_comment us vs a o =
    no_comment_by us vs a o (is_prefix_of (codes "//") vs) refl (is_prefix_of (codes "/*") vs) refl

-- ---- the token at the front

first_same : (p : ℕ → Bool) (n : ℕ) (here vs : List ℕ)
    → 0 < n
    → n ≤ length here
    → begins p (take n here ++ vs) ≡ begins p here
first_same p zero here vs some within = absurd (omega arith)
first_same p (suc n) [] vs some within = absurd (omega arith)
first_same p (suc n) (c ∷ here) vs some within = refl

taken : (n : ℕ) (here : List ℕ) → n ≤ length here → length (take n here) ≡ n
taken n here within = omega (arith, length-take n here, within)

some_same : {A : Type 0} (x y : A) → Some x ≡ Some y → x ≡ y
some_same x y e = cc

-- the same token stands at the front where other units come behind it
abbrev Again : List ℕ → List ℕ → TokenKind × ℕ → Type 0
Again here vs found = Agree (drop found.1 here) vs → token_at (take found.1 here ++ vs) ≡ Some found

-- a number of units that is there
abbrev Within : List ℕ → ℕ → Type 0
Within here n = (0 < n) × (n ≤ length here)

word_again : (here vs : List ℕ)
    → begins is_word_start here ≡ true
    → Within here (leading is_word_part here)
    → Again here vs (kind_in reserved_words (take (leading is_word_part here) here), leading is_word_part here)
unfolding token_at
word_again here vs s w a =
    let n = leading is_word_part here in
    let t = take n here in
    let start : begins is_word_start (t ++ vs) ≡ true = first_same is_word_start n here vs w.0 w.1 ∙ s in
    let l : leading is_word_part (t ++ vs) ≡ length t = leading_exact is_word_part t vs (leading_all is_word_part here)
    (agree_next is_word_part not_part (drop n here) vs a (leading_stops is_word_part here)) in
    let is : token_at (t ++ vs) ≡ found (kind_in reserved_words t) (length t) = rw (start, l, take-append_seam t vs)
    refl in
    is ∙ ap (λ n. found (kind_in reserved_words t) n) (taken n here w.1)

number_again : (here vs : List ℕ)
    → begins is_word_start here ≡ false
    → begins is_digit here ≡ true
    → Within here (leading is_word_part here)
    → is_some (number_of (take (leading is_word_part here) here)) ≡ true
    → begins goes_on (drop (leading is_word_part here) here) ≡ false
    → Again here vs (Number, leading is_word_part here)
unfolding token_at
number_again here vs s d w some ends a =
    let n = leading is_word_part here in
    let t = take n here in
    let start : begins is_word_start (t ++ vs) ≡ false = first_same is_word_start n here vs w.0 w.1 ∙ s in
    let digit : begins is_digit (t ++ vs) ≡ true = first_same is_digit n here vs w.0 w.1 ∙ d in
    let l : leading is_word_part (t ++ vs) ≡ length t = leading_exact is_word_part t vs (leading_all is_word_part here)
    (agree_next is_word_part not_part (drop n here) vs a (leading_stops is_word_part here)) in
    let is : token_at (t ++ vs) ≡ found Number (length t) = rw (
      start,
      digit,
      l,
      take-append_seam t vs,
      drop-append_seam t vs,
      some,
      agree_next goes_on not_going_on (drop n here) vs a ends,
    )
    refl in
    is ∙ ap (λ n. found Number n) (taken n here w.1)

solid_marks : list_all (λ (e : TokenKind × List ℕ). is_solid e.1) punctuators ≡ true
unfolding punctuators
solid_marks = refl

-- one text has one kind
same_mark : (j k : TokenKind) (t u : List ℕ) → IsListed (j, t) punctuators → IsListed (k, u) punctuators → t ≡ u → j ≡ k
same_mark j k t u l m e =
    let x : TokenKind × ℕ = (j, length t) in
    let y : TokenKind × ℕ = (k, length u) in
    let is : Some x ≡ Some y = sym (mark_alone j t [] l tt)
    ∙ (ap (λ (t : List ℕ). token_at (t ++ [])) e ∙ mark_alone k u [] m tt) in
    ap (λ (z : TokenKind × ℕ). z.0) (some_same x y is)

same_front : (t u here : List ℕ)
    → here ≡ t ++ drop (length t) here
    → here ≡ u ++ drop (length u) here
    → length t ≡ length u
    → t ≡ u
same_front t u here p q e =
    sym (take-append_seam t (drop (length t) here))
    ∙ (ap (take (length t)) (sym p)
    ∙ (ap (λ n. take n here) e ∙ (ap (take (length u)) q ∙ take-append_seam u (drop (length u) here))))

mark_by : (here vs : List ℕ) (k : TokenKind) (n : ℕ)
    → Firsts punctuators here (Some (k, n))
    → Agree (drop n here) vs
    → (o : Option (TokenKind × ℕ))
    → Firsts punctuators (take n here ++ vs) o
    → o ≡ found k n
mark_by here vs k n f a o h =
    let front : take n here ≡ f.text = ap (λ n. take n here) (sym f.len)
    ∙ ap (take (length f.text)) f.here
    ∙ take-append_seam f.text (drop (length f.text) here) in
    let begin : is_prefix_of f.text (take n here ++ vs) ≡ true = ap (λ (t : List ℕ). is_prefix_of f.text (t ++ vs))
    front
    ∙ prefix_self f.text vs in
    by_found front begin o h
  where
    by_found : take n here ≡ f.text
        → is_prefix_of f.text (take n here ++ vs) ≡ true
        → (o : Option (TokenKind × ℕ))
        → Firsts punctuators (take n here ++ vs) o
        → o ≡ found k n
    by_found front begin None h = absurd (h.none (k, f.text) f.listed begin)
    by_found front begin (Some x) h =
        let low : length f.text ≤ x.1 = h.longest punctuators_descend (k, f.text) f.listed begin in
        let there : is_prefix_of h.text (take n here ++ vs) ≡ true = ap (is_prefix_of h.text) h.here
        ∙ prefix_self h.text (drop (length h.text) (take n here ++ vs)) in
        let agree : Agree here (take n here ++ vs) = subst (λ (us : List ℕ). Agree us (take n here ++ vs))
        (take-append-drop n here) (agree_behind (take n here) (drop n here) vs a) in
        let before : is_prefix_of h.text here ≡ true = agree_begins h.text here (take n here ++ vs)
        (all_listed (λ e. is_solid e.1) punctuators solid_marks (x.0, h.text) h.listed) agree there in
        let high : length h.text ≤ n = f.longest punctuators_descend (x.0, h.text) h.listed before in
        let same : x.1 ≡ n = omega (arith, low, high, h.len, f.len) in
        let text : h.text ≡ f.text = same_front h.text f.text here (prefix_is h.text here before) f.here
        (omega (arith, same, h.len, f.len)) in
        let kind : x.0 ≡ k = same_mark x.0 k h.text f.text h.listed f.listed text in
        rw (kind, same) refl

mark_again : (here vs : List ℕ) (k : TokenKind) (n : ℕ)
    → begins is_word_start here ≡ false
    → begins is_digit here ≡ false
    → begins is_quote here ≡ false
    → opens_comment here ≡ false
    → Within here n
    → first_in punctuators here ≡ found k n
    → Again here vs (k, n)
unfolding token_at
mark_again here vs k n s d q o w e a =
    let us = take n here ++ vs in
    let start : begins is_word_start us ≡ false = first_same is_word_start n here vs w.0 w.1 ∙ s in
    let digit : begins is_digit us ≡ false = first_same is_digit n here vs w.0 w.1 ∙ d in
    let quote : begins is_quote us ≡ false = first_same is_quote n here vs w.0 w.1 ∙ q in
    let agree : Agree here us = subst (λ (vs : List ℕ). Agree vs us) (take-append-drop n here)
    (agree_behind (take n here) (drop n here) vs a) in
    let f : Firsts punctuators here (found k n) = subst (λ (o : Option (TokenKind × ℕ)). Firsts punctuators here o) e
    (first_is punctuators here) in
    rw (start, digit, quote, agree_comment here us agree o)
    (mark_by here vs k n f a (first_in punctuators us) (first_is punctuators us))

string_again : (here vs : List ℕ) (k : TokenKind) (n : ℕ)
    → begins is_quote here ≡ true
    → string_token here ≡ found k n
    → Again here vs (k, n)
string_again [] vs k n q e a = absurd cc
string_again (c ∷ us) vs k n q e a = by_test (begins (λ d. eqb d c) (drop (run (character_len c) 0 us) us)) refl e
  where
    by_test : (b : Bool)
        → begins (λ d. eqb d c) (drop (run (character_len c) 0 us) us) ≡ b
        → cond b (found String (run (character_len c) 0 us + 2)) None ≡ found k n
        → token_at (take n (c ∷ us) ++ vs) ≡ found k n
    by_test true b e =
        let l = literal_found c (run (character_len c) 0 us) us q refl b in
        let x : TokenKind × ℕ = (String, run (character_len c) 0 us + 2) in
        let y : TokenKind × ℕ = (k, n) in
        let is : x ≡ y = some_same x y e in
        let here : token_at (take x.1 (c ∷ us) ++ vs) ≡ found String x.1 = string_alone (take x.1 (c ∷ us)) vs l.1
        ∙ ap (λ n. found String n) (taken x.1 (c ∷ us) l.0) in
        subst (λ (z : TokenKind × ℕ). token_at (take z.1 (c ∷ us) ++ vs) ≡ Some z) is here
    by_test false b e = absurd cc

by_number : (here vs : List ℕ) (k : TokenKind) (n : ℕ)
    → Within here n
    → begins is_word_start here ≡ false
    → begins is_digit here ≡ true
    → (b : Bool)
    → (is_some (number_of (take (leading is_word_part here) here)) && not
    (begins goes_on (drop (leading is_word_part here) here)))
    ≡ b
    → cond b (found Number (leading is_word_part here)) None ≡ found k n
    → Again here vs (k, n)
by_number here vs k n w s d true t e =
    let x : TokenKind × ℕ = (Number, leading is_word_part here) in
    let y : TokenKind × ℕ = (k, n) in
    let is : x ≡ y = some_same x y e in
    let p = and_parts (is_some (number_of (take (leading is_word_part here) here)))
    (not (begins goes_on (drop (leading is_word_part here) here))) t in
    subst (λ (z : TokenKind × ℕ). Again here vs z) is
    (number_again here vs s d (subst (λ n. Within here n) (sym (ap (λ (z : TokenKind × ℕ). z.1) is)) w) p.0
    (not_true (begins goes_on (drop (leading is_word_part here) here)) p.1))
by_number here vs k n w s d false t e = absurd cc

token_again : (here vs : List ℕ) (k : TokenKind) (n : ℕ) → token_at here ≡ found k n → Again here vs (k, n)
unfolding token_at
token_again here vs k n e =
    let f = longest_here here k n e in
    by_tests (f.1, f.0) (begins is_word_start here) refl (begins is_digit here) refl (begins is_quote here) refl
    (opens_comment here) refl e
  where
    by_tests : Within here n
        → (a : Bool)
        → begins is_word_start here ≡ a
        → (b : Bool)
        → begins is_digit here ≡ b
        → (q : Bool)
        → begins is_quote here ≡ q
        → (c : Bool)
        → opens_comment here ≡ c
        → cond a (word_token (leading is_word_part here) here)
        (cond b (number_token (leading is_word_part here) here)
        (cond q (string_token here) (cond c None (first_in punctuators here))))
        ≡ found k n
        → Again here vs (k, n)
    by_tests w true s b d q f c g e =
        let x : TokenKind
        × ℕ = (kind_in reserved_words (take (leading is_word_part here) here), leading is_word_part here) in
        let y : TokenKind × ℕ = (k, n) in
        let is : x ≡ y = some_same x y e in
        subst (λ (z : TokenKind × ℕ). Again here vs z) is
        (word_again here vs s (subst (λ n. Within here n) (sym (ap (λ (z : TokenKind × ℕ). z.1) is)) w))
    by_tests w false s true d q f c g e =
        by_number here vs k n w s d
        (is_some (number_of (take (leading is_word_part here) here)) && not
        (begins goes_on (drop (leading is_word_part here) here)))
        refl e
    by_tests w false s false d true f c g e = string_again here vs k n f e
    by_tests w false s false d false f true g e = absurd cc
    by_tests w false s false d false f false g e = mark_again here vs k n s d f g w e

-- ---- the gap before it

piece_again : (t us vs : List ℕ) → ends_line us ≡ ends_line vs → IsGapPiece t us → IsGapPiece t vs
piece_again t us vs e (blank c p q) = blank c p q
piece_again t us vs e (line_comment h) =
    line_comment (record { body = h.body; spelled = h.spelled; one_line = h.one_line; ended = sym e ∙ h.ended })
piece_again t us vs e (block_comment h) = block_comment h

ends_again : (l us vs : List ℕ) → ends_line us ≡ ends_line vs → ends_line (l ++ us) ≡ ends_line (l ++ vs)
ends_again [] us vs e = e
ends_again (c ∷ l) us vs e = refl

each_again : (ts : List (List ℕ)) (us vs : List ℕ)
    → ends_line us ≡ ends_line vs
    → Each (λ text more. IsGapPiece text more) ts us
    → Each (λ text more. IsGapPiece text more) ts vs
each_again [] us vs e h = tt
each_again (t ∷ ts) us vs e h =
    (piece_again t (concat ts ++ us) (concat ts ++ vs) (ends_again (concat ts) us vs e) h.0, each_again ts us vs e h.1)

gap_again : (us vs : List ℕ)
    → ends_line (drop (gap_len us) us) ≡ ends_line vs
    → gap_piece vs ≡ 0
    → gap_len (take (gap_len us) us ++ vs) ≡ length (take (gap_len us) us)
unfolding gap_len
gap_again us vs e z =
    let m = (gap_is us).made in
    subst (λ (l : List ℕ). run gap_piece 0 (l ++ vs) ≡ length l) (sym m.joined)
    (run_exact (λ text more. IsGapPiece text more) gap_piece gap_knows m.pieces vs
    (each_again m.pieces (drop (gap_len us) us) vs e m.each) z)

not_blank : (us : List ℕ) → gap_piece us ≡ 0 → begins is_blank us ≡ false
not_blank us z = by_test (begins is_blank us) refl z
  where
    by_test : (b : Bool) → begins is_blank us ≡ b → gap_piece us ≡ 0 → b ≡ false
    by_test true p z = let one : gap_piece us ≡ 1 = rw p refl in absurd (omega (arith, one, z))
    by_test false p z = refl

first_ends : (n : ℕ) (here vs : List ℕ) → 0 < n → n ≤ length here → ends_line here ≡ ends_line (take n here ++ vs)
first_ends zero here vs some within = absurd (omega arith)
first_ends (suc n) [] vs some within = absurd (omega arith)
first_ends (suc n) (c ∷ here) vs some within = refl

-- ---- the first tokens

-- units whose first tokens are these, whatever comes behind a blank
record Cut (at : ℕ) (us : List ℕ) (before : List Lent) : Type 0 where
  front : List ℕ
  rest : List ℕ
  parts : us ≡ front ++ rest
  -- the last of them ends here
  place : at + length front ≡ end_after at before
  again : (more : List ℕ)
      → Breaks more
      → items (suc (length (front ++ more))) at (front ++ more) ≡ tokens_then before
      (items (suc (length more)) (at + length front) more)

abbrev token_here : ℕ → List ℕ → TokenKind → ℕ → Lent
token_here at us k n =
    record {
      kind = k;
      text = take n
          (drop (gap_len us) us);
      start = at + gap_len us;
      newline_before = has_line_terminator (take (gap_len us) us);
    }

-- one token again, with what comes behind it
step_again : (at : ℕ) (us vs : List ℕ) (k : TokenKind) (n : ℕ)
    → token_at (drop (gap_len us) us) ≡ found k n
    → Agree (drop n (drop (gap_len us) us)) vs
    → items (suc (length (take (gap_len us) us ++ (take n (drop (gap_len us) us) ++ vs)))) at
    (take (gap_len us) us ++ (take n (drop (gap_len us) us) ++ vs)) ≡ Ok (token_here at us k n) ∷ items
    (suc (length vs)) (at + gap_len us + n) vs
step_again at us vs k n e a =
    let g = gap_len us in
    let here = drop g us in
    let f = longest_here here k n e in
    let behind = take n here ++ vs in
    let all = take g us ++ behind in
    let token : token_at behind ≡ found k n = token_again here vs k n e a in
    let seen : begins is_blank behind ≡ false = first_same is_blank n here vs f.1 f.0
    ∙ not_blank here (gap_is us).ended in
    let z : gap_piece behind ≡ 0 = no_comment behind (longest_here behind k n token).2 seen in
    let wide : length (take g us) ≡ g = taken g us (gap_within us) in
    let long : length (take n here) ≡ n = taken n here f.0 in
    let gap : gap_len all ≡ g = gap_again us behind (first_ends n here vs f.1 f.0) z ∙ wide in
    let dropped : drop g all ≡ behind = ap (λ g. drop g all) (sym wide) ∙ drop-append_seam (take g us) behind in
    let kept : take g all ≡ take g us = ap (λ g. take g all) (sym wide) ∙ take-append_seam (take g us) behind in
    let text : take n behind ≡ take n here = ap (λ n. take n behind) (sym long) ∙ take-append_seam (take n here) vs in
    let left : drop n behind ≡ vs = ap (λ n. drop n behind) (sym long) ∙ drop-append_seam (take n here) vs in
    let there : token_at (drop (gap_len all) all) ≡ found k n = rw (gap, dropped) token in
    rw (gap, dropped, kept, text, left) at (one_more at all (k, n) there)

cut_token : (at : ℕ) (us : List ℕ) (k : TokenKind) (n : ℕ) (bs : List Lent)
    → token_at (drop (gap_len us) us) ≡ found k n
    → Cut (at + gap_len us + n) (drop n (drop (gap_len us) us)) bs
    → Cut at us (token_here at us k n ∷ bs)
cut_token at us k n bs e c =
    let g = gap_len us in
    let here = drop g us in
    let f = longest_here here k n e in
    let wide : length (take g us) ≡ g = taken g us (gap_within us) in
    let long : length (take n here) ≡ n = taken n here f.0 in
    let joined : (more : List ℕ)
    → (take g us ++ (take n here ++ c.front)) ++ more ≡ take g us ++ (take n here ++ (c.front ++ more))
    = λ more. append_assoc (take g us) (take n here ++ c.front) more
    ∙ ap (λ l. take g us ++ l) (append_assoc (take n here) c.front more) in
    let place : at + g + n + length c.front ≡ at + length (take g us ++ (take n here ++ c.front)) = omega
    (arith, length-append (take g us) (take n here ++ c.front), length-append (take n here) c.front, wide, long) in
    record {
      front = take g us ++ (take n here ++ c.front);
      rest = c.rest;
      parts =
          sym (take-append-drop g us)
          ∙ (ap (λ l. take g us ++ l) (sym (take-append-drop n here) ∙ ap (λ l. take n here ++ l) c.parts)
          ∙ sym (joined c.rest));
      place = sym place ∙ (c.place ∙ ap (λ k. end_after (at + g + k) bs) (sym long));
      again = λ more b.
          let agree : Agree (drop n here) (c.front ++ more) = subst (λ (us : List ℕ). Agree us (c.front ++ more))
          (sym c.parts) (agree_behind c.front c.rest more (agree_breaks c.rest more b)) in
          let step = step_again at us (c.front ++ more) k n e agree in
          let all = take g us ++ (take n here ++ (c.front ++ more)) in
          let left = items (suc (length more)) (at + length (take g us ++ (take n here ++ c.front))) more in
          let next : items (suc (length (c.front ++ more))) (at + g + n) (c.front ++ more)
          ≡ tokens_then bs left = c.again more b
          ∙ ap (λ at. tokens_then bs (items (suc (length more)) at more)) place in
          let whole : items (suc (length all)) at all ≡ tokens_then (token_here at us k n ∷ bs) left = step
          ∙ ap (λ (is : List (Result Lent ℕ)). Ok (token_here at us k n) ∷ is) next in
          subst (λ (l : List ℕ). items (suc (length l)) at l ≡ tokens_then (token_here at us k n ∷ bs) left)
          (sym (joined more)) whole;
    }

none_first : (at : ℕ) (us : List ℕ) (b : Lent) (is : List (Result Lent ℕ))
    → token_at (drop (gap_len us) us) ≡ None
    → items (suc (length us)) at us ≡ Ok b ∷ is
    → ⊥
none_first at us b is h e = by_rest (drop (gap_len us) us) refl
  where
    by_rest : (r : List ℕ) → drop (gap_len us) us ≡ r → ⊥
    by_rest [] p = let none = no_more at us h (ap (λ (l : List ℕ). length l) p) in cc
    by_rest (u ∷ r) p = let bad = bad_one at us h (rw p (omega arith)) in cc

cut_by : (at : ℕ) (us : List ℕ) (b : Lent) (bs : List Lent) (left : List (Result Lent ℕ))
    → items (suc (length us)) at us ≡ Ok b ∷ tokens_then bs left
    → ((at : ℕ) (us : List ℕ) → items (suc (length us)) at us ≡ tokens_then bs left → Cut at us bs)
    → (o : Option (TokenKind × ℕ)) → token_at (drop (gap_len us) us) ≡ o → Cut at us (b ∷ bs)
cut_by at us b bs left e go None h = absurd (none_first at us b (tokens_then bs left) h e)
cut_by at us b bs left e go (Some t) h =
    let rest = drop t.1 (drop (gap_len us) us) in
    let s = one_more at us t h in
    let first : token_here at us t.0 t.1 ≡ b = cc in
    let later : items (suc (length rest)) (at + gap_len us + t.1) rest ≡ tokens_then bs left = cc in
    subst (λ (b : Lent). Cut at us (b ∷ bs)) first
    (cut_token at us t.0 t.1 bs h (go (at + gap_len us + t.1) rest later))

cut : (before : List Lent) (at : ℕ) (us : List ℕ) (left : List (Result Lent ℕ))
    → items (suc (length us)) at us ≡ tokens_then before left
    → Cut at us before
cut [] at us left e =
    record {
      front = [];
      rest = us;
      parts = refl;
      place = omega arith;
      again = λ more b. ap
          (λ at. items (suc (length more)) at more) (omega arith);
    }
cut (b ∷ bs) at us left e =
    cut_by at us b bs left e (λ at us e. cut bs at us left e) (token_at (drop (gap_len us) us)) refl

pub first_tokens : (source : List ℕ) (before : List Lent) (left : List (Result Lent ℕ))
    → items_of source ≡ tokens_then before left
    → (ts : List WrittenToken)
    → AreTokens ts
    → items_of (take (end_after 0 before) source ++ written ts) ≡ tokens_then before (lent (end_after 0 before) ts)
first_tokens source before left e ts h =
    let c = cut before 0 source left e in
    let place : 0 + length c.front ≡ end_after 0 before = c.place in
    let wide : length c.front ≡ end_after 0 before = omega (arith, place) in
    let front : take (end_after 0 before) source ≡ c.front = ap (λ n. take n source) (sym wide)
    ∙ (ap (λ us. take (length c.front) us) c.parts ∙ take-append_seam c.front c.rest) in
    ap (λ us. items_of (us ++ written ts)) front
    ∙ (c.again (written ts) (breaks ts)
    ∙ (ap (λ at. tokens_then before (items (suc (length (written ts))) at (written ts))) place
    ∙ ap (λ (is : List (Result Lent ℕ)). tokens_then before is) (written_are (end_after 0 before) ts h)))
