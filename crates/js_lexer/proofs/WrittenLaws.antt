-- Tokens that are written one after another are the tokens of that text.
use Rattle.std.proofs.Common.{◌≡◌, ℕ, suc, ◌+◌, ◌<◌, inl, inr, Bool, true, false, not, eqb, List, [], ◌∷◌, ◌++◌, length, take, drop, Option, Some, None, Result, Ok, codes, refl, sym, ap, subst, ◌∙◌, arith, ◌&&◌, ◌||◌}
use Rattle.std.specs.List.{list_all}
use Rattle.std.proofs.lemmas.Bool.{eqb-true, and_parts}
use Rattle.std.proofs.lemmas.Bool.Decides.{nat_tests}
use Rattle.std.proofs.Math.Seq.{take-append_seam, drop-append_seam}
use denote.Enum.Bare.{sameb, same_true}
use Rattle.js_lexer.specs.contracts.token.TokenKind.{the_type}
use Rattle.js_lexer.specs.declared.token.TokenKind.{TokenKind}
use Rattle.js_lexer.specs.declared.token.TokenKind.TheVariants.{Name, Number, String}
use Rattle.js_lexer.specs.Classes.{begins, is_blank, is_digit, is_quote, is_word_start, is_word_part, leading}
use Rattle.js_lexer.specs.Spellings.{is_prefix_of, kind_in}
use Rattle.js_lexer.specs.Gaps.{opens_comment, has_line_terminator}
use Rattle.js_lexer.specs.Words.{is_word, reserved_words}
use Rattle.js_lexer.specs.Punctuators.{punctuators}
use Rattle.js_lexer.specs.Numbers.{IsNumber, goes_on}
use Rattle.js_lexer.specs.Strings.{IsStringLiteral}
use Rattle.js_lexer.specs.Tokens.{IsListed, IsToken, Lent}
use Rattle.js_lexer.specs.Tokens.IsToken.{name, reserved, number, string, punctuator}
use Rattle.js_lexer.specs.Scanning.{gap_piece, gap_len, token_at, items}
use Rattle.js_lexer.specs.State.{items_of}
use Rattle.js_lexer.specs.Written.{WrittenToken, AreTokens, blank_before, written, lent}
use Rattle.js_lexer.proofs.LeadingLemmas.{leading_exact}
use Rattle.js_lexer.proofs.RunLemmas.{run_stops, run_more}
use Rattle.js_lexer.proofs.NumberLemmas.{number_begins, number_parts, number_some}
use Rattle.js_lexer.proofs.TableLemmas.{Entry, kind_is, all_listed, reserved_is_word}
use Rattle.js_lexer.proofs.LiteralLemmas.{literal_known, literal_begins}
use Rattle.js_lexer.proofs.FrontLemmas.{begins_front, word_begins, word_parts, start_no_digit, quote_first, longest_here}
use Rattle.js_lexer.proofs.TilingLemmas.{no_more, one_more}

-- nothing, a line feed or a space comes next
abbrev pub Breaks : List ℕ → Type 0
Breaks [] = Unit {0}
Breaks (c ∷ cs) = (line : Bool) × (c ≡ blank_before line)

no_part : (more : List ℕ) → Breaks more → begins is_word_part more ≡ false
no_part [] b = refl
no_part (c ∷ cs) (true, b) = rw b refl
no_part (c ∷ cs) (false, b) = rw b refl

no_going_on : (more : List ℕ) → Breaks more → begins goes_on more ≡ false
no_going_on [] b = refl
no_going_on (c ∷ cs) (true, b) = rw b refl
no_going_on (c ∷ cs) (false, b) = rw b refl

abbrev pub found : TokenKind → ℕ → Option (TokenKind × ℕ)
found k n = Some (k, n)

-- ---- words

word_alone : (t more : List ℕ)
    → is_word t ≡ true
    → Breaks more
    → token_at (t ++ more) ≡ found (kind_in reserved_words t) (length t)
unfolding token_at
word_alone t more w b =
    let s : begins is_word_start (t ++ more) ≡ true = begins_front is_word_start t more (word_begins t w) in
    let n : leading is_word_part (t ++ more) ≡ length t = leading_exact is_word_part t more (word_parts t w)
    (no_part more b) in
    rw (s, n, take-append_seam t more) refl

same_kinds : list_all (λ (e : Entry). sameb the_type (kind_in reserved_words e.1) e.0) reserved_words ≡ true
unfolding reserved_words
same_kinds = refl

reserved_kind : (k : TokenKind) (t : List ℕ) → IsListed (k, t) reserved_words → kind_in reserved_words t ≡ k
reserved_kind k t l =
    same_true the_type tt (kind_in reserved_words t) k
    (all_listed (λ e. sameb the_type (kind_in reserved_words e.1) e.0) reserved_words same_kinds (k, t) l)

name_kind : (t : List ℕ) → ((k : TokenKind) → IsListed (k, t) reserved_words → ⊥) → kind_in reserved_words t ≡ Name
name_kind t n = elim (kind_is reserved_words t).either [
  | inl l ↦ absurd (n (kind_in reserved_words t) l)
  | inr q ↦ q.0
]

-- ---- numbers and strings

number_alone : (t more : List ℕ) → IsNumber t → Breaks more → token_at (t ++ more) ≡ found Number (length t)
unfolding token_at
number_alone t more h b =
    let d : begins is_digit (t ++ more) ≡ true = begins_front is_digit t more (number_begins t h) in
    let n : leading is_word_part (t ++ more) ≡ length t = leading_exact is_word_part t more (number_parts t h)
    (no_part more b) in
    by_start (begins is_word_start (t ++ more)) refl d n
  where
    by_start : (s : Bool)
        → begins is_word_start (t ++ more) ≡ s
        → begins is_digit (t ++ more) ≡ true
        → leading is_word_part (t ++ more) ≡ length t
        → token_at (t ++ more) ≡ found Number (length t)
    by_start true s d n = absurd (start_no_digit (t ++ more) s d)
    by_start false s d n =
        rw (s, d, n, take-append_seam t more, drop-append_seam t more, number_some t h, no_going_on more b) refl

string_front : (q : ℕ) (us t m : List ℕ)
    → q ∷ us ≡ t ++ m
    → IsStringLiteral t
    → begins is_quote (q ∷ us) ≡ true
    → token_at (q ∷ us) ≡ found String (length t)
unfolding token_at
string_front q us t m p h b =
    let f = quote_first (q ∷ us) b in
    let k = literal_known q us t m p h in
    rw (f.0, f.1, b, k.1, k.0) refl

pub string_alone : (t more : List ℕ) → IsStringLiteral t → token_at (t ++ more) ≡ found String (length t)
string_alone t more h = by_first (t ++ more) refl (begins_front is_quote t more (literal_begins t h))
  where
    by_first : (us : List ℕ)
        → us ≡ t ++ more
        → begins is_quote (t ++ more) ≡ true
        → token_at (t ++ more) ≡ found String (length t)
    by_first [] p b =
        let none : begins is_quote [] ≡ true = ap (begins is_quote) p ∙ b in
        absurd cc
    by_first (q ∷ us) p b =
        subst (λ (us : List ℕ). token_at us ≡ found String (length t)) p
        (string_front q us t more p h (ap (begins is_quote) p ∙ b))

-- ---- punctuators

abbrev is_found : Entry → Option (TokenKind × ℕ) → Bool
is_found e None = false
is_found e (Some f) = sameb the_type f.0 e.0 && eqb f.1 (length e.1)

found_is : (e : Entry) (o : Option (TokenKind × ℕ)) → is_found e o ≡ true → o ≡ found e.0 (length e.1)
found_is e None h = absurd cc
found_is e (Some f) h =
    let p = and_parts (sameb the_type f.0 e.0) (eqb f.1 (length e.1)) h in
    rw (same_true the_type tt f.0 e.0 p.0, eqb-true f.1 (length e.1) p.1) refl

marks_last : list_all (λ (e : Entry). is_found e (token_at (e.1 ++ []))) punctuators ≡ true
unfolding token_at punctuators
marks_last = refl

marks_before : (line : Bool) (more : List ℕ)
    → list_all (λ (e : Entry). is_found e (token_at (e.1 ++ blank_before line ∷ more))) punctuators ≡ true
unfolding token_at punctuators
marks_before true more = refl
marks_before false more = refl

pub mark_alone : (k : TokenKind) (t more : List ℕ)
    → IsListed (k, t) punctuators
    → Breaks more
    → token_at (t ++ more) ≡ found k (length t)
mark_alone k t [] l b =
    found_is (k, t) (token_at (t ++ []))
    (all_listed (λ e. is_found e (token_at (e.1 ++ []))) punctuators marks_last (k, t) l)
mark_alone k t (c ∷ more) l b =
    let line = b.0 in
    rw b.1 (found_is (k, t) (token_at (t ++ blank_before line ∷ more))
    (all_listed (λ e. is_found e (token_at (e.1 ++ blank_before line ∷ more))) punctuators (marks_before line more)
    (k, t) l))

-- ---- one token

alone : (k : TokenKind) (t more : List ℕ) → IsToken k t [] → Breaks more → token_at (t ++ more) ≡ found k (length t)
alone k t more (name e w n) b = word_alone t more w b ∙ ap (λ k. found k (length t)) (name_kind t n ∙ sym e)
alone k t more (reserved l) b =
    word_alone t more (reserved_is_word k t l) b ∙ ap (λ k. found k (length t)) (reserved_kind k t l)
alone k t more (number e h f) b = number_alone t more h b ∙ ap (λ k. found k (length t)) (sym e)
alone k t more (string e h) b = string_alone t more h ∙ ap (λ k. found k (length t)) (sym e)
alone k t more (punctuator l) b = mark_alone k t more l b

-- ---- the gap before it

-- no token begins with white space
start_seen : (c : ℕ) → is_word_start c ≡ true → is_blank c ≡ false
start_seen c e = grind (arith, nat_tests)

digit_seen : (c : ℕ) → is_digit c ≡ true → is_blank c ≡ false
digit_seen c e = grind (arith, nat_tests)

quote_seen : (c : ℕ) → is_quote c ≡ true → is_blank c ≡ false
quote_seen c e = grind (arith, nat_tests)

seen_by : (p : ℕ → Bool)
    → ((c : ℕ) → p c ≡ true → is_blank c ≡ false)
    → (t : List ℕ)
    → begins p t ≡ true
    → begins is_blank t ≡ false
seen_by p h [] e = refl
seen_by p h (c ∷ t) e = h c e

marks_seen : list_all (λ (e : Entry). not (begins is_blank e.1)) punctuators ≡ true
unfolding punctuators
marks_seen = refl

pub not_true : (b : Bool) → not b ≡ true → b ≡ false
not_true true e = absurd cc
not_true false e = refl

token_seen : (k : TokenKind) (t : List ℕ) → IsToken k t [] → begins is_blank t ≡ false
token_seen k t (name e w n) = seen_by is_word_start start_seen t (word_begins t w)
token_seen k t (reserved l) = seen_by is_word_start start_seen t (word_begins t (reserved_is_word k t l))
token_seen k t (number e h f) = seen_by is_digit digit_seen t (number_begins t h)
token_seen k t (string e h) = seen_by is_quote quote_seen t (literal_begins t h)
token_seen k t (punctuator l) =
    not_true (begins is_blank t) (all_listed (λ e. not (begins is_blank e.1)) punctuators marks_seen (k, t) l)

seen_before : (t more : List ℕ) → 0 < length t → begins is_blank t ≡ false → begins is_blank (t ++ more) ≡ false
seen_before [] more some e = absurd (omega arith)
seen_before (c ∷ t) more some e = e

pub no_comment : (us : List ℕ) → opens_comment us ≡ false → begins is_blank us ≡ false → gap_piece us ≡ 0
no_comment us o b = by_tests (is_prefix_of (codes "//") us) refl (is_prefix_of (codes "/*") us) refl o
  where
    by_tests : (x : Bool)
        → is_prefix_of (codes "//") us ≡ x
        → (y : Bool)
        → is_prefix_of (codes "/*") us ≡ y
        → (x || y) ≡ false
        → gap_piece us ≡ 0
    by_tests true p y q e = absurd cc
    by_tests false p true q e = absurd cc
    by_tests false p false q e = rw (b, p, q) refl

-- one unit of white space alone is the gap
gap_is_one : (line : Bool) (us : List ℕ) → gap_piece us ≡ 0 → gap_len (blank_before line ∷ us) ≡ 1
unfolding gap_len
gap_is_one true us z =
    run_more gap_piece (10 ∷ us) 1 refl (omega arith) (omega arith) ∙ ap (λ n. 1 + n) (run_stops gap_piece us z)
gap_is_one false us z =
    run_more gap_piece (32 ∷ us) 1 refl (omega arith) (omega arith) ∙ ap (λ n. 1 + n) (run_stops gap_piece us z)

line_told : (line : Bool) (us : List ℕ) → has_line_terminator (take 1 (blank_before line ∷ us)) ≡ line
line_told true us = refl
line_told false us = refl

-- ---- all of them

pub breaks : (ts : List WrittenToken) → Breaks (written ts)
breaks [] = tt
breaks (t ∷ ts) = (t.newline_before, refl)

abbrev token_of : ℕ → WrittenToken → Result Lent ℕ
token_of at t = Ok (record { kind = t.kind; text = t.text; start = at + 1; newline_before = t.newline_before })

one_written : (at : ℕ) (t : WrittenToken) (more : List ℕ)
    → gap_len (blank_before t.newline_before ∷ (t.text ++ more)) ≡ 1
    → token_at (t.text ++ more) ≡ found t.kind (length t.text)
    → items (suc (length (blank_before t.newline_before ∷ (t.text ++ more)))) at
    (blank_before t.newline_before ∷ (t.text ++ more)) ≡ token_of at t ∷ items (suc (length more))
    (at + 1 + length t.text) more
one_written at t more g e =
    let us = blank_before t.newline_before ∷ (t.text ++ more) in
    let here : token_at (drop (gap_len us) us) ≡ found t.kind (length t.text) = rw g e in
    rw (g, line_told t.newline_before (t.text ++ more), take-append_seam t.text more, drop-append_seam t.text more) at
    (one_more at us (t.kind, length t.text) here)

nothing_left : (at : ℕ) → items (suc (length (written []))) at (written []) ≡ []
unfolding token_at gap_len punctuators
nothing_left at = no_more at [] refl refl

pub written_are : (at : ℕ) (ts : List WrittenToken)
    → AreTokens ts
    → items (suc (length (written ts))) at (written ts) ≡ lent at ts
written_are at [] h = nothing_left at
written_are at (t ∷ ts) h =
    let more = written ts in
    let here = alone t.kind t.text more h.0 (breaks ts) in
    let f = longest_here (t.text ++ more) t.kind (length t.text) here in
    let z = no_comment (t.text ++ more) f.2 (seen_before t.text more f.1 (token_seen t.kind t.text h.0)) in
    one_written at t more (gap_is_one t.newline_before (t.text ++ more) z) here
    ∙ ap (λ (is : List (Result Lent ℕ)). token_of at t ∷ is) (written_are (at + 1 + length t.text) ts h.1)

pub tokens_written : (ts : List WrittenToken) → AreTokens ts → items_of (written ts) ≡ lent 0 ts
tokens_written ts h = written_are 0 ts h
