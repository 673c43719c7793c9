-- The gap at the front.
use Rattle.std.proofs.Common.{◌≡◌, ℕ, zero, suc, ◌+◌, ◌<◌, ◌≤◌, Bool, true, false, not, cond, eqb, ltb, List, [], ◌∷◌, ◌++◌, length, take, drop, refl, sym, ap, subst, ◌∙◌, append_assoc, arith, ◌&&◌, ◌||◌}
use Rattle.std.specs.List.{list_any, list_all}
use Rattle.std.proofs.lemmas.List.{length-drop, length-append}
use Rattle.std.proofs.Math.Seq.{take-add}
use Rattle.std.proofs.lemmas.Bool.{eqb-true, ltb-true, and_parts}
use Rattle.std.proofs.lemmas.Bool.Decides.{nat_tests}
use lib.Chars.{codes}
use Rattle.cdp_text.specs.Position.{is_line_terminator}
use Rattle.js_lexer.specs.Classes.{begins, is_blank}
use Rattle.js_lexer.specs.Spellings.{is_prefix_of}
use Rattle.js_lexer.specs.Gaps.{ends_line, IsGapPiece}
use Rattle.js_lexer.specs.Gaps.IsGapPiece.{blank, line_comment, block_comment}
use Rattle.js_lexer.specs.Scanning.{line_len, before_close, gap_piece}
use Rattle.js_lexer.proofs.LeadingLemmas.{leading_all, leading_stops, leading_within, leading_exact}
use Rattle.js_lexer.proofs.SpellingLemmas.{prefix_is}
use Rattle.js_lexer.proofs.RunLemmas.{Finds, Knows}

-- ---- what follows /* up to */

-- where the first */ stands, it stands
pub close_at : (us : List ℕ)
    → before_close us < length us
    → drop (before_close us) us ≡ codes "*/" ++ drop (suc (suc (before_close us))) us
close_at [] h = absurd (omega arith)
close_at (u ∷ us) h = by_test (λ l. close_at us l) (is_prefix_of (codes "*/") (u ∷ us)) refl h
  where
    by_test :
        (before_close us < length us → drop (before_close us) us ≡ codes "*/" ++ drop (suc (suc (before_close us))) us)
        → (b : Bool)
        → is_prefix_of (codes "*/") (u ∷ us) ≡ b
        → cond b 0 (suc (before_close us)) < suc (length us)
        → drop (cond b 0 (suc (before_close us))) (u ∷ us) ≡ codes "*/" ++ drop
        (suc (suc (cond b 0 (suc (before_close us))))) (u ∷ us)
    by_test go true e l = prefix_is (codes "*/") (u ∷ us) e
    by_test go false e l = go (omega arith)

pub close_fits : (us : List ℕ) → before_close us < length us → before_close us + 2 ≤ length us
close_fits us h = omega (arith, ap (λ (l : List ℕ). length l) (close_at us h), length-drop (before_close us) us)

slash_first : (n : ℕ) (us after : List ℕ) → take n us ≡ 47 ∷ after → is_prefix_of (47 ∷ []) us ≡ true
slash_first zero us after e = absurd cc
slash_first (suc n) [] after e = absurd cc
slash_first (suc n) (u ∷ us) after e = let h : u ≡ 47 = cc in rw h refl

nothing_in : (before after : List ℕ) → [] ≡ before ++ (codes "*/" ++ after) → ⊥
nothing_in [] after e = cc
nothing_in (b ∷ before) after e = cc

-- no */ stands before the first one
close_first : (us before after : List ℕ) → take (before_close us) us ≡ before ++ (codes "*/" ++ after) → ⊥
close_first [] before after e = nothing_in before after e
close_first (u ∷ us) before after e =
    by_test (λ b a f. close_first us b a f) (is_prefix_of (codes "*/") (u ∷ us)) refl before e
  where
    by_test : ((b a : List ℕ) → take (before_close us) us ≡ b ++ (codes "*/" ++ a) → ⊥)
        → (c : Bool)
        → is_prefix_of (codes "*/") (u ∷ us) ≡ c
        → (before : List ℕ)
        → take (cond c 0 (suc (before_close us))) (u ∷ us) ≡ before ++ (codes "*/" ++ after)
        → ⊥
    by_test go true e before f = nothing_in before after f
    by_test go false e [] f =
        let h : u ≡ 42 = cc in
        let r : take (before_close us) us ≡ 47 ∷ after = cc in
        let g : is_prefix_of (codes "*/") (u ∷ us) ≡ true = rw h (slash_first (before_close us) us after r) in
        cc
    by_test go false e (b ∷ before) f = go before after cc

close_exact : (body m : List ℕ)
    → ((before after : List ℕ) → body ≡ before ++ (codes "*/" ++ after) → ⊥)
    → before_close (body ++ (codes "*/" ++ m)) ≡ length body
close_exact [] m h = refl
close_exact (b ∷ body) m h =
    by_test (close_exact body m (λ before after e. h (b ∷ before) after (ap (λ l. b ∷ l) e)))
    (is_prefix_of (codes "*/") (b ∷ (body ++ (codes "*/" ++ m)))) refl
  where
    second : (body : List ℕ)
        → ((before after : List ℕ) → b ∷ body ≡ before ++ (codes "*/" ++ after) → ⊥)
        → b ≡ 42
        → is_prefix_of (47 ∷ []) (body ++ (codes "*/" ++ m)) ≡ true
        → ⊥
    second [] h e f = cc
    second (c ∷ cs) h e f =
        let g : c ≡ 47 = eqb-true c 47 (and_parts (eqb c 47) true f).0 in
        h [] cs cc

    by_test : before_close (body ++ (codes "*/" ++ m)) ≡ length body
        → (c : Bool)
        → is_prefix_of (codes "*/") (b ∷ (body ++ (codes "*/" ++ m))) ≡ c
        → cond c 0 (suc (before_close (body ++ (codes "*/" ++ m)))) ≡ suc (length body)
    by_test go true e =
        let a = and_parts (eqb b 42) (is_prefix_of (47 ∷ []) (body ++ (codes "*/" ++ m))) e in
        absurd (second body h (eqb-true b 42 a.0) a.1)
    by_test go false e = omega arith

-- ---- the piece at the front

abbrev Found : List ℕ → ℕ → Type 0
Found us n = (n ≤ length us) × IsGapPiece (take n us) (drop n us)

none_from_all : (p : ℕ → Bool) (us : List ℕ) → list_all (λ c. not (p c)) us ≡ true → list_any p us ≡ false
none_from_all p [] e = refl
none_from_all p (u ∷ us) e =
    by_test (λ f. none_from_all p us f) (p u) (and_parts (not (p u)) (list_all (λ c. not (p c)) us) e)
  where
    by_test : (list_all (λ c. not (p c)) us ≡ true → list_any p us ≡ false)
        → (b : Bool)
        → (not b ≡ true) × (list_all (λ c. not (p c)) us ≡ true)
        → (b || list_any p us) ≡ false
    by_test go true a = absurd (let x = a.0 in cc)
    by_test go false a = go a.1

all_from_none : (p : ℕ → Bool) (us : List ℕ) → list_any p us ≡ false → list_all (λ c. not (p c)) us ≡ true
all_from_none p [] e = refl
all_from_none p (u ∷ us) e = by_test (λ f. all_from_none p us f) (p u) e
  where
    by_test : (list_any p us ≡ false → list_all (λ c. not (p c)) us ≡ true)
        → (b : Bool)
        → (b || list_any p us) ≡ false
        → (not b && list_all (λ c. not (p c)) us) ≡ true
    by_test go true e = absurd cc
    by_test go false e = go e

line_ends : (us : List ℕ) → begins (λ c. not (is_line_terminator c)) us ≡ false → ends_line us ≡ true
line_ends [] e = refl
line_ends (u ∷ us) e = by_test (is_line_terminator u) e
  where
    by_test : (b : Bool) → not b ≡ false → b ≡ true
    by_test true e = refl
    by_test false e = absurd cc

line_ended : (us : List ℕ) → ends_line us ≡ true → begins (λ c. not (is_line_terminator c)) us ≡ false
line_ended [] e = refl
line_ended (u ∷ us) e = rw e refl

line_found : (us : List ℕ) → Found (47 ∷ 47 ∷ us) (suc (suc (line_len us)))
line_found us = (
  omega (arith, leading_within (λ c. not (is_line_terminator c)) us),
  line_comment (record {
    body = take (line_len us) us;
    spelled = refl;
    one_line =
        none_from_all is_line_terminator (take (line_len us) us) (leading_all (λ c. not (is_line_terminator c)) us);
    ended = line_ends (drop (line_len us) us) (leading_stops (λ c. not (is_line_terminator c)) us);
  }),
)

block_found : (us : List ℕ) → before_close us < length us → Found (47 ∷ 42 ∷ us) (suc (suc (before_close us + 2)))
block_found us h = (
  omega (arith, close_fits us h),
  block_comment (record {
    body = take (before_close us) us;
    spelled =
        ap (λ l. 47 ∷ 42 ∷ l)
        (take-add (before_close us) 2 us ∙ ap (λ l. take (before_close us) us ++ take 2 l) (close_at us h));
    next = close_first us;
  }),
)

blank_found : (us : List ℕ) → begins is_blank us ≡ true → Found us 1
blank_found [] e = absurd cc
blank_found (u ∷ us) e = (omega arith, blank u refl e)

finds_by : (us : List ℕ) (n : ℕ) (a b c d : Bool)
    → begins is_blank us ≡ a
    → is_prefix_of (codes "//") us ≡ b
    → is_prefix_of (codes "/*") us ≡ c
    → ltb (before_close (drop 2 us)) (length (drop 2 us)) ≡ d
    → cond a 1 (cond b (line_len us) (cond c (cond d (before_close (drop 2 us) + 4) 0) 0)) ≡ suc n → Found us (suc n)
finds_by us n true b c d p q r s e = subst (λ (k : ℕ). Found us k) e (blank_found us p)
finds_by us n false true c d p q r s e =
    let w : us ≡ 47 ∷ 47 ∷ drop 2 us = prefix_is (codes "//") us q in
    let k : suc (suc (line_len (drop 2 us))) ≡ suc n = ap line_len (sym w) ∙ e in
    subst (λ (k : ℕ). Found us k) k
    (subst (λ (l : List ℕ). Found l (suc (suc (line_len (drop 2 us))))) (sym w) (line_found (drop 2 us)))
finds_by us n false false true true p q r s e =
    let w : us ≡ 47 ∷ 42 ∷ drop 2 us = prefix_is (codes "/*") us r in
    let k : suc (suc (before_close (drop 2 us) + 2)) ≡ suc n = omega arith in
    subst (λ (k : ℕ). Found us k) k
    (subst (λ (l : List ℕ). Found l (suc (suc (before_close (drop 2 us) + 2)))) (sym w)
    (block_found (drop 2 us) (ltb-true (before_close (drop 2 us)) (length (drop 2 us)) s)))
finds_by us n false false true false p q r s e = absurd cc
finds_by us n false false false d p q r s e = absurd cc

pub gap_finds : Finds (λ text more. IsGapPiece text more) gap_piece
gap_finds us n e =
    finds_by us n (begins is_blank us) (is_prefix_of (codes "//") us) (is_prefix_of (codes "/*") us)
    (ltb (before_close (drop 2 us)) (length (drop 2 us))) refl refl refl refl e

abbrev Known : List ℕ → List ℕ → Type 0
Known t m = (0 < length t) × (gap_piece (t ++ m) ≡ length t)

line_known : (body m : List ℕ)
    → list_any is_line_terminator body ≡ false
    → ends_line m ≡ true
    → Known (47 ∷ 47 ∷ body) m
line_known body m e f = (
  omega arith,
  omega (
    arith,
    leading_exact (λ c. not (is_line_terminator c)) body m (all_from_none is_line_terminator body e)
        (line_ended m f),
  ),
)

closed_len : (b n m t : ℕ) → n ≡ b + 2 + m → t ≡ b + 2 → cond (ltb b n) (b + 4) 0 ≡ suc (suc t)
closed_len b n m t e f = grind (arith, nat_tests)

block_known : (body m : List ℕ)
    → ((before after : List ℕ) → body ≡ before ++ (codes "*/" ++ after) → ⊥)
    → Known (47 ∷ 42 ∷ (body ++ codes "*/")) m
block_known body m h =
    let e : before_close ((body ++ codes "*/") ++ m) ≡ length body = ap before_close (append_assoc body (codes "*/") m)
    ∙ close_exact body m h in
    let l : length ((body ++ codes "*/") ++ m) ≡ length body + 2 + length m = omega
    (arith, length-append (body ++ codes "*/") m, length-append body (codes "*/")) in (
      omega arith,
      rw e (closed_len (length body) (length ((body ++ codes "*/") ++ m)) (length m) (length (body ++ codes "*/")) l
          (length-append body (codes "*/"))),
    )

knows_by : (t m : List ℕ) → IsGapPiece t m → Known t m
knows_by t m (blank c e f) = subst (λ (t : List ℕ). Known t m) (sym e) (omega arith, rw f refl)
knows_by t m (line_comment h) =
    subst (λ (t : List ℕ). Known t m) (sym h.spelled) (line_known h.body m h.one_line h.ended)
knows_by t m (block_comment h) = subst (λ (t : List ℕ). Known t m) (sym h.spelled) (block_known h.body m h.next)

pub gap_knows : Knows (λ text more. IsGapPiece text more) gap_piece
gap_knows t m h = knows_by t m h
