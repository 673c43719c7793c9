-- Names in parentheses may be parameters: how far one looks to tell, and that what is read goes so far.
use Rattle.std.proofs.Common.{◌≡◌, ℕ, zero, suc, ◌<◌, ◌≤◌, Bool, true, false, cond, List, [], ◌∷◌, ◌++◌, length, Option, Some, None, Ok, Err, refl, sym, ap, subst, ◌∙◌, ◌⊎◌, inl, inr, arith}
use Rattle.std.specs.Prelude.{◌||◌}
use Rattle.std.proofs.lemmas.List.{length-append}
use Rattle.js_lexer.specs.declared.token.TokenKind.TheVariants as kinds
use Rattle.js_tree.specs.Trees.{Identifier}
use Rattle.js_parser_language.specs.Tokens.{Token, head_of}
use Rattle.js_parser_language.specs.Kinds.{is_kind}
use Rattle.js_parser_readers.specs.Reading.{stuck, deep, Read, Reader, ◌>>=◌, expect, name_at, after, go_after, elements, others_by, others, no_state}
use Rattle.js_parser_readers.specs.Classes.{is_arrow, past_names, listed, no_arrow, listed_by}
use Rattle.js_parser_readers.specs.Productions.{one_of}
use Rattle.js_parser_language.proofs.KindLemmas.{kind_not}
use Rattle.js_parser_laws.proofs.Follows.Tools.{Seen, Clear, Follows, makes, shortens, same_left, same_count, head_past}
use Rattle.js_parser_laws.proofs.Follows.Parts.{expect_follows, others_from}

-- ---- where reading stops

-- an answer leaves so many tokens at most
abbrev pub Within : {A : Type 0} → Read A → ℕ → Type 0
Within (Ok x) k = length x.1 ≤ k
Within (Err (stuck j)) k = j ≤ k
Within (Err (deep j)) k = Unit {0}

pub within_more : {A : Type 0} (x : Read A) (k j : ℕ) → k ≤ j → Within x k → Within x j
within_more (Ok x) k j le w = omega arith
within_more (Err (stuck n)) k j le w = omega arith
within_more (Err (deep n)) k j le w = tt

-- what is left of a list is no longer than it
pub not_longer : {A : Type 0} (f g : Reader A) → Follows f g → (ts : List Token) → Within (f ts) (length ts)
not_longer {A} f g h ts = by_answer (f ts) (h.at ts)
  where
    left_is : (x : Read A) (s : Seen g ts x) → length s.left ≤ length ts
    left_is x s = omega (arith, ap (λ (l : List Token). length l) s.parts, length-append s.pre s.left)

    by_answer : (x : Read A) → (Clear x → Seen g ts x) → Within x (length ts)
    by_answer (Ok (a, r)) s =
        let q = s tt in
        omega (arith, left_is (Ok (a, r)) q, ap (λ (l : List Token). length l) (same_left a q.left r q.same))
    by_answer (Err (stuck n)) s =
        let q = s tt in omega (arith, left_is (Err (stuck n)) q, same_count {A = A} (length q.left) n q.same)
    by_answer (Err (deep n)) s = tt

-- what is left is within a bound
pub left_within : {A : Type 0} (g : Reader A) (ts : List Token) (x : Read A) (k : ℕ)
    → Clear x
    → Within x k
    → (s : Seen g ts x)
    → length s.left ≤ k
left_within {A} g ts (Ok (a, r)) k c w s =
    omega (arith, ap (λ (l : List Token). length l) (same_left a s.left r s.same))
left_within {A} g ts (Err (stuck n)) k c w s = omega (arith, same_count {A = A} (length s.left) n s.same)
left_within g ts (Err (deep n)) k c w s = absurd c

-- one after the other
pub within_then : {A B : Type 0} (x : Read A) (f g : A → Reader B) (k : ℕ)
    → Within x k
    → ((a : A) → Follows (f a) (g a))
    → Within (x >>= λ y. f y.0 y.1) k
within_then (Ok (a, r)) f g k w h = within_more (f a r) (length r) k w (not_longer (f a) (g a) (h a) r)
within_then (Err (stuck n)) f g k w h = w
within_then (Err (deep n)) f g k w h = tt

-- ---- where one stops to look for names

-- the tokens behind the names and commas, and behind the parenthesis after them
abbrev pub scan_end : Bool → List Token → List Token
scan_end at_name [] = []
scan_end true (t ∷ ts) =
    cond (is_kind kinds.RightParenthesis (Some t)) ts (cond (is_kind kinds.Name (Some t)) (scan_end false ts) (t ∷ ts))
scan_end false (t ∷ ts) =
    cond (is_kind kinds.RightParenthesis (Some t)) ts (cond (is_kind kinds.Comma (Some t)) (scan_end true ts) (t ∷ ts))

shorter_by : (p n : Bool) (t : Token) (ts u : List Token)
    → length u ≤ length ts
    → length (cond p ts (cond n u (t ∷ ts))) ≤ suc (length ts)
shorter_by true n t ts u le = omega arith
shorter_by false true t ts u le = omega arith
shorter_by false false t ts u le = omega arith

pub scan_shorter : (at_name : Bool) (ts : List Token) → length (scan_end at_name ts) ≤ length ts
scan_shorter true [] = omega arith
scan_shorter false [] = omega arith
scan_shorter true (t ∷ ts) =
    shorter_by (is_kind kinds.RightParenthesis (Some t)) (is_kind kinds.Name (Some t)) t ts (scan_end false ts)
    (scan_shorter false ts)
scan_shorter false (t ∷ ts) =
    shorter_by (is_kind kinds.RightParenthesis (Some t)) (is_kind kinds.Comma (Some t)) t ts (scan_end true ts)
    (scan_shorter true ts)

-- ---- the tokens that were looked at are enough to tell

here_by : (w p n : Bool) (t : Token) (l r u : List Token) (P Q : Option (Bool × List Token))
    → suc (length l) ≤ length (cond p l (cond n u (t ∷ l)))
    → length u ≤ length l
    → listed_by (cond p (Some (w, r)) (cond n P None)) ≡ listed_by (cond p (Some (w, l)) (cond n Q None))
here_by w true n t l r u P Q le lu = absurd (omega arith)
here_by w false true t l r u P Q le lu = absurd (omega arith)
here_by w false false t l r u P Q le lu = refl

arrow_alike : (w : Bool) (r l : List Token) → head_of r ≡ head_of l → listed_by (Some (w, r)) ≡ listed_by (Some (w, l))
arrow_alike true r l h = refl
arrow_alike false r l h = ap (λ (o : Option Token). cond (is_arrow o) (listed false) no_arrow) h

there_by : (w p n : Bool) (t : Token) (k : ℕ) (pr pl u : List Token) (P Q : Option (Bool × List Token))
    → head_of pr ≡ head_of pl
    → k ≤ length (cond p pl (cond n u (t ∷ pl)))
    → (k ≤ length u → listed_by P ≡ listed_by Q)
    → listed_by (cond p (Some (w, pr)) (cond n P None)) ≡ listed_by (cond p (Some (w, pl)) (cond n Q None))
there_by w true n t k pr pl u P Q h le f = arrow_alike w pr pl h
there_by w false true t k pr pl u P Q h le f = f le
there_by w false false t k pr pl u P Q h le f = refl

heads_same : (x t : Token) (r l : List Token) → head_of (x ∷ r) ≡ head_of (t ∷ l) → x ≡ t
heads_same x t r l h = cc

-- the same head of an arrow function, wherever what is left begins alike
pub stable : (at_name : Bool) (pre left r : List Token)
    → length left ≤ length (scan_end at_name (pre ++ left))
    → head_of r ≡ head_of left
    → listed_by (past_names at_name (pre ++ r)) ≡ listed_by (past_names at_name (pre ++ left))
stable at_name [] [] [] le h = refl
stable at_name [] [] (x ∷ r) le h = absurd cc
stable at_name [] (t ∷ l) [] le h = absurd cc
stable true [] (t ∷ l) (x ∷ r) le h =
    ap (λ (x : Token). listed_by (past_names true (x ∷ r))) (heads_same x t r l h)
    ∙ here_by true (is_kind kinds.RightParenthesis (Some t)) (is_kind kinds.Name (Some t)) t l r (scan_end false l)
    (past_names false r) (past_names false l) le (scan_shorter false l)
stable false [] (t ∷ l) (x ∷ r) le h =
    ap (λ (x : Token). listed_by (past_names false (x ∷ r))) (heads_same x t r l h)
    ∙ here_by false (is_kind kinds.RightParenthesis (Some t)) (is_kind kinds.Comma (Some t)) t l r (scan_end true l)
    (past_names true r) (past_names true l) le (scan_shorter true l)
stable true (t ∷ p) left r le h =
    there_by true (is_kind kinds.RightParenthesis (Some t)) (is_kind kinds.Name (Some t)) t (length left) (p ++ r)
    (p ++ left) (scan_end false (p ++ left)) (past_names false (p ++ r)) (past_names false (p ++ left))
    (head_past p r left h) le (λ q. stable false p left r q h)
stable false (t ∷ p) left r le h =
    there_by false (is_kind kinds.RightParenthesis (Some t)) (is_kind kinds.Comma (Some t)) t (length left) (p ++ r)
    (p ++ left) (scan_end true (p ++ left)) (past_names true (p ++ r)) (past_names true (p ++ left))
    (head_past p r left h) le (λ q. stable true p left r q h)

-- ---- names up to the parenthesis behind them

-- what reads names, before one or behind one
abbrev pub names_from : Bool → ℕ → Reader (List Identifier)
names_from true k ts = elements (one_of (λ r. name_at r)) no_state kinds.RightParenthesis k tt ts
names_from false k ts =
    go_after (λ r. elements (one_of (λ r. name_at r)) no_state kinds.RightParenthesis k tt r)
    (after kinds.RightParenthesis (head_of ts)) ts

-- Names and the parenthesis behind them are read, whatever follows.
pub record Closed (at_name : Bool) (ts : List Token) (w : Bool) (rest : List Token) : Type 0 where
  pub front : List Token
  pub last : Token
  pub names : List Identifier
  pub parts : ts ≡ front ++ (last ∷ rest)
  pub looked : (r : List Token) → past_names at_name (front ++ (last ∷ r)) ≡ Some (w, r)
  pub read : (k : ℕ) (r : List Token)
      → length (front ++ (last ∷ r)) < k
      → names_from at_name k (front ++ (last ∷ r)) ≡ Ok (names, r)

abbrev found : Bool → List Token → Option (Bool × List Token)
found w ts = Some (w, ts)

some_is : (v w : Bool) (ts rest : List Token) → found v ts ≡ found w rest → (v ≡ w) × (ts ≡ rest)
some_is v w ts rest e =
    let x : Bool × List Token = (v, ts) in
    let y : Bool × List Token = (w, rest) in
    let p : x ≡ y = cc in
    (ap (λ (p : Bool × List Token). p.0) p, ap (λ (p : Bool × List Token). p.1) p)

paren_of_name : (t : Token) → is_kind kinds.Name (Some t) ≡ true → is_kind kinds.RightParenthesis (Some t) ≡ false
paren_of_name t e = kind_not kinds.Name kinds.RightParenthesis (Some t) e refl

pub paren_of_comma : (t : Token) → is_kind kinds.Comma (Some t) ≡ true → is_kind kinds.RightParenthesis (Some t) ≡ false
paren_of_comma t e = kind_not kinds.Comma kinds.RightParenthesis (Some t) e refl

-- the parenthesis comes next
closed_at_name : (t : Token) (ts : List Token)
    → is_kind kinds.RightParenthesis (Some t) ≡ true
    → Closed true (t ∷ ts) true ts
unfolding elements
closed_at_name t ts e = record {
  front = [];
  last = t;
  names = [];
  parts = refl;
  looked = λ r. rw e refl;
  read = elim [
    | zero ↦ λ r l. absurd (omega arith)
    | suc k ↦ λ r l. rw e refl
  ];
}

closed_behind : (t : Token) (ts : List Token)
    → is_kind kinds.RightParenthesis (Some t) ≡ true
    → Closed false (t ∷ ts) false ts
closed_behind t ts e =
    record { front = []; last = t; names = []; parts = refl; looked = λ r. rw e refl; read = λ k r l. rw e refl }

closed_name : (t : Token) (ts : List Token) (w : Bool) (rest : List Token)
    → is_kind kinds.Name (Some t) ≡ true
    → Closed false ts w rest
    → Closed true (t ∷ ts) w rest
unfolding elements name_at
closed_name t ts w rest e c = record {
  front = t ∷ c.front;
  last = c.last;
  names = t.string_value ∷ c.names;
  parts = ap (λ (l : List Token). t ∷ l) c.parts;
  looked = λ r. rw (paren_of_name t e, e) (c.looked r);
  read = elim [
    | zero ↦ λ r l. absurd (omega arith)
    | suc k ↦ λ r l. rw (paren_of_name t e, e, c.read k r (omega arith)) refl
  ];
}

closed_comma : (t : Token) (ts : List Token) (w : Bool) (rest : List Token)
    → is_kind kinds.Comma (Some t) ≡ true
    → Closed true ts w rest
    → Closed false (t ∷ ts) w rest
closed_comma t ts w rest e c = record {
  front = t ∷ c.front;
  last = c.last;
  names = c.names;
  parts = ap (λ (l : List Token). t ∷ l) c.parts;
  looked = λ r. rw (paren_of_comma t e, e) (c.looked r);
  read = λ k r l. rw (paren_of_comma t e, e) (c.read k r (omega arith));
}

closed_by_name : (p n : Bool) (t : Token) (ts : List Token) (w : Bool) (rest : List Token)
    → is_kind kinds.RightParenthesis (Some t) ≡ p
    → is_kind kinds.Name (Some t) ≡ n
    → (past_names false ts ≡ Some (w, rest) → Closed false ts w rest)
    → cond p (Some (true, ts)) (cond n (past_names false ts) None) ≡ Some (w, rest) → Closed true (t ∷ ts) w rest
closed_by_name true n t ts w rest e f h q =
    let s = some_is true w ts rest q in
    subst (λ (v : Bool). Closed true (t ∷ ts) v rest) s.0
    (subst (λ (l : List Token). Closed true (t ∷ ts) true l) s.1 (closed_at_name t ts e))
closed_by_name false true t ts w rest e f h q = closed_name t ts w rest f (h q)
closed_by_name false false t ts w rest e f h q = absurd cc

closed_by_comma : (p n : Bool) (t : Token) (ts : List Token) (w : Bool) (rest : List Token)
    → is_kind kinds.RightParenthesis (Some t) ≡ p
    → is_kind kinds.Comma (Some t) ≡ n
    → (past_names true ts ≡ Some (w, rest) → Closed true ts w rest)
    → cond p (Some (false, ts)) (cond n (past_names true ts) None) ≡ Some (w, rest) → Closed false (t ∷ ts) w rest
closed_by_comma true n t ts w rest e f h q =
    let s = some_is false w ts rest q in
    subst (λ (v : Bool). Closed false (t ∷ ts) v rest) s.0
    (subst (λ (l : List Token). Closed false (t ∷ ts) false l) s.1 (closed_behind t ts e))
closed_by_comma false true t ts w rest e f h q = closed_comma t ts w rest f (h q)
closed_by_comma false false t ts w rest e f h q = absurd cc

pub closed : (at_name : Bool) (ts : List Token) (w : Bool) (rest : List Token)
    → past_names at_name ts ≡ Some (w, rest)
    → Closed at_name ts w rest
closed true [] w rest e = absurd cc
closed false [] w rest e = absurd cc
closed true (t ∷ ts) w rest e =
    closed_by_name (is_kind kinds.RightParenthesis (Some t)) (is_kind kinds.Name (Some t)) t ts w rest refl refl
    (λ q. closed false ts w rest q) e
closed false (t ∷ ts) w rest e =
    closed_by_comma (is_kind kinds.RightParenthesis (Some t)) (is_kind kinds.Comma (Some t)) t ts w rest refl refl
    (λ q. closed true ts w rest q) e

-- ---- names that are read as an expression

-- a comma or the parenthesis at the end
abbrev pub ends_name : Option Token → Bool
ends_name o = is_kind kinds.Comma o || is_kind kinds.RightParenthesis o

-- how a reader goes over names
pub record Names {A : Type 0} (one : Reader A) : Type 0 where
  pub follows : Follows one one
  -- a name alone is read, or it is too deep
  pub alone : (t : Token) (ts : List Token)
      → is_kind kinds.Name (Some t) ≡ true
      → ends_name (head_of ts) ≡ true
      → ((k : ℕ) × (one (t ∷ ts) ≡ Err (deep k))) ⊎ ((a : A) × (one (t ∷ ts) ≡ Ok (a, ts)))
  -- a name is always gone past
  pub past : (t : Token) (ts : List Token) → is_kind kinds.Name (Some t) ≡ true → Within (one (t ∷ ts)) (length ts)

-- what is read, with the parenthesis behind it
abbrev pub closing : {A : Type 0} → Read A → Read (Unit {0})
closing x = x >>= λ y. expect kinds.RightParenthesis y.1

pub closing_makes : {A B : Type 0} (x : Read A) (make : A → B) (k : ℕ)
    → Within (closing x) k
    → Within (closing (x >>= λ y. Ok (make y.0, y.1))) k
closing_makes (Ok x) make k w = w
closing_makes (Err e) make k w = w

pub closing_within : {A : Type 0} (x : Read A) (k : ℕ) → Within x k → Within (closing x) k
closing_within x k w =
    within_then x (λ a ts. expect kinds.RightParenthesis ts) (λ a ts. expect kinds.RightParenthesis ts) k w
    (λ a. expect_follows kinds.RightParenthesis)

-- behind a name, where no comma follows
pub end_within : (ts : List Token)
    → is_kind kinds.Comma (head_of ts) ≡ false
    → Within (expect kinds.RightParenthesis ts) (length (scan_end false ts))
unfolding expect
end_within [] e = omega arith
end_within (t ∷ ts) e = by_kind (is_kind kinds.RightParenthesis (Some t)) (is_kind kinds.Comma (Some t)) e
  where
    by_kind : (p n : Bool)
        → n ≡ false
        → Within {A = Unit {0}} (cond p (Ok (tt, ts)) (Err (stuck (suc (length ts)))))
        (length (cond p ts (cond n (scan_end true ts) (t ∷ ts))))
    by_kind true n e = omega arith
    by_kind false true e = absurd cc
    by_kind false false e = omega arith

-- where neither a comma nor the parenthesis follows
pub not_ended : (ts : List Token) → ends_name (head_of ts) ≡ false → scan_end false ts ≡ ts
not_ended [] e = refl
not_ended (t ∷ ts) e = by_kind (is_kind kinds.RightParenthesis (Some t)) (is_kind kinds.Comma (Some t)) e
  where
    by_kind : (p n : Bool) → (n || p) ≡ false → cond p ts (cond n (scan_end true ts) (t ∷ ts)) ≡ t ∷ ts
    by_kind true true e = absurd cc
    by_kind true false e = absurd cc
    by_kind false true e = absurd cc
    by_kind false false e = refl

-- A name, a comma or the end comes next, and what goes on behind a name goes on to the end.
pub names_within : {A B : Type 0} (one : Reader A)
    → Names one
    → (go go' : A → Reader B)
    → ((a : A) → Follows (go a) (go' a))
    → (ts : List Token)
    → listed_by (past_names true ts) ≡ no_arrow
    → ((a : A) (r : List Token)
    → suc (length r) ≤ length ts
    → listed_by (past_names false r) ≡ no_arrow
    → Within (closing (go a r)) (length (scan_end false r)))
    → Within (closing (one ts >>= λ x. go x.0 x.1)) (length (scan_end true ts))
names_within {A} {B} one s go go' f [] e h =
    closing_within (one [] >>= λ x. go x.0 x.1) 0 (within_then (one []) go go' 0 (not_longer one one s.follows []) f)
names_within {A} {B} one s go go' f (t ∷ ts) e h =
    by_kind (is_kind kinds.RightParenthesis (Some t)) (is_kind kinds.Name (Some t)) refl e
  where
    all_within : (k : ℕ) → Within (one (t ∷ ts)) k → Within (closing (one (t ∷ ts) >>= λ x. go x.0 x.1)) k
    all_within k w = closing_within (one (t ∷ ts) >>= λ x. go x.0 x.1) k (within_then (one (t ∷ ts)) go go' k w f)

    by_end : (v : Bool)
        → ends_name (head_of ts) ≡ v
        → is_kind kinds.Name (Some t) ≡ true
        → listed_by (past_names false ts) ≡ no_arrow
        → Within (closing (one (t ∷ ts) >>= λ x. go x.0 x.1)) (length (scan_end false ts))
    by_end false v n q =
        subst (λ (l : List Token). Within (closing (one (t ∷ ts) >>= λ x. go x.0 x.1)) (length l))
        (sym (not_ended ts v)) (all_within (length ts) (s.past t ts n))
    by_end true v n q = elim (s.alone t ts n v) [
      | inl d ↦ rw d.1 tt
      | inr o ↦ rw o.1 (h o.0 ts (omega arith) q)
    ]

    by_kind : (p n : Bool)
        → is_kind kinds.Name (Some t) ≡ n
        → listed_by (cond p (Some (true, ts)) (cond n (past_names false ts) None)) ≡ no_arrow
        → Within (closing (one (t ∷ ts) >>= λ x. go x.0 x.1)) (length (cond p ts (cond n (scan_end false ts) (t ∷ ts))))
    by_kind true n i q = absurd cc
    by_kind false true i q = by_end (ends_name (head_of ts)) refl i q
    by_kind false false i q = all_within (suc (length ts)) (not_longer one one s.follows (t ∷ ts))

-- further names, each behind a comma
pub others_within : {A : Type 0} (one : Reader A)
    → Names one
    → (k : ℕ) (ts : List Token)
    → listed_by (past_names false ts) ≡ no_arrow
    → Within (closing (others (one_of one) no_state k tt ts)) (length (scan_end false ts))
unfolding others
others_within {A} one s zero ts e = tt
others_within {A} one s (suc k) ts e =
    by_comma (is_kind kinds.Comma (head_of ts)) ts refl e (λ r q. others_within one s k r q)
  where
    behind : (t : Token) (us : List Token)
        → is_kind kinds.Comma (Some t) ≡ true
        → listed_by (past_names true us) ≡ no_arrow
        → ((r : List Token)
        → listed_by (past_names false r) ≡ no_arrow
        → Within (closing (others (one_of one) no_state k tt r)) (length (scan_end false r)))
        → Within (closing (one us >>= λ x. others (one_of one) no_state k tt x.1 >>= λ y. Ok (x.0 ∷ y.0, y.1)))
        (length (scan_end true us))
    behind t us c q h =
        let go : A → Reader (List A) = λ a r. others (one_of one) no_state k tt r >>= λ y. Ok (a ∷ y.0, y.1) in
        let go' : A
        → Reader (List A) = λ a r. others (one_of one) no_state (suc (length r)) tt r >>= λ y. Ok (a ∷ y.0, y.1) in
        names_within one s go go'
        (λ a. makes (λ r. others (one_of one) no_state k tt r)
        (λ r. others (one_of one) no_state (suc (length r)) tt r) (λ ys. a ∷ ys)
        (others_from (one_of one) (one_of one) no_state (λ u. s.follows) (λ u. shortens one one s.follows)
        k tt))
        us q
        (λ a r l q. closing_makes (others (one_of one) no_state k tt r) (λ ys. a ∷ ys) (length (scan_end false r))
        (h r q))

    by_comma : (v : Bool) (ts : List Token)
        → is_kind kinds.Comma (head_of ts) ≡ v
        → listed_by (past_names false ts) ≡ no_arrow
        → ((r : List Token)
        → listed_by (past_names false r) ≡ no_arrow
        → Within (closing (others (one_of one) no_state k tt r)) (length (scan_end false r)))
        → Within (closing (others_by (one_of one) no_state (λ u r. others (one_of one) no_state k u r) tt v ts))
        (length (scan_end false ts))
    by_comma false ts c q h = end_within ts c
    by_comma true [] c q h = absurd cc
    by_comma true (t ∷ us) c q h = rw (paren_of_comma t c, c) (behind t us c (rw (paren_of_comma t c, c) at q) h)
