-- Names in parentheses are never too deep for readers that read a name alone: so what is too deep there lies behind the
-- tokens that were looked at.
use Rattle.std.proofs.Common.{◌≡◌, ℕ, zero, suc, ◌≤◌, Bool, true, false, cond, List, [], ◌∷◌, ◌++◌, length, Some, None, Ok, Err, refl, sym, ap, subst, ◌∙◌, append_assoc, arith}
use Rattle.std.proofs.lemmas.List.{length-append}
use Rattle.js_lexer.specs.declared.token.TokenKind.TheVariants as kinds
use Rattle.js_parser_language.specs.Tokens.{Token, head_of, tail_of}
use Rattle.js_parser_language.specs.Kinds.{is_kind}
use Rattle.js_parser_readers.specs.Reading.{stuck, deep, Read, Reader, ◌>>=◌, others_by, others, no_state}
use Rattle.js_parser_readers.specs.Classes.{past_names, no_arrow, listed_by}
use Rattle.js_parser_readers.specs.Productions.{one_of}
use Rattle.js_parser_laws.proofs.Follows.Tools.{Follows, makes, head_past, reads_again, one_turn, shortens}
use Rattle.js_parser_laws.proofs.Follows.Parts.{others_body, others_local, others_turns, others_follows}
use Rattle.js_parser_laws.proofs.Follows.Arrows.{Within, scan_end, ends_name, Names, not_ended, paren_of_comma}
use Rattle.js_parser_laws.proofs.Deep.Tools.{deep_is, DeepAt, Deepens, deep_then, deep_makes}
use Rattle.js_parser_laws.proofs.Deep.Parts.{others_deepens}
use Rattle.js_parser_readers.proofs.ShorterLemmas.{bind_ok}

-- too deep, with so many tokens left at most from the one that shows it on
pub record DeepTo {A : Type 0} (f : Reader A) (ts : List Token) (i k : ℕ) : Type 0 where
  pub deep_at : DeepAt f ts i
  pub near : suc (length deep_at.left) ≤ k

pub deep_to_all : {A : Type 0} (f : Reader A) (ts : List Token) (i : ℕ) → DeepAt f ts i → DeepTo f ts i (length ts)
deep_to_all f ts i d =
    record {
      deep_at = d;
      near = omega
          (arith, ap (λ (l : List Token). length l) d.parts, length-append d.before (d.here ∷ d.left));
    }

pub deep_to_more : {A : Type 0} (f : Reader A) (ts : List Token) (i k j : ℕ) → k ≤ j → DeepTo f ts i k → DeepTo f ts i j
deep_to_more f ts i k j le d = record { deep_at = d.deep_at; near = omega (arith, d.near) }

-- what comes first is too deep
pub lift_first : {A B : Type 0} (f : Reader A) (g : A → Reader B) (ts : List Token) (i k : ℕ)
    → DeepTo f ts i k
    → DeepTo (λ ts. f ts >>= λ x. g x.0 x.1) ts i k
lift_first f g ts i k d = record {
  deep_at = record {
    before = d.deep_at.before;
    here = d.deep_at.here;
    left = d.deep_at.left;
    parts = d.deep_at.parts;
    counted = d.deep_at.counted;
    never =
        λ r x o. let b = bind_ok (f (d.deep_at.before ++ (d.deep_at.here ∷ r))) (λ x. g x.0 x.1) x o in
        d.deep_at.never r b.0 b.1;
  };
  near = d.near;
}

-- what comes behind it is
pub lift_second : {A B : Type 0} (f : Reader A) (g : A → Reader B)
    → Follows f f
    → (ts : List Token) (a : A) (u : List Token) (i k : ℕ)
    → f ts ≡ Ok (a, u)
    → DeepTo (g a) u i k
    → DeepTo (λ ts. f ts >>= λ x. g x.0 x.1) ts i k
lift_second {A} {B} f g h ts a u i k q dt =
    let p = reads_again f f h ts a u q in
    let d = dt.deep_at in
    record {
      deep_at = record {
        before = p.0 ++ d.before;
        here = d.here;
        left = d.left;
        parts = p.1 ∙ ap (λ (l : List Token). p.0 ++ l) d.parts ∙ sym (append_assoc p.0 d.before (d.here ∷ d.left));
        counted = d.counted;
        never = λ r x o.
            let head : head_of (d.before ++ (d.here ∷ r)) ≡ head_of u = head_past d.before (d.here ∷ r)
            (d.here ∷ d.left) refl
            ∙ ap (λ (l : List Token). head_of l) (sym d.parts) in
            let is : f ((p.0 ++ d.before) ++ (d.here ∷ r)) ≡ Ok (a, d.before ++ (d.here ∷ r)) = ap
            (λ (l : List Token). f l) (append_assoc p.0 d.before (d.here ∷ r))
            ∙ p.2 (d.before ++ (d.here ∷ r)) head in
            d.never r x (ap (λ (x : Read A). x >>= λ x. g x.0 x.1) (sym is) ∙ o);
      };
      near = dt.near;
    }

-- one after the other, within a bound
pub to_then : {A B : Type 0} (f : Reader A) (g : A → Reader B)
    → Follows f f
    → ((n : ℕ) (a : A) → Deepens n (g a))
    → (ts : List Token) (i k : ℕ)
    → Within (f ts) k
    → (f ts ≡ Err (deep i) → DeepTo f ts i k)
    → (f ts >>= λ x. g x.0 x.1) ≡ Err (deep i)
    → DeepTo (λ ts. f ts >>= λ x. g x.0 x.1) ts i k
to_then {A} {B} f g h d ts i k w first e = by_answer (f ts) refl w e
  where
    by_answer : (x : Read A)
        → f ts ≡ x
        → Within x k
        → (x >>= λ x. g x.0 x.1) ≡ Err (deep i)
        → DeepTo (λ ts. f ts >>= λ x. g x.0 x.1) ts i k
    by_answer (Ok (a, u)) q w e =
        lift_second f g h ts a u i k q
        (deep_to_more (g a) u i (length u) k w (deep_to_all (g a) u i ((d (length u) a).at u (omega arith) i e)))
    by_answer (Err (stuck j)) q w e = absurd cc
    by_answer (Err (deep j)) q w e =
        lift_first f g ts i k (first (q ∙ ap (λ (j : ℕ). Err (deep j)) (deep_is {A = B} j i e)))

-- a reader that reads names alone
pub record Sure {A : Type 0} (P : A → Type 0) (one : Reader A) : Type 0 where
  pub names : Names one
  pub keeps : (n : ℕ) → Deepens n one
  pub sure : (t : Token) (ts : List Token)
      → is_kind kinds.Name (Some t) ≡ true
      → ends_name (head_of ts) ≡ true
      → (a : A) × (one (t ∷ ts) ≡ Ok (a, ts)) × P a
  pub behind : (t : Token) (ts : List Token)
      → is_kind kinds.Name (Some t) ≡ true
      → (i : ℕ)
      → one (t ∷ ts) ≡ Err (deep i)
      → DeepTo one (t ∷ ts) i (length ts)

-- what is too deep lies behind the names
pub names_deep : {A B : Type 0} (P : A → Type 0) (one : Reader A)
    → Sure P one
    → (go : A → Reader B)
    → ((a : A) → Follows (go a) (go a))
    → ((n : ℕ) (a : A) → Deepens n (go a))
    → (ts : List Token)
    → listed_by (past_names true ts) ≡ no_arrow
    → ((a : A) (r : List Token)
    → P a
    → suc (length r) ≤ length ts
    → listed_by (past_names false r) ≡ no_arrow
    → (i : ℕ)
    → go a r ≡ Err (deep i)
    → DeepTo (go a) r i (length (scan_end false r)))
    → (i : ℕ)
    → (one ts >>= λ x. go x.0 x.1) ≡ Err (deep i)
    → DeepTo (λ ts. one ts >>= λ x. go x.0 x.1) ts i (length (scan_end true ts))
names_deep {A} {B} P one s go f d [] e h j q =
    deep_to_all (λ ts. one ts >>= λ x. go x.0 x.1) [] j
    ((deep_then 0 one go s.names.follows (s.keeps 0) (λ a. d 0 a)).at [] (omega arith) j q)
names_deep {A} {B} P one s go f d (t ∷ ts) e h j q =
    by_kind (is_kind kinds.RightParenthesis (Some t)) (is_kind kinds.Name (Some t)) refl e
  where
    whole : Reader B
    whole ts = one ts >>= λ x. go x.0 x.1

    by_end : (v : Bool)
        → ends_name (head_of ts) ≡ v
        → is_kind kinds.Name (Some t) ≡ true
        → listed_by (past_names false ts) ≡ no_arrow
        → DeepTo whole (t ∷ ts) j (length (scan_end false ts))
    by_end false v n c =
        subst (λ (l : List Token). DeepTo whole (t ∷ ts) j (length l)) (sym (not_ended ts v))
        (to_then one go s.names.follows d (t ∷ ts) j (length ts) (s.names.past t ts n) (s.behind t ts n j) q)
    by_end true v n c =
        let o = s.sure t ts n v in
        lift_second one go s.names.follows (t ∷ ts) o.0 ts j (length (scan_end false ts)) o.1
        (h o.0 ts o.2 (omega arith) c j (ap (λ (x : Read A). x >>= λ x. go x.0 x.1) (sym o.1) ∙ q))

    by_kind : (p n : Bool)
        → is_kind kinds.Name (Some t) ≡ n
        → listed_by (cond p (Some (true, ts)) (cond n (past_names false ts) None)) ≡ no_arrow
        → DeepTo whole (t ∷ ts) j (length (cond p ts (cond n (scan_end false ts) (t ∷ ts))))
    by_kind true n i c = absurd cc
    by_kind false true i c = by_end (ends_name (head_of ts)) refl i c
    by_kind false false i c =
        deep_to_all whole (t ∷ ts) j
        ((deep_then (suc (length ts)) one go s.names.follows (s.keeps (suc (length ts)))
        (λ a. d (suc (length ts)) a)).at
        (t ∷ ts) (omega arith) j q)

-- ---- further names

pub made_deep : {A B : Type 0} (x : Read A) (make : A → B) (i : ℕ)
    → (x >>= λ y. Ok (make y.0, y.1)) ≡ Err (deep i)
    → x ≡ Err (deep i)
made_deep (Ok y) make i e = absurd cc
made_deep (Err (stuck k)) make i e = absurd cc
made_deep {A} {B} (Err (deep k)) make i e = ap (λ (j : ℕ). Err (deep j)) (deep_is {A = B} k i e)

abbrev pub others_of : {A : Type 0} → Reader A → Reader (List A)
others_of one ts = others (one_of one) no_state (suc (length ts)) tt ts

abbrev rest_of : {A : Type 0} → Reader A → A → Reader (List A)
rest_of one a ts = others_of one ts >>= λ y. Ok (a ∷ y.0, y.1)

abbrev behind_comma : {A : Type 0} → Reader A → Reader (List A)
behind_comma one ts = one ts >>= λ x. rest_of one x.0 x.1

abbrev others_form : {A : Type 0} → Reader A → Bool → Reader (List A)
others_form one true ts = behind_comma one (tail_of ts)
others_form one false ts = Ok ([], ts)

others_is : {A : Type 0} (one : Reader A)
    → Follows one one
    → (ts : List Token)
    → others_of one ts ≡ others_form one (is_kind kinds.Comma (head_of ts)) ts
others_is {A} one f ts =
    one_turn (others_body (one_of one) no_state) (λ k s ts. others (one_of one) no_state k s ts)
    (others_turns (one_of one) no_state) (others_local (one_of one) no_state (λ s. shortens one one f)) tt ts
    ∙ by_comma (is_kind kinds.Comma (head_of ts))
  where
    by_comma : (v : Bool)
        → others_by (one_of one) no_state (λ u r. others (one_of one) no_state (suc (length r)) u r)
        tt v ts ≡ others_form one v ts
    by_comma true = refl
    by_comma false = refl

rest_follows : {A : Type 0} (one : Reader A) → Follows one one → (a : A) → Follows (rest_of one a) (rest_of one a)
rest_follows one f a =
    makes (others_of one) (others_of one) (λ ys. a ∷ ys)
    (others_follows (one_of one) (one_of one) no_state (λ s. f) (λ s. shortens one one f) tt)

rest_deepens : {A : Type 0} (one : Reader A)
    → Follows one one
    → ((n : ℕ) → Deepens n one)
    → (n : ℕ) (a : A)
    → Deepens n (rest_of one a)
rest_deepens one f d n a =
    deep_makes n (others_of one) (λ ys. a ∷ ys)
    (others_follows (one_of one) (one_of one) no_state (λ s. f) (λ s. shortens one one f) tt)
    (others_deepens (one_of one) no_state (λ s. f) (λ n s. d n) n tt)

-- seen from the comma on
from_comma : {A : Type 0} (one : Reader A)
    → Follows one one
    → (t : Token) (us : List Token) (i k : ℕ)
    → is_kind kinds.Comma (Some t) ≡ true
    → DeepTo (behind_comma one) us i k
    → DeepTo (others_of one) (t ∷ us) i k
from_comma {A} one f t us i k c d = record {
  deep_at = record {
    before = t ∷ d.deep_at.before;
    here = d.deep_at.here;
    left = d.deep_at.left;
    parts = ap (λ (l : List Token). t ∷ l) d.deep_at.parts;
    counted = d.deep_at.counted;
    never = λ r x o.
        let ts : List Token = t ∷ (d.deep_at.before ++ (d.deep_at.here ∷ r)) in
        d.deep_at.never r x (sym (others_is one f ts ∙ ap (λ (v : Bool). others_form one v ts) c) ∙ o);
  };
  near = d.near;
}

comma_step : {A : Type 0} (P : A → Type 0) (one : Reader A)
    → Sure P one
    → (t : Token) (us : List Token)
    → is_kind kinds.Comma (Some t) ≡ true
    → listed_by (past_names true us) ≡ no_arrow
    → ((r : List Token)
    → suc (length r) ≤ length us
    → listed_by (past_names false r) ≡ no_arrow
    → (i : ℕ)
    → others_of one r ≡ Err (deep i)
    → DeepTo (others_of one) r i (length (scan_end false r)))
    → (i : ℕ) → others_of one (t ∷ us) ≡ Err (deep i) → DeepTo (others_of one) (t ∷ us) i (length (scan_end true us))
comma_step {A} P one s t us c q h i e =
    let f : Follows one one = s.names.follows in
    let e' : behind_comma one us ≡ Err (deep i) = sym
    (others_is one f (t ∷ us) ∙ ap (λ (v : Bool). others_form one v (t ∷ us)) c)
    ∙ e in
    from_comma one f t us i (length (scan_end true us)) c
    (names_deep P one s (rest_of one) (rest_follows one f) (rest_deepens one f s.keeps) us q
    (λ a r p l q' j z. lift_first (others_of one) (λ ys ts. Ok (a ∷ ys, ts)) r j (length (scan_end false r))
    (h r l q' j (made_deep (others_of one r) (λ ys. a ∷ ys) j z)))
    i e')

others_by_comma : {A : Type 0} (P : A → Type 0) (one : Reader A)
    → Sure P one
    → (v : Bool) (ts : List Token)
    → is_kind kinds.Comma (head_of ts) ≡ v
    → ((r : List Token)
    → suc (length r) ≤ length ts
    → listed_by (past_names false r) ≡ no_arrow
    → (i : ℕ)
    → others_of one r ≡ Err (deep i)
    → DeepTo (others_of one) r i (length (scan_end false r)))
    → listed_by (past_names false ts) ≡ no_arrow
    → (i : ℕ)
    → others_of one ts ≡ Err (deep i)
    → DeepTo (others_of one) ts i (length (scan_end false ts))
others_by_comma {A} P one s false ts c h q i e =
    let z : others_form one false ts ≡ Err (deep i) = sym
    (others_is one s.names.follows ts ∙ ap (λ (v : Bool). others_form one v ts) c)
    ∙ e in
    absurd cc
others_by_comma P one s true [] c h q i e = absurd cc
others_by_comma P one s true (t ∷ us) c h q i e =
    rw (paren_of_comma t c, c)
    (comma_step P one s t us c (rw (paren_of_comma t c, c) at q) (λ r l. h r (omega arith)) i e)

pub others_deep : {A : Type 0} (P : A → Type 0) (one : Reader A)
    → Sure P one
    → (k : ℕ) (ts : List Token)
    → length ts ≤ k
    → listed_by (past_names false ts) ≡ no_arrow
    → (i : ℕ)
    → others_of one ts ≡ Err (deep i)
    → DeepTo (others_of one) ts i (length (scan_end false ts))
others_deep P one s zero ts l q i e =
    others_by_comma P one s (is_kind kinds.Comma (head_of ts)) ts refl (λ r m c j z. absurd (omega arith)) q i e
others_deep P one s (suc k) ts l q i e =
    others_by_comma P one s (is_kind kinds.Comma (head_of ts)) ts refl
    (λ r m c j z. others_deep P one s k r (omega arith) c j z) q i e
