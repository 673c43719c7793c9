-- Where a tree would be too deep, the tokens through the one that shows it are read by nothing: how readers that are
-- made of others keep this.
use Rattle.std.proofs.Common.{◌≡◌, ℕ, zero, suc, ◌≤◌, Bool, true, false, cond, List, [], ◌∷◌, ◌++◌, length, Option, Some, None, Ok, Err, refl, sym, ap, ◌∙◌, append_assoc, arith}
use Rattle.std.specs.Prelude.{nat_le}
use Rattle.js_parser_language.specs.Tokens.{Token, head_of, tail_of}
use Rattle.js_parser_readers.specs.Reading.{stuck, deep, Read, Reader, ◌>>=◌}
use Rattle.js_parser_laws.proofs.TokenLemmas.{faulty}
use Rattle.js_parser_laws.proofs.Follows.Tools.{Follows, head_past, reads_again, shortens, Local, Turns, enough_of, one_turn}
use Rattle.js_parser_readers.proofs.ShorterLemmas.{bind_ok}

pub deep_is : {A : Type 0} (i k : ℕ) → faulty {A = A} (deep i) ≡ faulty (deep k) → i ≡ k
deep_is i k e = cc

-- Through this token nothing is read, and so many are left behind it.
pub record DeepAt {A : Type 0} (f : Reader A) (ts : List Token) (k : ℕ) : Type 0 where
  pub before : List Token
  pub here : Token
  pub left : List Token
  pub parts : ts ≡ before ++ (here ∷ left)
  pub counted : length left ≡ k
  pub never : (r : List Token) (x : A × List Token) → f (before ++ (here ∷ r)) ≡ Ok x → ⊥

-- so of all lists of n tokens at most
pub record Deepens {A : Type 0} (n : ℕ) (f : Reader A) : Type 0 where
  pub at : (ts : List Token) → length ts ≤ n → (k : ℕ) → f ts ≡ Err (deep k) → DeepAt f ts k

-- so of those with a token
pub record DeepensOn {A : Type 0} (n : ℕ) (f : Reader A) : Type 0 where
  pub at : (t : Token) (ts : List Token)
      → suc (length ts) ≤ n
      → (k : ℕ)
      → f (t ∷ ts) ≡ Err (deep k)
      → DeepAt f (t ∷ ts) k

pub on : {A : Type 0} (n : ℕ) (f : Reader A) → Deepens n f → DeepensOn n f
on n f h = record { at = λ t ts l k e. h.at (t ∷ ts) l k e }

-- ---- single steps

-- a reader that is never too deep
pub quiet : {A : Type 0} (n : ℕ) (f : Reader A) → ((ts : List Token) (k : ℕ) → f ts ≡ Err (deep k) → ⊥) → Deepens n f
quiet n f h = record { at = λ ts l k e. absurd (h ts k e) }

pub deep_gives : {A : Type 0} (n : ℕ) (a : A) → Deepens n (λ ts. Ok (a, ts))
deep_gives n a = quiet n (λ ts. Ok (a, ts)) (λ ts k e. absurd cc)

pub deep_sticks : {A : Type 0} (n : ℕ) → Deepens {A = A} n (λ ts. Err (stuck (length ts)))
deep_sticks n = quiet n (λ ts. Err (stuck (length ts))) (λ ts k e. absurd cc)

-- behind the next token
pub one_before : {A : Type 0} (f : Reader A) (t : Token) (ts : List Token) (k : ℕ)
    → DeepAt f ts k
    → DeepAt (λ us. f (tail_of us)) (t ∷ ts) k
one_before f t ts k d =
    record {
      before = t ∷ d.before;
      here = d.here;
      left = d.left;
      parts = ap (λ (l : List Token). t ∷ l)
          d.parts;
      counted = d.counted;
      never = d.never;
    }

no_parts : (before left : List Token) (here : Token) → [] ≡ before ++ (here ∷ left) → ⊥
no_parts [] left here e = absurd cc
no_parts (x ∷ b) left here e = absurd cc

pub deep_past : {A : Type 0} (n : ℕ) (f : Reader A) → Deepens n f → Deepens n (λ ts. f (tail_of ts))
deep_past {A} n f h = record {
  at = elim [
    | [] ↦ λ l k e. let d = h.at [] l k e in absurd (no_parts d.before d.left d.here d.parts)
    | t ∷ ts ↦ λ l k e. one_before f t ts k (h.at ts (omega arith) k e)
  ];
}

-- where later turns have fewer tokens
pub deep_past_on : {A : Type 0} (n : ℕ) (f : Reader A)
    → ((m : ℕ) → suc m ≤ n → Deepens m f)
    → DeepensOn n (λ ts. f (tail_of ts))
deep_past_on n f h = record { at = λ t ts l k e. one_before f t ts k ((h (length ts) l).at ts (omega arith) k e) }

-- by a class of the next token, where there may be none
pub deep_peeks : {A V : Type 0} (n : ℕ) (k : Option Token → V) (f : V → Reader A)
    → ((j : ℕ) → f (k None) [] ≡ Err (deep j) → ⊥)
    → ((v : V) → DeepensOn n (f v))
    → Deepens n (λ ts. f (k (head_of ts)) ts)
deep_peeks {A} n k f none h = record {
  at = elim [
    | [] ↦ λ l j e. absurd (none j e)
    | t ∷ ts ↦ λ l j e. seen t ts j ((h (k (Some t))).at t ts l j e)
  ];
}
  where
    seen : (t : Token) (ts : List Token) (j : ℕ)
        → DeepAt (f (k (Some t))) (t ∷ ts) j
        → DeepAt (λ us. f (k (head_of us)) us) (t ∷ ts) j
    seen t ts j d = record {
      before = d.before;
      here = d.here;
      left = d.left;
      parts = d.parts;
      counted = d.counted;
      never = λ r x e.
          let head : head_of (d.before ++ (d.here ∷ r)) ≡ Some t = head_past d.before (d.here ∷ r) (d.here ∷ d.left)
          refl
          ∙ ap (λ (l : List Token). head_of l) (sym d.parts) in
          d.never r x (ap (λ (o : Option Token). f (k o) (d.before ++ (d.here ∷ r))) (sym head) ∙ e);
    }

-- one after the other
pub deep_binds : {A B : Type 0} (n m : ℕ) (f : Reader A) (g : A → Reader B)
    → Follows f f
    → ((ts : List Token) (x : A × List Token) → length ts ≤ n → f ts ≡ Ok x → length x.1 ≤ m)
    → Deepens n f
    → ((a : A) → Deepens m (g a))
    → Deepens n (λ ts. f ts >>= λ x. g x.0 x.1)
deep_binds {A} {B} n m f g h less k j = record { at = λ ts l i e. by_answer ts l i (f ts) refl e }
  where
    by_answer : (ts : List Token)
        → length ts ≤ n
        → (i : ℕ) (x : Read A)
        → f ts ≡ x
        → (x >>= λ x. g x.0 x.1) ≡ Err (deep i)
        → DeepAt (λ ts. f ts >>= λ x. g x.0 x.1) ts i
    by_answer ts l i (Ok (a, u)) q e =
        let p = reads_again f f h ts a u q in
        let d = (j a).at u (less ts (a, u) l q) i e in
        record {
          before = p.0 ++ d.before;
          here = d.here;
          left = d.left;
          parts = p.1 ∙ ap (λ (l : List Token). p.0 ++ l) d.parts ∙ sym (append_assoc p.0 d.before (d.here ∷ d.left));
          counted = d.counted;
          never = λ r x o.
              let head : head_of (d.before ++ (d.here ∷ r)) ≡ head_of u = head_past d.before (d.here ∷ r)
              (d.here ∷ d.left) refl
              ∙ ap (λ (l : List Token). head_of l) (sym d.parts) in
              let is : f ((p.0 ++ d.before) ++ (d.here ∷ r)) ≡ Ok (a, d.before ++ (d.here ∷ r)) = ap
              (λ (l : List Token). f l) (append_assoc p.0 d.before (d.here ∷ r))
              ∙ p.2 (d.before ++ (d.here ∷ r)) head in
              d.never r x (ap (λ (x : Read A). x >>= λ x. g x.0 x.1) (sym is) ∙ o);
        }
    by_answer ts l i (Err (stuck j)) q e = absurd cc
    by_answer ts l i (Err (deep j)) q e =
        let d = k.at ts l j q in
        record {
          before = d.before;
          here = d.here;
          left = d.left;
          parts = d.parts;
          counted = d.counted ∙ deep_is {A = B} j i e;
          never = λ r x o. let b = bind_ok (f (d.before ++ (d.here ∷ r))) (λ x. g x.0 x.1) x o in d.never r b.0 b.1;
        }

no_more : {A : Type 0} (n : ℕ) (f : Reader A)
    → Follows f f
    → (ts : List Token) (x : A × List Token)
    → length ts ≤ n
    → f ts ≡ Ok x
    → length x.1 ≤ n
no_more n f h ts x l e = omega (arith, shortens f f h ts x e)

pub deep_then : {A B : Type 0} (n : ℕ) (f : Reader A) (g : A → Reader B)
    → Follows f f
    → Deepens n f
    → ((a : A) → Deepens n (g a))
    → Deepens n (λ ts. f ts >>= λ x. g x.0 x.1)
deep_then n f g h k j = deep_binds n n f g h (no_more n f h) k j

pub deep_makes : {A B : Type 0} (n : ℕ) (f : Reader A) (make : A → B)
    → Follows f f
    → Deepens n f
    → Deepens n (λ ts. f ts >>= λ x. Ok (make x.0, x.1))
deep_makes n f make h k = deep_then n f (λ a ts. Ok (make a, ts)) h k (λ a. deep_gives n (make a))

pub deep_tests : {A : Type 0} (n : ℕ) (b : Bool) (f g : Reader A)
    → DeepensOn n f
    → DeepensOn n g
    → DeepensOn n (λ ts. cond b (f ts) (g ts))
deep_tests n true f g h k = h
deep_tests n false f g h k = k

-- a test of the depth at a token
pub deep_limit : {A : Type 0} (n h k : ℕ) (f : Reader A)
    → DeepensOn n f
    → DeepensOn n (λ ts. cond (nat_le h k) (f ts) (Err (deep (length (tail_of ts)))))
deep_limit {A} n h k f d = by_test (nat_le h k)
  where
    by_test : (v : Bool) → DeepensOn n (λ ts. cond v (f ts) (Err (deep (length (tail_of ts)))))
    by_test true = d
    by_test false =
        record {
          at = λ t ts l j e. record {
            before = [];
            here = t;
            left = ts;
            parts = refl;
            counted = deep_is {A = A}
                (length ts) j e;
            never = λ r x q. absurd cc;
          };
        }

-- the same answers
pub deep_as : {A : Type 0} (n : ℕ) (f g : Reader A) → ((ts : List Token) → g ts ≡ f ts) → Deepens n f → Deepens n g
deep_as n f g is h = record {
  at = λ ts l k e.
      let d = h.at ts l k (sym (is ts) ∙ e) in
      record {
        before = d.before;
        here = d.here;
        left = d.left;
        parts = d.parts;
        counted = d.counted;
        never = λ r x q. d.never r x
            (sym (is (d.before ++ (d.here ∷ r))) ∙ q);
      };
}

-- ---- loops

-- a loop, where a turn keeps it if later turns do for fewer tokens
pub deep_loops : {S B : Type 0} (body : (S → Reader B) → S → Reader B) (go : ℕ → S → Reader B)
    → Turns body go
    → Local body
    → ((n : ℕ)
    → ((m : ℕ) → suc m ≤ n → (s : S) → Deepens m (enough_of go s))
    → (s : S)
    → Deepens n (body (enough_of go) s))
    → (n : ℕ) (s : S) → Deepens n (enough_of go s)
deep_loops {S} {B} body go t l c n s = up_to (suc n) n (omega arith) s
  where
    up_to : (k n : ℕ) → suc n ≤ k → (s : S) → Deepens n (enough_of go s)
    up_to zero n e s = absurd (omega arith)
    up_to (suc k) n e s =
        deep_as n (body (enough_of go) s) (enough_of go s) (one_turn body go t l s)
        (c n (λ m q u. up_to k m (omega arith) u) s)

-- by a class of the next token, or of none
pub deep_peeks_all : {A V : Type 0} (n : ℕ) (k : Option Token → V) (f : V → Reader A)
    → ((v : V) → Deepens n (f v))
    → Deepens n (λ ts. f (k (head_of ts)) ts)
deep_peeks_all n k f h =
    deep_peeks n k f (λ j e. let d = (h (k None)).at [] (omega arith) j e in no_parts d.before d.left d.here d.parts)
    (λ v. on n (f v) (h v))

-- a value behind the next token
pub deep_token : {A : Type 0} (n : ℕ) (a : A) → Deepens n (λ ts. Ok (a, tail_of ts))
deep_token n a = quiet n (λ ts. Ok (a, tail_of ts)) (λ ts k e. absurd cc)
