-- An answer depends on the tokens through the one where reading stopped, and on no others: what that says, and how
-- readers that are made of others keep it.
use Rattle.std.proofs.Common.{◌≡◌, ℕ, zero, suc, ◌<◌, ◌≤◌, Bool, true, false, cond, List, [], ◌∷◌, ◌++◌, length, Option, None, Ok, Err, refl, sym, ap, subst, ◌∙◌, append_assoc, arith}
use Rattle.std.specs.Prelude.{nat_le}
use Rattle.std.proofs.lemmas.List.{length-append}
use Rattle.std.proofs.lemmas.Bool.{leb-true, le-leb}
use Rattle.js_parser_language.specs.Tokens.{Token, head_of, tail_of}
use Rattle.js_parser_readers.specs.Reading.{stuck, deep, Read, Reader, ◌>>=◌}
use Rattle.js_parser_laws.proofs.TokenLemmas.{faulty}
use Rattle.js_parser_readers.proofs.ShorterLemmas.{read_is}

-- the answer, with other tokens left
abbrev pub moved : {A : Type 0} → Read A → List Token → Read A
moved (Ok x) r = Ok (x.0, r)
moved (Err (stuck k)) r = Err (stuck (length r))
moved (Err (deep k)) r = Err (deep k)

-- Reading f gives this answer with what was left, whatever else is left, if it begins alike.
pub record Seen {A : Type 0} (f : Reader A) (ts : List Token) (x : Read A) : Type 0 where
  pub pre : List Token
  pub left : List Token
  pub parts : ts ≡ pre ++ left
  pub same : moved x left ≡ x
  pub again : (r : List Token) → head_of r ≡ head_of left → f (pre ++ r) ≡ moved x r

-- a value, or tokens that don't go on; nothing is told of what is too deep
abbrev pub Clear : {A : Type 0} → Read A → Type 0
Clear (Ok x) = Unit {0}
Clear (Err (stuck k)) = Unit {0}
Clear (Err (deep k)) = ⊥

abbrev pub FollowsAt : {A : Type 0} → Read A → Reader A → List Token → Type 0
FollowsAt x g ts = Clear x → Seen g ts x

-- What f answers, g answers for all tokens that agree through the one where f stopped.
pub record Follows {A : Type 0} (f g : Reader A) : Type 0 where
  pub at : (ts : List Token) → FollowsAt (f ts) g ts

-- ---- lists of tokens

pub same_left : {A : Type 0} (a : A) (l r : List Token) → read_is (a, l) ≡ read_is (a, r) → l ≡ r
same_left {A = A} a l r e =
    let x : A × List Token = (a, l) in
    let y : A × List Token = (a, r) in
    let p : x ≡ y = cc in
    ap (λ (p : A × List Token). p.1) p

pub same_count : {A : Type 0} (n k : ℕ) → faulty {A = A} (stuck n) ≡ faulty (stuck k) → n ≡ k
same_count n k e = cc

pub head_past : (p r s : List Token) → head_of r ≡ head_of s → head_of (p ++ r) ≡ head_of (p ++ s)
head_past [] r s e = e
head_past (x ∷ p) r s e = refl

only_nil : (r : List Token) → head_of r ≡ None → r ≡ []
only_nil [] e = refl
only_nil (x ∷ r) e = absurd cc

nil_parts : (p r : List Token) → [] ≡ p ++ r → (p ≡ []) × (r ≡ [])
nil_parts [] r e = (refl, sym e)
nil_parts (x ∷ p) r e = absurd cc

-- ---- single steps

pub gives : {A : Type 0} (a : A) → Follows (λ ts. Ok (a, ts)) (λ ts. Ok (a, ts))
gives a = record { at = λ ts c. record { pre = []; left = ts; parts = refl; same = refl; again = λ r h. refl } }

pub sticks : {A : Type 0} → Follows {A = A} (λ ts. Err (stuck (length ts))) (λ ts. Err (stuck (length ts)))
sticks = record { at = λ ts c. record { pre = []; left = ts; parts = refl; same = refl; again = λ r h. refl } }

pub deepens : {A : Type 0} (g : Reader A) → Follows (λ ts. Err (deep (length ts))) g
deepens g = record { at = λ ts c. absurd c }

-- behind the next token
pub past : {A : Type 0} (f g : Reader A) → Follows f g → Follows (λ ts. f (tail_of ts)) (λ ts. g (tail_of ts))
past {A = A} f g h = record {
  at = elim [
    | [] ↦ λ c. none_left (f []) (h.at [] c)
    | x ∷ ts ↦ λ c. one_past (f ts) x ts (h.at ts c)
  ];
}
  where
    none_left : (y : Read A) → Seen g [] y → Seen (λ ts. g (tail_of ts)) [] y
    none_left y s =
        let n = nil_parts s.pre s.left s.parts in
        record {
          pre = [];
          left = [];
          parts = refl;
          same = ap (λ l. moved y l) (sym n.1) ∙ s.same;
          again = λ r e.
              let z = only_nil r e in
              ap (λ r. g (tail_of r)) z
              ∙ ap (λ p. g (p ++ [])) (sym n.0)
              ∙ s.again [] (ap (λ l. head_of l) (sym n.1))
              ∙ ap (λ l. moved y l) (sym z);
        }

    one_past : (y : Read A) (x : Token) (ts : List Token) → Seen g ts y → Seen (λ ts. g (tail_of ts)) (x ∷ ts) y
    one_past y x ts s =
        record { pre = x ∷ s.pre; left = s.left; parts = ap (λ r. x ∷ r) s.parts; same = s.same; again = s.again }

-- by a class of the next token
pub peeks : {A V : Type 0} (k : Option Token → V) (f g : V → Reader A)
    → ((v : V) → Follows (f v) (g v))
    → Follows (λ ts. f (k (head_of ts)) ts) (λ ts. g (k (head_of ts)) ts)
peeks k f g h = record {
  at = λ ts c.
      let s = (h (k (head_of ts))).at ts c in
      record {
        pre = s.pre;
        left = s.left;
        parts = s.parts;
        same = s.same;
        again = λ r e.
            ap (λ o. g (k o) (s.pre ++ r)) (head_past s.pre r s.left e ∙ ap (λ l. head_of l) (sym s.parts))
            ∙ s.again r e;
      };
}

pub binds : {A B : Type 0} (f f' : Reader A) (g g' : A → Reader B)
    → Follows f f'
    → ((a : A) → Follows (g a) (g' a))
    → Follows (λ ts. f ts >>= λ x. g x.0 x.1) (λ ts. f' ts >>= λ x. g' x.0 x.1)
binds {A = A} {B = B} f f' g g' h k = record { at = λ ts. by_answer ts (f ts) (h.at ts) }
  where
    then_ok : (ts : List Token) (a : A) (r : List Token) (y : Read B)
        → Seen f' ts (Ok (a, r))
        → Seen (g' a) r y
        → Seen (λ ts. f' ts >>= λ x. g' x.0 x.1) ts y
    then_ok ts a r y s t =
        let left_is : s.left ≡ r = same_left a s.left r s.same in
        let head_is : (q : List Token)
        → head_of q ≡ head_of t.left
        → head_of (t.pre ++ q) ≡ head_of s.left = λ q e. head_past t.pre q t.left e
        ∙ ap (λ l. head_of l) (sym t.parts ∙ sym left_is) in
        record {
          pre = s.pre ++ t.pre;
          left = t.left;
          parts = s.parts ∙ ap (λ l. s.pre ++ l) (left_is ∙ t.parts) ∙ sym (append_assoc s.pre t.pre t.left);
          same = t.same;
          again = λ q e. rw (append_assoc s.pre t.pre q, s.again (t.pre ++ q) (head_is q e)) (t.again q e);
        }

    then_stuck : (ts : List Token) (n : ℕ)
        → Seen f' ts (Err (stuck n))
        → Seen {A = B} (λ ts. f' ts >>= λ x. g' x.0 x.1) ts (Err (stuck n))
    then_stuck ts n s =
        record {
          pre = s.pre;
          left = s.left;
          parts = s.parts;
          same = let e : length s.left ≡ n = cc s.same in
              ap (λ n. Err (stuck n)) e;
          again = λ q e. rw (s.again q e) refl;
        }

    by_answer : (ts : List Token) (x : Read A)
        → FollowsAt x f' ts
        → FollowsAt (x >>= λ x. g x.0 x.1) (λ ts. f' ts >>= λ x. g' x.0 x.1) ts
    by_answer ts (Ok x) s = λ c. then_ok ts x.0 x.1 (g x.0 x.1) (s tt) ((k x.0).at x.1 c)
    by_answer ts (Err (stuck n)) s = λ c. then_stuck ts n (s tt)
    by_answer ts (Err (deep k)) s = λ c. absurd c

-- a value made of what is read
pub makes : {A B : Type 0} (f f' : Reader A) (make : A → B)
    → Follows f f'
    → Follows (λ ts. f ts >>= λ x. Ok (make x.0, x.1)) (λ ts. f' ts >>= λ x. Ok (make x.0, x.1))
makes f f' make h = binds f f' (λ a ts. Ok (make a, ts)) (λ a ts. Ok (make a, ts)) h (λ a. gives (make a))

-- one test for both
pub tests : {A : Type 0} (b : Bool) (f f' g g' : Reader A)
    → Follows f f'
    → Follows g g'
    → Follows (λ ts. cond b (f ts) (g ts)) (λ ts. cond b (f' ts) (g' ts))
tests true f f' g g' h k = h
tests false f f' g g' h k = k

-- a test of the depth, which may be looser on the right
pub low_enough : {A : Type 0} (h n m : ℕ) (f g : Reader A)
    → n ≤ m
    → Follows f g
    → Follows (λ ts. cond (nat_le h n) (f ts) (Err (deep (length (tail_of ts)))))
    (λ ts. cond (nat_le h m) (g ts) (Err (deep (length (tail_of ts)))))
low_enough h n m f g le k = record { at = λ ts. by_test ts (nat_le h n) refl }
  where
    by_test : (ts : List Token) (b : Bool)
        → nat_le h n ≡ b
        → FollowsAt (cond b (f ts) (Err (deep (length (tail_of ts)))))
        (λ ts. cond (nat_le h m) (g ts) (Err (deep (length (tail_of ts))))) ts
    by_test ts true e = λ c.
        let s = k.at ts c in
        let low : h ≤ n = leb-true h n e in
        let true_too : nat_le h m ≡ true = le-leb h m (omega arith) in
        record { pre = s.pre; left = s.left; parts = s.parts; same = s.same; again = λ r q. rw true_too (s.again r q) }
    by_test ts false e = λ c. absurd c

-- the same answers on the right
pub onto : {A : Type 0} (f g g' : Reader A) → ((ts : List Token) → g' ts ≡ g ts) → Follows f g → Follows f g'
onto f g g' e h =
    record {
      at = λ ts c. let s = h.at ts c in
          record {
            pre = s.pre;
            left = s.left;
            parts = s.parts;
            same = s.same;
            again = λ r q. e (s.pre ++ r)
                ∙ s.again r q;
          };
    }

-- and on the left
pub from : {A : Type 0} (f f' g : Reader A) → ((ts : List Token) → f' ts ≡ f ts) → Follows f g → Follows f' g
from f f' g e h = record { at = λ ts. subst (λ x. FollowsAt x g ts) (sym (e ts)) (h.at ts) }

-- on both sides
pub alike : {A : Type 0} (f f' g g' : Reader A)
    → ((ts : List Token) → f' ts ≡ f ts)
    → ((ts : List Token) → g' ts ≡ g ts)
    → Follows f g
    → Follows f' g'
alike f f' g g' e e' h = from f f' g' e (onto f g g' e' h)

-- ---- what it says of answers

-- a reader that answers with no more tokens than it was given
abbrev pub Shortens : {A : Type 0} → Reader A → Type 0
Shortens {A} f = (ts : List Token) (x : A × List Token) → f ts ≡ Ok x → length x.1 ≤ length ts

-- a reader that takes a token at least
abbrev pub Takes : {A : Type 0} → Reader A → Type 0
Takes {A} f = (ts : List Token) (x : A × List Token) → f ts ≡ Ok x → suc (length x.1) ≤ length ts

-- what f reads, g reads before all tokens that begin alike
pub reads_again : {A : Type 0} (f g : Reader A)
    → Follows f g
    → (ts : List Token) (a : A) (left : List Token)
    → f ts ≡ Ok (a, left)
    → (pre : List Token) × (ts ≡ pre ++ left) × ((r : List Token) → head_of r ≡ head_of left → g (pre ++ r) ≡ Ok (a, r))
reads_again {A} f g h ts a left e =
    let s : Seen g ts (Ok (a, left)) = subst (λ (x : Read A). FollowsAt x g ts) e (h.at ts) tt in
    let is : s.left ≡ left = same_left a s.left left s.same in (
      s.pre,
      s.parts
          ∙ ap (λ (l : List Token). s.pre ++ l) is,
      λ r q. s.again r (q ∙ ap (λ (l : List Token). head_of l) (sym is)),
    )

-- where f is stuck, g is stuck before all tokens that begin alike
pub sticks_again : {A : Type 0} (f g : Reader A)
    → Follows f g
    → (ts : List Token) (k : ℕ)
    → f ts ≡ Err (stuck k)
    → (pre : List Token)
    × (left : List Token)
    × (ts ≡ pre ++ left)
    × (length left ≡ k)
    × ((r : List Token) → head_of r ≡ head_of left → g (pre ++ r) ≡ Err (stuck (length r)))
sticks_again {A} f g h ts k e =
    let s : Seen g ts (Err (stuck k)) = subst (λ (x : Read A). FollowsAt x g ts) e (h.at ts) tt in
    (s.pre, s.left, s.parts, same_count {A = A} (length s.left) k s.same, s.again)

pub shortens : {A : Type 0} (f g : Reader A) → Follows f g → Shortens f
shortens f g h ts x e =
    let p = reads_again f g h ts x.0 x.1 e in
    omega (arith, ap (λ (l : List Token). length l) p.1, length-append p.0 x.1)

-- ---- loops

-- what a turn answers hangs on what later turns answer for fewer tokens
abbrev pub Local : {S B : Type 0} → ((S → Reader B) → S → Reader B) → Type 0
Local {S} {B} body =
    (go go' : S → Reader B) (s : S) (ts : List Token)
    → ((u : S) (r : List Token) → suc (length r) ≤ length ts → go u r ≡ go' u r)
    → body go s ts ≡ body go' s ts

-- turns of this body, so many at most
pub record Turns {S B : Type 0} (body : (S → Reader B) → S → Reader B) (go : ℕ → S → Reader B) : Type 0 where
  pub none : (s : S) (ts : List Token) → go zero s ts ≡ Err (deep (length ts))
  pub one : (k : ℕ) (s : S) (ts : List Token) → go (suc k) s ts ≡ body (λ u r. go k u r) s ts

-- with as many turns as there are tokens
abbrev pub enough_of : {S B : Type 0} → (ℕ → S → Reader B) → S → Reader B
enough_of go s ts = go (suc (length ts)) s ts

enough : {S B : Type 0} (body : (S → Reader B) → S → Reader B) (go : ℕ → S → Reader B)
    → Turns body go
    → Local body
    → (k j : ℕ) (s : S) (ts : List Token)
    → length ts < k
    → length ts < j
    → go k s ts ≡ go j s ts
enough body go t l zero j s ts p q = absurd (omega arith)
enough body go t l (suc k) zero s ts p q = absurd (omega arith)
enough body go t l (suc k) (suc j) s ts p q =
    t.one k s ts
    ∙ l (λ u r. go k u r) (λ u r. go j u r) s ts (λ u r e. enough body go t l k j u r (omega arith) (omega arith))
    ∙ sym (t.one j s ts)

pub one_turn : {S B : Type 0} (body : (S → Reader B) → S → Reader B) (go : ℕ → S → Reader B)
    → Turns body go
    → Local body
    → (s : S) (ts : List Token)
    → enough_of go s ts ≡ body (enough_of go) s ts
one_turn body go t l s ts =
    t.one (length ts) s ts
    ∙ l (λ u r. go (length ts) u r) (enough_of go) s ts
    (λ u r e. enough body go t l (length ts) (suc (length r)) u r (omega arith) (omega arith))

-- a loop with a bound on its turns
pub loop_from : {S B : Type 0} (body body' : (S → Reader B) → S → Reader B) (go go' : ℕ → S → Reader B)
    → Turns body go
    → Turns body' go'
    → Local body'
    → ((f f' : S → Reader B) → ((s : S) → Follows (f s) (f' s)) → (s : S) → Follows (body f s) (body' f' s))
    → (k : ℕ) (s : S) → Follows (go k s) (enough_of go' s)
loop_from body body' go go' t t' l c zero s =
    from (λ ts. Err (deep (length ts))) (go zero s) (enough_of go' s) (t.none s) (deepens (enough_of go' s))
loop_from body body' go go' t t' l c (suc k) s =
    alike (body (λ u r. go k u r) s) (go (suc k) s) (body' (enough_of go') s) (enough_of go' s) (t.one k s)
    (one_turn body' go' t' l s)
    (c (λ u r. go k u r) (enough_of go') (λ u. loop_from body body' go go' t t' l c k u) s)

-- a loop, where each turn follows if the later ones do
pub loops : {S B : Type 0} (body body' : (S → Reader B) → S → Reader B) (go go' : ℕ → S → Reader B)
    → Turns body go
    → Turns body' go'
    → Local body'
    → ((f f' : S → Reader B) → ((s : S) → Follows (f s) (f' s)) → (s : S) → Follows (body f s) (body' f' s))
    → (s : S) → Follows (enough_of go s) (enough_of go' s)
loops body body' go go' t t' l c s =
    record { at = λ ts. (loop_from body body' go go' t t' l c (suc (length ts)) s).at ts }
