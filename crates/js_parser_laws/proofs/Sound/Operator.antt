-- What is read with operators is a well-formed expression's: updates, unary expressions and operations.
use Rattle.std.proofs.Common.{◌≡◌, ℕ, zero, suc, ◌≤◌, ◌<◌, true, List, [], ◌∷◌, ◌++◌, length, Option, Some, None, Ok, Err, refl, subst, arith}
use Rattle.std.specs.Prelude.{nat_le, if◌then◌else◌}
use Rattle.std.proofs.lemmas.Bool.{leb-true}
use Rattle.js_tree_operators.specs.declared.operator.UnaryOperator.TheVariants as unaries
use Rattle.js_tree_operators.specs.declared.operator.UpdateOperator.{UpdateOperator}
use Rattle.js_tree_operators.specs.declared.operator.BinaryOperator.{BinaryOperator}
use Rattle.js_tree.specs.Trees as trees
use Rattle.js_tree.specs.Trees.{Expression}
use Rattle.js_parser_language.specs.Tokens.{Token, fixed, token, beside, head_of, tail_of}
use Rattle.js_parser_language.specs.Flat.{flat, unary_kind, update_kind, binary_kind}
use Rattle.js_parser_language.specs.Well.{level, strength, is_property}
use Rattle.js_tree.specs.Targets.{is_target}
use Rattle.js_tree.specs.Height.{height}
use Rattle.js_parser_readers.specs.Reading.{stuck, deep, Read, Reader, ◌>>=◌}
use Rattle.js_parser_readers.specs.Classes.{update_near, Prefix, deletes, a_unary, an_update, no_prefix, prefix, operator}
use Rattle.js_parser_readers.specs.Productions.{Below, Piece, PieceValues, seq, made}
use Rattle.js_parser_readers.specs.Parsing.{if_low, call, updated_by, postfix, unary_by, unary, operator_from, chain_by, chain, operation}
use Rattle.js_parser_laws.proofs.Claims.{TakesExpression, SoundBelow, TakesAll, SeqSound}
use Rattle.js_parser_laws.proofs.MarkLemmas.{joins}
use Rattle.js_parser_laws.proofs.TokenLemmas.{ok_is, test_ok}
use Rattle.js_parser_laws.proofs.HeadLemmas.{update_next, prefix_unary, from_is, from_past}
use Rattle.js_parser_readers.proofs.ClassLemmas.{prefix_delete, prefix_update, operator_next}
use Rattle.js_parser_laws.proofs.Again.Level.{strength_low, from_none}
use Rattle.js_parser_readers.proofs.ShorterLemmas.{bind_ok, read_is}

-- ---- tools

-- what is made of a production's values
pub made_takes : {A : Type 0} (q : SeqSound) (n : ℕ) (b : Below)
    → SoundBelow n b
    → (is : List Piece) (make : PieceValues is → A) (ts : List Token) (y : A × List Token) (P : A → List Token → Type 0)
    → ((vs : PieceValues is) (r : List Token) → TakesAll n is ts vs r → P (make vs) r) → made b is make ts ≡ Ok y → P y.0 y.1
made_takes {A} q n b s is make ts y P h e =
    let p = bind_ok (seq b is ts) (λ x. Ok (make x.0, x.1)) y e in
    subst (λ (y : A × List Token). P y.0 y.1) (ok_is (make p.0.0, p.0.1) y p.2) (h p.0.0 p.0.1 (q n b s is ts p.0 p.1))

-- a tree that is low enough
pub low_ok : {A : Type 0} (h n : ℕ) (ts : List Token) (read : Read A) (y : A × List Token)
    → if_low h n ts read ≡ Ok y
    → (h ≤ n) × (read ≡ Ok y)
low_ok h n ts read y e = let t = test_ok (nat_le h n) read (deep (length (tail_of ts))) y e in (leb-true h n t.0, t.1)

-- an expression of a lower level may stand there too
pub weaker : (m k n : ℕ) (ts : List Token) (e : Expression) (r : List Token)
    → k ≤ m
    → TakesExpression m n ts e r
    → TakesExpression k n ts e r
weaker m k n ts e r le t = record { marks = t.marks; well = t.well; level = omega (arith, t.level); height = t.height }

-- the answer is what was read
pub takes_ok : (low n : ℕ) (ts : List Token) (e : Expression) (r : List Token) (x : Expression × List Token)
    → read_is (e, r) ≡ Ok x
    → TakesExpression low n ts e r
    → TakesExpression low n ts x.0 x.1
takes_ok low n ts e r x is t =
    subst (λ (x : Expression × List Token). TakesExpression low n ts x.0 x.1) (ok_is (e, r) x is) t

-- ---- updates

postfix_takes : (n : ℕ) (s : List Token) (e : Expression) (o : UpdateOperator) (ts : List Token)
    → TakesExpression 15 (suc n) s e ts
    → update_near (head_of ts) ≡ Some o
    → is_target e ≡ true
    → height e ≤ n
    → TakesExpression 14 (suc n) s (trees.postfix o e) (tail_of ts)
postfix_takes n s e o ts t f target low =
    let next = update_next o (head_of ts) f in
    record {
      marks = joins (flat e) (beside (fixed (update_kind o)) ∷ []) s ts (tail_of ts) t.marks (next.0, next.1, refl);
      well = (t.well, target);
      level = omega arith;
      height = omega arith;
    }

updated_by_sound : (n : ℕ) (s : List Token) (e : Expression) (o : Option UpdateOperator) (ts : List Token)
    (x : Expression × List Token)
    → update_near (head_of ts) ≡ o
    → TakesExpression 15 (suc n) s e ts
    → updated_by n e o ts ≡ Ok x
    → TakesExpression 14 (suc n) s x.0 x.1
updated_by_sound n s e None ts x f t is = takes_ok 14 (suc n) s e ts x is (weaker 15 14 (suc n) s e ts (omega arith) t)
updated_by_sound n s e (Some o) ts x f t is =
    let a = test_ok (is_target e) (if_low (height e) n ts (Ok (trees.postfix o e, tail_of ts))) (stuck (length ts))
    x is in
    let l = low_ok (height e) n ts (Ok (trees.postfix o e, tail_of ts)) x a.1 in
    takes_ok 14 (suc n) s (trees.postfix o e) (tail_of ts) x l.1 (postfix_takes n s e o ts t f a.0 l.0)

-- the law of calls, which stands elsewhere
abbrev pub CallSound : ℕ → Below → Type 0
CallSound n b =
    (ts : List Token) (x : Expression × List Token) → call b n ts ≡ Ok x → TakesExpression 15 (suc n) ts x.0 x.1

pub postfix_sound : (n : ℕ) (b : Below)
    → CallSound n b
    → (ts : List Token) (x : Expression × List Token)
    → postfix b n ts ≡ Ok x
    → TakesExpression 14 (suc n) ts x.0 x.1
unfolding postfix
postfix_sound n b c ts x e =
    let p = bind_ok (call b n ts) (λ x. updated_by n x.0 (update_near (head_of x.1)) x.1) x e in
    updated_by_sound n ts p.0.0 (update_near (head_of p.0.1)) p.0.1 x refl (c ts p.0 p.1) p.2

-- ---- unary expressions

pub unary_by_sound : (n : ℕ) (b : Below)
    → SoundBelow n b
    → CallSound n b
    → (p : Prefix) (ts : List Token) (x : Expression × List Token)
    → prefix (head_of ts) ≡ p
    → unary_by b n p ts ≡ Ok x
    → TakesExpression 13 (suc n) ts x.0 x.1
unary_by_sound n b s c deletes ts x f e =
    let p = bind_ok (b.call (tail_of ts))
    (λ x. if is_property x.0 then Ok (trees.unary unaries.Delete x.0, x.1) else Err (stuck (length x.1))) x e in
    let t = test_ok (is_property p.0.0) (Ok (trees.unary unaries.Delete p.0.0, p.0.1)) (stuck (length p.0.1)) x p.2 in
    let a = s.call (tail_of ts) p.0 p.1 in
    takes_ok 13 (suc n) ts (trees.unary unaries.Delete p.0.0) p.0.1 x t.1 (record {
      marks =
          joins (token (fixed (unary_kind unaries.Delete)) ∷ []) (flat p.0.0 ++ []) ts (tail_of ts) p.0.1
          (prefix_delete (head_of ts) f, refl) (joins (flat p.0.0) [] (tail_of ts) p.0.1 p.0.1 a.marks refl);
      well = (a.well, omega (arith, a.level), t.0);
      level = omega arith;
      height = omega (arith, a.height);
    })
unary_by_sound n b s c (a_unary o) ts x f e =
    let p = bind_ok (b.unary (tail_of ts)) (λ x. Ok (trees.unary o x.0, x.1)) x e in
    let a = s.unary (tail_of ts) p.0 p.1 in
    let u = prefix_unary o (head_of ts) f in
    takes_ok 13 (suc n) ts (trees.unary o p.0.0) p.0.1 x p.2 (record {
      marks = (u.0, joins (flat p.0.0) [] (tail_of ts) p.0.1 p.0.1 a.marks refl);
      well = (a.well, a.level, u.1 p.0.0);
      level = omega arith;
      height = omega (arith, a.height);
    })
unary_by_sound n b s c (an_update o) ts x f e =
    let p = bind_ok (b.call (tail_of ts))
    (λ x. if is_target x.0 then Ok (trees.prefix o x.0, x.1) else Err (stuck (length x.1))) x e in
    let t = test_ok (is_target p.0.0) (Ok (trees.prefix o p.0.0, p.0.1)) (stuck (length p.0.1)) x p.2 in
    let a = s.call (tail_of ts) p.0 p.1 in
    takes_ok 13 (suc n) ts (trees.prefix o p.0.0) p.0.1 x t.1 (record {
      marks = (prefix_update o (head_of ts) f, joins (flat p.0.0) [] (tail_of ts) p.0.1 p.0.1 a.marks refl);
      well = (a.well, t.0);
      level = omega arith;
      height = omega (arith, a.height);
    })
unary_by_sound n b s c no_prefix ts x f e = weaker 14 13 (suc n) ts x.0 x.1 (omega arith) (postfix_sound n b c ts x e)

pub unary_sound : (n : ℕ) (b : Below)
    → SoundBelow n b
    → CallSound n b
    → (ts : List Token) (x : Expression × List Token)
    → unary b n ts ≡ Ok x
    → TakesExpression 13 (suc n) ts x.0 x.1
unfolding unary
unary_sound n b s c ts x e = unary_by_sound n b s c (prefix (head_of ts)) ts x refl e

-- ---- operations

-- no operator that binds so tightly is next
abbrev pub Ended : ℕ → List Token → Type 0
Ended m r = operator_from m (operator (head_of r)) ≡ None

-- an operation of this strength that ends before such an operator
abbrev pub TakesOperation : ℕ → ℕ → List Token → Expression × List Token → Type 0
TakesOperation m n s x = TakesExpression m n s x.0 x.1 × Ended m x.1

pub binary_takes : (n : ℕ) (b : Below)
    → SoundBelow n b
    → (s : List Token) (m : ℕ) (l : Expression) (o : BinaryOperator) (ts : List Token)
    → operator_from m (operator (head_of ts)) ≡ Some o
    → TakesExpression m (suc n) s l ts
    → Ended (suc (level l)) ts
    → height l ≤ n
    → (x : Expression × List Token)
    → b.operation (suc (strength o)) (tail_of ts) ≡ Ok x
    → TakesExpression m (suc n) s (trees.binary o l x.0) x.1 × Ended (suc (strength o)) x.1
binary_takes n b snd s m l o ts f t g low x e =
    let is = from_is m (operator (head_of ts)) o f in
    let a = snd.operation (suc (strength o)) (omega (arith, strength_low o)) (tail_of ts) x e in
    let tight : strength o < suc (level l) = from_none (suc (level l)) o
    (subst (λ (p : Option BinaryOperator). operator_from (suc (level l)) p ≡ None) is.0 g) in (
      record {
        marks =
            joins (flat l) (token (fixed (binary_kind o)) ∷ (flat x.0 ++ [])) s ts x.1 t.marks
            (operator_next o (head_of ts) is.0, joins (flat x.0) [] (tail_of ts) x.1 x.1 a.0.marks refl);
        well = (t.well, omega arith, a.0.well, a.0.level);
        level = is.1;
        height = omega (arith, a.0.height);
      },
      a.1,
    )

chain_by_sound : (n : ℕ) (b : Below) → SoundBelow n b → (s : List Token) (m : ℕ) (go : Expression → Reader Expression)
    → ((l : Expression) (ts : List Token) (x : Expression × List Token)
    → TakesExpression m (suc n) s l ts
    → Ended (suc (level l)) ts
    → go l ts ≡ Ok x
    → TakesOperation m (suc n) s x)
    → (l : Expression) (o : Option BinaryOperator) (ts : List Token) (x : Expression × List Token)
    → operator_from m (operator (head_of ts)) ≡ o
    → TakesExpression m (suc n) s l ts
    → Ended (suc (level l)) ts
    → chain_by b n go l o ts ≡ Ok x
    → TakesOperation m (suc n) s x
chain_by_sound n b snd s m go h l None ts x f t g e =
    subst (λ (x : Expression × List Token). TakesOperation m (suc n) s x) (ok_is (l, ts) x e) (t, f)
chain_by_sound n b snd s m go h l (Some o) ts x f t g e =
    let p = low_ok (height l) n ts (b.operation (suc (strength o)) (tail_of ts) >>= λ x. go (trees.binary o l x.0) x.1)
    x e in
    let q = bind_ok (b.operation (suc (strength o)) (tail_of ts)) (λ x. go (trees.binary o l x.0) x.1) x p.1 in
    let w = binary_takes n b snd s m l o ts f t g p.0 q.0 q.1 in
    h (trees.binary o l q.0.0) q.0.1 x w.0 w.1 q.2

pub chain_sound : (n : ℕ) (b : Below)
    → SoundBelow n b
    → (s : List Token) (m k : ℕ) (l : Expression) (ts : List Token) (x : Expression × List Token)
    → TakesExpression m (suc n) s l ts
    → Ended (suc (level l)) ts
    → chain b n m k l ts ≡ Ok x
    → TakesOperation m (suc n) s x
unfolding chain
chain_sound n b snd s m zero l ts x t g e = absurd cc
chain_sound n b snd s m (suc k) l ts x t g e =
    chain_by_sound n b snd s m (λ l r. chain b n m k l r) (λ l r y v w u. chain_sound n b snd s m k l r y v w u) l
    (operator_from m (operator (head_of ts))) ts x refl t g e

pub operation_sound : (n : ℕ) (b : Below)
    → SoundBelow n b
    → CallSound n b
    → (m : ℕ)
    → m ≤ 13
    → (ts : List Token) (x : Expression × List Token)
    → operation b n m ts ≡ Ok x
    → TakesExpression m (suc n) ts x.0 x.1 × (operator_from m (operator (head_of x.1)) ≡ None)
unfolding operation
operation_sound n b s c m le ts x e =
    let p = bind_ok (unary b n ts) (λ x. chain b n m (suc n) x.0 x.1) x e in
    let u = unary_sound n b s c ts p.0 p.1 in
    chain_sound n b s ts m (suc n) p.0.0 p.0.1 x (weaker 13 m (suc n) ts p.0.0 p.0.1 le u)
    (from_past (suc (level p.0.0)) (operator (head_of p.0.1)) (omega (arith, u.level))) p.2
