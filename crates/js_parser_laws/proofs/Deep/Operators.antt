-- Where a tree would be too deep: members, calls and operators up to the height that is allowed.
use Rattle.std.proofs.Common.{◌≡◌, ℕ, zero, suc, ◌+◌, ◌≤◌, Bool, true, false, cond, List, [], ◌∷◌, length, Some, None, Ok, Err, refl, arith}
use Rattle.std.specs.Prelude.{nat_le}
use Rattle.std.proofs.lemmas.Bool.{leb-true}
use Rattle.js_lexer.specs.declared.token.TokenKind.TheVariants as kinds
use Rattle.js_tree_operators.specs.declared.operator.UnaryOperator.TheVariants as unaries
use Rattle.js_tree.specs.Trees as trees
use Rattle.js_tree.specs.Trees.{Expression}
use Rattle.js_parser_language.specs.Tokens.{head_of, tail_of}
use Rattle.js_parser_language.specs.Well.{strength, is_property}
use Rattle.js_tree.specs.Targets.{is_target}
use Rattle.js_tree.specs.Height.{height}
use Rattle.js_parser_language.specs.Kinds.{is_kind}
use Rattle.js_parser_readers.specs.Reading.{stuck, deep, Read, Reader, ◌>>=◌, word_at}
use Rattle.js_parser_readers.specs.Classes as classes
use Rattle.js_parser_readers.specs.Classes.{CallTail, dot, key, no_link, link, update_near, deletes, a_unary, an_update, no_prefix, prefix, operator}
use Rattle.js_parser_readers.specs.Productions.{Below, more_assignments, Piece, tok, an_expression, arguments, PieceValues, seq, made}
use Rattle.js_parser_readers.specs.Parsing.{primary, linked_by, links_by, links, call, updated_by, postfix, unary_by, unary, operator_from, chain_by, chain, operation, assignment, comma_by, expression}
use Rattle.js_parser_laws.proofs.Again.Level.{height_positive}
use Rattle.js_parser_laws.proofs.Follows.Tools.{Follows, past}
use Rattle.js_parser_laws.proofs.Follows.Parts.{Pair, word_follows, seq_follows, more_assignments_follows}
use Rattle.js_parser_laws.proofs.Follows.Expressions.{primary_follows, call_follows, unary_follows, tested}
use Rattle.js_parser_laws.proofs.Deep.Tools.{deep_is, Deepens, DeepensOn, on, quiet, deep_gives, deep_past, deep_peeks, deep_peeks_all, deep_then, deep_makes, deep_as}
use Rattle.js_parser_laws.proofs.Deep.Parts.{DeepBelow, word_deepens, more_assignments_deepens, seq_deepens}
use Rattle.js_parser_laws.proofs.Deep.Expressions.{primary_deepens, updated_deepens}
use Rattle.js_parser_laws.proofs.Follows.Statements.{made_of}

-- ---- members and calls

goes_on_by : {A B V : Type 0} (x : Read V) (make : V → A) (go : A → Reader B)
    → (made_of make x >>= λ z. go z.0 z.1) ≡ (x >>= λ y. go (make y.0) y.1)
goes_on_by (Ok y) make go = refl
goes_on_by (Err e) make go = refl

made_on : (b : Below)
    → Pair b b
    → DeepBelow b
    → (n : ℕ) (is : List Piece) (make : PieceValues is → Expression) (go : Expression → Reader Expression)
    → ((v : PieceValues is) → Deepens n (go (make v)))
    → Deepens n (λ ts. made b is make ts >>= λ x. go x.0 x.1)
made_on b p d n is make go h =
    deep_as n (λ ts. seq b is ts >>= λ y. go (make y.0) y.1) (λ ts. made b is make ts >>= λ x. go x.0 x.1)
    (λ ts. goes_on_by (seq b is ts) make go)
    (deep_then n (λ ts. seq b is ts) (λ v ts. go (make v) ts) (seq_follows b b p is) (seq_deepens b p d n is) h)

-- each form is one higher
linked_on : (b : Below)
    → Pair b b
    → DeepBelow b
    → (n : ℕ) (e : Expression) (l : CallTail) (go : Expression → Reader Expression)
    → ((f : Expression) → suc (height e) ≤ height f → Deepens n (go f))
    → Deepens n (λ ts. linked_by b e l ts >>= λ x. go x.0 x.1)
linked_on b p d n e dot go h =
    deep_as n (λ ts. word_at (tail_of ts) >>= λ y. go (trees.member e y.0) y.1)
    (λ ts. linked_by b e dot ts >>= λ x. go x.0 x.1)
    (λ ts. goes_on_by (word_at (tail_of ts)) (λ w. trees.member e w) go)
    (deep_then n (λ ts. word_at (tail_of ts)) (λ w ts. go (trees.member e w) ts)
    (past (λ ts. word_at ts) (λ ts. word_at ts) word_follows) (deep_past n (λ ts. word_at ts) (word_deepens n))
    (λ w. h (trees.member e w) (omega arith)))
linked_on b p d n e key go h =
    made_on b p d n (tok kinds.LeftBracket ∷ an_expression ∷ tok kinds.RightBracket ∷ []) (λ v. trees.index e v.1.0) go
    (λ v. h (trees.index e v.1.0) (omega arith))
linked_on b p d n e classes.arguments go h =
    made_on b p d n (tok kinds.LeftParenthesis ∷ arguments kinds.RightParenthesis ∷ []) (λ v. trees.call e v.1.0) go
    (λ v. h (trees.call e v.1.0) (omega arith))
linked_on b p d n e no_link go h = quiet n (λ ts. Err (stuck (length ts))) (λ ts j e. absurd cc)

-- A test that holds can be used behind it.
limit_with : {A : Type 0} (n h k : ℕ) (f : Reader A)
    → (h ≤ k → Deepens n f)
    → DeepensOn n (λ ts. cond (nat_le h k) (f ts) (Err (deep (length (tail_of ts)))))
limit_with {A} n h k f g = by_test (nat_le h k) refl
  where
    by_test : (v : Bool) → nat_le h k ≡ v → DeepensOn n (λ ts. cond v (f ts) (Err (deep (length (tail_of ts)))))
    by_test true e = on n f (g (leb-true h k e))
    by_test false e =
        record {
          at = λ t ts l j q. record {
            before = [];
            here = t;
            left = ts;
            parts = refl;
            counted = deep_is {A = A}
                (length ts) j q;
            never = λ r x o. absurd cc;
          };
        }

link_turn : (b : Below) (m : ℕ)
    → Pair b b
    → DeepBelow b
    → (n : ℕ) (e : Expression) (go : Expression → Reader Expression)
    → (height e ≤ m → (f : Expression) → suc (height e) ≤ height f → Deepens n (go f))
    → Deepens n (λ ts. links_by b m go e (link (head_of ts)) ts)
link_turn b m p d n e go h = deep_peeks n link (λ v ts. links_by b m go e v ts) (λ j e. absurd cc) (elim [
  | no_link ↦ on n (λ ts. Ok (e, ts)) (deep_gives n e)
  | dot ↦ turn dot
  | key ↦ turn key
  | classes.arguments ↦ turn classes.arguments
])
  where
    turn : (l : CallTail)
        → DeepensOn n
        (λ ts. cond (nat_le (height e) m) (linked_by b e l ts >>= λ x. go x.0 x.1)
        (Err (deep (length (tail_of ts)))))
    turn l =
        limit_with n (height e) m (λ ts. linked_by b e l ts >>= λ x. go x.0 x.1) (λ le. linked_on b p d n e l go (h le))

-- the turns suffice, since each makes a tree one higher
pub links_deepens : (b : Below) (m : ℕ)
    → Pair b b
    → DeepBelow b
    → (n k : ℕ) (e : Expression)
    → suc m ≤ k + height e
    → Deepens n (λ ts. links b m (suc k) e ts)
unfolding links
links_deepens b m p d n zero e low =
    link_turn b m p d n e (λ f r. links b m zero f r) (λ le f g. absurd (omega (arith, le, low)))
links_deepens b m p d n (suc k) e low =
    link_turn b m p d n e (λ f r. links b m (suc k) f r) (λ le f g. links_deepens b m p d n k f (omega (arith, low, g)))

pub call_deepens : (b : Below) (m : ℕ) → Pair b b → DeepBelow b → (n : ℕ) → Deepens n (λ ts. call b m ts)
unfolding call
call_deepens b m p d n =
    deep_then n (λ ts. primary b m ts) (λ e ts. links b m (suc m) e ts) (primary_follows b b m m (omega arith) p)
    (primary_deepens b m p d n) (λ e. links_deepens b m p d n m e (omega (arith, height_positive e)))

-- ---- operators

pub postfix_deepens : (b : Below) (m : ℕ) → Pair b b → DeepBelow b → (n : ℕ) → Deepens n (λ ts. postfix b m ts)
unfolding postfix
postfix_deepens b m p d n =
    deep_then n (λ ts. call b m ts) (λ e ts. updated_by m e (update_near (head_of ts)) ts)
    (call_follows b b m m (omega arith) p) (call_deepens b m p d n) (λ e. updated_deepens m n e)

tested_deepens : (n : ℕ) (v : Bool) (e : Expression) → Deepens n (tested v e)
tested_deepens n true e = deep_gives n e
tested_deepens n false e = quiet n (λ ts. Err (stuck (length ts))) (λ ts j e. absurd cc)

pub unary_deepens : (b : Below) (m : ℕ) → Pair b b → DeepBelow b → (n : ℕ) → Deepens n (λ ts. unary b m ts)
unfolding unary
unary_deepens b m p d n = deep_peeks_all n prefix (λ v ts. unary_by b m v ts) (elim [
  | deletes ↦ deep_then n (λ ts. b.call (tail_of ts)) (λ e ts. tested (is_property e) (trees.unary unaries.Delete e) ts)
      (past b.call b.call p.both.call) (deep_past n b.call (d.call n))
      (λ e. tested_deepens n (is_property e) (trees.unary unaries.Delete e))
  | a_unary o ↦ deep_makes n (λ ts. b.unary (tail_of ts)) (λ e. trees.unary o e) (past b.unary b.unary p.both.unary)
      (deep_past n b.unary (d.unary n))
  | an_update o ↦ deep_then n (λ ts. b.call (tail_of ts)) (λ e ts. tested (is_target e) (trees.prefix o e) ts)
      (past b.call b.call p.both.call) (deep_past n b.call (d.call n))
      (λ e. tested_deepens n (is_target e) (trees.prefix o e))
  | no_prefix ↦ postfix_deepens b m p d n
])

chain_turn : (b : Below) (m low : ℕ)
    → Pair b b
    → DeepBelow b
    → (n : ℕ) (l : Expression) (go : Expression → Reader Expression)
    → (height l ≤ m → (f : Expression) → suc (height l) ≤ height f → Deepens n (go f))
    → Deepens n (λ ts. chain_by b m go l (operator_from low (operator (head_of ts))) ts)
chain_turn b m low p d n l go h =
    deep_peeks n (λ o. operator_from low (operator o)) (λ v ts. chain_by b m go l v ts) (λ j e. absurd cc) (elim [
      | None ↦ on n (λ ts. Ok (l, ts)) (deep_gives n l)
      | Some o ↦ limit_with n (height l) m
          (λ ts. b.operation (suc (strength o)) (tail_of ts) >>= λ x. go (trees.binary o l x.0) x.1)
          (λ le. deep_then n (λ ts. b.operation (suc (strength o)) (tail_of ts)) (λ r ts. go (trees.binary o l r) ts)
          (past (λ ts. b.operation (suc (strength o)) ts) (λ ts. b.operation (suc (strength o)) ts)
          (p.both.operation (suc (strength o))))
          (deep_past n (λ ts. b.operation (suc (strength o)) ts) (d.operation n (suc (strength o))))
          (λ r. h le (trees.binary o l r) (omega arith)))
    ])

pub chain_deepens : (b : Below) (m low : ℕ)
    → Pair b b
    → DeepBelow b
    → (n k : ℕ) (l : Expression)
    → suc m ≤ k + height l
    → Deepens n (λ ts. chain b m low (suc k) l ts)
unfolding chain
chain_deepens b m low p d n zero l e =
    chain_turn b m low p d n l (λ f r. chain b m low zero f r) (λ le f g. absurd (omega (arith, le, e)))
chain_deepens b m low p d n (suc k) l e =
    chain_turn b m low p d n l (λ f r. chain b m low (suc k) f r)
    (λ le f g. chain_deepens b m low p d n k f (omega (arith, e, g)))

pub operation_deepens : (b : Below) (m : ℕ)
    → Pair b b
    → DeepBelow b
    → (n low : ℕ)
    → Deepens n (λ ts. operation b m low ts)
unfolding operation
operation_deepens b m p d n low =
    deep_then n (λ ts. unary b m ts) (λ e ts. chain b m low (suc m) e ts) (unary_follows b b m m (omega arith) p)
    (unary_deepens b m p d n) (λ e. chain_deepens b m low p d n m e (omega (arith, height_positive e)))

-- ---- expressions

pub comma_deepens : (b : Below) (m : ℕ)
    → Pair b b
    → DeepBelow b
    → (n : ℕ) (e : Expression)
    → Deepens n (λ ts. comma_by b m e (is_kind kinds.Comma (head_of ts)) ts)
comma_deepens b m p d n e =
    deep_peeks n (λ o. is_kind kinds.Comma o) (λ v ts. comma_by b m e v ts) (λ j e. absurd cc) (elim [
      | true ↦ limit_with n (height e) m
          (λ ts. more_assignments b ts >>= λ x. Ok (trees.comma (trees.an_expression e x.0), x.1))
          (λ le. deep_makes n (λ ts. more_assignments b ts) (λ es. trees.comma (trees.an_expression e es))
          (more_assignments_follows b b p) (more_assignments_deepens b p d n))
      | false ↦ on n (λ ts. Ok (e, ts)) (deep_gives n e)
    ])

-- an expression keeps it where an assignment does
pub expression_deepens : (b : Below) (m : ℕ)
    → Pair b b
    → DeepBelow b
    → (n : ℕ)
    → Follows (λ ts. assignment b m ts) (λ ts. assignment b m ts)
    → Deepens n (λ ts. assignment b m ts)
    → Deepens n (λ ts. expression b m ts)
unfolding expression
expression_deepens b m p d n h a =
    deep_then n (λ ts. assignment b m ts) (λ e ts. comma_by b m e (is_kind kinds.Comma (head_of ts)) ts) h a
    (λ e. comma_deepens b m p d n e)
