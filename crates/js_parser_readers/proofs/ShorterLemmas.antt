-- Which tokens the readers of lists' elements leave, and which names statements take.
use Rattle.std.proofs.Common.{◌≡◌, ℕ, ◌<◌, ◌≤◌, Bool, true, false, cond, List, [], ◌∷◌, length, Ok, Err, refl, ap, arith}
use Rattle.js_lexer.specs.declared.token.TokenKind.TheVariants as kinds
use Rattle.js_tree.specs.Trees as trees
use Rattle.js_tree.specs.Trees.{Identifier, Declarator, Statement, Expression}
use Rattle.js_parser_language.specs.Tokens.{Token, after_word, head_of, tail_of, is_on_line}
use Rattle.js_parser_language.specs.Well.{StatementContext, declared_by}
use Rattle.js_parser_language.specs.Kinds.{is_kind}
use Rattle.js_parser_readers.specs.Reading.{stuck, Read, ◌>>=◌, name_at, fresh_name}
use Rattle.js_parser_readers.specs.Classes as classes
use Rattle.js_parser_readers.specs.Classes.{StatementStart, first, ForHead, for_head, ends_return}
use Rattle.js_parser_readers.specs.Productions.{Below, Piece, PieceValues, seq, made, tok, a_statement, a_block, in_braces, an_end, ended, initializer_by, declarator_at, with_declared}
use Rattle.js_parser_readers.specs.Parsing as parsing
use Rattle.js_parser_readers.specs.Parsing.{below, statement, statement_by}
use Rattle.js_parser_readers.proofs.LeafLemmas.{short, shorter, name_short}
use Rattle.js_parser_readers.proofs.NewNameLemmas.{name_of_fresh}
use Rattle.js_parser_readers.proofs.LoopStepLemmas.{tail_shorter}

pub bind_ok : {A B : Type 0} (r : Read A) (f : A × List Token → Read B) (y : B × List Token)
    → (r >>= f) ≡ Ok y
    → (x : A × List Token) × (r ≡ Ok x) × (f x ≡ Ok y)
bind_ok (Ok x) f y e = (x, refl, e)
bind_ok (Err d) f y e = absurd cc

-- ---- fewer tokens

pub fresh_shorter : (taken : List Identifier) (ts : List Token) (n : Identifier) (r : List Token)
    → fresh_name taken ts ≡ Ok (n, r)
    → length r < length ts
fresh_shorter taken ts n r e = shorter name_at ts n r name_short (name_of_fresh taken ts (n, r) e)

pub item_shorter : (n : ℕ) (context : StatementContext) (taken : List Identifier) (ts : List Token) (s : Statement)
    (r : List Token)
    → (below n).item context taken ts ≡ Ok (s, r)
    → length r < length ts
item_shorter n context taken ts s r e = shorter ((below n).item context taken) ts s r ((short n).item context taken) e

abbrev pub read_is : {A : Type 0} → A × List Token → Read A
read_is x = Ok x

pub rest_is : {A : Type 0} (x y : A × List Token) → read_is x ≡ read_is y → x.1 ≡ y.1
rest_is x y e = let p : x ≡ y = cc in ap (λ z. z.1) p

initializer_no_longer : (n : ℕ) (constant : Bool) (m : Identifier) (a : Bool) (ts : List Token)
    (x : Declarator × List Token)
    → initializer_by (below n) constant m a ts ≡ Ok x
    → length x.1 ≤ length ts
initializer_no_longer n constant m true ts x e =
    let p = bind_ok ((below n).assignment (tail_of ts)) (λ y. Ok (trees.declarator m (trees.present y.0), y.1)) x e in
    let q = rest_is (trees.declarator m (trees.present p.0.0), p.0.1) x p.2 in
    omega (
      arith,
      shorter ((below n).assignment) (tail_of ts) p.0.0 p.0.1 ((short n).assignment) p.1,
      tail_shorter ts,
      ap (λ (l : List Token). length l) q,
    )
initializer_no_longer n true m false ts x e = absurd cc
initializer_no_longer n false m false ts x e =
    omega (arith, ap (λ (l : List Token). length l) (rest_is (trees.declarator m trees.omitted, ts) x e))

pub declarator_no_longer : (n : ℕ) (constant : Bool) (taken : List Identifier) (ts : List Token) (d : Declarator)
    (r : List Token)
    → declarator_at (below n) constant taken ts ≡ Ok (d, r)
    → length r ≤ length ts
unfolding declarator_at
declarator_no_longer n constant taken ts d r e =
    let p = bind_ok (fresh_name taken ts)
    (λ m. initializer_by (below n) constant m.0 (is_kind kinds.Assign (head_of m.1)) m.1) (d, r) e in
    omega (
      arith,
      fresh_shorter taken ts p.0.0 p.0.1 p.1,
      initializer_no_longer n constant p.0.0 (is_kind kinds.Assign (head_of p.0.1)) p.0.1 (d, r) p.2,
    )

-- ---- no names

-- what is read declares nothing
abbrev Nothing : Read Statement → Type 0
Nothing (Ok x) = declared_by x.0 ≡ []
Nothing (Err f) = Unit {0}

then_nothing : {A : Type 0} (read : Read A) (f : A × List Token → Read Statement)
    → ((x : A × List Token) → Nothing (f x))
    → Nothing (read >>= f)
then_nothing (Ok x) f h = h x
then_nothing (Err e) f h = tt

made_nothing : (b : Below) (is : List Piece) (make : PieceValues is → Statement)
    → ((v : PieceValues is) → declared_by (make v) ≡ [])
    → (ts : List Token)
    → Nothing (made b is make ts)
made_nothing b is make h ts = then_nothing (seq b is ts) (λ x. Ok (make x.0, x.1)) (λ x. h x.0)

choose_nothing : (c : Bool) (read : Read Statement) (n : ℕ) → Nothing read → Nothing (cond c read (Err (stuck n)))
choose_nothing true read n h = h
choose_nothing false read n h = tt

else_nothing : (b : Below) (c : StatementContext) (e : Expression) (s : Statement) (o : Bool) (ts : List Token)
    → Nothing (parsing.else_by b c e s o ts)
else_nothing b c e s true ts =
    made_nothing b (tok kinds.Else ∷ a_statement c ∷ []) (λ v. trees.if_else e s v.1.0) (λ v. refl) ts
else_nothing b c e s false ts = refl

if_nothing : (b : Below) (c : StatementContext) (ts : List Token) → Nothing (parsing.if_at b c ts)
unfolding parsing.if_at
if_nothing b c ts =
    then_nothing (seq b (parsing.if_items c) ts)
    (λ x. parsing.else_by b c x.0.1.1.0 x.0.1.1.1.1.0 (is_kind kinds.Else (head_of x.1)) x.1)
    (λ x. else_nothing b c x.0.1.1.0 x.0.1.1.1.1.0 (is_kind kinds.Else (head_of x.1)) x.1)

for_nothing : (b : Below) (c : StatementContext) (h : ForHead) (ts : List Token) → Nothing (parsing.for_by b c h ts)
for_nothing b c (classes.each constant) ts =
    made_nothing b (parsing.for_of_items c constant)
    (λ v. trees.for_of constant v.1.1.1.0 v.1.1.1.1.1.0 v.1.1.1.1.1.1.1.0) (λ v. refl) ts
for_nothing b c (classes.declares constant) ts =
    made_nothing b (parsing.for_lexical_items c constant)
    (λ v. trees.for_lexical constant v.1.1.1.0 v.1.1.1.1.1.0 v.1.1.1.1.1.1.0 v.1.1.1.1.1.1.1.0) (λ v. refl) ts
for_nothing b c classes.plain_head ts =
    made_nothing b (parsing.for_items c) (λ v. trees.for v.1.1.0 v.1.1.1.0 v.1.1.1.1.0 v.1.1.1.1.1.0) (λ v. refl) ts

return_nothing : (b : Below) (o : Bool) (ts : List Token) → Nothing (parsing.return_by b o ts)
return_nothing b true ts =
    made_nothing b (tok kinds.Return ∷ an_end after_word ∷ []) (λ v. trees.return trees.omitted) (λ v. refl) ts
return_nothing b false ts =
    made_nothing b (tok kinds.Return ∷ ended ∷ []) (λ v. trees.return (trees.present v.1.0)) (λ v. refl) ts

throw_nothing : (b : Below) (o : Bool) (ts : List Token) → Nothing (parsing.throw_by b o ts)
throw_nothing b true ts = made_nothing b (tok kinds.Throw ∷ ended ∷ []) (λ v. trees.throw v.1.0) (λ v. refl) ts
throw_nothing b false ts = tt

try_nothing : (b : Below) (c : StatementContext) (ts : List Token) → Nothing (parsing.try_at b c ts)
unfolding parsing.try_at
try_nothing b c ts =
    then_nothing (seq b (tok kinds.Try ∷ a_block c [] ∷ []) ts)
    (λ x. parsing.handler_at b c x.1 >>= λ h. parsing.finalizer_at b c h.0 h.1 >>= λ f. Ok
    (trees.try x.0.1.0 h.0 f.0, f.1))
    (λ x.
    then_nothing (parsing.handler_at b c x.1)
    (λ h. parsing.finalizer_at b c h.0 h.1 >>= λ f. Ok (trees.try x.0.1.0 h.0 f.0, f.1)) (λ h.
    then_nothing (parsing.finalizer_at b c h.0 h.1) (λ f. Ok (trees.try x.0.1.0 h.0 f.0, f.1)) (λ f. refl)))

statement_nothing : (b : Below) (c : StatementContext) (f : StatementStart) (ts : List Token) → Nothing (statement_by b c f ts)
unfolding parsing.for_at
statement_nothing b c classes.a_block ts = made_nothing b (in_braces c [] ∷ []) (λ v. trees.block v.0) (λ v. refl) ts
statement_nothing b c (classes.a_lexical constant) ts = tt
statement_nothing b c classes.a_semicolon ts = refl
statement_nothing b c classes.an_if ts = if_nothing b c ts
statement_nothing b c classes.a_do ts =
    made_nothing b (parsing.do_items c) (λ v. trees.do_while v.1.0 v.1.1.1.1.0) (λ v. refl) ts
statement_nothing b c classes.a_while ts =
    made_nothing b (parsing.while_items c) (λ v. trees.while v.1.1.0 v.1.1.1.1.0) (λ v. refl) ts
statement_nothing b c classes.a_for ts = for_nothing b c (for_head (tail_of (tail_of ts))) ts
statement_nothing b c classes.a_continue ts =
    choose_nothing c.in_loop (made b (tok kinds.Continue ∷ an_end after_word ∷ []) (λ v. trees.continue) ts) (length ts)
    (made_nothing b (tok kinds.Continue ∷ an_end after_word ∷ []) (λ v. trees.continue) (λ v. refl) ts)
statement_nothing b c classes.a_break ts =
    choose_nothing c.in_loop (made b (tok kinds.Break ∷ an_end after_word ∷ []) (λ v. trees.break) ts) (length ts)
    (made_nothing b (tok kinds.Break ∷ an_end after_word ∷ []) (λ v. trees.break) (λ v. refl) ts)
statement_nothing b c classes.a_return ts =
    choose_nothing c.in_function (parsing.return_by b (ends_return (head_of (tail_of ts))) ts) (length ts)
    (return_nothing b (ends_return (head_of (tail_of ts))) ts)
statement_nothing b c classes.a_throw ts = throw_nothing b (is_on_line (head_of (tail_of ts))) ts
statement_nothing b c classes.a_try ts = try_nothing b c ts
statement_nothing b c classes.a_debugger ts =
    made_nothing b (tok kinds.Debugger ∷ an_end after_word ∷ []) (λ v. trees.debugger) (λ v. refl) ts
statement_nothing b c classes.a_function ts = tt
statement_nothing b c classes.an_expression ts = made_nothing b (ended ∷ []) (λ v. trees.expression v.0) (λ v. refl) ts

-- a statement that is no declaration takes no names
pub takes_nothing : (n : ℕ) (context : StatementContext) (taken : List Identifier) (ts : List Token) (s : Statement)
    (r : List Token)
    → statement (below n) context ts ≡ Ok (s, r)
    → taken ≡ with_declared taken s
unfolding statement
takes_nothing n context taken ts s r e =
    let h = statement_nothing (below n) context (first (head_of ts)) ts in
    let k : Nothing (Ok (s, r)) = rw e at h in
    rw k refl
