-- Answers depend on the tokens read: statements, where what reads below them is so.
use Rattle.std.proofs.Common.{◌≡◌, suc, Bool, true, false, cond, List, [], ◌∷◌, length, Option, Some, None, Ok, Err, refl, ◌∙◌}
use Rattle.std.specs.Prelude.{◌&&◌, codes}
use Rattle.js_lexer.specs.declared.token.TokenKind.{TokenKind}
use Rattle.js_lexer.specs.declared.token.TokenKind.TheVariants as kinds
use Rattle.js_tree.specs.Trees as trees
use Rattle.js_tree.specs.Trees.{Identifier, Expression, Declarator, Declarators, Statement, Handler}
use Rattle.js_parser_language.specs.Tokens.{Token, fixed, after_word, head_of, tail_of, IsNext, is_on_line}
use Rattle.js_parser_language.specs.Flat.{end_of_declarators}
use Rattle.js_parser_language.specs.Well.{StatementContext, loop_body}
use Rattle.js_tree.specs.Views.{declarators}
use Rattle.js_parser_language.specs.Kinds.{is_kind}
use Rattle.js_parser_readers.specs.Classes as classes
use Rattle.js_parser_readers.specs.Classes.{StatementStart, first, ends_return, is_name, ForHead, each, declares, plain_head, for_head_by, for_head}
use Rattle.js_parser_readers.specs.Reading.{stuck, Read, Reader, ◌>>=◌, expect, text_of, name_at, fresh_name, semicolon_at, others}
use Rattle.js_parser_readers.specs.Productions.{Below, code_at, initializer_by, declarator_at, with_declarator, declarators_at, Piece, tok, a_name, the_name, an_assignment, optional, ended, an_end, declared, a_statement, a_block, in_braces, PieceValue, PieceValues, seq, made}
use Rattle.js_parser_readers.specs.Productions as productions
use Rattle.js_parser_readers.specs.Parsing.{else_by, if_items, if_at, let_kind, do_items, while_items, for_by, for_at, return_by, throw_by, catch_by, handler_by, handler_at, finalizer_by, finalizer_at, try_at, statement_by, statement, lexical_at, declaration_at, item_by, item}
use Rattle.js_parser_laws.proofs.TokenLemmas.{expect_again}
use Rattle.js_parser_laws.proofs.Follows.Tools.{Follows, gives, sticks, past, peeks, binds, makes, tests, alike, shortens}
use Rattle.js_parser_laws.proofs.Follows.Parts.{Pair, on_right, expect_follows, name_follows, fresh_follows, semicolon_follows, others_follows, code_follows, initializer_follows, declarator_follows, declarators_follows, seq_follows, made_follows}

-- ---- the first item of a production

abbrev with_first : (i : Piece) (is : List Piece) → PieceValue i → Read (PieceValues is) → Read (PieceValues (i ∷ is))
with_first i is v y = y >>= λ z. Ok ((v, z.0), z.1)

abbrev pub made_of : {A V : Type 0} → (V → A) → Read V → Read A
made_of make x = x >>= λ z. Ok (make z.0, z.1)

made_with_first : {A : Type 0} (i : Piece) (is : List Piece) (make : PieceValues (i ∷ is) → A) (v : PieceValue i)
    (y : Read (PieceValues is))
    → made_of make (with_first i is v y) ≡ made_of (λ w. make (v, w)) y
made_with_first i is make v (Ok z) = refl
made_with_first i is make v (Err e) = refl

lead_of : {A : Type 0} (b : Below) (i : Piece) (is : List Piece) (make : PieceValues (i ∷ is) → A) (x : Read (PieceValue i))
    → made_of make (x >>= λ y. with_first i is y.0 (seq b is y.1)) ≡ (x >>= λ y. made b is (λ w. make (y.0, w)) y.1)
lead_of b i is make (Ok y) = made_with_first i is make y.0 (seq b is y.1)
lead_of b i is make (Err e) = refl

-- a production is read item by item
lead : {A : Type 0} (b : Below) (i : Piece) (is : List Piece) (make : PieceValues (i ∷ is) → A) (ts : List Token)
    → made b (i ∷ is) make ts ≡ (productions.item b i ts >>= λ y. made b is (λ w. make (y.0, w)) y.1)
lead b i is make ts = lead_of b i is make (productions.item b i ts)

abbrev a_token : Bool → Reader (Unit {0})
a_token v ts = cond v (Ok (tt, tail_of ts)) (Err (stuck (length ts)))

behind_by : {A V : Type 0} (look : List Token → V) (f : V → Reader A) (ts : List Token) (v : Bool)
    → (a_token v ts >>= λ x. f (look (tail_of ts)) x.1) ≡ (a_token v ts >>= λ x. f (look x.1) x.1)
behind_by look f ts true = refl
behind_by look f ts false = refl

-- what a class of the tokens behind the first decides, where the first is of a kind
behind_kind : {A V : Type 0} (k : TokenKind) (look : List Token → V) (f : V → Reader A) (ts : List Token)
    → (expect k ts >>= λ x. f (look (tail_of ts)) x.1) ≡ (expect k ts >>= λ x. f (look x.1) x.1)
unfolding expect
behind_kind k look f ts = behind_by look f ts (is_kind k (head_of ts))

-- ---- if

else_follows : (b c : Below)
    → Pair b c
    → (context : StatementContext) (e : Expression) (s : Statement) (v : Bool)
    → Follows (λ ts. else_by b context e s v ts) (λ ts. else_by c context e s v ts)
else_follows b c p context e s true =
    made_follows b c p (tok kinds.Else ∷ a_statement context ∷ []) (λ v. trees.if_else e s v.1.0)
else_follows b c p context e s false = gives (trees.if_then e s)

if_follows : (b c : Below)
    → Pair b c
    → (context : StatementContext)
    → Follows (λ ts. if_at b context ts) (λ ts. if_at c context ts)
unfolding if_at
if_follows b c p context =
    binds (λ ts. seq b (if_items context) ts) (λ ts. seq c (if_items context) ts)
    (λ v ts. else_by b context v.1.1.0 v.1.1.1.1.0 (is_kind kinds.Else (head_of ts)) ts)
    (λ v ts. else_by c context v.1.1.0 v.1.1.1.1.0 (is_kind kinds.Else (head_of ts)) ts)
    (seq_follows b c p (if_items context))
    (λ v. peeks (λ o. is_kind kinds.Else o) (λ w ts. else_by b context v.1.1.0 v.1.1.1.1.0 w ts)
    (λ w ts. else_by c context v.1.1.0 v.1.1.1.1.0 w ts) (else_follows b c p context v.1.1.0 v.1.1.1.1.0))

-- ---- return and throw

abbrev pub return_rest : Below → Bool → Reader Statement
return_rest b true ts = made b (an_end after_word ∷ []) (λ v. trees.return trees.omitted) ts
return_rest b false ts = made b (ended ∷ []) (λ v. trees.return (trees.present v.0)) ts

return_is_by : (b : Below) (v : Bool) (ts : List Token)
    → return_by b v ts ≡ (expect kinds.Return ts >>= λ x. return_rest b v x.1)
return_is_by b true ts = lead b (tok kinds.Return) (an_end after_word ∷ []) (λ v. trees.return trees.omitted) ts
return_is_by b false ts = lead b (tok kinds.Return) (ended ∷ []) (λ v. trees.return (trees.present v.1.0)) ts

abbrev ends_next : List Token → Bool
ends_next ts = ends_return (head_of ts)

pub return_is : (b : Below) (ts : List Token)
    → return_by b (ends_return (head_of (tail_of ts))) ts ≡
    (expect kinds.Return ts >>= λ x. return_rest b (ends_return (head_of x.1)) x.1)
return_is b ts =
    return_is_by b (ends_return (head_of (tail_of ts))) ts ∙ behind_kind kinds.Return ends_next (return_rest b) ts

return_follows : (b c : Below)
    → Pair b c
    → Follows (λ ts. return_by b (ends_return (head_of (tail_of ts))) ts)
    (λ ts. return_by c (ends_return (head_of (tail_of ts))) ts)
return_follows b c p =
    alike (λ ts. expect kinds.Return ts >>= λ x. return_rest b (ends_return (head_of x.1)) x.1)
    (λ ts. return_by b (ends_return (head_of (tail_of ts))) ts)
    (λ ts. expect kinds.Return ts >>= λ x. return_rest c (ends_return (head_of x.1)) x.1)
    (λ ts. return_by c (ends_return (head_of (tail_of ts))) ts) (return_is b) (return_is c)
    (binds (λ ts. expect kinds.Return ts) (λ ts. expect kinds.Return ts)
    (λ x ts. return_rest b (ends_return (head_of ts)) ts) (λ x ts. return_rest c (ends_return (head_of ts)) ts)
    (expect_follows kinds.Return)
    (λ x. peeks ends_return (λ v ts. return_rest b v ts) (λ v ts. return_rest c v ts) (elim [
      | true ↦ made_follows b c p (an_end after_word ∷ []) (λ v. trees.return trees.omitted)
      | false ↦ made_follows b c p (ended ∷ []) (λ v. trees.return (trees.present v.0))
    ])))

-- behind throw
abbrev pub throw_rest : Below → Bool → Reader Statement
throw_rest b true ts = made b (ended ∷ []) (λ v. trees.throw v.0) ts
throw_rest b false ts = Err (stuck (length ts))

throw_kind : (k : TokenKind) → classes.first_by k ≡ classes.a_throw → k ≡ kinds.Throw
throw_kind kinds.Throw e = refl
throw_kind _ e = absurd cc

throw_next : (o : Option Token) → first o ≡ classes.a_throw → IsNext (fixed kinds.Throw) o
throw_next None e = absurd cc
throw_next (Some t) e = throw_kind t.kind e

throw_is : (b : Below) (ts : List Token)
    → first (head_of ts) ≡ classes.a_throw
    → (v : Bool)
    → throw_by b v ts ≡ throw_rest b v (tail_of ts)
throw_is b ts e true =
    lead b (tok kinds.Throw) (ended ∷ []) (λ v. trees.throw v.1.0) ts
    ∙ rw (expect_again kinds.Throw ts (tail_of ts) (throw_next (head_of ts) e, refl)) refl
throw_is b ts e false = refl

throw_follows : (b c : Below)
    → Pair b c
    → Follows (λ ts. throw_rest b (is_on_line (head_of ts)) ts) (λ ts. throw_rest c (is_on_line (head_of ts)) ts)
throw_follows b c p = peeks is_on_line (λ v ts. throw_rest b v ts) (λ v ts. throw_rest c v ts) (elim [
  | true ↦ made_follows b c p (ended ∷ []) (λ v. trees.throw v.0)
  | false ↦ sticks
])

-- ---- try

catch_follows : (b c : Below)
    → Pair b c
    → (context : StatementContext) (v : Bool)
    → Follows (λ ts. catch_by b context v ts) (λ ts. catch_by c context v ts)
catch_follows b c p context true =
    let items : List Piece = tok kinds.LeftParenthesis ∷ a_name ∷ tok kinds.RightParenthesis ∷ [] in
    binds (λ ts. seq b (tok kinds.LeftParenthesis ∷ a_name ∷ tok kinds.RightParenthesis ∷ []) ts)
    (λ ts. seq c (tok kinds.LeftParenthesis ∷ a_name ∷ tok kinds.RightParenthesis ∷ []) ts)
    (λ n ts. b.block context (n.1.0 ∷ []) ts >>= λ x. Ok (trees.catch (Some n.1.0) x.0, x.1))
    (λ n ts. c.block context (n.1.0 ∷ []) ts >>= λ x. Ok (trees.catch (Some n.1.0) x.0, x.1))
    (seq_follows b c p (tok kinds.LeftParenthesis ∷ a_name ∷ tok kinds.RightParenthesis ∷ []))
    (λ n. makes (λ ts. b.block context (n.1.0 ∷ []) ts) (λ ts. c.block context (n.1.0 ∷ []) ts)
    (λ ss. trees.catch (Some n.1.0) ss) (p.both.block context (n.1.0 ∷ [])))
catch_follows b c p context false =
    makes (λ ts. b.block context [] ts) (λ ts. c.block context [] ts) (λ ss. trees.catch None ss)
    (p.both.block context [])

pub handler_follows : (b c : Below)
    → Pair b c
    → (context : StatementContext)
    → Follows (λ ts. handler_at b context ts) (λ ts. handler_at c context ts)
unfolding handler_at
handler_follows b c p context =
    peeks (λ o. is_kind kinds.Catch o) (λ v ts. handler_by b context v ts) (λ v ts. handler_by c context v ts) (elim [
      | true ↦ past (λ ts. catch_by b context (is_kind kinds.LeftParenthesis (head_of ts)) ts)
          (λ ts. catch_by c context (is_kind kinds.LeftParenthesis (head_of ts)) ts)
          (peeks (λ o. is_kind kinds.LeftParenthesis o) (λ v ts. catch_by b context v ts)
          (λ v ts. catch_by c context v ts)
          (catch_follows b c p context))
      | false ↦ gives trees.no_catch
    ])

finalizer_by_follows : (b c : Below)
    → Pair b c
    → (context : StatementContext) (h : Handler) (v : Bool)
    → Follows (λ ts. finalizer_by b context h v ts) (λ ts. finalizer_by c context h v ts)
finalizer_by_follows b c p context h true =
    made_follows b c p (tok kinds.Finally ∷ a_block context [] ∷ []) (λ v. trees.finally v.1.0)
finalizer_by_follows b c p context trees.no_catch false = sticks
finalizer_by_follows b c p context (trees.catch n ss) false = gives trees.no_finally

pub finalizer_follows : (b c : Below)
    → Pair b c
    → (context : StatementContext) (h : Handler)
    → Follows (λ ts. finalizer_at b context h ts) (λ ts. finalizer_at c context h ts)
unfolding finalizer_at
finalizer_follows b c p context h =
    peeks (λ o. is_kind kinds.Finally o) (λ v ts. finalizer_by b context h v ts) (λ v ts. finalizer_by c context h v ts)
    (finalizer_by_follows b c p context h)

try_follows : (b c : Below)
    → Pair b c
    → (context : StatementContext)
    → Follows (λ ts. try_at b context ts) (λ ts. try_at c context ts)
unfolding try_at
try_follows b c p context =
    binds (λ ts. seq b (tok kinds.Try ∷ a_block context [] ∷ []) ts)
    (λ ts. seq c (tok kinds.Try ∷ a_block context [] ∷ []) ts)
    (λ x ts. handler_at b context ts >>= λ h. finalizer_at b context h.0 h.1 >>= λ f. Ok (trees.try x.1.0 h.0 f.0, f.1))
    (λ x ts. handler_at c context ts >>= λ h. finalizer_at c context h.0 h.1 >>= λ f. Ok
    (trees.try x.1.0 h.0 f.0, f.1))
    (seq_follows b c p (tok kinds.Try ∷ a_block context [] ∷ []))
    (λ x. binds (λ ts. handler_at b context ts) (λ ts. handler_at c context ts)
    (λ h ts. finalizer_at b context h ts >>= λ f. Ok (trees.try x.1.0 h f.0, f.1))
    (λ h ts. finalizer_at c context h ts >>= λ f. Ok (trees.try x.1.0 h f.0, f.1)) (handler_follows b c p context)
    (λ h. makes (λ ts. finalizer_at b context h ts) (λ ts. finalizer_at c context h ts) (λ f. trees.try x.1.0 h f)
    (finalizer_follows b c p context h)))

-- ---- declarations

lexical_follows : (b c : Below)
    → Pair b c
    → (constant : Bool) (taken : List Identifier)
    → Follows (λ ts. lexical_at b constant taken ts) (λ ts. lexical_at c constant taken ts)
unfolding lexical_at
lexical_follows b c p constant taken =
    binds (λ ts. declarators_at b constant taken (tail_of ts)) (λ ts. declarators_at c constant taken (tail_of ts))
    (λ ds ts. semicolon_at (end_of_declarators ds) ts >>= λ s. Ok (trees.lexical constant ds, s.1))
    (λ ds ts. semicolon_at (end_of_declarators ds) ts >>= λ s. Ok (trees.lexical constant ds, s.1))
    (past (λ ts. declarators_at b constant taken ts) (λ ts. declarators_at c constant taken ts)
    (declarators_follows b c p constant taken))
    (λ ds. makes (λ ts. semicolon_at (end_of_declarators ds) ts) (λ ts. semicolon_at (end_of_declarators ds) ts)
    (λ s. trees.lexical constant ds) (semicolon_follows (end_of_declarators ds)))

declaration_follows : (b c : Below)
    → Pair b c
    → (taken : List Identifier)
    → Follows (λ ts. declaration_at b taken ts) (λ ts. declaration_at c taken ts)
unfolding declaration_at
declaration_follows b c p taken =
    binds (λ ts. fresh_name taken (tail_of ts)) (λ ts. fresh_name taken (tail_of ts))
    (λ n ts. code_at b ts >>= λ f. Ok (trees.declared_function n f.0.parameters f.0.body, f.1))
    (λ n ts. code_at c ts >>= λ f. Ok (trees.declared_function n f.0.parameters f.0.body, f.1))
    (past (λ ts. fresh_name taken ts) (λ ts. fresh_name taken ts) (fresh_follows taken))
    (λ n. makes (λ ts. code_at b ts) (λ ts. code_at c ts) (λ f. trees.declared_function n f.parameters f.body)
    (code_follows b c p))

-- ---- for

abbrev pub plain_items : StatementContext → List Piece
plain_items context =
    optional kinds.Semicolon ∷ optional kinds.Semicolon ∷ optional kinds.RightParenthesis ∷ a_statement
    (loop_body context) ∷ []

abbrev pub after_declared : StatementContext → List Piece
after_declared context =
    tok kinds.Semicolon ∷ optional kinds.Semicolon ∷ optional kinds.RightParenthesis ∷ a_statement (loop_body context)
    ∷ []

abbrev pub after_of : StatementContext → List Piece
after_of context = an_assignment ∷ tok kinds.RightParenthesis ∷ a_statement (loop_body context) ∷ []

-- behind for and its parenthesis
abbrev pub for_rest : Below → StatementContext → ForHead → Reader Statement
for_rest b context (each k) ts =
    made b (tok (let_kind k) ∷ a_name ∷ the_name (codes "of") ∷ after_of context)
    (λ v. trees.for_of k v.1.0 v.1.1.1.0 v.1.1.1.1.1.0) ts
for_rest b context (declares k) ts =
    made b (tok (let_kind k) ∷ declared k [] ∷ after_declared context)
    (λ v. trees.for_lexical k v.1.0 v.1.1.1.0 v.1.1.1.1.0 v.1.1.1.1.1.0) ts
for_rest b context plain_head ts = made b (plain_items context) (λ v. trees.for v.0 v.1.0 v.1.1.0 v.1.1.1.0) ts

-- the same goes on
then_same : {A V : Type 0} (x : Read V) (f g : V → Reader A)
    → ((v : V) (ts : List Token) → f v ts ≡ g v ts)
    → (x >>= λ y. f y.0 y.1) ≡ (x >>= λ y. g y.0 y.1)
then_same (Ok y) f g h = h y.0 y.1
then_same (Err e) f g h = refl

leads_two : {A : Type 0} (b : Below) (j k : TokenKind) (is : List Piece) (make : PieceValues (tok j ∷ tok k ∷ is) → A)
    (ts : List Token)
    → made b (tok j ∷ tok k ∷ is) make ts ≡
    (expect j ts >>= λ x. expect k x.1 >>= λ y. made b is (λ w. make (tt, (tt, w))) y.1)
leads_two b j k is make ts =
    lead b (tok j) (tok k ∷ is) make ts
    ∙ then_same (expect j ts) (λ u r. made b (tok k ∷ is) (λ w. make (u, w)) r)
    (λ u r. expect k r >>= λ y. made b is (λ w. make (u, (y.0, w))) y.1)
    (λ u r. lead b (tok k) is (λ w. make (u, w)) r)

for_is_by : (b : Below) (context : StatementContext) (v : ForHead) (ts : List Token)
    → for_by b context v ts ≡
    (expect kinds.For ts >>= λ x. expect kinds.LeftParenthesis x.1 >>= λ y. for_rest b context v y.1)
for_is_by b context (each k) ts =
    leads_two b kinds.For kinds.LeftParenthesis (tok (let_kind k) ∷ a_name ∷ the_name (codes "of") ∷ after_of context)
    (λ v. trees.for_of k v.1.1.1.0 v.1.1.1.1.1.0 v.1.1.1.1.1.1.1.0) ts
for_is_by b context (declares k) ts =
    leads_two b kinds.For kinds.LeftParenthesis (tok (let_kind k) ∷ declared k [] ∷ after_declared context)
    (λ v. trees.for_lexical k v.1.1.1.0 v.1.1.1.1.1.0 v.1.1.1.1.1.1.0 v.1.1.1.1.1.1.1.0) ts
for_is_by b context plain_head ts =
    leads_two b kinds.For kinds.LeftParenthesis (plain_items context)
    (λ v. trees.for v.1.1.0 v.1.1.1.0 v.1.1.1.1.0 v.1.1.1.1.1.0) ts

abbrev for_head_behind : List Token → ForHead
for_head_behind ts = for_head (tail_of ts)

abbrev pub for_form : Below → StatementContext → Reader Statement
for_form b context ts =
    expect kinds.For ts >>= λ x. expect kinds.LeftParenthesis x.1 >>= λ y. for_rest b context (for_head y.1) y.1

pub for_is : (b : Below) (context : StatementContext) (ts : List Token) → for_at b context ts ≡ for_form b context ts
unfolding for_at
for_is b context ts =
    for_is_by b context (for_head (tail_of (tail_of ts))) ts
    ∙ behind_kind kinds.For for_head_behind (λ v r. expect kinds.LeftParenthesis r >>= λ y. for_rest b context v y.1) ts
    ∙ then_same (expect kinds.For ts)
    (λ u r. expect kinds.LeftParenthesis r >>= λ y. for_rest b context (for_head (tail_of r)) y.1)
    (λ u r. expect kinds.LeftParenthesis r >>= λ y. for_rest b context (for_head y.1) y.1)
    (λ u r. behind_kind kinds.LeftParenthesis for_head (for_rest b context) r)

-- behind let or const: a name and of, or declarations
abbrev pub named_of : List Token → Bool
named_of ts = is_kind kinds.Name (head_of ts) && is_name (codes "of") (head_of (tail_of ts))

abbrev pub for_third : Below → StatementContext → Bool → Bool → Reader Statement
for_third b context k true ts =
    made b (a_name ∷ the_name (codes "of") ∷ after_of context) (λ v. trees.for_of k v.0 v.1.1.0 v.1.1.1.1.0) ts
for_third b context k false ts =
    made b (declared k [] ∷ after_declared context) (λ v. trees.for_lexical k v.0 v.1.1.0 v.1.1.1.0 v.1.1.1.1.0) ts

let_is_by : (b : Below) (context : StatementContext) (k w : Bool) (ts : List Token)
    → for_rest b context (cond w (each k) (declares k)) ts ≡
    (expect (let_kind k) ts >>= λ x. for_third b context k w x.1)
let_is_by b context k true ts =
    lead b (tok (let_kind k)) (a_name ∷ the_name (codes "of") ∷ after_of context)
    (λ v. trees.for_of k v.1.0 v.1.1.1.0 v.1.1.1.1.1.0) ts
let_is_by b context k false ts =
    lead b (tok (let_kind k)) (declared k [] ∷ after_declared context)
    (λ v. trees.for_lexical k v.1.0 v.1.1.1.0 v.1.1.1.1.0 v.1.1.1.1.1.0) ts

pub let_is : (b : Below) (context : StatementContext) (k : Bool) (ts : List Token)
    → for_rest b context (for_head_by (classes.a_lexical k) (tail_of ts)) ts ≡
    (expect (let_kind k) ts >>= λ x. for_third b context k (named_of x.1) x.1)
let_is b context k ts =
    let_is_by b context k (named_of (tail_of ts)) ts ∙ behind_kind (let_kind k) named_of (for_third b context k) ts

-- behind the first name
abbrev pub more_declarators : Below → Bool → Declarator → Reader Declarators
more_declarators b k d ts =
    others (λ names r. declarator_at b k names r) with_declarator (suc (length ts)) (with_declarator [] d)
    ts >>= λ ds. Ok (trees.a_declarator d (declarators ds.0), ds.1)

abbrev pub all_declarators : Below → Bool → Identifier → Reader Declarators
all_declarators b k n ts =
    initializer_by b k n (is_kind kinds.Assign (head_of ts)) ts >>= λ d. more_declarators b k d.0 d.1

abbrev pub for_fourth : Below → StatementContext → Bool → Identifier → Bool → Reader Statement
for_fourth b context k n true ts =
    made b (the_name (codes "of") ∷ after_of context) (λ v. trees.for_of k n v.1.0 v.1.1.1.0) ts
for_fourth b context k n false ts =
    all_declarators b k n ts >>= λ ds. made b (after_declared context)
    (λ v. trees.for_lexical k ds.0 v.1.0 v.1.1.0 v.1.1.1.0) ds.1

declared_by : (b : Below) (context : StatementContext) (k : Bool) (x : Read Identifier)
    → (((x >>= λ n. initializer_by b k n.0 (is_kind kinds.Assign (head_of n.1)) n.1)
    >>= λ d. more_declarators b k d.0 d.1)
    >>= λ ds. made b (after_declared context) (λ v. trees.for_lexical k ds.0 v.1.0 v.1.1.0 v.1.1.1.0) ds.1)
    ≡ (x >>= λ n. for_fourth b context k n.0 false n.1)
declared_by b context k (Ok n) = refl
declared_by b context k (Err e) = refl

third_is : (b : Below) (context : StatementContext) (k w : Bool) (ts : List Token)
    → for_third b context k w ts ≡ (name_at ts >>= λ n. for_fourth b context k n.0 w n.1)
unfolding declarators_at declarator_at fresh_name
third_is b context k true ts =
    lead b a_name (the_name (codes "of") ∷ after_of context) (λ v. trees.for_of k v.0 v.1.1.0 v.1.1.1.1.0) ts
third_is b context k false ts =
    lead b (declared k []) (after_declared context) (λ v. trees.for_lexical k v.0 v.1.1.0 v.1.1.1.0 v.1.1.1.1.0) ts
    ∙ declared_by b context k (name_at ts)

abbrev pub of_next : List Token → Bool
of_next ts = is_name (codes "of") (head_of ts)

abbrev a_name_if : Bool → Reader Identifier
a_name_if v ts = cond v (Ok (text_of (head_of ts), tail_of ts)) (Err (stuck (length ts)))

behind_name_by : {A : Type 0} (look : List Token → Bool) (f : Identifier → Bool → Reader A) (ts : List Token) (v : Bool)
    → (a_name_if v ts >>= λ n. f n.0 (v && look (tail_of ts)) n.1) ≡ (a_name_if v ts >>= λ n. f n.0 (look n.1) n.1)
behind_name_by look f ts true = refl
behind_name_by look f ts false = refl

behind_name : {A : Type 0} (look : List Token → Bool) (f : Identifier → Bool → Reader A) (ts : List Token)
    → (name_at ts >>= λ n. f n.0 (is_kind kinds.Name (head_of ts) && look (tail_of ts)) n.1) ≡
    (name_at ts >>= λ n. f n.0 (look n.1) n.1)
unfolding name_at
behind_name look f ts = behind_name_by look f ts (is_kind kinds.Name (head_of ts))

abbrev pub third_form : Below → StatementContext → Bool → Reader Statement
third_form b context k ts = name_at ts >>= λ n. for_fourth b context k n.0 (of_next n.1) n.1

pub named_is : (b : Below) (context : StatementContext) (k : Bool) (ts : List Token)
    → for_third b context k (named_of ts) ts ≡ third_form b context k ts
named_is b context k ts = third_is b context k (named_of ts) ts ∙ behind_name of_next (for_fourth b context k) ts

pub more_follows : (b c : Below)
    → Pair b c
    → (k : Bool) (d : Declarator)
    → Follows (λ ts. more_declarators b k d ts) (λ ts. more_declarators c k d ts)
more_follows b c p k d =
    makes (λ ts. others (λ names r. declarator_at b k names r) with_declarator (suc (length ts)) (with_declarator [] d)
    ts)
    (λ ts. others (λ names r. declarator_at c k names r) with_declarator (suc (length ts)) (with_declarator [] d)
    ts)
    (λ ds. trees.a_declarator d (declarators ds))
    (others_follows (λ names r. declarator_at b k names r) (λ names r. declarator_at c k names r) with_declarator
    (λ names. declarator_follows b c p k names)
    (λ names. shortens (λ r. declarator_at c k names r) (λ r. declarator_at c k names r)
    (declarator_follows c c (on_right b c p) k names))
    (with_declarator [] d))

pub all_follows : (b c : Below)
    → Pair b c
    → (k : Bool) (n : Identifier)
    → Follows (λ ts. all_declarators b k n ts) (λ ts. all_declarators c k n ts)
all_follows b c p k n =
    binds (λ ts. initializer_by b k n (is_kind kinds.Assign (head_of ts)) ts)
    (λ ts. initializer_by c k n (is_kind kinds.Assign (head_of ts)) ts) (λ d ts. more_declarators b k d ts)
    (λ d ts. more_declarators c k d ts) (initializer_follows b c p k n) (more_follows b c p k)

fourth_follows : (b c : Below)
    → Pair b c
    → (context : StatementContext) (k : Bool) (n : Identifier) (w : Bool)
    → Follows (λ ts. for_fourth b context k n w ts) (λ ts. for_fourth c context k n w ts)
fourth_follows b c p context k n true =
    made_follows b c p (the_name (codes "of") ∷ after_of context) (λ v. trees.for_of k n v.1.0 v.1.1.1.0)
fourth_follows b c p context k n false =
    binds (λ ts. all_declarators b k n ts) (λ ts. all_declarators c k n ts)
    (λ ds ts. made b (after_declared context) (λ v. trees.for_lexical k ds v.1.0 v.1.1.0 v.1.1.1.0) ts)
    (λ ds ts. made c (after_declared context) (λ v. trees.for_lexical k ds v.1.0 v.1.1.0 v.1.1.1.0) ts)
    (all_follows b c p k n)
    (λ ds. made_follows b c p (after_declared context) (λ v. trees.for_lexical k ds v.1.0 v.1.1.0 v.1.1.1.0))

third_follows : (b c : Below)
    → Pair b c
    → (context : StatementContext) (k : Bool)
    → Follows (λ ts. for_third b context k (named_of ts) ts) (λ ts. for_third c context k (named_of ts) ts)
third_follows b c p context k =
    alike (third_form b context k) (λ ts. for_third b context k (named_of ts) ts) (third_form c context k)
    (λ ts. for_third c context k (named_of ts) ts) (named_is b context k) (named_is c context k)
    (binds (λ ts. name_at ts) (λ ts. name_at ts) (λ n ts. for_fourth b context k n (of_next ts) ts)
    (λ n ts. for_fourth c context k n (of_next ts) ts) name_follows
    (λ n. peeks (λ o. is_name (codes "of") o) (λ w ts. for_fourth b context k n w ts)
    (λ w ts. for_fourth c context k n w ts) (fourth_follows b c p context k n)))

abbrev pub let_form : Below → StatementContext → Bool → Reader Statement
let_form b context k ts = expect (let_kind k) ts >>= λ x. for_third b context k (named_of x.1) x.1

let_follows : (b c : Below)
    → Pair b c
    → (context : StatementContext) (k : Bool)
    → Follows (λ ts. for_rest b context (for_head_by (classes.a_lexical k) (tail_of ts)) ts)
    (λ ts. for_rest c context (for_head_by (classes.a_lexical k) (tail_of ts)) ts)
let_follows b c p context k =
    alike (let_form b context k) (λ ts. for_rest b context (for_head_by (classes.a_lexical k) (tail_of ts)) ts)
    (let_form c context k) (λ ts. for_rest c context (for_head_by (classes.a_lexical k) (tail_of ts)) ts)
    (let_is b context k) (let_is c context k)
    (binds (λ ts. expect (let_kind k) ts) (λ ts. expect (let_kind k) ts)
    (λ x ts. for_third b context k (named_of ts) ts) (λ x ts. for_third c context k (named_of ts) ts)
    (expect_follows (let_kind k)) (λ x. third_follows b c p context k))

rest_follows : (b c : Below)
    → Pair b c
    → (context : StatementContext) (v : StatementStart)
    → Follows (λ ts. for_rest b context (for_head_by v (tail_of ts)) ts)
    (λ ts. for_rest c context (for_head_by v (tail_of ts)) ts)
rest_follows b c p context (classes.a_lexical k) = let_follows b c p context k
rest_follows b c p context _ = made_follows b c p (plain_items context) (λ v. trees.for v.0 v.1.0 v.1.1.0 v.1.1.1.0)

for_follows : (b c : Below)
    → Pair b c
    → (context : StatementContext)
    → Follows (λ ts. for_at b context ts) (λ ts. for_at c context ts)
for_follows b c p context =
    alike (for_form b context) (λ ts. for_at b context ts) (for_form c context) (λ ts. for_at c context ts)
    (for_is b context) (for_is c context)
    (binds (λ ts. expect kinds.For ts) (λ ts. expect kinds.For ts)
    (λ x ts. expect kinds.LeftParenthesis ts >>= λ y. for_rest b context (for_head y.1) y.1)
    (λ x ts. expect kinds.LeftParenthesis ts >>= λ y. for_rest c context (for_head y.1) y.1)
    (expect_follows kinds.For)
    (λ x. binds (λ ts. expect kinds.LeftParenthesis ts) (λ ts. expect kinds.LeftParenthesis ts)
    (λ y ts. for_rest b context (for_head ts) ts) (λ y ts. for_rest c context (for_head ts) ts)
    (expect_follows kinds.LeftParenthesis)
    (λ y. peeks first (λ v ts. for_rest b context (for_head_by v (tail_of ts)) ts)
    (λ v ts. for_rest c context (for_head_by v (tail_of ts)) ts) (rest_follows b c p context))))

-- ---- any statement

abbrev pub statement_form : Below → StatementContext → StatementStart → Reader Statement
statement_form b context classes.a_throw ts = throw_rest b (is_on_line (head_of (tail_of ts))) (tail_of ts)
statement_form b context v ts = statement_by b context v ts

statement_is_by : (b : Below) (context : StatementContext) (ts : List Token) (v : StatementStart)
    → first (head_of ts) ≡ v
    → statement_by b context v ts ≡ statement_form b context v ts
statement_is_by b context ts classes.a_throw e = throw_is b ts e (is_on_line (head_of (tail_of ts)))
statement_is_by b context ts _ e = refl

pub statement_is : (b : Below) (context : StatementContext) (ts : List Token)
    → statement b context ts ≡ statement_form b context (first (head_of ts)) ts
unfolding statement
statement_is b context ts = statement_is_by b context ts (first (head_of ts)) refl

form_follows : (b c : Below)
    → Pair b c
    → (context : StatementContext) (v : StatementStart)
    → Follows (λ ts. statement_form b context v ts) (λ ts. statement_form c context v ts)
form_follows b c p context classes.a_block = made_follows b c p (in_braces context [] ∷ []) (λ v. trees.block v.0)
form_follows b c p context (classes.a_lexical constant) = sticks
form_follows b c p context classes.a_semicolon =
    past (λ ts. Ok (trees.empty, ts)) (λ ts. Ok (trees.empty, ts)) (gives trees.empty)
form_follows b c p context classes.an_if = if_follows b c p context
form_follows b c p context classes.a_do = made_follows b c p (do_items context) (λ v. trees.do_while v.1.0 v.1.1.1.1.0)
form_follows b c p context classes.a_while =
    made_follows b c p (while_items context) (λ v. trees.while v.1.1.0 v.1.1.1.1.0)
form_follows b c p context classes.a_for = for_follows b c p context
form_follows b c p context classes.a_continue =
    tests context.in_loop (λ ts. made b (tok kinds.Continue ∷ an_end after_word ∷ []) (λ v. trees.continue) ts)
    (λ ts. made c (tok kinds.Continue ∷ an_end after_word ∷ []) (λ v. trees.continue) ts)
    (λ ts. Err (stuck (length ts))) (λ ts. Err (stuck (length ts)))
    (made_follows b c p (tok kinds.Continue ∷ an_end after_word ∷ []) (λ v. trees.continue)) sticks
form_follows b c p context classes.a_break =
    tests context.in_loop (λ ts. made b (tok kinds.Break ∷ an_end after_word ∷ []) (λ v. trees.break) ts)
    (λ ts. made c (tok kinds.Break ∷ an_end after_word ∷ []) (λ v. trees.break) ts) (λ ts. Err (stuck (length ts)))
    (λ ts. Err (stuck (length ts)))
    (made_follows b c p (tok kinds.Break ∷ an_end after_word ∷ []) (λ v. trees.break)) sticks
form_follows b c p context classes.a_return =
    tests context.in_function (λ ts. return_by b (ends_return (head_of (tail_of ts))) ts)
    (λ ts. return_by c (ends_return (head_of (tail_of ts))) ts) (λ ts. Err (stuck (length ts)))
    (λ ts. Err (stuck (length ts)))
    (return_follows b c p) sticks
form_follows b c p context classes.a_throw =
    past (λ ts. throw_rest b (is_on_line (head_of ts)) ts) (λ ts. throw_rest c (is_on_line (head_of ts)) ts)
    (throw_follows b c p)
form_follows b c p context classes.a_try = try_follows b c p context
form_follows b c p context classes.a_debugger =
    made_follows b c p (tok kinds.Debugger ∷ an_end after_word ∷ []) (λ v. trees.debugger)
form_follows b c p context classes.a_function = sticks
form_follows b c p context classes.an_expression = made_follows b c p (ended ∷ []) (λ v. trees.expression v.0)

pub statement_follows : (b c : Below)
    → Pair b c
    → (context : StatementContext)
    → Follows (λ ts. statement b context ts) (λ ts. statement c context ts)
statement_follows b c p context =
    alike (λ ts. statement_form b context (first (head_of ts)) ts) (λ ts. statement b context ts)
    (λ ts. statement_form c context (first (head_of ts)) ts) (λ ts. statement c context ts)
    (statement_is b context) (statement_is c context)
    (peeks first (λ v ts. statement_form b context v ts) (λ v ts. statement_form c context v ts)
    (form_follows b c p context))

item_by_follows : (b c : Below)
    → Pair b c
    → (context : StatementContext) (taken : List Identifier) (v : StatementStart)
    → Follows (λ ts. item_by b context taken v ts) (λ ts. item_by c context taken v ts)
item_by_follows b c p context taken (classes.a_lexical constant) = lexical_follows b c p constant taken
item_by_follows b c p context taken classes.a_function = declaration_follows b c p taken
item_by_follows b c p context taken _ = statement_follows b c p context

pub list_item_follows : (b c : Below)
    → Pair b c
    → (context : StatementContext) (taken : List Identifier)
    → Follows (λ ts. item b context taken ts) (λ ts. item c context taken ts)
unfolding item
list_item_follows b c p context taken =
    peeks first (λ v ts. item_by b context taken v ts) (λ v ts. item_by c context taken v ts)
    (item_by_follows b c p context taken)
