-- Statements, declarations, blocks and functions are read again.
use Rattle.std.proofs.Common.{◌≡◌, ℕ, suc, ◌≤◌, Bool, true, false, List, [], ◌∷◌, ◌++◌, Option, Some, None, Ok, refl, sym, ap, subst, ◌∙◌, inl, inr, append_assoc, arith}
use Rattle.std.specs.Prelude.{◌||◌}
use Rattle.std.proofs.lemmas.List.{append-nil}
use Rattle.js_lexer.specs.declared.token.TokenKind.{TokenKind}
use Rattle.js_lexer.specs.declared.token.TokenKind.TheVariants as kinds
use Rattle.js_tree.specs.Trees as trees
use Rattle.js_tree.specs.Trees.{Identifier, Expression, OptionalExpression, Declarators, Statement, Statements, Handler, Finalizer}
use Rattle.js_parser_language.specs.Tokens.{Token, fixed, IsNext, after_expression, after_word, absent, FlatToken, token, semicolon, head_of, tail_of, is_on_line, Matches}
use Rattle.js_parser_language.specs.Flat as flats
use Rattle.js_parser_language.specs.Flat.{edge, end_of_declarators, on_line, flat, flat_declarators, flat_parameters, flat_statement, flat_statements, flat_handler, flat_finalizer}
use Rattle.js_parser_language.specs.Well.{StatementContext, Well, WellStatement, WellHandler, WellFinalizer, is_statement, is_handled, AreFresh, declared_by}
use Rattle.js_tree.specs.Height.{height_of_statement, height_of_handler, height_of_finalizer}
use Rattle.js_parser_language.specs.Kinds.{is_kind}
use Rattle.js_parser_readers.specs.Reading.{◌>>=◌, fresh_name}
use Rattle.js_parser_readers.specs.Classes as classes
use Rattle.js_parser_readers.specs.Classes.{StatementStart, first, ends_return}
use Rattle.js_parser_readers.specs.Productions.{ParametersAndBody, Below, declarators_at, code_at, tok, a_name, ended, an_end, a_statement, a_block, in_braces, PieceValues, seq}
use Rattle.js_parser_readers.specs.Parsing.{if_items, if_at, do_items, while_items, return_by, throw_by, let_kind, handler_at, finalizer_by, finalizer_at, try_at, statement_by, statement, lexical_at, declaration_at, item_by, item}
use Rattle.js_parser_language.proofs.KindLemmas.{next_again, kind_not}
use Rattle.js_parser_laws.proofs.Claims.{follows_statement, NoElse, Follows, AgainBelow}
use Rattle.js_parser_laws.proofs.MarkLemmas.{parts}
use Rattle.js_parser_laws.proofs.TokenLemmas.{fresh_again, semicolon_again}
use Rattle.js_parser_laws.proofs.Again.Front.{Front, expression_front, front_no_brace, front_no_function, opens_first, opens_no_return, expression_opens, first_is, follows_no_finally}
use Rattle.js_parser_laws.proofs.Again.Part.{code_again, declarators_again, declarators_end}
use Rattle.js_parser_laws.proofs.Again.Production.{seq_again, made_again}
use Rattle.js_parser_laws.proofs.Again.For.{let_marks, let_first, for_statement, for_lexical_statement, for_of_statement}
use Rattle.js_parser_laws.proofs.Again.Primary.{and_nothing}

-- a statement read by its form is read, where its first token is of that class
abbrev Read : Below → StatementContext → Statement → StatementStart → List Token → List Token → Type 0
Read b context s f ts r = statement_by b context f ts ≡ Ok (s, r)

by_first : (b : Below) (context : StatementContext) (s : Statement) (f : StatementStart) (ts r : List Token)
    → first (head_of ts) ≡ f
    → Read b context s f ts r
    → statement b context ts ≡ Ok (s, r)
unfolding statement
by_first b context s f ts r e m = rw e m

-- ---- blocks

block_marks : (ss : Statements) → flats.in_braces (flat_statements ss) ≡ flats.in_braces (flat_statements ss) ++ []
block_marks ss = sym (append-nil (flats.in_braces (flat_statements ss)))

block_statement : (n : ℕ) (b : Below)
    → AgainBelow n b
    → (context : StatementContext) (ss : Statements)
    → WellStatement context (trees.block ss)
    → height_of_statement (trees.block ss) ≤ suc n
    → (ts r : List Token)
    → Matches (flat_statement (trees.block ss)) ts r
    → Read b context (trees.block ss) classes.a_block ts r
block_statement n b a context ss w h ts r m =
    made_again n b a (in_braces context [] ∷ []) (λ v. trees.block v.0) (ss, tt) ts r (w, tt) (omega (arith, h)) refl tt
    (subst (λ (l : List FlatToken). Matches l ts r) (block_marks ss) m)

-- ---- if, do and while

if_then_statement : (n : ℕ) (b : Below)
    → AgainBelow n b
    → (context : StatementContext) (e : Expression) (s : Statement)
    → WellStatement context (trees.if_then e s)
    → height_of_statement (trees.if_then e s) ≤ suc n
    → (ts r : List Token)
    → Matches (flat_statement (trees.if_then e s)) ts r
    → Follows (trees.if_then e s) r
    → Read b context (trees.if_then e s) classes.an_if ts r
unfolding if_at
if_then_statement n b a context e s w h ts r m f =
    let vs : PieceValues (if_items context) = (tt, (tt, (e, (tt, (s, tt))))) in
    let read : seq b (if_items context) ts ≡ Ok (vs, r) = seq_again n b a (if_items context) vs ts r
    (tt, (tt, (w.0, (tt, ((w.1, w.2), tt))))) (omega (arith, h)) refl (f.0, λ i. f.1 refl) m in
    rw (read, f.1 refl) refl

if_else_marks : (e : Expression) (s t : Statement)
    → flat_statement (trees.if_else e s t) ≡ flat_statement (trees.if_then e s) ++
    (token (fixed kinds.Else) ∷ (flat_statement t ++ []))
if_else_marks e s t =
    let behind : List FlatToken = token (fixed kinds.Else) ∷ (flat_statement t ++ []) in
    ap (λ (l : List FlatToken). token (fixed kinds.If) ∷ token (fixed kinds.LeftParenthesis) ∷ l)
    (sym (append_assoc (flat e) (token (fixed kinds.RightParenthesis) ∷ (flat_statement s ++ [])) behind
    ∙ ap (λ (l : List FlatToken). flat e ++ (token (fixed kinds.RightParenthesis) ∷ l))
    (append_assoc (flat_statement s) [] behind)))

else_follows : (r : List Token) → IsNext (fixed kinds.Else) (head_of r) → follows_statement (head_of r) ≡ true
else_follows [] m = absurd m
else_follows (t ∷ r) m = rw m refl

if_else_statement : (n : ℕ) (b : Below)
    → AgainBelow n b
    → (context : StatementContext) (e : Expression) (s t : Statement)
    → WellStatement context (trees.if_else e s t)
    → height_of_statement (trees.if_else e s t) ≤ suc n
    → (ts r : List Token)
    → Matches (flat_statement (trees.if_else e s t)) ts r
    → Follows (trees.if_else e s t) r
    → Read b context (trees.if_else e s t) classes.an_if ts r
unfolding if_at
if_else_statement n b a context e s t w h ts r m f =
    let p = parts (flat_statement (trees.if_then e s)) (token (fixed kinds.Else) ∷ (flat_statement t ++ [])) ts r
    (subst (λ (l : List FlatToken). Matches l ts r) (if_else_marks e s t) m) in
    let vs : PieceValues (if_items context) = (tt, (tt, (e, (tt, (s, tt))))) in
    let no_if : NoElse s p.0 = λ i. absurd cc in
    let read : seq b (if_items context) ts ≡ Ok (vs, p.0) = seq_again n b a (if_items context) vs ts p.0
    (tt, (tt, (w.0, (tt, ((w.1, w.2), tt))))) (omega (arith, h)) refl (else_follows p.0 p.2.0, no_if) p.1 in
    let us : PieceValues (tok kinds.Else ∷ a_statement context ∷ []) = (tt, (t, tt)) in
    let rest : seq b (tok kinds.Else ∷ a_statement context ∷ []) p.0 ≡ Ok (us, r) = seq_again n b a
    (tok kinds.Else ∷ a_statement context ∷ []) us p.0 r (tt, ((w.4, w.5), tt)) (omega (arith, h)) refl f p.2 in
    rw (read, next_again kinds.Else (head_of p.0) p.2.0, rest) refl

do_statement : (n : ℕ) (b : Below)
    → AgainBelow n b
    → (context : StatementContext) (s : Statement) (e : Expression)
    → WellStatement context (trees.do_while s e)
    → height_of_statement (trees.do_while s e) ≤ suc n
    → (ts r : List Token)
    → Matches (flat_statement (trees.do_while s e)) ts r
    → Read b context (trees.do_while s e) classes.a_do ts r
do_statement n b a context s e w h ts r m =
    made_again n b a (do_items context) (λ v. trees.do_while v.1.0 v.1.1.1.1.0)
    (tt, (s, (tt, (tt, (e, (tt, (tt, tt))))))) ts r
    (tt, ((w.0, w.1), (tt, (tt, (w.2, (tt, (tt, tt))))))) (omega (arith, h)) refl tt m

while_statement : (n : ℕ) (b : Below)
    → AgainBelow n b
    → (context : StatementContext) (e : Expression) (s : Statement)
    → WellStatement context (trees.while e s)
    → height_of_statement (trees.while e s) ≤ suc n
    → (ts r : List Token)
    → Matches (flat_statement (trees.while e s)) ts r
    → Follows (trees.while e s) r
    → Read b context (trees.while e s) classes.a_while ts r
while_statement n b a context e s w h ts r m f =
    made_again n b a (while_items context) (λ v. trees.while v.1.1.0 v.1.1.1.1.0) (tt, (tt, (e, (tt, (s, tt))))) ts r
    (tt, (tt, (w.0, (tt, ((w.1, w.2), tt))))) (omega (arith, h)) refl f m

-- ---- expressions, and words with their values

ended_alone : (e : Expression) → flat_statement (trees.expression e) ≡ flat_statement (trees.expression e) ++ []
ended_alone e = sym (append-nil (flat_statement (trees.expression e)))

expression_statement : (n : ℕ) (b : Below)
    → AgainBelow n b
    → (context : StatementContext) (e : Expression)
    → WellStatement context (trees.expression e)
    → height_of_statement (trees.expression e) ≤ suc n
    → (ts r : List Token)
    → Matches (flat_statement (trees.expression e)) ts r
    → follows_statement (head_of r) ≡ true
    → Read b context (trees.expression e) classes.an_expression ts r
expression_statement n b a context e w h ts r m f =
    made_again n b a (ended ∷ []) (λ v. trees.expression v.0) (e, tt) ts r (w.0, tt) (omega (arith, h)) refl f
    (subst (λ (l : List FlatToken). Matches l ts r) (ended_alone e) m)

-- the class of its first token
expression_first : (context : StatementContext) (e : Expression)
    → WellStatement context (trees.expression e)
    → (ts r : List Token)
    → Matches (flat_statement (trees.expression e)) ts r
    → first (head_of ts) ≡ classes.an_expression
expression_first context e w ts r m =
    let p = parts (flat e) (semicolon (after_expression (edge e)) ∷ []) ts r m in
    let front = expression_front e w.0 in
    opens_first (head_of ts) (expression_opens e w.0 ts p.0 p.1) (front_no_brace (flat e) front w.1 ts p.0 p.1)
    (front_no_function (flat e) front w.2 ts p.0 p.1)

-- marks on the line of the token before them
on_line_front : (ms ns : List FlatToken)
    → Front ms
    → (ts r : List Token)
    → Matches (on_line ms ++ ns) ts r
    → (is_on_line (head_of ts) ≡ true) × Matches (ms ++ ns) ts r
on_line_front ms ns f ts r m =
    let n : Matches (on_line (token f.symbol ∷ f.left) ++ ns) ts r = subst
    (λ (l : List FlatToken). Matches (on_line l ++ ns) ts r) f.marks m in
    let same : Matches (token f.symbol ∷ (f.left ++ ns)) ts r = (n.0, n.2) in
    (n.1, subst (λ (l : List FlatToken). Matches (l ++ ns) ts r) (sym f.marks) same)

-- a value with its semicolon, on the line of the word before it
value_near : (e : Expression)
    → Well e
    → (ts r : List Token)
    → Matches (on_line (flat e) ++ (semicolon (after_expression (edge e)) ∷ [])) ts r
    → (is_on_line (head_of ts) ≡ true)
    × (ends_return (head_of ts) ≡ false)
    × Matches (flat_statement (trees.expression e) ++ []) ts r
value_near e w ts r m =
    let front = expression_front e w in
    let p = on_line_front (flat e) (semicolon (after_expression (edge e)) ∷ []) front ts r m in
    let q = parts (flat e) (semicolon (after_expression (edge e)) ∷ []) ts r p.1 in (
      p.0,
      opens_no_return (head_of ts) (expression_opens e w ts q.0 q.1) p.0,
      subst (λ (l : List FlatToken). Matches l ts r) (ended_alone e) p.1,
    )

throw_statement : (n : ℕ) (b : Below)
    → AgainBelow n b
    → (context : StatementContext) (e : Expression)
    → WellStatement context (trees.throw e)
    → height_of_statement (trees.throw e) ≤ suc n
    → (ts r : List Token)
    → Matches (flat_statement (trees.throw e)) ts r
    → follows_statement (head_of r) ≡ true
    → Read b context (trees.throw e) classes.a_throw ts r
throw_statement n b a context e w h ts r m f =
    let p = value_near e w (tail_of ts) r m.1 in
    let read : throw_by b true ts ≡ Ok (trees.throw e, r) =
    made_again n b a (tok kinds.Throw ∷ ended ∷ []) (λ v. trees.throw v.1.0) (tt, (e, tt)) ts r (tt, (w, tt))
    (omega (arith, h)) refl f (m.0, p.2) in
    rw (p.0, read) refl

or_right : (x y : Bool) → y ≡ true → (x || y) ≡ true
or_right true y e = refl
or_right false y e = e

word_ends : (ts r : List Token) → Matches (semicolon after_word ∷ []) ts r → ends_return (head_of ts) ≡ true
word_ends ts r (inl m) = rw (next_again kinds.Semicolon (head_of ts) m.0) refl
word_ends ts r (inr m) = or_right (is_kind kinds.Semicolon (head_of ts)) (absent after_word (head_of ts)) m.0

return_statement : (n : ℕ) (b : Below)
    → AgainBelow n b
    → (context : StatementContext) (e : OptionalExpression)
    → WellStatement context (trees.return e)
    → height_of_statement (trees.return e) ≤ suc n
    → (ts r : List Token)
    → Matches (flat_statement (trees.return e)) ts r
    → follows_statement (head_of r) ≡ true
    → Read b context (trees.return e) classes.a_return ts r
return_statement n b a context trees.omitted w h ts r m f =
    let read : return_by b true ts ≡ Ok (trees.return trees.omitted, r) =
    made_again n b a (tok kinds.Return ∷ an_end after_word ∷ []) (λ v. trees.return trees.omitted) (tt, (tt, tt)) ts r
    (tt, (tt, tt)) (omega arith) refl tt m in
    rw (w.0, word_ends (tail_of ts) r m.1, read) refl
return_statement n b a context (trees.present e) w h ts r m f =
    let p = value_near e w.1 (tail_of ts) r m.1 in
    let read : return_by b false ts ≡ Ok (trees.return (trees.present e), r) =
    made_again n b a (tok kinds.Return ∷ ended ∷ []) (λ v. trees.return (trees.present v.1.0)) (tt, (e, tt)) ts r
    (tt, (w.1, tt)) (omega (arith, h)) refl f (m.0, p.2) in
    rw (w.0, p.1, read) refl

word_statement : (n : ℕ) (b : Below)
    → AgainBelow n b
    → (k : TokenKind) (s : Statement) (ts r : List Token)
    → Matches (token (fixed k) ∷ semicolon after_word ∷ []) ts r
    → (seq b (tok k ∷ an_end after_word ∷ []) ts >>= λ x. Ok (s, x.1)) ≡ Ok (s, r)
word_statement n b a k s ts r m =
    made_again n b a (tok k ∷ an_end after_word ∷ []) (λ v. s) (tt, (tt, tt)) ts r (tt, (tt, tt)) (omega arith)
    refl tt m

continue_statement : (n : ℕ) (b : Below)
    → AgainBelow n b
    → (context : StatementContext)
    → WellStatement context trees.continue
    → (ts r : List Token)
    → Matches (flat_statement trees.continue) ts r
    → Read b context trees.continue classes.a_continue ts r
continue_statement n b a context w ts r m = rw w (word_statement n b a kinds.Continue trees.continue ts r m)

break_statement : (n : ℕ) (b : Below)
    → AgainBelow n b
    → (context : StatementContext)
    → WellStatement context trees.break
    → (ts r : List Token)
    → Matches (flat_statement trees.break) ts r
    → Read b context trees.break classes.a_break ts r
break_statement n b a context w ts r m = rw w (word_statement n b a kinds.Break trees.break ts r m)

debugger_statement : (n : ℕ) (b : Below)
    → AgainBelow n b
    → (context : StatementContext)
    → (ts r : List Token)
    → Matches (flat_statement trees.debugger) ts r
    → Read b context trees.debugger classes.a_debugger ts r
debugger_statement n b a context ts r m = word_statement n b a kinds.Debugger trees.debugger ts r m

-- ---- try

catch_again : (n : ℕ) (b : Below)
    → AgainBelow n b
    → (context : StatementContext) (x : Option Identifier) (ss : Statements)
    → WellHandler context (trees.catch x ss)
    → height_of_handler (trees.catch x ss) ≤ n
    → (ts r : List Token)
    → Matches (flat_handler (trees.catch x ss)) ts r
    → handler_at b context ts ≡ Ok (trees.catch x ss, r)
unfolding handler_at
catch_again n b a context None ss w h ts r m =
    let body : Matches (flats.in_braces (flat_statements ss)) (tail_of ts) r = and_nothing
    (flats.in_braces (flat_statements ss)) (tail_of ts) r m.1 in
    let no_name : is_kind kinds.LeftParenthesis (head_of (tail_of ts))
    ≡ false = kind_not kinds.LeftBrace kinds.LeftParenthesis (head_of (tail_of ts))
    (next_again kinds.LeftBrace (head_of (tail_of ts)) body.0) refl in
    rw (next_again kinds.Catch (head_of ts) m.0, no_name, a.block context [] ss w.1 w.0 h (tail_of ts) r body) refl
catch_again n b a context (Some x) ss w h ts r m =
    let us : List Token = tail_of (tail_of (tail_of (tail_of ts))) in
    let body : Matches (flats.in_braces (flat_statements ss)) us r = and_nothing (flats.in_braces (flat_statements ss))
    us r m.1.1.1.1 in
    let read : seq b (tok kinds.LeftParenthesis ∷ a_name ∷ tok kinds.RightParenthesis ∷ []) (tail_of ts) ≡ Ok
    ((tt, (x, (tt, tt))), us) =
    seq_again n b a (tok kinds.LeftParenthesis ∷ a_name ∷ tok kinds.RightParenthesis ∷ []) (tt, (x, (tt, tt)))
    (tail_of ts) us (tt, (tt, (tt, tt))) (omega arith) refl tt (m.1.0, (m.1.1.0, (m.1.1.1.0, refl))) in
    rw (
      next_again kinds.Catch (head_of ts) m.0,
      next_again kinds.LeftParenthesis (head_of (tail_of ts)) m.1.0,
      read,
      a.block context (x ∷ []) ss w.1 w.0 h us r body,
    )
    refl

no_catch_again : (b : Below) (context : StatementContext) (ts r : List Token)
    → is_kind kinds.Catch (head_of ts) ≡ false
    → ts ≡ r
    → handler_at b context ts ≡ Ok (trees.no_catch, r)
unfolding handler_at
no_catch_again b context ts r c m = rw c (ap (λ (l : List Token). Ok (trees.no_catch, l)) m)

handler_again : (n : ℕ) (b : Below)
    → AgainBelow n b
    → (context : StatementContext) (h : Handler) (f : Finalizer)
    → WellHandler context h
    → is_handled h f ≡ true
    → height_of_handler h ≤ n
    → (ts us r : List Token)
    → Matches (flat_handler h) ts us
    → Matches (flat_finalizer f) us r
    → handler_at b context ts ≡ Ok (h, us)
handler_again n b a context trees.no_catch trees.no_finally w handled low ts us r m q = absurd cc
handler_again n b a context trees.no_catch (trees.finally ss) w handled low ts us r m q =
    let finally : is_kind kinds.Finally (head_of us) ≡ true = next_again kinds.Finally (head_of us) q.0 in
    let no_catch : is_kind kinds.Catch (head_of ts) ≡ false = ap (λ (l : List Token). is_kind kinds.Catch (head_of l)) m
    ∙ kind_not kinds.Finally kinds.Catch (head_of us) finally refl in
    no_catch_again b context ts us no_catch m
handler_again n b a context (trees.catch x ss) f w handled low ts us r m q =
    catch_again n b a context x ss w low ts us m

finalizer_again : (n : ℕ) (b : Below)
    → AgainBelow n b
    → (context : StatementContext) (h : Handler) (f : Finalizer)
    → WellFinalizer context f
    → is_handled h f ≡ true
    → height_of_finalizer f ≤ n
    → (ts r : List Token)
    → Matches (flat_finalizer f) ts r
    → follows_statement (head_of r) ≡ true
    → finalizer_at b context h ts ≡ Ok (f, r)
unfolding finalizer_at
finalizer_again n b a context trees.no_catch trees.no_finally w handled low ts r m follows = absurd cc
finalizer_again n b a context (trees.catch x ss) trees.no_finally w handled low ts r m follows =
    let none : is_kind kinds.Finally (head_of ts) ≡ false = ap (λ (l : List Token). is_kind kinds.Finally (head_of l)) m
    ∙ follows_no_finally r follows in
    rw none (ap (λ (l : List Token). Ok (trees.no_finally, l)) m)
finalizer_again n b a context h (trees.finally ss) w handled low ts r m follows =
    let read : finalizer_by b context h true ts ≡ Ok (trees.finally ss, r) =
    made_again n b a (tok kinds.Finally ∷ a_block context [] ∷ []) (λ v. trees.finally v.1.0) (tt, (ss, tt)) ts r
    (tt, (w, tt)) (omega (arith, low)) refl tt m in
    rw (next_again kinds.Finally (head_of ts) m.0) read

try_statement : (n : ℕ) (b : Below)
    → AgainBelow n b
    → (context : StatementContext) (ss : Statements) (h : Handler) (f : Finalizer)
    → WellStatement context (trees.try ss h f)
    → height_of_statement (trees.try ss h f) ≤ suc n
    → (ts r : List Token)
    → Matches (flat_statement (trees.try ss h f)) ts r
    → follows_statement (head_of r) ≡ true
    → Read b context (trees.try ss h f) classes.a_try ts r
unfolding try_at
try_statement n b a context ss h f w low ts r m follows =
    let body : List FlatToken = flats.in_braces (flat_statements ss) in
    let p = parts body (flat_handler h ++ (flat_finalizer f ++ [])) (tail_of ts) r m.1 in
    let q = parts (flat_handler h) (flat_finalizer f ++ []) p.0 r p.2 in
    let last : Matches (flat_finalizer f) q.0 r = and_nothing (flat_finalizer f) q.0 r q.2 in
    let pieces : Matches (body ++ []) (tail_of ts) p.0 = subst (λ (l : List FlatToken). Matches l (tail_of ts) p.0)
    (sym (append-nil body)) p.1 in
    let read : seq b (tok kinds.Try ∷ a_block context [] ∷ []) ts ≡ Ok ((tt, (ss, tt)), p.0) =
    seq_again n b a (tok kinds.Try ∷ a_block context [] ∷ []) (tt, (ss, tt)) ts p.0 (tt, ((w.0, w.1), tt))
    (omega (arith, low)) refl tt (m.0, pieces) in
    let handler : handler_at b context p.0 ≡ Ok (h, q.0) = handler_again n b a context h f w.2 w.4 (omega (arith, low))
    p.0 q.0 r q.1 last in
    let finalizer : finalizer_at b context h q.0 ≡ Ok (f, r) = finalizer_again n b a context h f w.3 w.4
    (omega (arith, low)) q.0 r last follows in
    rw (read, handler, finalizer) refl

-- ---- declarations

lexical_statement : (n : ℕ) (b : Below)
    → AgainBelow n b
    → (context : StatementContext) (constant : Bool) (taken : List Identifier) (ds : Declarators)
    → WellStatement context (trees.lexical constant ds)
    → AreFresh taken (declared_by (trees.lexical constant ds))
    → height_of_statement (trees.lexical constant ds) ≤ suc n
    → (ts r : List Token)
    → Matches (flat_statement (trees.lexical constant ds)) ts r
    → follows_statement (head_of r) ≡ true
    → (first (head_of ts) ≡ classes.a_lexical constant)
    × (lexical_at b constant taken ts ≡ Ok (trees.lexical constant ds, r))
unfolding lexical_at
lexical_statement n b a context constant taken ds w f h ts r m follows =
    let end : List FlatToken = semicolon (end_of_declarators ds) ∷ [] in
    let pieces : Matches (token (fixed (let_kind constant)) ∷ (flat_declarators ds ++ end)) ts r = subst
    (λ (l : List FlatToken). Matches (l ++ (flat_declarators ds ++ end)) ts r) (let_marks constant) m in
    let p = parts (flat_declarators ds) end (tail_of ts) r pieces.1 in
    let names : declarators_at b constant taken (tail_of ts) ≡ Ok (ds, p.0)
    = declarators_again n b a constant taken ds w.0 w.1 w.2 f (omega (arith, h)) (tail_of ts) p.0 p.1
    (declarators_end ds p.0 r follows p.2) in
    (let_first constant (head_of ts) pieces.0, rw (names, semicolon_again (end_of_declarators ds) p.0 r p.2) refl)

function_statement : (n : ℕ) (b : Below)
    → AgainBelow n b
    → (context : StatementContext) (taken : List Identifier) (x : Identifier) (ps : List Identifier) (body : Statements)
    → WellStatement context (trees.declared_function x ps body)
    → AreFresh taken (x ∷ [])
    → height_of_statement (trees.declared_function x ps body) ≤ suc n
    → (ts r : List Token)
    → Matches (flat_statement (trees.declared_function x ps body)) ts r
    → declaration_at b taken ts ≡ Ok (trees.declared_function x ps body, r)
unfolding declaration_at
function_statement n b a context taken x ps body w f h ts r m =
    let us : List Token = tail_of (tail_of ts) in
    let code : ParametersAndBody = record { parameters = ps; body = body } in
    let name : fresh_name taken (tail_of ts) ≡ Ok (x, us) = fresh_again taken x (tail_of ts) us (m.1.0, refl) f.0 in
    let pieces : Matches (flat_parameters ps ++ flats.in_braces (flat_statements body)) us r = subst
    (λ (l : List FlatToken). Matches (flat_parameters ps ++ l) us r)
    (append-nil (flats.in_braces (flat_statements body))) m.1.1 in
    let read : code_at b us ≡ Ok (code, r) = code_again n b a code w.0 w.1 (omega (arith, h)) us r pieces in
    rw (name, read) refl

-- ---- any statement

pub statement_again : (n : ℕ) (b : Below)
    → AgainBelow n b
    → (context : StatementContext) (s : Statement)
    → WellStatement context s
    → is_statement s ≡ true
    → height_of_statement s ≤ suc n
    → (ts r : List Token) → Matches (flat_statement s) ts r → Follows s r → statement b context ts ≡ Ok (s, r)
statement_again n b a context (trees.block ss) w i h ts r m f =
    by_first b context (trees.block ss) classes.a_block ts r (first_is kinds.LeftBrace (head_of ts) m.0)
    (block_statement n b a context ss w h ts r m)
statement_again n b a context (trees.lexical constant ds) w i h ts r m f = absurd cc
statement_again n b a context trees.empty w i h ts r m f =
    by_first b context trees.empty classes.a_semicolon ts r (first_is kinds.Semicolon (head_of ts) m.0)
    (ap (λ (l : List Token). Ok (trees.empty, l)) m.1)
statement_again n b a context (trees.expression e) w i h ts r m f =
    by_first b context (trees.expression e) classes.an_expression ts r (expression_first context e w ts r m)
    (expression_statement n b a context e w h ts r m f.0)
statement_again n b a context (trees.if_then e s) w i h ts r m f =
    by_first b context (trees.if_then e s) classes.an_if ts r (first_is kinds.If (head_of ts) m.0)
    (if_then_statement n b a context e s w h ts r m f)
statement_again n b a context (trees.if_else e s t) w i h ts r m f =
    by_first b context (trees.if_else e s t) classes.an_if ts r (first_is kinds.If (head_of ts) m.0)
    (if_else_statement n b a context e s t w h ts r m f)
statement_again n b a context (trees.do_while s e) w i h ts r m f =
    by_first b context (trees.do_while s e) classes.a_do ts r (first_is kinds.Do (head_of ts) m.0)
    (do_statement n b a context s e w h ts r m)
statement_again n b a context (trees.while e s) w i h ts r m f =
    by_first b context (trees.while e s) classes.a_while ts r (first_is kinds.While (head_of ts) m.0)
    (while_statement n b a context e s w h ts r m f)
statement_again n b a context (trees.for o t u s) w i h ts r m f =
    by_first b context (trees.for o t u s) classes.a_for ts r (first_is kinds.For (head_of ts) m.0)
    (for_statement n b a context o t u s w h ts r m f)
statement_again n b a context (trees.for_lexical constant ds t u s) w i h ts r m f =
    by_first b context (trees.for_lexical constant ds t u s) classes.a_for ts r (first_is kinds.For (head_of ts) m.0)
    (for_lexical_statement n b a context constant ds t u s w h ts r m f)
statement_again n b a context (trees.for_of constant x e s) w i h ts r m f =
    by_first b context (trees.for_of constant x e s) classes.a_for ts r (first_is kinds.For (head_of ts) m.0)
    (for_of_statement n b a context constant x e s w h ts r m f)
statement_again n b a context trees.continue w i h ts r m f =
    by_first b context trees.continue classes.a_continue ts r (first_is kinds.Continue (head_of ts) m.0)
    (continue_statement n b a context w ts r m)
statement_again n b a context trees.break w i h ts r m f =
    by_first b context trees.break classes.a_break ts r (first_is kinds.Break (head_of ts) m.0)
    (break_statement n b a context w ts r m)
statement_again n b a context (trees.return trees.omitted) w i h ts r m f =
    by_first b context (trees.return trees.omitted) classes.a_return ts r (first_is kinds.Return (head_of ts) m.0)
    (return_statement n b a context trees.omitted w h ts r m f.0)
statement_again n b a context (trees.return (trees.present e)) w i h ts r m f =
    by_first b context (trees.return (trees.present e)) classes.a_return ts r (first_is kinds.Return (head_of ts) m.0)
    (return_statement n b a context (trees.present e) w h ts r m f.0)
statement_again n b a context (trees.throw e) w i h ts r m f =
    by_first b context (trees.throw e) classes.a_throw ts r (first_is kinds.Throw (head_of ts) m.0)
    (throw_statement n b a context e w h ts r m f.0)
statement_again n b a context (trees.try ss c d) w i h ts r m f =
    by_first b context (trees.try ss c d) classes.a_try ts r (first_is kinds.Try (head_of ts) m.0)
    (try_statement n b a context ss c d w h ts r m f.0)
statement_again n b a context trees.debugger w i h ts r m f =
    by_first b context trees.debugger classes.a_debugger ts r (first_is kinds.Debugger (head_of ts) m.0)
    (debugger_statement n b a context ts r m)
statement_again n b a context (trees.declared_function x ps body) w i h ts r m f = absurd cc

-- ---- statements and declarations

-- let, const or function
abbrev is_declaration : StatementStart → Bool
is_declaration (classes.a_lexical constant) = true
is_declaration classes.a_function = true
is_declaration _ = false

-- no statement begins so
statement_first : (context : StatementContext) (s : Statement)
    → WellStatement context s
    → is_statement s ≡ true
    → (ts r : List Token)
    → Matches (flat_statement s) ts r
    → is_declaration (first (head_of ts)) ≡ false
statement_first context (trees.block ss) w i ts r m = ap is_declaration (first_is kinds.LeftBrace (head_of ts) m.0)
statement_first context (trees.lexical constant ds) w i ts r m = absurd cc
statement_first context trees.empty w i ts r m = ap is_declaration (first_is kinds.Semicolon (head_of ts) m.0)
statement_first context (trees.expression e) w i ts r m = ap is_declaration (expression_first context e w ts r m)
statement_first context (trees.if_then e s) w i ts r m = ap is_declaration (first_is kinds.If (head_of ts) m.0)
statement_first context (trees.if_else e s t) w i ts r m = ap is_declaration (first_is kinds.If (head_of ts) m.0)
statement_first context (trees.do_while s e) w i ts r m = ap is_declaration (first_is kinds.Do (head_of ts) m.0)
statement_first context (trees.while e s) w i ts r m = ap is_declaration (first_is kinds.While (head_of ts) m.0)
statement_first context (trees.for o t u s) w i ts r m = ap is_declaration (first_is kinds.For (head_of ts) m.0)
statement_first context (trees.for_lexical constant ds t u s) w i ts r m =
    ap is_declaration (first_is kinds.For (head_of ts) m.0)
statement_first context (trees.for_of constant x e s) w i ts r m =
    ap is_declaration (first_is kinds.For (head_of ts) m.0)
statement_first context trees.continue w i ts r m = ap is_declaration (first_is kinds.Continue (head_of ts) m.0)
statement_first context trees.break w i ts r m = ap is_declaration (first_is kinds.Break (head_of ts) m.0)
statement_first context (trees.return trees.omitted) w i ts r m =
    ap is_declaration (first_is kinds.Return (head_of ts) m.0)
statement_first context (trees.return (trees.present e)) w i ts r m =
    ap is_declaration (first_is kinds.Return (head_of ts) m.0)
statement_first context (trees.throw e) w i ts r m = ap is_declaration (first_is kinds.Throw (head_of ts) m.0)
statement_first context (trees.try ss c d) w i ts r m = ap is_declaration (first_is kinds.Try (head_of ts) m.0)
statement_first context trees.debugger w i ts r m = ap is_declaration (first_is kinds.Debugger (head_of ts) m.0)
statement_first context (trees.declared_function x ps body) w i ts r m = absurd cc

item_is_statement : (b : Below) (context : StatementContext) (taken : List Identifier) (f : StatementStart) (ts : List Token)
    → is_declaration f ≡ false
    → item_by b context taken f ts ≡ statement b context ts
item_is_statement b context taken (classes.a_lexical constant) ts d = absurd cc
item_is_statement b context taken classes.a_function ts d = absurd cc
item_is_statement b context taken _ ts d = refl

-- a form that is no declaration
plain_item : (n : ℕ) (b : Below)
    → AgainBelow n b
    → (context : StatementContext) (taken : List Identifier) (s : Statement)
    → WellStatement context s
    → is_statement s ≡ true
    → height_of_statement s ≤ suc n
    → (ts r : List Token) → Matches (flat_statement s) ts r → Follows s r → item b context taken ts ≡ Ok (s, r)
unfolding item
plain_item n b a context taken s w i h ts r m f =
    item_is_statement b context taken (first (head_of ts)) ts (statement_first context s w i ts r m)
    ∙ statement_again n b a context s w i h ts r m f

lexical_item : (n : ℕ) (b : Below)
    → AgainBelow n b
    → (context : StatementContext) (taken : List Identifier) (constant : Bool) (ds : Declarators)
    → WellStatement context (trees.lexical constant ds)
    → AreFresh taken (declared_by (trees.lexical constant ds))
    → height_of_statement (trees.lexical constant ds) ≤ suc n
    → (ts r : List Token)
    → Matches (flat_statement (trees.lexical constant ds)) ts r
    → follows_statement (head_of r) ≡ true
    → item b context taken ts ≡ Ok (trees.lexical constant ds, r)
unfolding item
lexical_item n b a context taken constant ds w d h ts r m f =
    let p = lexical_statement n b a context constant taken ds w d h ts r m f in
    rw (p.0, p.1) refl

function_item : (n : ℕ) (b : Below)
    → AgainBelow n b
    → (context : StatementContext) (taken : List Identifier) (x : Identifier) (ps : List Identifier) (body : Statements)
    → WellStatement context (trees.declared_function x ps body)
    → AreFresh taken (x ∷ [])
    → height_of_statement (trees.declared_function x ps body) ≤ suc n
    → (ts r : List Token)
    → Matches (flat_statement (trees.declared_function x ps body)) ts r
    → item b context taken ts ≡ Ok (trees.declared_function x ps body, r)
unfolding item
function_item n b a context taken x ps body w d h ts r m =
    rw (first_is kinds.Function (head_of ts) m.0) (function_statement n b a context taken x ps body w d h ts r m)

pub item_again : (n : ℕ) (b : Below)
    → AgainBelow n b
    → (context : StatementContext) (taken : List Identifier) (s : Statement)
    → WellStatement context s
    → AreFresh taken (declared_by s)
    → height_of_statement s ≤ suc n
    → (ts r : List Token) → Matches (flat_statement s) ts r → Follows s r → item b context taken ts ≡ Ok (s, r)
item_again n b a context taken (trees.lexical constant ds) w d h ts r m f =
    lexical_item n b a context taken constant ds w d h ts r m f.0
item_again n b a context taken (trees.declared_function x ps body) w d h ts r m f =
    function_item n b a context taken x ps body w d h ts r m
item_again n b a context taken (trees.block ss) w d h ts r m f =
    plain_item n b a context taken (trees.block ss) w refl h ts r m f
item_again n b a context taken s w d h ts r m f = plain_item n b a context taken s w refl h ts r m f
