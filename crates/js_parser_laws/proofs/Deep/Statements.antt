-- Where a tree would be too deep: statements, where what reads below them keeps it.
use Rattle.std.proofs.Common.{ℕ, suc, Bool, true, false, cond, List, [], ◌∷◌, length, Some, None, Ok, Err}
use Rattle.std.specs.Prelude.{codes}
use Rattle.js_lexer.specs.declared.token.TokenKind.TheVariants as kinds
use Rattle.js_tree.specs.Trees as trees
use Rattle.js_tree.specs.Trees.{Identifier, Expression, Declarator, Statement, Handler}
use Rattle.js_parser_language.specs.Tokens.{after_word, head_of, tail_of, is_on_line}
use Rattle.js_parser_language.specs.Flat.{end_of_declarators}
use Rattle.js_parser_language.specs.Well.{StatementContext}
use Rattle.js_tree.specs.Views.{declarators}
use Rattle.js_parser_language.specs.Kinds.{is_kind}
use Rattle.js_parser_readers.specs.Classes as classes
use Rattle.js_parser_readers.specs.Classes.{StatementStart, first, ends_return, is_name, for_head_by, for_head}
use Rattle.js_parser_readers.specs.Reading.{stuck, Reader, ◌>>=◌, expect, name_at, fresh_name, semicolon_at, others}
use Rattle.js_parser_readers.specs.Productions.{Below, code_at, initializer_by, declarator_at, with_declarator, declarators_at, tok, a_name, the_name, ended, an_end, a_statement, a_block, in_braces, seq, made}
use Rattle.js_parser_readers.specs.Parsing.{else_by, if_items, if_at, let_kind, do_items, while_items, for_at, return_by, catch_by, handler_by, handler_at, finalizer_by, finalizer_at, try_at, statement, lexical_at, declaration_at, item_by, item}
use Rattle.js_parser_laws.proofs.Follows.Tools.{past, shortens}
use Rattle.js_parser_laws.proofs.Follows.Parts.{Pair, expect_follows, name_follows, fresh_follows, semicolon_follows, others_follows, code_follows, initializer_follows, declarator_follows, declarators_follows, seq_follows}
use Rattle.js_parser_laws.proofs.Follows.Statements.{for_is, for_form, for_rest, plain_items, after_declared, after_of, let_is, let_form, named_is, named_of, of_next, third_form, for_third, for_fourth, more_declarators, all_declarators, all_follows, return_is, return_rest, throw_rest, handler_follows, finalizer_follows, statement_is, statement_form}
use Rattle.js_parser_laws.proofs.Deep.Tools.{Deepens, deep_gives, deep_sticks, deep_past, deep_peeks_all, deep_token, deep_then, deep_makes, deep_as}
use Rattle.js_parser_laws.proofs.Deep.Parts.{DeepBelow, expect_deepens, name_deepens, fresh_deepens, semicolon_deepens, others_deepens, code_deepens, initializer_deepens, declarator_deepens, declarators_deepens, seq_deepens, made_deepens}

-- a test that doesn't look at tokens
deep_if : {A : Type 0} (n : ℕ) (v : Bool) (f g : Reader A)
    → Deepens n f
    → Deepens n g
    → Deepens n (λ ts. cond v (f ts) (g ts))
deep_if n true f g h k = h
deep_if n false f g h k = k

-- ---- if

else_deepens : (b : Below)
    → Pair b b
    → DeepBelow b
    → (n : ℕ) (context : StatementContext) (e : Expression) (s : Statement) (v : Bool)
    → Deepens n (λ ts. else_by b context e s v ts)
else_deepens b p d n context e s true =
    made_deepens b p d n (tok kinds.Else ∷ a_statement context ∷ []) (λ v. trees.if_else e s v.1.0)
else_deepens b p d n context e s false = deep_gives n (trees.if_then e s)

if_deepens : (b : Below) → Pair b b → DeepBelow b → (n : ℕ) (context : StatementContext) → Deepens n (λ ts. if_at b context ts)
unfolding if_at
if_deepens b p d n context =
    deep_then n (λ ts. seq b (if_items context) ts)
    (λ v ts. else_by b context v.1.1.0 v.1.1.1.1.0 (is_kind kinds.Else (head_of ts)) ts)
    (seq_follows b b p (if_items context)) (seq_deepens b p d n (if_items context))
    (λ v. deep_peeks_all n (λ o. is_kind kinds.Else o) (λ w ts. else_by b context v.1.1.0 v.1.1.1.1.0 w ts)
    (else_deepens b p d n context v.1.1.0 v.1.1.1.1.0))

-- ---- return and throw

return_deepens : (b : Below)
    → Pair b b
    → DeepBelow b
    → (n : ℕ)
    → Deepens n (λ ts. return_by b (ends_return (head_of (tail_of ts))) ts)
return_deepens b p d n =
    deep_as n (λ ts. expect kinds.Return ts >>= λ x. return_rest b (ends_return (head_of x.1)) x.1)
    (λ ts. return_by b (ends_return (head_of (tail_of ts))) ts) (return_is b)
    (deep_then n (λ ts. expect kinds.Return ts) (λ x ts. return_rest b (ends_return (head_of ts)) ts)
    (expect_follows kinds.Return) (expect_deepens n kinds.Return)
    (λ x. deep_peeks_all n ends_return (λ v ts. return_rest b v ts) (elim [
      | true ↦ made_deepens b p d n (an_end after_word ∷ []) (λ v. trees.return trees.omitted)
      | false ↦ made_deepens b p d n (ended ∷ []) (λ v. trees.return (trees.present v.0))
    ])))

throw_deepens : (b : Below)
    → Pair b b
    → DeepBelow b
    → (n : ℕ)
    → Deepens n (λ ts. throw_rest b (is_on_line (head_of ts)) ts)
throw_deepens b p d n = deep_peeks_all n is_on_line (λ v ts. throw_rest b v ts) (elim [
  | true ↦ made_deepens b p d n (ended ∷ []) (λ v. trees.throw v.0)
  | false ↦ deep_sticks n
])

-- ---- try

catch_deepens : (b : Below)
    → Pair b b
    → DeepBelow b
    → (n : ℕ) (context : StatementContext) (v : Bool)
    → Deepens n (λ ts. catch_by b context v ts)
catch_deepens b p d n context true =
    deep_then n (λ ts. seq b (tok kinds.LeftParenthesis ∷ a_name ∷ tok kinds.RightParenthesis ∷ []) ts)
    (λ s ts. b.block context (s.1.0 ∷ []) ts >>= λ x. Ok (trees.catch (Some s.1.0) x.0, x.1))
    (seq_follows b b p (tok kinds.LeftParenthesis ∷ a_name ∷ tok kinds.RightParenthesis ∷ []))
    (seq_deepens b p d n (tok kinds.LeftParenthesis ∷ a_name ∷ tok kinds.RightParenthesis ∷ []))
    (λ s. deep_makes n (λ ts. b.block context (s.1.0 ∷ []) ts) (λ ss. trees.catch (Some s.1.0) ss)
    (p.both.block context (s.1.0 ∷ [])) (d.block n context (s.1.0 ∷ [])))
catch_deepens b p d n context false =
    deep_makes n (λ ts. b.block context [] ts) (λ ss. trees.catch None ss) (p.both.block context [])
    (d.block n context [])

handler_deepens : (b : Below)
    → Pair b b
    → DeepBelow b
    → (n : ℕ) (context : StatementContext)
    → Deepens n (λ ts. handler_at b context ts)
unfolding handler_at
handler_deepens b p d n context =
    deep_peeks_all n (λ o. is_kind kinds.Catch o) (λ v ts. handler_by b context v ts) (elim [
      | true ↦ deep_past n (λ ts. catch_by b context (is_kind kinds.LeftParenthesis (head_of ts)) ts)
          (deep_peeks_all n (λ o. is_kind kinds.LeftParenthesis o) (λ v ts. catch_by b context v ts)
          (catch_deepens b p d n context))
      | false ↦ deep_gives n trees.no_catch
    ])

finalizer_by_deepens : (b : Below)
    → Pair b b
    → DeepBelow b
    → (n : ℕ) (context : StatementContext) (h : Handler) (v : Bool)
    → Deepens n (λ ts. finalizer_by b context h v ts)
finalizer_by_deepens b p d n context h true =
    made_deepens b p d n (tok kinds.Finally ∷ a_block context [] ∷ []) (λ v. trees.finally v.1.0)
finalizer_by_deepens b p d n context trees.no_catch false = deep_sticks n
finalizer_by_deepens b p d n context (trees.catch m ss) false = deep_gives n trees.no_finally

finalizer_deepens : (b : Below)
    → Pair b b
    → DeepBelow b
    → (n : ℕ) (context : StatementContext) (h : Handler)
    → Deepens n (λ ts. finalizer_at b context h ts)
unfolding finalizer_at
finalizer_deepens b p d n context h =
    deep_peeks_all n (λ o. is_kind kinds.Finally o) (λ v ts. finalizer_by b context h v ts)
    (finalizer_by_deepens b p d n context h)

try_deepens : (b : Below) → Pair b b → DeepBelow b → (n : ℕ) (context : StatementContext) → Deepens n (λ ts. try_at b context ts)
unfolding try_at
try_deepens b p d n context =
    deep_then n (λ ts. seq b (tok kinds.Try ∷ a_block context [] ∷ []) ts)
    (λ x ts. handler_at b context ts >>= λ h. finalizer_at b context h.0 h.1 >>= λ f. Ok
    (trees.try x.1.0 h.0 f.0, f.1))
    (seq_follows b b p (tok kinds.Try ∷ a_block context [] ∷ []))
    (seq_deepens b p d n (tok kinds.Try ∷ a_block context [] ∷ []))
    (λ x. deep_then n (λ ts. handler_at b context ts)
    (λ h ts. finalizer_at b context h ts >>= λ f. Ok (trees.try x.1.0 h f.0, f.1)) (handler_follows b b p context)
    (handler_deepens b p d n context)
    (λ h. deep_makes n (λ ts. finalizer_at b context h ts) (λ f. trees.try x.1.0 h f)
    (finalizer_follows b b p context h) (finalizer_deepens b p d n context h)))

-- ---- declarations

lexical_deepens : (b : Below)
    → Pair b b
    → DeepBelow b
    → (n : ℕ) (constant : Bool) (taken : List Identifier)
    → Deepens n (λ ts. lexical_at b constant taken ts)
unfolding lexical_at
lexical_deepens b p d n constant taken =
    deep_then n (λ ts. declarators_at b constant taken (tail_of ts))
    (λ ds ts. semicolon_at (end_of_declarators ds) ts >>= λ s. Ok (trees.lexical constant ds, s.1))
    (past (λ ts. declarators_at b constant taken ts) (λ ts. declarators_at b constant taken ts)
    (declarators_follows b b p constant taken))
    (deep_past n (λ ts. declarators_at b constant taken ts) (declarators_deepens b p d n constant taken))
    (λ ds. deep_makes n (λ ts. semicolon_at (end_of_declarators ds) ts) (λ s. trees.lexical constant ds)
    (semicolon_follows (end_of_declarators ds)) (semicolon_deepens n (end_of_declarators ds)))

declaration_deepens : (b : Below)
    → Pair b b
    → DeepBelow b
    → (n : ℕ) (taken : List Identifier)
    → Deepens n (λ ts. declaration_at b taken ts)
unfolding declaration_at
declaration_deepens b p d n taken =
    deep_then n (λ ts. fresh_name taken (tail_of ts))
    (λ s ts. code_at b ts >>= λ f. Ok (trees.declared_function s f.0.parameters f.0.body, f.1))
    (past (λ ts. fresh_name taken ts) (λ ts. fresh_name taken ts) (fresh_follows taken))
    (deep_past n (λ ts. fresh_name taken ts) (fresh_deepens n taken))
    (λ s. deep_makes n (λ ts. code_at b ts) (λ f. trees.declared_function s f.parameters f.body) (code_follows b b p)
    (code_deepens b p d n))

-- ---- for

more_deepens : (b : Below)
    → Pair b b
    → DeepBelow b
    → (n : ℕ) (k : Bool) (c : Declarator)
    → Deepens n (λ ts. more_declarators b k c ts)
more_deepens b p d n k c =
    deep_makes n
    (λ ts. others (λ names r. declarator_at b k names r) with_declarator (suc (length ts)) (with_declarator [] c)
    ts)
    (λ ds. trees.a_declarator c (declarators ds))
    (others_follows (λ names r. declarator_at b k names r) (λ names r. declarator_at b k names r) with_declarator
    (λ names. declarator_follows b b p k names)
    (λ names. shortens (λ r. declarator_at b k names r) (λ r. declarator_at b k names r)
    (declarator_follows b b p k names))
    (with_declarator [] c))
    (others_deepens (λ names r. declarator_at b k names r) with_declarator (λ names. declarator_follows b b p k names)
    (λ n names. declarator_deepens b p d n k names) n (with_declarator [] c))

fourth_deepens : (b : Below)
    → Pair b b
    → DeepBelow b
    → (n : ℕ) (context : StatementContext) (k : Bool) (s : Identifier) (w : Bool)
    → Deepens n (λ ts. for_fourth b context k s w ts)
fourth_deepens b p d n context k s true =
    made_deepens b p d n (the_name (codes "of") ∷ after_of context) (λ v. trees.for_of k s v.1.0 v.1.1.1.0)
fourth_deepens b p d n context k s false =
    deep_then n (λ ts. all_declarators b k s ts)
    (λ ds ts. made b (after_declared context) (λ v. trees.for_lexical k ds v.1.0 v.1.1.0 v.1.1.1.0) ts)
    (all_follows b b p k s)
    (deep_then n (λ ts. initializer_by b k s (is_kind kinds.Assign (head_of ts)) ts) (λ c ts. more_declarators b k c ts)
    (initializer_follows b b p k s) (initializer_deepens b p d n k s) (more_deepens b p d n k))
    (λ ds. made_deepens b p d n (after_declared context) (λ v. trees.for_lexical k ds v.1.0 v.1.1.0 v.1.1.1.0))

third_deepens : (b : Below)
    → Pair b b
    → DeepBelow b
    → (n : ℕ) (context : StatementContext) (k : Bool)
    → Deepens n (λ ts. for_third b context k (named_of ts) ts)
third_deepens b p d n context k =
    deep_as n (third_form b context k) (λ ts. for_third b context k (named_of ts) ts) (named_is b context k)
    (deep_then n (λ ts. name_at ts) (λ s ts. for_fourth b context k s (of_next ts) ts) name_follows (name_deepens n)
    (λ s. deep_peeks_all n (λ o. is_name (codes "of") o) (λ w ts. for_fourth b context k s w ts)
    (fourth_deepens b p d n context k s)))

let_deepens : (b : Below)
    → Pair b b
    → DeepBelow b
    → (n : ℕ) (context : StatementContext) (k : Bool)
    → Deepens n (λ ts. for_rest b context (for_head_by (classes.a_lexical k) (tail_of ts)) ts)
let_deepens b p d n context k =
    deep_as n (let_form b context k) (λ ts. for_rest b context (for_head_by (classes.a_lexical k) (tail_of ts)) ts)
    (let_is b context k)
    (deep_then n (λ ts. expect (let_kind k) ts) (λ x ts. for_third b context k (named_of ts) ts)
    (expect_follows (let_kind k)) (expect_deepens n (let_kind k)) (λ x. third_deepens b p d n context k))

rest_deepens : (b : Below)
    → Pair b b
    → DeepBelow b
    → (n : ℕ) (context : StatementContext) (v : StatementStart)
    → Deepens n (λ ts. for_rest b context (for_head_by v (tail_of ts)) ts)
rest_deepens b p d n context (classes.a_lexical k) = let_deepens b p d n context k
rest_deepens b p d n context _ = made_deepens b p d n (plain_items context) (λ v. trees.for v.0 v.1.0 v.1.1.0 v.1.1.1.0)

for_deepens : (b : Below) → Pair b b → DeepBelow b → (n : ℕ) (context : StatementContext) → Deepens n (λ ts. for_at b context ts)
for_deepens b p d n context = deep_as n (for_form b context) (λ ts. for_at b context ts) (for_is b context)
    (deep_then n (λ ts. expect kinds.For ts)
    (λ x ts. expect kinds.LeftParenthesis ts >>= λ y. for_rest b context (for_head y.1) y.1)
    (expect_follows kinds.For) (expect_deepens n kinds.For)
    (λ x. deep_then n (λ ts. expect kinds.LeftParenthesis ts) (λ y ts. for_rest b context (for_head ts) ts)
    (expect_follows kinds.LeftParenthesis) (expect_deepens n kinds.LeftParenthesis)
    (λ y. deep_peeks_all n first (λ v ts. for_rest b context (for_head_by v (tail_of ts)) ts)
    (rest_deepens b p d n context))))

-- ---- any statement

form_deepens : (b : Below)
    → Pair b b
    → DeepBelow b
    → (n : ℕ) (context : StatementContext) (v : StatementStart)
    → Deepens n (λ ts. statement_form b context v ts)
form_deepens b p d n context classes.a_block = made_deepens b p d n (in_braces context [] ∷ []) (λ v. trees.block v.0)
form_deepens b p d n context (classes.a_lexical constant) = deep_sticks n
form_deepens b p d n context classes.a_semicolon = deep_token n trees.empty
form_deepens b p d n context classes.an_if = if_deepens b p d n context
form_deepens b p d n context classes.a_do =
    made_deepens b p d n (do_items context) (λ v. trees.do_while v.1.0 v.1.1.1.1.0)
form_deepens b p d n context classes.a_while =
    made_deepens b p d n (while_items context) (λ v. trees.while v.1.1.0 v.1.1.1.1.0)
form_deepens b p d n context classes.a_for = for_deepens b p d n context
form_deepens b p d n context classes.a_continue =
    deep_if n context.in_loop (λ ts. made b (tok kinds.Continue ∷ an_end after_word ∷ []) (λ v. trees.continue) ts)
    (λ ts. Err (stuck (length ts)))
    (made_deepens b p d n (tok kinds.Continue ∷ an_end after_word ∷ []) (λ v. trees.continue)) (deep_sticks n)
form_deepens b p d n context classes.a_break =
    deep_if n context.in_loop (λ ts. made b (tok kinds.Break ∷ an_end after_word ∷ []) (λ v. trees.break) ts)
    (λ ts. Err (stuck (length ts)))
    (made_deepens b p d n (tok kinds.Break ∷ an_end after_word ∷ []) (λ v. trees.break)) (deep_sticks n)
form_deepens b p d n context classes.a_return =
    deep_if n context.in_function (λ ts. return_by b (ends_return (head_of (tail_of ts))) ts)
    (λ ts. Err (stuck (length ts))) (return_deepens b p d n) (deep_sticks n)
form_deepens b p d n context classes.a_throw =
    deep_past n (λ ts. throw_rest b (is_on_line (head_of ts)) ts) (throw_deepens b p d n)
form_deepens b p d n context classes.a_try = try_deepens b p d n context
form_deepens b p d n context classes.a_debugger =
    made_deepens b p d n (tok kinds.Debugger ∷ an_end after_word ∷ []) (λ v. trees.debugger)
form_deepens b p d n context classes.a_function = deep_sticks n
form_deepens b p d n context classes.an_expression = made_deepens b p d n (ended ∷ []) (λ v. trees.expression v.0)

pub statement_deepens : (b : Below)
    → Pair b b
    → DeepBelow b
    → (n : ℕ) (context : StatementContext)
    → Deepens n (λ ts. statement b context ts)
statement_deepens b p d n context =
    deep_as n (λ ts. statement_form b context (first (head_of ts)) ts) (λ ts. statement b context ts)
    (statement_is b context)
    (deep_peeks_all n first (λ v ts. statement_form b context v ts) (form_deepens b p d n context))

item_by_deepens : (b : Below)
    → Pair b b
    → DeepBelow b
    → (n : ℕ) (context : StatementContext) (taken : List Identifier) (v : StatementStart)
    → Deepens n (λ ts. item_by b context taken v ts)
item_by_deepens b p d n context taken (classes.a_lexical constant) = lexical_deepens b p d n constant taken
item_by_deepens b p d n context taken classes.a_function = declaration_deepens b p d n taken
item_by_deepens b p d n context taken _ = statement_deepens b p d n context

pub list_item_deepens : (b : Below)
    → Pair b b
    → DeepBelow b
    → (n : ℕ) (context : StatementContext) (taken : List Identifier)
    → Deepens n (λ ts. item b context taken ts)
unfolding item
list_item_deepens b p d n context taken =
    deep_peeks_all n first (λ v ts. item_by b context taken v ts) (item_by_deepens b p d n context taken)
