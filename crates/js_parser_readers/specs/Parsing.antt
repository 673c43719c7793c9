-- Reading trees: a recursive descent, with what may be read below each node.
use Rattle.std.specs.Prelude.{ℕ, zero, suc, Bool, true, false, ◌&&◌, not, List, [], ◌∷◌, length, Option, Some, None, Result, Ok, Err, nat_le, if◌then◌else◌, codes}
use Rattle.js_lexer.specs.declared.token.TokenKind.{TokenKind}
use Rattle.js_lexer.specs.declared.token.TokenKind.TheVariants as kinds
use Rattle.js_tree_operators.specs.declared.operator.UnaryOperator.TheVariants as unaries
use Rattle.js_tree_operators.specs.declared.operator.UpdateOperator.{UpdateOperator}
use Rattle.js_tree_operators.specs.declared.operator.BinaryOperator.{BinaryOperator}
use Rattle.js_tree.specs.Trees as trees
use Rattle.js_tree.specs.Trees.{Identifier, Parameters, Expression, Key, PropertyDefinition, PropertyDefinitions, Statement, Statements, Handler, Finalizer}
use Rattle.js_parser_language.specs.Tokens.{Token, after_word, after_do, head_of, tail_of, is_on_line}
use Rattle.js_parser_language.specs.Flat.{end_of_declarators, assign_kind}
use Rattle.js_parser_language.specs.Well.{StatementContext, top, function_body, loop_body, strength, is_property, is_among}
use Rattle.js_tree.specs.Targets.{is_target}
use Rattle.js_tree.specs.Height.{height, height_of_key}
use Rattle.js_tree.specs.Views.{properties}
use Rattle.js_parser_language.specs.Kinds.{is_kind}
use Rattle.js_parser_readers.specs.Reading.{Fault, stuck, deep, Read, Reader, ◌>>=◌, expect, expect_near, name_at, fresh_name, word_at, semicolon_at, elements, no_state, with_names}
use Rattle.js_parser_readers.specs.Classes as classes
use Rattle.js_parser_readers.specs.Classes.{PrimaryStart, start, CallTail, dot, key, no_link, link, update_near, Prefix, deletes, a_unary, an_update, no_prefix, prefix, operator, Joint, question, assigns_by, no_joint, joint, ArrowStart, one_parameter, listed, no_arrow, arrow_head, KeyStart, key_start, AfterKey, after_key, is_shorthand, StatementStart, first, ends_return, ForHead, each, declares, plain_head, for_head}
use Rattle.js_parser_readers.specs.Productions.{Below, more_assignments, names_before, parameters_at, items_at, braces, code_at, declarators_at, one_of, Piece, tok, a_name, the_name, an_assignment, an_expression, optional, arguments, ended, an_end, declared, a_statement, a_block, in_braces, code, seq, made}

-- what is made of a tree, where it is low enough for a node above it, which the next token shows
abbrev pub if_low : {A : Type 0} → ℕ → ℕ → List Token → Read A → Read A
if_low h n ts read = if nat_le h n then read else Err (deep (length (tail_of ts)))

-- ---- object literals

-- the key of a member that begins so
abbrev pub key_by : Below → KeyStart → Reader Key
key_by b (classes.a_word_key w) ts = Ok (trees.word_key w, tail_of ts)
key_by b (classes.a_string_key s) ts = Ok (trees.string_key s, tail_of ts)
key_by b (classes.a_number_key v) ts = Ok (trees.number_key v, tail_of ts)
key_by b classes.a_computed_key ts =
    made b (tok kinds.LeftBracket ∷ an_assignment ∷ tok kinds.RightBracket ∷ []) (λ v. trees.computed_key v.1.0) ts
key_by b classes.no_key ts = Err (stuck (length ts))

-- the key of a member (13.2.5, PropertyName)
unfoldable pub key_at : Below → Reader Key
key_at b ts = key_by b (key_start (head_of ts)) ts

-- a member behind its key: a value behind a colon, or a method, which is a level of its own
abbrev pub member_by : Below → ℕ → Key → AfterKey → Reader PropertyDefinition
member_by b n k classes.colon ts = made b (tok kinds.Colon ∷ an_assignment ∷ []) (λ v. trees.value k v.1.0) ts
member_by b n k classes.parameters ts = if_low (suc (height_of_key k)) n ts (do
  f ← b.function ts
  Ok (trees.method k f.0.parameters f.0.body, f.1))
member_by b n k classes.no_member ts = Err (stuck (length ts))

-- a member that is a name alone, or a key with what belongs to it
abbrev pub property_by : Below → ℕ → Bool → Reader PropertyDefinition
property_by b n true ts = do
  x ← name_at ts
  Ok (trees.shorthand x.0, x.1)
property_by b n false ts = do
  k ← key_at b ts
  member_by b n k.0 (after_key (head_of k.1)) k.1

-- a member of an object literal (13.2.5, PropertyDefinition)
unfoldable pub property_at : Below → ℕ → Reader PropertyDefinition
property_at b n ts = property_by b n (is_shorthand ts) ts

-- members up to the brace that ends them
unfoldable pub properties_at : Below → ℕ → Reader PropertyDefinitions
properties_at b n ts = do
  x ← elements (one_of (λ r. property_at b n r)) no_state kinds.RightBrace (suc (length ts)) tt ts
  Ok (properties x.0, x.1)

-- ---- primaries, members and calls

-- the next token is a name that isn't reserved
abbrev pub is_name_next : Option Token → Bool
is_name_next o = is_kind kinds.Name o

-- a function expression, behind its keyword
abbrev pub function_by : Below → Bool → Reader Expression
function_by b true ts = made b (a_name ∷ code ∷ []) (λ v. trees.function (Some v.0) v.1.0.parameters v.1.0.body) ts
function_by b false ts = made b (code ∷ []) (λ v. trees.function None v.0.parameters v.0.body) ts

-- a function expression behind its keyword, with a name where one follows (15.2)
unfoldable pub function_at : Below → Reader Expression
function_at b ts = function_by b (is_name_next (head_of ts)) ts

-- a primary expression that begins so
abbrev pub primary_by : Below → ℕ → PrimaryStart → Reader Expression
primary_by b n classes.this_word ts = Ok (trees.this, tail_of ts)
primary_by b n (classes.a_name s) ts = Ok (trees.name s, tail_of ts)
primary_by b n (classes.a_number v) ts = Ok (trees.number v, tail_of ts)
primary_by b n (classes.a_string s) ts = Ok (trees.string s, tail_of ts)
primary_by b n (classes.a_boolean v) ts = Ok (trees.boolean v, tail_of ts)
primary_by b n classes.null_word ts = Ok (trees.null, tail_of ts)
primary_by b n classes.bracket ts =
    made b (tok kinds.LeftBracket ∷ arguments kinds.RightBracket ∷ []) (λ v. trees.array v.1.0) ts
primary_by b n classes.brace ts = do
  ps ← properties_at b n (tail_of ts)
  Ok (trees.object ps.0, ps.1)
primary_by b n classes.parenthesis ts =
    made b (tok kinds.LeftParenthesis ∷ an_expression ∷ tok kinds.RightParenthesis ∷ [])
    (λ v. trees.parenthesized v.1.0) ts
primary_by b n classes.function_word ts = function_at b (tail_of ts)
primary_by b n classes.no_start ts = Err (stuck (length ts))

-- a primary expression (13.2)
unfoldable pub primary : Below → ℕ → Reader Expression
primary b n ts = primary_by b n (start (head_of ts)) ts

-- what goes on with the expression that was read
abbrev pub linked_by : Below → Expression → CallTail → Reader Expression
linked_by b e dot ts = do
  x ← word_at (tail_of ts)
  Ok (trees.member e x.0, x.1)
linked_by b e key ts =
    made b (tok kinds.LeftBracket ∷ an_expression ∷ tok kinds.RightBracket ∷ []) (λ v. trees.index e v.1.0) ts
linked_by b e classes.arguments ts =
    made b (tok kinds.LeftParenthesis ∷ arguments kinds.RightParenthesis ∷ []) (λ v. trees.call e v.1.0) ts
linked_by b e no_link ts = Err (stuck (length ts))

-- what was read, alone or with what goes on with it and all that follows
abbrev pub links_by : Below → ℕ → (Expression → Reader Expression) → Expression → CallTail → Reader Expression
links_by b n go e no_link ts = Ok (e, ts)
links_by b n go e l ts = if_low (height e) n ts (do
  x ← linked_by b e l ts
  go x.0 x.1)

-- members and calls of what was read, up to the room
unfoldable pub links : Below → ℕ → ℕ → Expression → Reader Expression
links b n zero e ts = Err (deep (length ts))
links b n (suc turns) e ts = links_by b n (λ f r. links b n turns f r) e (link (head_of ts)) ts

-- a primary expression with the members and calls behind it (13.3)
unfoldable pub call : Below → ℕ → Reader Expression
call b n ts = do
  x ← primary b n ts
  links b n (suc n) x.0 x.1

-- ---- operators

-- what was read, with the update operator behind it, if there is one; a target alone takes one
abbrev pub updated_by : ℕ → Expression → Option UpdateOperator → Reader Expression
updated_by n e None ts = Ok (e, ts)
updated_by n e (Some o) ts =
    if is_target e then if_low (height e) n ts (Ok (trees.postfix o e, tail_of ts)) else Err (stuck (length ts))

-- an expression, with or without an update operator behind it (13.4)
unfoldable pub postfix : Below → ℕ → Reader Expression
postfix b n ts = do
  x ← call b n ts
  updated_by n x.0 (update_near (head_of x.1)) x.1

-- an expression with this in front
abbrev pub unary_by : Below → ℕ → Prefix → Reader Expression
unary_by b n deletes ts = do
  x ← b.call (tail_of ts)
  if is_property x.0 then Ok (trees.unary unaries.Delete x.0, x.1) else Err (stuck (length x.1))
unary_by b n (a_unary o) ts = do
  x ← b.unary (tail_of ts)
  Ok (trees.unary o x.0, x.1)
unary_by b n (an_update o) ts = do
  x ← b.call (tail_of ts)
  if is_target x.0 then Ok (trees.prefix o x.0, x.1) else Err (stuck (length x.1))
unary_by b n no_prefix ts = postfix b n ts

-- an expression, with or without operators in front (13.5)
unfoldable pub unary : Below → ℕ → Reader Expression
unary b n ts = unary_by b n (prefix (head_of ts)) ts

-- the operator, if it binds at least so tightly
abbrev pub operator_from : ℕ → Option BinaryOperator → Option BinaryOperator
operator_from m None = None
operator_from m (Some o) = if nat_le m (strength o) then Some o else None

-- what was read, alone or with an operator to its right, whose right operand binds more tightly, and all that follows
abbrev pub chain_by : Below
    → ℕ
    → (Expression → Reader Expression)
    → Expression
    → Option BinaryOperator
    → Reader Expression
chain_by b n go l None ts = Ok (l, ts)
chain_by b n go l (Some o) ts = if_low (height l) n ts (do
  x ← b.operation (suc (strength o)) (tail_of ts)
  go (trees.binary o l x.0) x.1)

-- operators to the right of what was read, up to the room
unfoldable pub chain : Below → ℕ → ℕ → ℕ → Expression → Reader Expression
chain b n m zero l ts = Err (deep (length ts))
chain b n m (suc turns) l ts =
    chain_by b n (λ e r. chain b n m turns e r) l (operator_from m (operator (head_of ts))) ts

-- operands with the operators between them that bind at least so tightly (13.6 to 13.13)
unfoldable pub operation : Below → ℕ → ℕ → Reader Expression
operation b n m ts = do
  x ← unary b n ts
  chain b n m (suc n) x.0 x.1

-- ---- arrow functions

-- the body of an arrow function: statements in braces, or an expression (15.3, ConciseBody)
abbrev pub arrow_body_by : Below → Parameters → List Identifier → Bool → Reader Expression
arrow_body_by b ps names true ts =
    made b (in_braces function_body (with_names [] names) ∷ []) (λ v. trees.arrow_block ps v.0) ts
arrow_body_by b ps names false ts = made b (an_assignment ∷ []) (λ v. trees.arrow ps v.0) ts

-- the arrow and what follows it
unfoldable pub arrow_rest : Below → Parameters → List Identifier → Reader Expression
arrow_rest b ps names ts = do
  a ← expect_near kinds.Arrow ts
  arrow_body_by b ps names (is_kind kinds.LeftBrace (head_of a.1)) a.1

-- the names differ from these and from one another
abbrev pub are_fresh : List Identifier → List Identifier → Bool
are_fresh taken [] = true
are_fresh taken (n ∷ ns) = not (is_among taken n) && are_fresh (n ∷ taken) ns

-- Names that don't differ are refused at the arrow, or at the parenthesis before it where an arrow alone can follow.
abbrev pub arrow_of_names : Below → Bool → List Identifier → Reader Expression
arrow_of_names b only names ts =
    if are_fresh [] names then arrow_rest b (trees.name_list names) names ts
    else (if only then Err (stuck (suc (length ts))) else Err (stuck (length ts)))

-- an arrow function whose only parameter has no parentheses
unfoldable pub arrow_of_one : Below → Reader Expression
arrow_of_one b ts = do
  n ← name_at ts
  arrow_rest b (trees.one_name n.0) (n.0 ∷ []) n.1

-- an arrow function with its parameters in parentheses
unfoldable pub arrow_of_list : Below → Bool → Reader Expression
arrow_of_list b only ts = do
  o ← expect kinds.LeftParenthesis ts
  ns ← names_before o.1
  arrow_of_names b only ns.0 ns.1

-- ---- assignments

-- what was read: the test of a conditional, the target of an assignment, or all there is
abbrev pub joined_by : Below → ℕ → Expression → Joint → Reader Expression
joined_by b n t question ts =
    if_low (height t) n ts
    (made b (tok kinds.Question ∷ an_assignment ∷ tok kinds.Colon ∷ an_assignment ∷ [])
    (λ v. trees.conditional t v.1.0 v.1.1.1.0) ts)
joined_by b n t (assigns_by o) ts =
    if is_target t then if_low (height t) n ts
    (made b (tok (assign_kind o) ∷ an_assignment ∷ []) (λ v. trees.assign o t v.1.0) ts) else Err
    (stuck (length ts))
joined_by b n t no_joint ts = Ok (t, ts)

-- an operation that was read, with what goes on with it (13.14, 13.15)
unfoldable pub joined : Below → ℕ → Expression → Reader Expression
joined b n t ts = joined_by b n t (joint (head_of ts)) ts

-- an arrow function where the tokens begin one, else an operation, whose operators bind as `||` at least (3,
-- an_operation of the levels), with what goes on with it
abbrev pub assignment_by : Below → ℕ → ArrowStart → Reader Expression
assignment_by b n one_parameter ts = arrow_of_one b ts
assignment_by b n (listed only) ts = arrow_of_list b only ts
assignment_by b n no_arrow ts = do
  x ← operation b n 3 ts
  joined b n x.0 x.1

-- an expression without commas (13.15, AssignmentExpression)
unfoldable pub assignment : Below → ℕ → Reader Expression
assignment b n ts = assignment_by b n (arrow_head ts) ts

-- what was read, alone or as the first part of a comma list
abbrev pub comma_by : Below → ℕ → Expression → Bool → Reader Expression
comma_by b n e false ts = Ok (e, ts)
comma_by b n e true ts = if_low (height e) n ts (do
  x ← more_assignments b ts
  Ok (trees.comma (trees.an_expression e x.0), x.1))

-- an expression (13.16)
unfoldable pub expression : Below → ℕ → Reader Expression
expression b n ts = do
  x ← assignment b n ts
  comma_by b n x.0 (is_kind kinds.Comma (head_of x.1)) x.1

-- ---- statements

-- an `if` whose first branch was read, with the `else` that may follow
abbrev pub else_by : Below → StatementContext → Expression → Statement → Bool → Reader Statement
else_by b context e s true ts = made b (tok kinds.Else ∷ a_statement context ∷ []) (λ v. trees.if_else e s v.1.0) ts
else_by b context e s false ts = Ok (trees.if_then e s, ts)

-- an `if` up to its first branch
abbrev pub if_items : StatementContext → List Piece
if_items context =
    tok kinds.If ∷ tok kinds.LeftParenthesis ∷ an_expression ∷ tok kinds.RightParenthesis ∷ a_statement context ∷ []

-- an `if` statement; an `else` goes with the nearest one (14.6)
unfoldable pub if_at : Below → StatementContext → Reader Statement
if_at b context ts = do
  x ← seq b (if_items context) ts
  else_by b context x.0.1.1.0 x.0.1.1.1.1.0 (is_kind kinds.Else (head_of x.1)) x.1

-- the keyword of a declaration, of names that are constant or not
abbrev pub let_kind : Bool → TokenKind
let_kind true = kinds.Const
let_kind false = kinds.Let

-- a `do` statement (14.7.2)
abbrev pub do_items : StatementContext → List Piece
do_items context =
    tok kinds.Do ∷ a_statement (loop_body context)
    ∷ tok kinds.While ∷ tok kinds.LeftParenthesis ∷ an_expression ∷ tok kinds.RightParenthesis ∷ an_end after_do ∷ []

-- a `while` statement (14.7.3)
abbrev pub while_items : StatementContext → List Piece
while_items context =
    tok kinds.While ∷ tok kinds.LeftParenthesis ∷ an_expression ∷ tok kinds.RightParenthesis ∷ a_statement
    (loop_body context) ∷ []

-- a `for` without a declaration, each part of which may be left out (14.7.4)
abbrev pub for_items : StatementContext → List Piece
for_items context =
    tok kinds.For ∷ tok kinds.LeftParenthesis ∷ optional kinds.Semicolon ∷ optional kinds.Semicolon ∷ optional
    kinds.RightParenthesis ∷ a_statement
    (loop_body context) ∷ []

-- a `for` with `let` or `const` (14.7.4)
abbrev pub for_lexical_items : StatementContext → Bool → List Piece
for_lexical_items context constant =
    tok kinds.For ∷ tok kinds.LeftParenthesis ∷ tok (let_kind constant)
    ∷ declared constant [] ∷ tok kinds.Semicolon ∷ optional kinds.Semicolon ∷ optional kinds.RightParenthesis ∷
    a_statement
    (loop_body context) ∷ []

-- a `for .. of` with one name (14.7.5)
abbrev pub for_of_items : StatementContext → Bool → List Piece
for_of_items context constant =
    tok kinds.For ∷ tok kinds.LeftParenthesis ∷ tok (let_kind constant) ∷ a_name ∷ the_name (codes "of")
    ∷ an_assignment ∷ tok kinds.RightParenthesis ∷ a_statement (loop_body context) ∷ []

-- a `for` whose head begins so
abbrev pub for_by : Below → StatementContext → ForHead → Reader Statement
for_by b context (each constant) ts =
    made b (for_of_items context constant) (λ v. trees.for_of constant v.1.1.1.0 v.1.1.1.1.1.0 v.1.1.1.1.1.1.1.0) ts
for_by b context (declares constant) ts =
    made b (for_lexical_items context constant)
    (λ v. trees.for_lexical constant v.1.1.1.0 v.1.1.1.1.1.0 v.1.1.1.1.1.1.0 v.1.1.1.1.1.1.1.0) ts
for_by b context plain_head ts =
    made b (for_items context) (λ v. trees.for v.1.1.0 v.1.1.1.0 v.1.1.1.1.0 v.1.1.1.1.1.0) ts

-- a `for` of any kind, by what stands behind its parenthesis
unfoldable pub for_at : Below → StatementContext → Reader Statement
for_at b context ts = for_by b context (for_head (tail_of (tail_of ts))) ts

-- a `return` without a value, or with one (14.10)
abbrev pub return_by : Below → Bool → Reader Statement
return_by b true ts = made b (tok kinds.Return ∷ an_end after_word ∷ []) (λ v. trees.return trees.omitted) ts
return_by b false ts = made b (tok kinds.Return ∷ ended ∷ []) (λ v. trees.return (trees.present v.1.0)) ts

-- a `throw` whose value stands on its line, or else the fault there (14.14)
abbrev pub throw_by : Below → Bool → Reader Statement
throw_by b true ts = made b (tok kinds.Throw ∷ ended ∷ []) (λ v. trees.throw v.1.0) ts
throw_by b false ts = Err (stuck (length (tail_of ts)))

-- ---- try

-- the block of a catch with its name, if it has one
abbrev pub catch_by : Below → StatementContext → Bool → Reader Handler
catch_by b context true ts = do
  n ← seq b (tok kinds.LeftParenthesis ∷ a_name ∷ tok kinds.RightParenthesis ∷ []) ts
  x ← b.block context (n.0.1.0 ∷ []) n.1
  Ok (trees.catch (Some n.0.1.0) x.0, x.1)
catch_by b context false ts = do
  x ← b.block context [] ts
  Ok (trees.catch None x.0, x.1)

-- the catch that stands here, or none
abbrev pub handler_by : Below → StatementContext → Bool → Reader Handler
handler_by b context true ts = catch_by b context (is_kind kinds.LeftParenthesis (head_of (tail_of ts))) (tail_of ts)
handler_by b context false ts = Ok (trees.no_catch, ts)

-- the catch of a `try`, if it has one
unfoldable pub handler_at : Below → StatementContext → Reader Handler
handler_at b context ts = handler_by b context (is_kind kinds.Catch (head_of ts)) ts

-- the finally that stands here, or none behind a catch; a `try` has one of the two
abbrev pub finalizer_by : Below → StatementContext → Handler → Bool → Reader Finalizer
finalizer_by b context h true ts = made b (tok kinds.Finally ∷ a_block context [] ∷ []) (λ v. trees.finally v.1.0) ts
finalizer_by b context trees.no_catch false ts = Err (stuck (length ts))
finalizer_by b context (trees.catch n ss) false ts = Ok (trees.no_finally, ts)

-- the finally of a `try`, if it has one
unfoldable pub finalizer_at : Below → StatementContext → Handler → Reader Finalizer
finalizer_at b context h ts = finalizer_by b context h (is_kind kinds.Finally (head_of ts)) ts

-- a `try` statement (14.15)
unfoldable pub try_at : Below → StatementContext → Reader Statement
try_at b context ts = do
  x ← seq b (tok kinds.Try ∷ a_block context [] ∷ []) ts
  h ← handler_at b context x.1
  f ← finalizer_at b context h.0 h.1
  Ok (trees.try x.0.1.0 h.0 f.0, f.1)

-- ---- any statement

-- a statement that begins so; declarations are none
abbrev pub statement_by : Below → StatementContext → StatementStart → Reader Statement
statement_by b context classes.a_block ts = made b (in_braces context [] ∷ []) (λ v. trees.block v.0) ts
statement_by b context (classes.a_lexical constant) ts = Err (stuck (length ts))
statement_by b context classes.a_semicolon ts = Ok (trees.empty, tail_of ts)
statement_by b context classes.an_if ts = if_at b context ts
statement_by b context classes.a_do ts = made b (do_items context) (λ v. trees.do_while v.1.0 v.1.1.1.1.0) ts
statement_by b context classes.a_while ts = made b (while_items context) (λ v. trees.while v.1.1.0 v.1.1.1.1.0) ts
statement_by b context classes.a_for ts = for_at b context ts
statement_by b context classes.a_continue ts =
    if context.in_loop then made b (tok kinds.Continue ∷ an_end after_word ∷ []) (λ v. trees.continue) ts else Err
    (stuck (length ts))
statement_by b context classes.a_break ts =
    if context.in_loop then made b (tok kinds.Break ∷ an_end after_word ∷ []) (λ v. trees.break) ts else Err
    (stuck (length ts))
statement_by b context classes.a_return ts =
    if context.in_function then return_by b (ends_return (head_of (tail_of ts))) ts else Err (stuck (length ts))
statement_by b context classes.a_throw ts = throw_by b (is_on_line (head_of (tail_of ts))) ts
statement_by b context classes.a_try ts = try_at b context ts
statement_by b context classes.a_debugger ts =
    made b (tok kinds.Debugger ∷ an_end after_word ∷ []) (λ v. trees.debugger) ts
statement_by b context classes.a_function ts = Err (stuck (length ts))
statement_by b context classes.an_expression ts = made b (ended ∷ []) (λ v. trees.expression v.0) ts

-- a statement (14, Statement)
unfoldable pub statement : Below → StatementContext → Reader Statement
statement b context ts = statement_by b context (first (head_of ts)) ts

-- let or const with its names
unfoldable pub lexical_at : Below → Bool → List Identifier → Reader Statement
lexical_at b constant taken ts = do
  ds ← declarators_at b constant taken (tail_of ts)
  s ← semicolon_at (end_of_declarators ds.0) ds.1
  Ok (trees.lexical constant ds.0, s.1)

-- a function declaration
unfoldable pub declaration_at : Below → List Identifier → Reader Statement
declaration_at b taken ts = do
  n ← fresh_name taken (tail_of ts)
  f ← code_at b n.1
  Ok (trees.declared_function n.0 f.0.parameters f.0.body, f.1)

-- a statement or declaration that begins so
abbrev pub item_by : Below → StatementContext → List Identifier → StatementStart → Reader Statement
item_by b context taken (classes.a_lexical constant) ts = lexical_at b constant taken ts
item_by b context taken classes.a_function ts = declaration_at b taken ts
item_by b context taken f ts = statement b context ts

-- a statement or declaration, whose names differ from those before it in its list (14.2, StatementListItem)
unfoldable pub item : Below → StatementContext → List Identifier → Reader Statement
item b context taken ts = item_by b context taken (first (head_of ts)) ts

-- ---- what reads trees that are at most n high

-- the readers of all parts, where trees may be at most so high; none is of height 0
unfoldable pub below : ℕ → Below
below zero = record {
  assignment = λ ts. Err (deep (length ts));
  expression = λ ts. Err (deep (length ts));
  operation = λ m ts. Err (deep (length ts));
  unary = λ ts. Err (deep (length ts));
  call = λ ts. Err (deep (length ts));
  statement = λ context ts. Err (deep (length ts));
  item = λ context taken ts. Err (deep (length ts));
  block = λ context taken ts. Err (deep (length ts));
  function = λ ts. Err (deep (length ts));
}
below (suc n) = record {
  assignment = λ ts. assignment (below n) n ts;
  expression = λ ts. expression (below n) n ts;
  operation = λ m ts. operation (below n) n m ts;
  unary = λ ts. unary (below n) n ts;
  call = λ ts. call (below n) n ts;
  statement = λ context ts. statement (below n) context ts;
  item = λ context taken ts. item (below n) context taken ts;
  block = λ context taken ts. braces (below n) context taken ts;
  function = λ ts. code_at (below n) ts;
}

-- ---- whole sources

-- a tree that was read of all of the tokens, or the fault where some are left
abbrev pub ended_by : {A : Type 0} → A → List Token → Result A Fault
ended_by t [] = Ok t
ended_by t (x ∷ ts) = Err (stuck (suc (length ts)))

-- what was read, where no token is left behind it
abbrev pub whole : {A : Type 0} → Read A → Result A Fault
whole (Err e) = Err e
whole (Ok x) = ended_by x.0 x.1

-- the statements of a script of at most this height, whose names differ from those of earlier scripts (16.1)
unfoldable pub parse_script : ℕ → List Identifier → List Token → Result Statements Fault
parse_script n earlier ts = whole (items_at (below n) top earlier ts)

-- the expression of an expression source, of at most this height
unfoldable pub parse_expression : ℕ → List Token → Result Expression Fault
parse_expression n ts = whole ((below n).expression ts)

-- a function expression, or an arrow function, at most n below it
abbrev pub function_code_by : Below → PrimaryStart → Reader Expression
function_code_by b classes.function_word ts = function_at b (tail_of ts)
function_code_by b (classes.a_name s) ts = arrow_of_one b ts
function_code_by b classes.parenthesis ts = do
  ps ← parameters_at ts
  arrow_rest b (trees.name_list ps.0) ps.0 ps.1
function_code_by b _ ts = Err (stuck (length ts))

-- the function of a function source, of at most this height
unfoldable pub parse_function : ℕ → List Token → Result Expression Fault
parse_function zero ts = Err (deep (length ts))
parse_function (suc n) ts = whole (function_code_by (below n) (start (head_of ts)) ts)
