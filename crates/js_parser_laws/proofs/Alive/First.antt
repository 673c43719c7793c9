-- A token that begins an expression or a statement lives, whatever follows it: the tree that it begins, with what is
-- added behind it.
use Rattle.std.proofs.Common.{◌≡◌, Bool, true, false, List, [], ◌∷◌, ◌++◌, length, Option, None, refl, ap, ◌∙◌, inl, inr, arith}
use Rattle.js_lexer.specs.declared.token.TokenKind.{TokenKind}
use Rattle.js_lexer.specs.declared.token.TokenKind.TheVariants as kinds
use Rattle.js_tree_operators.specs.declared.operator.UnaryOperator.TheVariants as unaries
use Rattle.js_tree.specs.Trees as trees
use Rattle.js_tree.specs.Trees.{Identifier, Expression, Statement}
use Rattle.js_parser_language.specs.Tokens.{Token, fixed, identifier, identifier_name, numeric_literal, FlatToken, token, beside, semicolon, plain, after_expression, after_word, after_do, head_of, tail_of, IsNext, Matches}
use Rattle.js_parser_language.specs.Flat.{edge, unary_kind, update_kind, flat, flat_statement}
use Rattle.js_parser_language.specs.Well.{StatementContext}
use Rattle.js_parser_language.specs.Kinds.{is_kind}
use Rattle.js_parser_readers.specs.Reading.{deep}
use Rattle.js_parser_readers.specs.Classes as classes
use Rattle.js_parser_readers.specs.Classes.{PrimaryStart, start, Prefix, deletes, a_unary, an_update, no_prefix, prefix, StatementStart}
use Rattle.js_parser_readers.specs.Parsing.{let_kind}
use Rattle.js_parser_laws.proofs.HeadLemmas.{start_boolean, prefix_unary}
use Rattle.js_parser_laws.proofs.Sound.Part.{initialized_present}
use Rattle.js_parser_laws.proofs.Sound.Statement.{no_function, no_brace}
use Rattle.js_parser_laws.proofs.Alive.Tools.{Added, added, a_token, a_near_token, a_name_token, Nothing, Starts, is_firm, Lives, stopped, ends_in}
use Rattle.js_parser_laws.proofs.Alive.Parts.{Fits, IsStatement, IsItem, zero_marks, zero_initialized, zero_declarator, some_name, some_name_fresh, fresh_token, declared_more}
use Rattle.js_parser_laws.proofs.Alive.Expressions.{zero_token, x_name, start_bracket}
use Rattle.js_parser_laws.proofs.Alive.Statements.{FirstNext, empty_braces, empty_brace_tokens, let_marks}
use Rattle.js_parser_readers.proofs.ClassLemmas.{start_this, start_null, start_brace, start_function, start_name, start_number, start_string, prefix_delete, prefix_update}
use Rattle.js_parser_laws.proofs.Follows.Assignments.{start_paren}

-- ---- expressions

-- what begins a primary expression
abbrev pub is_start : PrimaryStart → Bool
is_start classes.no_start = false
is_start _ = true

-- one token, and what is added
pub first_token : {A : Type 0} {flat_as : A → List FlatToken} {Fine : A → Type 0} (k : TokenKind) (ts : List Token)
    → IsNext (fixed k) (head_of ts)
    → (tree : A)
    → Fine tree
    → (ns : List FlatToken) (more : List Added)
    → ((r : List Token) → Matches ns (added more ++ r) r)
    → token (fixed k) ∷ ns ≡ flat_as tree
    → Lives Nothing flat_as Fine ts (deep (length (tail_of ts)))
first_token k ts f tree fine ns more spelled same =
    stopped (token (fixed k) ∷ []) refl ts (tail_of ts) (f, refl) (deep (length (tail_of ts)))
    refl tree fine ns more spelled same

boolean_firm : (c : Bool) → is_firm (flat (trees.boolean c)) ≡ true
boolean_firm true = refl
boolean_firm false = refl

boolean_alone : (c : Bool) → flat (trees.boolean c) ++ [] ≡ flat (trees.boolean c)
boolean_alone true = refl
boolean_alone false = refl

pub start_lives : (c : PrimaryStart) (ts : List Token)
    → start (head_of ts) ≡ c
    → is_start c ≡ true
    → Lives Nothing flat (Fits 15) ts (deep (length (tail_of ts)))
start_lives classes.this_word ts f h =
    first_token kinds.This ts (start_this (head_of ts) f) trees.this (tt, omega arith) [] [] (λ r. refl) refl
start_lives (classes.a_name w) ts f h =
    stopped (flat (trees.name w)) refl ts (tail_of ts) (start_name w (head_of ts) f, refl) (deep (length (tail_of ts)))
    refl (trees.name w) (tt, omega arith) [] [] (λ r. refl) refl
start_lives (classes.a_number w) ts f h =
    stopped (flat (trees.number w)) refl ts (tail_of ts) (start_number w (head_of ts) f, refl)
    (deep (length (tail_of ts))) refl (trees.number w) (tt, omega arith) [] [] (λ r. refl) refl
start_lives (classes.a_string w) ts f h =
    stopped (flat (trees.string w)) refl ts (tail_of ts) (start_string w (head_of ts) f, refl)
    (deep (length (tail_of ts))) refl (trees.string w) (tt, omega arith) [] [] (λ r. refl) refl
start_lives (classes.a_boolean w) ts f h =
    stopped (flat (trees.boolean w)) (boolean_firm w) ts (tail_of ts) (start_boolean w ts f)
    (deep (length (tail_of ts))) refl (trees.boolean w) (tt, omega arith) [] [] (λ r. refl) (boolean_alone w)
start_lives classes.null_word ts f h =
    first_token kinds.Null ts (start_null (head_of ts) f) trees.null (tt, omega arith) [] [] (λ r. refl) refl
start_lives classes.bracket ts f h =
    first_token kinds.LeftBracket ts (start_bracket (head_of ts) f) (trees.array trees.no_expressions) (tt, omega arith)
    (token (fixed kinds.RightBracket) ∷ []) (a_token kinds.RightBracket ∷ []) (λ r. (refl, refl)) refl
start_lives classes.brace ts f h =
    first_token kinds.LeftBrace ts (start_brace (head_of ts) f) (trees.object trees.no_properties) (tt, omega arith)
    (token (fixed kinds.RightBrace) ∷ []) (a_token kinds.RightBrace ∷ []) (λ r. (refl, refl)) refl
start_lives classes.parenthesis ts f h =
    first_token kinds.LeftParenthesis ts (start_paren (head_of ts) f) (trees.parenthesized (trees.number 0))
    (tt, omega arith) (token (numeric_literal 0) ∷ token (fixed kinds.RightParenthesis) ∷ [])
    (a_token kinds.Number ∷ a_token kinds.RightParenthesis ∷ []) (λ r. ((refl, refl), (refl, refl))) refl
start_lives classes.function_word ts f h =
    first_token kinds.Function ts (start_function (head_of ts) f) (trees.function None [] trees.no_statements)
    (((tt, tt), tt), omega arith)
    (token (fixed kinds.LeftParenthesis) ∷ token (fixed kinds.RightParenthesis) ∷ empty_braces)
    (a_token kinds.LeftParenthesis ∷ a_token kinds.RightParenthesis ∷ empty_brace_tokens)
    (λ r. (refl, (refl, (refl, (refl, refl))))) refl
start_lives classes.no_start ts f h = absurd cc

-- what begins a unary expression
abbrev pub is_prefix : Prefix → Bool
is_prefix no_prefix = false
is_prefix _ = true

-- x.x
abbrev x_member : Expression
x_member = trees.member (trees.name x_name) x_name

abbrev x_member_marks : List FlatToken
x_member_marks = token (identifier x_name) ∷ token (fixed kinds.Dot) ∷ token (identifier_name x_name) ∷ []

abbrev x_member_tokens : List Added
x_member_tokens = a_name_token x_name refl ∷ a_token kinds.Dot ∷ a_name_token x_name refl ∷ []

x_member_spelled : (r : List Token) → Matches x_member_marks (added x_member_tokens ++ r) r
x_member_spelled r = ((refl, refl), (refl, ((refl, refl), refl)))

pub prefix_lives : (c : Prefix) (ts : List Token)
    → prefix (head_of ts) ≡ c
    → is_prefix c ≡ true
    → Lives Nothing flat (Fits 13) ts (deep (length (tail_of ts)))
prefix_lives deletes ts f h =
    first_token kinds.Delete ts (prefix_delete (head_of ts) f) (trees.unary unaries.Delete x_member)
    (((tt, omega arith), omega arith, refl), omega arith) x_member_marks x_member_tokens x_member_spelled refl
prefix_lives (a_unary o) ts f h =
    let u = prefix_unary o (head_of ts) f in
    first_token (unary_kind o) ts u.0 (trees.unary o (trees.number 0))
    ((tt, omega arith, u.1 (trees.number 0)), omega arith) zero_marks zero_token (λ r. ((refl, refl), refl)) refl
prefix_lives (an_update o) ts f h =
    first_token (update_kind o) ts (prefix_update o (head_of ts) f) (trees.prefix o x_member)
    (((tt, omega arith), refl), omega arith) x_member_marks x_member_tokens x_member_spelled refl
prefix_lives no_prefix ts f h = absurd cc

-- ---- statements

-- what begins a statement that may stand here, other than an expression
abbrev pub may_stand : StatementContext → StatementStart → Bool
may_stand context (classes.a_lexical constant) = false
may_stand context classes.a_continue = context.in_loop
may_stand context classes.a_break = context.in_loop
may_stand context classes.a_return = context.in_function
may_stand context classes.a_function = false
may_stand context classes.an_expression = false
may_stand context _ = true

-- ( 0 ) 0 ; behind a word
abbrev test_marks : List FlatToken
test_marks =
    token (fixed kinds.LeftParenthesis) ∷ token (numeric_literal 0) ∷ token (fixed kinds.RightParenthesis) ∷ token
    (numeric_literal 0) ∷ semicolon (after_expression plain) ∷ []

abbrev test_tokens : List Added
test_tokens =
    a_token kinds.LeftParenthesis ∷ a_token kinds.Number ∷ a_token kinds.RightParenthesis ∷ a_token kinds.Number ∷
    a_token kinds.Semicolon ∷ []

test_spelled : (r : List Token) → Matches test_marks (added test_tokens ++ r) r
test_spelled r = (refl, ((refl, refl), (refl, ((refl, refl), inl (refl, refl)))))

abbrev zero_do : List FlatToken
zero_do =
    token (numeric_literal 0) ∷ semicolon (after_expression plain) ∷ token (fixed kinds.While) ∷ token
    (fixed kinds.LeftParenthesis) ∷ token (numeric_literal 0) ∷ token (fixed kinds.RightParenthesis)
    ∷ semicolon after_do ∷ []

abbrev zero_do_tokens : List Added
zero_do_tokens =
    a_token kinds.Number ∷ a_token kinds.Semicolon ∷ a_token kinds.While ∷ a_token kinds.LeftParenthesis ∷ a_token
    kinds.Number ∷ a_token kinds.RightParenthesis ∷ a_token kinds.Semicolon ∷ []

abbrev zero_for : List FlatToken
zero_for =
    token (fixed kinds.LeftParenthesis) ∷ token (fixed kinds.Semicolon) ∷ token (fixed kinds.Semicolon) ∷ token
    (fixed kinds.RightParenthesis) ∷ token (numeric_literal 0) ∷ semicolon (after_expression plain) ∷ []

abbrev zero_for_tokens : List Added
zero_for_tokens =
    a_token kinds.LeftParenthesis ∷ a_token kinds.Semicolon ∷ a_token kinds.Semicolon ∷ a_token kinds.RightParenthesis ∷
    a_token kinds.Number ∷ a_token kinds.Semicolon ∷ []

abbrev zero_statement_tree : Statement
zero_statement_tree = trees.expression (trees.number 0)

-- a word and its semicolon
abbrev word_end : List FlatToken
word_end = semicolon after_word ∷ []

abbrev end_token : List Added
end_token = a_token kinds.Semicolon ∷ []

pub first_lives : (context : StatementContext) (c : StatementStart) (ts : List Token)
    → FirstNext c (head_of ts)
    → may_stand context c ≡ true
    → Lives Nothing flat_statement (IsStatement context) ts (deep (length (tail_of ts)))
first_lives context classes.a_block ts f h =
    first_token kinds.LeftBrace ts f (trees.block trees.no_statements) ((tt, tt), refl)
    (token (fixed kinds.RightBrace) ∷ []) (a_token kinds.RightBrace ∷ []) (λ r. (refl, refl)) refl
first_lives context (classes.a_lexical constant) ts f h = absurd cc
first_lives context classes.a_semicolon ts f h =
    first_token kinds.Semicolon ts f trees.empty (tt, refl) [] [] (λ r. refl) refl
first_lives context classes.an_if ts f h =
    first_token kinds.If ts f (trees.if_then (trees.number 0) zero_statement_tree) ((tt, (tt, refl, refl), refl), refl)
    test_marks test_tokens test_spelled refl
first_lives context classes.a_do ts f h =
    first_token kinds.Do ts f (trees.do_while zero_statement_tree (trees.number 0)) (((tt, refl, refl), refl, tt), refl)
    zero_do zero_do_tokens
    (λ r. ((refl, refl), inl (refl, (refl, (refl, ((refl, refl), (refl, inl (refl, refl)))))))) refl
first_lives context classes.a_while ts f h =
    first_token kinds.While ts f (trees.while (trees.number 0) zero_statement_tree) ((tt, (tt, refl, refl), refl), refl)
    test_marks test_tokens test_spelled refl
first_lives context classes.a_for ts f h =
    first_token kinds.For ts f (trees.for trees.omitted trees.omitted trees.omitted zero_statement_tree)
    ((tt, tt, tt, (tt, refl, refl), refl), refl) zero_for zero_for_tokens
    (λ r. (refl, (refl, (refl, (refl, ((refl, refl), inl (refl, refl))))))) refl
first_lives context classes.a_continue ts f h =
    first_token kinds.Continue ts f trees.continue (h, refl) word_end end_token (λ r. inl (refl, refl)) refl
first_lives context classes.a_break ts f h =
    first_token kinds.Break ts f trees.break (h, refl) word_end end_token (λ r. inl (refl, refl)) refl
first_lives context classes.a_return ts f h =
    first_token kinds.Return ts f (trees.return trees.omitted) ((h, tt), refl) word_end end_token
    (λ r. inl (refl, refl)) refl
first_lives context classes.a_throw ts f h =
    first_token kinds.Throw ts f (trees.throw (trees.number 0)) (tt, refl)
    (beside (numeric_literal 0) ∷ semicolon (after_expression plain) ∷ []) (a_near_token kinds.Number ∷ end_token)
    (λ r. ((refl, refl), refl, inl (refl, refl))) refl
first_lives context classes.a_try ts f h =
    first_token kinds.Try ts f (trees.try trees.no_statements trees.no_catch (trees.finally trees.no_statements))
    ((tt, tt, tt, (tt, tt), refl), refl) (empty_braces ++ (token (fixed kinds.Finally) ∷ empty_braces))
    (empty_brace_tokens ++ (a_token kinds.Finally ∷ empty_brace_tokens))
    (λ r. (refl, (refl, (refl, (refl, (refl, refl)))))) refl
first_lives context classes.a_debugger ts f h =
    first_token kinds.Debugger ts f trees.debugger (tt, refl) word_end end_token (λ r. inl (refl, refl)) refl
first_lives context classes.a_function ts f h = absurd cc
first_lives context classes.an_expression ts f h = absurd cc

-- an expression that begins with neither { nor function, as a statement
pub expression_first_lives : (context : StatementContext) (ts : List Token)
    → FirstNext classes.an_expression (head_of ts)
    → Lives Nothing flat (Fits 0) ts (deep (length (tail_of ts)))
    → Lives Nothing flat_statement (IsStatement context) ts (deep (length (tail_of ts)))
expression_first_lives context ts f l =
    let us = l.before ++ (added l.rest ++ []) in
    let brace = still_other kinds.LeftBrace us f.0 (l.starts []) in
    let word = still_other kinds.Function us f.1 (l.starts []) in
    ends_in l (trees.expression l.tree) (
      (
        l.good.0,
        no_brace (flat l.tree) us [] brace (l.spelled []),
        no_function (flat l.tree) us [] word (l.spelled []),
      ),
      refl,
    )
    (semicolon (after_expression (edge l.tree)) ∷ []) end_token (λ r. inl (refl, refl)) refl
  where
    still_other : (k : TokenKind) (us : List Token)
        → is_kind k (head_of ts) ≡ false
        → Starts Nothing ts us
        → is_kind k (head_of us) ≡ false
    still_other k us f (inl same) = ap (λ (o : Option Token). is_kind k o) same ∙ f
    still_other k us f (inr none) = absurd none

-- ---- declarations

pub lexical_first_lives : (context : StatementContext) (taken : List Identifier) (constant : Bool) (ts : List Token)
    → IsNext (fixed (let_kind constant)) (head_of ts)
    → Lives Nothing flat_statement (IsItem context taken) ts (deep (length (tail_of ts)))
lexical_first_lives context taken constant ts f =
    let n = some_name taken in
    let ds = trees.a_declarator (zero_declarator n) trees.no_declarators in
    let d = declared_more constant taken (zero_declarator n) []
    ((tt, omega arith), initialized_present constant n (trees.number 0), some_name_fresh taken) tt in
    let ms = token (identifier n) ∷ token (fixed kinds.Assign) ∷ token (numeric_literal 0) ∷ semicolon
    (after_expression plain) ∷ [] in
    first_token (let_kind constant) ts f (trees.lexical constant ds) ((d.0, d.1, d.2), d.3) ms
    (fresh_token taken ∷ (zero_initialized ++ end_token))
    (λ r. ((refl, refl), (refl, ((refl, refl), inl (refl, refl))))) (let_marks constant ms)

pub function_first_lives : (context : StatementContext) (taken : List Identifier) (ts : List Token)
    → IsNext (fixed kinds.Function) (head_of ts)
    → Lives Nothing flat_statement (IsItem context taken) ts (deep (length (tail_of ts)))
function_first_lives context taken ts f =
    let n = some_name taken in
    first_token kinds.Function ts f (trees.declared_function n [] trees.no_statements)
    (((tt, tt), tt), (some_name_fresh taken, tt))
    (token (identifier n) ∷ token (fixed kinds.LeftParenthesis) ∷ token (fixed kinds.RightParenthesis)
    ∷ empty_braces)
    (fresh_token taken ∷ a_token kinds.LeftParenthesis ∷ a_token kinds.RightParenthesis ∷ empty_brace_tokens)
    (λ r. ((refl, refl), (refl, (refl, (refl, (refl, refl)))))) refl
