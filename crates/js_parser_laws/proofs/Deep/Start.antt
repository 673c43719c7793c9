-- What a token begins, and that readers of all heights are stuck at a token that begins nothing of theirs.
use Rattle.std.proofs.Common.{◌≡◌, ℕ, Bool, true, false, List, length, Option, Err, refl}
use Rattle.std.specs.Prelude.{◌||◌}
use Rattle.js_lexer.specs.declared.token.TokenKind.TheVariants as kinds
use Rattle.js_tree.specs.Trees.{Identifier}
use Rattle.js_parser_language.specs.Tokens.{Token, head_of}
use Rattle.js_parser_language.specs.Well.{StatementContext}
use Rattle.js_parser_language.specs.Kinds.{is_kind}
use Rattle.js_parser_readers.specs.Reading.{stuck, expect}
use Rattle.js_parser_readers.specs.Classes as classes
use Rattle.js_parser_readers.specs.Classes.{PrimaryStart, start, Prefix, no_prefix, prefix, StatementStart, first}
use Rattle.js_parser_readers.specs.Productions.{Below, parameters_at, braces, code_at, ended_expression}
use Rattle.js_parser_readers.specs.Parsing.{primary, call, postfix, unary, operation, assignment, expression, statement_by, statement, item_by, item}
use Rattle.js_parser_laws.proofs.Alive.First.{is_start, is_prefix}
use Rattle.std.proofs.lemmas.Bool.{or_parts}

-- ---- what begins what

-- the next token begins a primary expression
abbrev pub begins_call : Option Token → Bool
begins_call o = is_start (start o)

-- the next token begins an operand
abbrev pub begins_operand : Option Token → Bool
begins_operand o = begins_call o || is_prefix (prefix o)

-- the next token, of this class, begins a statement
abbrev pub begins_by : StatementContext → StatementStart → Option Token → Bool
begins_by context (classes.a_lexical constant) o = false
begins_by context classes.a_function o = false
begins_by context classes.a_continue o = context.in_loop
begins_by context classes.a_break o = context.in_loop
begins_by context classes.a_return o = context.in_function
begins_by context classes.an_expression o = begins_operand o
begins_by context _ o = true

abbrev pub begins_statement : StatementContext → Option Token → Bool
begins_statement context o = begins_by context (first o) o

-- or a declaration
abbrev pub begins_item_by : StatementContext → StatementStart → Option Token → Bool
begins_item_by context (classes.a_lexical constant) o = true
begins_item_by context classes.a_function o = true
begins_item_by context v o = begins_by context v o

abbrev pub begins_item : StatementContext → Option Token → Bool
begins_item context o = begins_item_by context (first o) o

-- ---- primary expressions

no_start_is : (v : PrimaryStart) → is_start v ≡ false → v ≡ classes.no_start
no_start_is classes.no_start e = refl
no_start_is _ e = absurd cc

primary_stuck : (b : Below) (m : ℕ) (ts : List Token)
    → begins_call (head_of ts) ≡ false
    → primary b m ts ≡ Err (stuck (length ts))
unfolding primary
primary_stuck b m ts e = rw (no_start_is (start (head_of ts)) e) refl

pub call_stuck : (b : Below) (m : ℕ) (ts : List Token)
    → begins_call (head_of ts) ≡ false
    → call b m ts ≡ Err (stuck (length ts))
unfolding call
call_stuck b m ts e = rw (primary_stuck b m ts e) refl

pub unary_stuck : (b : Below) (m : ℕ) (ts : List Token)
    → begins_call (head_of ts) ≡ false
    → prefix (head_of ts) ≡ no_prefix
    → unary b m ts ≡ Err (stuck (length ts))
unfolding unary postfix
unary_stuck b m ts e p = rw (p, call_stuck b m ts e) refl

pub operation_stuck : (b : Below) (m low : ℕ) (ts : List Token)
    → begins_call (head_of ts) ≡ false
    → prefix (head_of ts) ≡ no_prefix
    → operation b m low ts ≡ Err (stuck (length ts))
unfolding operation
operation_stuck b m low ts e p = rw (unary_stuck b m ts e p) refl

pub assignment_stuck : (b : Below) (m : ℕ) (ts : List Token)
    → begins_call (head_of ts) ≡ false
    → prefix (head_of ts) ≡ no_prefix
    → assignment b m ts ≡ Err (stuck (length ts))
unfolding assignment
assignment_stuck b m ts e p = rw (no_start_is (start (head_of ts)) e, operation_stuck b m 3 ts e p) refl

pub expression_stuck : (b : Below) (m : ℕ) (ts : List Token)
    → begins_call (head_of ts) ≡ false
    → prefix (head_of ts) ≡ no_prefix
    → expression b m ts ≡ Err (stuck (length ts))
unfolding expression
expression_stuck b m ts e p = rw (assignment_stuck b m ts e p) refl

-- ---- operands and expressions

no_prefix_is : (v : Prefix) → is_prefix v ≡ false → v ≡ no_prefix
no_prefix_is no_prefix e = refl
no_prefix_is _ e = absurd cc

pub unary_elsewhere : (b : Below) (m : ℕ) (ts : List Token)
    → begins_operand (head_of ts) ≡ false
    → unary b m ts ≡ Err (stuck (length ts))
unary_elsewhere b m ts e =
    let p = or_parts (begins_call (head_of ts)) (is_prefix (prefix (head_of ts))) e in
    unary_stuck b m ts p.0 (no_prefix_is (prefix (head_of ts)) p.1)

pub operation_elsewhere : (b : Below) (m low : ℕ) (ts : List Token)
    → begins_operand (head_of ts) ≡ false
    → operation b m low ts ≡ Err (stuck (length ts))
operation_elsewhere b m low ts e =
    let p = or_parts (begins_call (head_of ts)) (is_prefix (prefix (head_of ts))) e in
    operation_stuck b m low ts p.0 (no_prefix_is (prefix (head_of ts)) p.1)

pub expression_elsewhere : (b : Below) (m : ℕ) (ts : List Token)
    → begins_operand (head_of ts) ≡ false
    → expression b m ts ≡ Err (stuck (length ts))
expression_elsewhere b m ts e =
    let p = or_parts (begins_call (head_of ts)) (is_prefix (prefix (head_of ts))) e in
    expression_stuck b m ts p.0 (no_prefix_is (prefix (head_of ts)) p.1)

-- ---- statements

ended_stuck : (b : Below) (ts : List Token)
    → b.expression ts ≡ Err (stuck (length ts))
    → ended_expression b ts ≡ Err (stuck (length ts))
unfolding ended_expression
ended_stuck b ts e = rw e refl

statement_stuck_by : (b : Below) (context : StatementContext) (ts : List Token)
    → (begins_operand (head_of ts) ≡ false → b.expression ts ≡ Err (stuck (length ts)))
    → (v : StatementStart)
    → begins_by context v (head_of ts) ≡ false
    → statement_by b context v ts ≡ Err (stuck (length ts))
statement_stuck_by b context ts h (classes.a_lexical constant) e = refl
statement_stuck_by b context ts h classes.a_function e = refl
statement_stuck_by b context ts h classes.a_continue e = rw e refl
statement_stuck_by b context ts h classes.a_break e = rw e refl
statement_stuck_by b context ts h classes.a_return e = rw e refl
statement_stuck_by b context ts h classes.an_expression e = rw (ended_stuck b ts (h e)) refl
statement_stuck_by b context ts h _ e = absurd cc

-- where what reads below is stuck at what begins no expression
pub statement_elsewhere : (b : Below) (context : StatementContext) (ts : List Token)
    → (begins_operand (head_of ts) ≡ false → b.expression ts ≡ Err (stuck (length ts)))
    → begins_statement context (head_of ts) ≡ false
    → statement b context ts ≡ Err (stuck (length ts))
unfolding statement
statement_elsewhere b context ts h e = statement_stuck_by b context ts h (first (head_of ts)) e

item_stuck_by : (b : Below) (context : StatementContext) (taken : List Identifier) (ts : List Token)
    → (begins_operand (head_of ts) ≡ false → b.expression ts ≡ Err (stuck (length ts)))
    → (v : StatementStart)
    → first (head_of ts) ≡ v
    → begins_item_by context v (head_of ts) ≡ false
    → item_by b context taken v ts ≡ Err (stuck (length ts))
item_stuck_by b context taken ts h (classes.a_lexical constant) f e = absurd cc
item_stuck_by b context taken ts h classes.a_function f e = absurd cc
item_stuck_by b context taken ts h _ f e = statement_elsewhere b context ts h (rw f e)

pub item_elsewhere : (b : Below) (context : StatementContext) (taken : List Identifier) (ts : List Token)
    → (begins_operand (head_of ts) ≡ false → b.expression ts ≡ Err (stuck (length ts)))
    → begins_item context (head_of ts) ≡ false
    → item b context taken ts ≡ Err (stuck (length ts))
unfolding item
item_elsewhere b context taken ts h e = item_stuck_by b context taken ts h (first (head_of ts)) refl e

-- ---- blocks and functions

pub block_elsewhere : (b : Below) (context : StatementContext) (taken : List Identifier) (ts : List Token)
    → is_kind kinds.LeftBrace (head_of ts) ≡ false
    → braces b context taken ts ≡ Err (stuck (length ts))
unfolding braces expect
block_elsewhere b context taken ts e = rw e refl

pub function_elsewhere : (b : Below) (ts : List Token)
    → is_kind kinds.LeftParenthesis (head_of ts) ≡ false
    → code_at b ts ≡ Err (stuck (length ts))
unfolding code_at parameters_at expect
function_elsewhere b ts e = rw e refl
