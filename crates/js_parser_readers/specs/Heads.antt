-- The small enums of the code, as the classes of the grammar's tokens.
use Rattle.std.specs.Prelude.{Bool, List, Option, Some, None}
use Rattle.std.specs.Borrow.{Bor}
use Rattle.js_lexer.specs.declared.token.Token as lexer
use Rattle.js_lexer.specs.Characters.{string_value}
use Rattle.js_parser_language.specs.Tokens as tokens
use Rattle.js_parser_language.specs.Tokens.{Token}
use Rattle.js_parser_readers.specs.declared.classes.arrows.ArrowStart.{ArrowStart}
use Rattle.js_parser_readers.specs.declared.classes.arrows.ArrowStart.TheVariants as heads
use Rattle.js_parser_readers.specs.declared.classes.expressions.Joint.{Joint}
use Rattle.js_parser_readers.specs.declared.classes.expressions.Joint.TheVariants as joints
use Rattle.js_parser_readers.specs.declared.classes.expressions.CallTail.{CallTail}
use Rattle.js_parser_readers.specs.declared.classes.expressions.CallTail.TheVariants as links
use Rattle.js_parser_readers.specs.declared.classes.expressions.Prefix.{Prefix}
use Rattle.js_parser_readers.specs.declared.classes.expressions.Prefix.TheVariants as prefixes
use Rattle.js_parser_readers.specs.declared.classes.expressions.PrimaryStart.{PrimaryStart}
use Rattle.js_parser_readers.specs.declared.classes.expressions.PrimaryStart.TheVariants as starts
use Rattle.js_parser_readers.specs.declared.classes.lists.AfterElement.{AfterElement}
use Rattle.js_parser_readers.specs.declared.classes.lists.AfterElement.TheVariants as afters
use Rattle.js_parser_readers.specs.declared.classes.objects.AfterKey.{AfterKey}
use Rattle.js_parser_readers.specs.declared.classes.objects.AfterKey.TheVariants as after_keys
use Rattle.js_parser_readers.specs.declared.classes.objects.KeyStart.{KeyStart}
use Rattle.js_parser_readers.specs.declared.classes.objects.KeyStart.TheVariants as key_starts
use Rattle.js_parser_readers.specs.declared.classes.statements.ExpressionEnd.{ExpressionEnd}
use Rattle.js_parser_readers.specs.declared.classes.statements.ExpressionEnd.TheVariants as edges
use Rattle.js_parser_readers.specs.declared.classes.statements.StatementEnd.{StatementEnd}
use Rattle.js_parser_readers.specs.declared.classes.statements.StatementEnd.TheVariants as ends
use Rattle.js_parser_readers.specs.declared.classes.statements.StatementStart.{StatementStart}
use Rattle.js_parser_readers.specs.declared.classes.statements.StatementStart.TheVariants as firsts
use Rattle.js_parser_readers.specs.declared.classes.statements.ForHead.{ForHead}
use Rattle.js_parser_readers.specs.declared.classes.statements.ForHead.TheVariants as for_heads
use Rattle.js_parser_readers.specs.Classes as classes
use Rattle.js_parser_readers.specs.Reading as reading
use Rattle.js_parser_readers.specs.Views.{tokens_view}

-- ---- expressions

-- what begins a primary expression
abbrev pub start_view : PrimaryStart → classes.PrimaryStart
start_view starts.This = classes.this_word
start_view (starts.Name text) = classes.a_name text.now
start_view (starts.Number n) = classes.a_number n.value
start_view (starts.String text) = classes.a_string (string_value text.now)
start_view (starts.Boolean b) = classes.a_boolean b
start_view starts.Null = classes.null_word
start_view starts.Bracket = classes.bracket
start_view starts.Brace = classes.brace
start_view starts.Parenthesis = classes.parenthesis
start_view starts.Function = classes.function_word
start_view starts.Other = classes.no_start

-- what goes on with a call or a member
abbrev pub link_view : Option CallTail → classes.CallTail
link_view None = classes.no_link
link_view (Some links.Dot) = classes.dot
link_view (Some links.Key) = classes.key
link_view (Some links.Arguments) = classes.arguments

-- what stands before an operand
abbrev pub prefix_view : Option Prefix → classes.Prefix
prefix_view None = classes.no_prefix
prefix_view (Some prefixes.Delete) = classes.deletes
prefix_view (Some (prefixes.Unary o)) = classes.a_unary o
prefix_view (Some (prefixes.Update o)) = classes.an_update o

-- what goes on behind an operation
abbrev pub joint_view : Option Joint → classes.Joint
joint_view None = classes.no_joint
joint_view (Some joints.Question) = classes.question
joint_view (Some (joints.Assigns o)) = classes.assigns_by o

-- ---- arrow functions

-- how names in parentheses end, with the tokens behind them
abbrev pub past_view : Option (Bool × Bor (List lexer.Token)) → Option (Bool × List Token)
past_view None = None
past_view (Some x) = Some (x.0, tokens_view x.1.now)

-- what an arrow function begins with
abbrev pub head_view : Option ArrowStart → classes.ArrowStart
head_view None = classes.no_arrow
head_view (Some heads.Name) = classes.one_parameter
head_view (Some (heads.List only)) = classes.listed only

-- ---- object literals

-- what begins a key
abbrev pub key_start_view : Option KeyStart → classes.KeyStart
key_start_view None = classes.no_key
key_start_view (Some (key_starts.Word text)) = classes.a_word_key text.now
key_start_view (Some (key_starts.String text)) = classes.a_string_key (string_value text.now)
key_start_view (Some (key_starts.Number n)) = classes.a_number_key n.value
key_start_view (Some key_starts.Computed) = classes.a_computed_key

-- what comes behind a key
abbrev pub after_key_view : Option AfterKey → classes.AfterKey
after_key_view None = classes.no_member
after_key_view (Some after_keys.Colon) = classes.colon
after_key_view (Some after_keys.Parameters) = classes.parameters

-- ---- statements

-- what begins a statement or a declaration
abbrev pub first_view : StatementStart → classes.StatementStart
first_view firsts.Block = classes.a_block
first_view (firsts.Lexical constant) = classes.a_lexical constant
first_view firsts.Semicolon = classes.a_semicolon
first_view firsts.If = classes.an_if
first_view firsts.Do = classes.a_do
first_view firsts.While = classes.a_while
first_view firsts.For = classes.a_for
first_view firsts.Continue = classes.a_continue
first_view firsts.Break = classes.a_break
first_view firsts.Return = classes.a_return
first_view firsts.Throw = classes.a_throw
first_view firsts.Try = classes.a_try
first_view firsts.Debugger = classes.a_debugger
first_view firsts.Function = classes.a_function
first_view firsts.Expression = classes.an_expression

-- what the head of a `for` begins with
abbrev pub for_head_view : Option ForHead → classes.ForHead
for_head_view None = classes.plain_head
for_head_view (Some (for_heads.Each constant)) = classes.each constant
for_head_view (Some (for_heads.Declares constant)) = classes.declares constant

-- how an expression ends before an absent semicolon
abbrev pub edge_view : ExpressionEnd → tokens.ExpressionEnd
edge_view edges.Plain = tokens.plain
edge_view edges.Braces = tokens.braces
edge_view edges.Update = tokens.update

-- what a statement ends in before its semicolon
abbrev pub end_view : StatementEnd → tokens.StatementEnd
end_view (ends.Expression edge) = tokens.after_expression (edge_view edge)
end_view ends.Word = tokens.after_word
end_view ends.Do = tokens.after_do

-- ---- lists

-- what comes after an element of a list
abbrev pub after_view : Option AfterElement → reading.AfterElement
after_view None = reading.neither
after_view (Some afters.GoesOn) = reading.goes_on
after_view (Some afters.Ends) = reading.ends
