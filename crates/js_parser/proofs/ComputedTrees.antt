-- Trees of short texts, computed by the definition.
use Rattle.std.proofs.Common.{◌≡◌, [], Some, None, refl, codes}
use Rattle.js_tree.specs.Trees as trees
use Rattle.js_tree_operators.specs.declared.operator.BinaryOperator.TheVariants as binaries
use Rattle.js_lexer.specs.Punctuators.{punctuators}
use Rattle.js_lexer.specs.Scanning.{gap_len, token_at, items}
use Rattle.js_lexer.specs.Words.{reserved_words}
use Rattle.js_parser_readers.specs.Parsing.{key_at, property_at, properties_at, function_at, primary, links, call, postfix, unary, chain, operation, arrow_rest, arrow_of_one, arrow_of_list, joined, assignment, expression, if_at, for_at, handler_at, finalizer_at, try_at, statement, lexical_at, declaration_at, item, below, parse_script, parse_expression, parse_function}
use Rattle.js_parser_readers.specs.Productions.{arguments_before, more_assignments, names_before, parameters_at, items_at, braces, code_at, declarator_at, declarators_at, optional_before, ended_expression, expect_name}
use Rattle.js_parser_readers.specs.Reading.{expect, expect_near, name_at, fresh_name, word_at, semicolon_at, elements, others, items as items_reading}
use Rattle.js_parser.specs.Expressions.{expression_of, function_of}

-- 1
one : expression_of (codes "1") ≡ Some (trees.number 1)
unfolding punctuators gap_len token_at items reserved_words key_at property_at properties_at function_at primary links
    call postfix unary chain operation arrow_rest arrow_of_one arrow_of_list joined assignment expression if_at for_at
    handler_at finalizer_at try_at statement lexical_at declaration_at item below parse_script parse_expression
    parse_function arguments_before more_assignments names_before parameters_at items_at braces code_at declarator_at
    declarators_at optional_before ended_expression expect_name expect expect_near name_at fresh_name word_at
    semicolon_at elements others items_reading expression_of function_of
one = refl

-- a + "b"
sum : expression_of (codes "a + \"b\"") ≡ Some
    (trees.binary binaries.Add (trees.name (codes "a")) (trees.string (codes "b")))
unfolding punctuators gap_len token_at items reserved_words key_at property_at properties_at function_at primary links
    call postfix unary chain operation arrow_rest arrow_of_one arrow_of_list joined assignment expression if_at for_at
    handler_at finalizer_at try_at statement lexical_at declaration_at item below parse_script parse_expression
    parse_function arguments_before more_assignments names_before parameters_at items_at braces code_at declarator_at
    declarators_at optional_before ended_expression expect_name expect expect_near name_at fresh_name word_at
    semicolon_at elements others items_reading expression_of function_of
sum = refl

-- f(x)[0]
applied : expression_of (codes "f(x)[0]") ≡ Some
    (trees.index
    (trees.call (trees.name (codes "f")) (trees.an_expression (trees.name (codes "x")) trees.no_expressions))
    (trees.number 0))
unfolding punctuators gap_len token_at items reserved_words key_at property_at properties_at function_at primary links
    call postfix unary chain operation arrow_rest arrow_of_one arrow_of_list joined assignment expression if_at for_at
    handler_at finalizer_at try_at statement lexical_at declaration_at item below parse_script parse_expression
    parse_function arguments_before more_assignments names_before parameters_at items_at braces code_at declarator_at
    declarators_at optional_before ended_expression expect_name expect expect_near name_at fresh_name word_at
    semicolon_at elements others items_reading expression_of function_of
applied = refl

-- 1 +
open_end : expression_of (codes "1 +") ≡ None
unfolding punctuators gap_len token_at items reserved_words key_at property_at properties_at function_at primary links
    call postfix unary chain operation arrow_rest arrow_of_one arrow_of_list joined assignment expression if_at for_at
    handler_at finalizer_at try_at statement lexical_at declaration_at item below parse_script parse_expression
    parse_function arguments_before more_assignments names_before parameters_at items_at braces code_at declarator_at
    declarators_at optional_before ended_expression expect_name expect expect_near name_at fresh_name word_at
    semicolon_at elements others items_reading expression_of function_of
open_end = refl

-- the empty text
nothing : expression_of (codes "") ≡ None
unfolding punctuators gap_len token_at items reserved_words key_at property_at properties_at function_at primary links
    call postfix unary chain operation arrow_rest arrow_of_one arrow_of_list joined assignment expression if_at for_at
    handler_at finalizer_at try_at statement lexical_at declaration_at item below parse_script parse_expression
    parse_function arguments_before more_assignments names_before parameters_at items_at braces code_at declarator_at
    declarators_at optional_before ended_expression expect_name expect expect_near name_at fresh_name word_at
    semicolon_at elements others items_reading expression_of function_of
nothing = refl

-- 1; 2
two : expression_of (codes "1; 2") ≡ None
unfolding punctuators gap_len token_at items reserved_words key_at property_at properties_at function_at primary links
    call postfix unary chain operation arrow_rest arrow_of_one arrow_of_list joined assignment expression if_at for_at
    handler_at finalizer_at try_at statement lexical_at declaration_at item below parse_script parse_expression
    parse_function arguments_before more_assignments names_before parameters_at items_at braces code_at declarator_at
    declarators_at optional_before ended_expression expect_name expect expect_near name_at fresh_name word_at
    semicolon_at elements others items_reading expression_of function_of
two = refl

-- (() => { return {a: 1}; })()
called : expression_of (codes "(() => { return {a: 1}; })()") ≡ Some
    (trees.call
    (trees.parenthesized
    (trees.arrow_block (trees.name_list [])
    (trees.a_statement
    (trees.return
    (trees.present
    (trees.object
    (trees.a_property (trees.value (trees.word_key (codes "a")) (trees.number 1))
    trees.no_properties))))
    trees.no_statements)))
    trees.no_expressions)
unfolding punctuators gap_len token_at items reserved_words key_at property_at properties_at function_at primary links
    call postfix unary chain operation arrow_rest arrow_of_one arrow_of_list joined assignment expression if_at for_at
    handler_at finalizer_at try_at statement lexical_at declaration_at item below parse_script parse_expression
    parse_function arguments_before more_assignments names_before parameters_at items_at braces code_at declarator_at
    declarators_at optional_before ended_expression expect_name expect expect_near name_at fresh_name word_at
    semicolon_at elements others items_reading expression_of function_of
called = refl
