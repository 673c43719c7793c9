-- The texts of nodes of short texts, computed by the definition.
use Rattle.std.proofs.Common.{◌≡◌, [], refl, codes}
use Rattle.js_lexer.specs.Punctuators.{punctuators}
use Rattle.js_lexer.specs.Scanning.{gap_len, token_at, items}
use Rattle.js_lexer.specs.Words.{reserved_words}
use Rattle.js_parser_readers.specs.Parsing.{key_at, property_at, properties_at, function_at, primary, links, call, postfix, unary, chain, operation, arrow_rest, arrow_of_one, arrow_of_list, joined, assignment, expression, if_at, for_at, handler_at, finalizer_at, try_at, statement, lexical_at, declaration_at, item, below, parse_script, parse_expression, parse_function}
use Rattle.js_parser_readers.specs.Productions.{arguments_before, more_assignments, names_before, parameters_at, items_at, braces, code_at, declarator_at, declarators_at, optional_before, ended_expression, expect_name}
use Rattle.js_parser_readers.specs.Reading.{expect, expect_near, name_at, fresh_name, word_at, semicolon_at, elements, others, items as items_reading}
use Rattle.js_parser_numbering.specs.Numbering.{give, both, of_part, node}
use Rattle.js_parser_numbering.specs.NumberedPlaces.{tokens, optional_token, in_row, node_placed, each_behind_comma, comma_separated, numbered_places}
use Rattle.js_parser.specs.Expressions.{expression_of}
use Rattle.js_parser.specs.NodeTexts.{node_text}

-- the function of [1, (k) => k + n]
arrow : node_text (codes "[1, (k) => k + n]") 4 ≡ codes "(k) => k + n"
unfolding punctuators gap_len token_at items reserved_words key_at property_at properties_at function_at primary links
    call postfix unary chain operation arrow_rest arrow_of_one arrow_of_list joined assignment expression if_at for_at
    handler_at finalizer_at try_at statement lexical_at declaration_at item below parse_script parse_expression
    parse_function arguments_before more_assignments names_before parameters_at items_at braces code_at declarator_at
    declarators_at optional_before ended_expression expect_name expect expect_near name_at fresh_name word_at
    semicolon_at elements others items_reading expression_of give both of_part node tokens optional_token in_row
    node_placed each_behind_comma comma_separated numbered_places node_text
arrow = refl

-- the arguments of f( 1 , ) with their parentheses
arguments : node_text (codes "f( 1 , )") 2 ≡ codes "( 1 , )"
unfolding punctuators gap_len token_at items reserved_words key_at property_at properties_at function_at primary links
    call postfix unary chain operation arrow_rest arrow_of_one arrow_of_list joined assignment expression if_at for_at
    handler_at finalizer_at try_at statement lexical_at declaration_at item below parse_script parse_expression
    parse_function arguments_before more_assignments names_before parameters_at items_at braces code_at declarator_at
    declarators_at optional_before ended_expression expect_name expect expect_near name_at fresh_name word_at
    semicolon_at elements others items_reading expression_of give both of_part node tokens optional_token in_row
    node_placed each_behind_comma comma_separated numbered_places node_text
arguments = refl

-- a number that no node has
past : node_text (codes "f(x)") 4 ≡ []
unfolding punctuators gap_len token_at items reserved_words key_at property_at properties_at function_at primary links
    call postfix unary chain operation arrow_rest arrow_of_one arrow_of_list joined assignment expression if_at for_at
    handler_at finalizer_at try_at statement lexical_at declaration_at item below parse_script parse_expression
    parse_function arguments_before more_assignments names_before parameters_at items_at braces code_at declarator_at
    declarators_at optional_before ended_expression expect_name expect expect_near name_at fresh_name word_at
    semicolon_at elements others items_reading expression_of give both of_part node tokens optional_token in_row
    node_placed each_behind_comma comma_separated numbered_places node_text
past = refl
