-- Small sources and what the readers answer, computed.
use Rattle.std.proofs.Common.{◌≡◌, true, false, [], ◌∷◌, Some, None, Ok, refl}
use lib.Chars.{codes}
use Rattle.js_lexer.specs.declared.token.TokenKind.TheVariants as k
use Rattle.js_tree_operators.specs.declared.operator.UnaryOperator.TheVariants as unaries
use Rattle.js_tree_operators.specs.declared.operator.UpdateOperator.TheVariants as updates
use Rattle.js_tree_operators.specs.declared.operator.BinaryOperator.TheVariants as binaries
use Rattle.js_tree_operators.specs.declared.operator.AssignmentOperator.TheVariants as assigns
use Rattle.js_tree.specs.Trees.{one_name, name_list, this, number, string, boolean, null, array, object, function, arrow, arrow_block, parenthesized, member, index, call, postfix, prefix, unary, binary, conditional, assign, comma, omitted, present, word_key, string_key, number_key, computed_key, shorthand, value, method, declarator, block, lexical, empty, expression, if_then, if_else, do_while, while, for, for_lexical, for_of, continue, break, return, throw, try, debugger, declared_function, catch, no_finally, finally}
use Rattle.js_tree.specs.Views.{expressions, statements, properties, declarators}
use Rattle.js_parser_language.proofs.Sources.{a, reserved, w, s, d, nl, v}
use Rattle.js_parser_readers.specs.Reading as r
use Rattle.js_parser_readers.specs.Productions as q
use Rattle.js_parser_readers.specs.Parsing as p

-- ---- sources of the language

-- the empty source
script_1 : p.parse_script 20 [] ([]) ≡ Ok (statements [])
unfolding p.parse_script p.parse_expression p.parse_function p.below p.item p.declaration_at p.lexical_at p.statement
    p.try_at p.finalizer_at p.handler_at p.for_at p.if_at p.expression p.assignment p.joined p.arrow_of_list
    p.arrow_of_one p.arrow_rest p.operation p.chain p.unary p.postfix p.call p.links p.primary p.function_at
    p.properties_at p.property_at p.key_at q.arguments_before q.more_assignments q.names_before q.parameters_at
    q.items_at q.braces q.code_at q.declarator_at q.declarators_at q.optional_before q.ended_expression q.expect_name
    r.expect r.expect_near r.name_at r.fresh_name r.word_at r.semicolon_at r.elements r.others r.items
script_1 = refl

-- a LF ++ LF b
script_2 : p.parse_script 20 [] (w "a" ∷ nl (a k.Increment) ∷ nl (w "b") ∷ []) ≡ Ok
    (statements (expression (v "a") ∷ expression (prefix updates.Increment (v "b")) ∷ []))
unfolding p.parse_script p.parse_expression p.parse_function p.below p.item p.declaration_at p.lexical_at p.statement
    p.try_at p.finalizer_at p.handler_at p.for_at p.if_at p.expression p.assignment p.joined p.arrow_of_list
    p.arrow_of_one p.arrow_rest p.operation p.chain p.unary p.postfix p.call p.links p.primary p.function_at
    p.properties_at p.property_at p.key_at q.arguments_before q.more_assignments q.names_before q.parameters_at
    q.items_at q.braces q.code_at q.declarator_at q.declarators_at q.optional_before q.ended_expression q.expect_name
    r.expect r.expect_near r.name_at r.fresh_name r.word_at r.semicolon_at r.elements r.others r.items
script_2 = refl

-- do ; while (0) 1
script_3 : p.parse_script 20 []
    (reserved k.Do "do" ∷ a k.Semicolon ∷ reserved k.While "while" ∷ a k.LeftParenthesis ∷ d 0 ∷ a k.RightParenthesis ∷
    d 1 ∷ [])
    ≡ Ok (statements (do_while empty (number 0) ∷ expression (number 1) ∷ []))
unfolding p.parse_script p.parse_expression p.parse_function p.below p.item p.declaration_at p.lexical_at p.statement
    p.try_at p.finalizer_at p.handler_at p.for_at p.if_at p.expression p.assignment p.joined p.arrow_of_list
    p.arrow_of_one p.arrow_rest p.operation p.chain p.unary p.postfix p.call p.links p.primary p.function_at
    p.properties_at p.property_at p.key_at q.arguments_before q.more_assignments q.names_before q.parameters_at
    q.items_at q.braces q.code_at q.declarator_at q.declarators_at q.optional_before q.ended_expression q.expect_name
    r.expect r.expect_near r.name_at r.fresh_name r.word_at r.semicolon_at r.elements r.others r.items
script_3 = refl

-- x = () => {} LF (1)
script_4 : p.parse_script 20 []
    (w "x" ∷ a k.Assign ∷ a k.LeftParenthesis ∷ a k.RightParenthesis ∷ a k.Arrow ∷ a k.LeftBrace ∷ a k.RightBrace ∷ nl
    (a k.LeftParenthesis) ∷ d 1 ∷ a k.RightParenthesis ∷ [])
    ≡ Ok (statements
    (expression (assign assigns.Assign (v "x") (arrow_block (name_list []) (statements []))) ∷ expression
    (parenthesized (number 1)) ∷ []))
unfolding p.parse_script p.parse_expression p.parse_function p.below p.item p.declaration_at p.lexical_at p.statement
    p.try_at p.finalizer_at p.handler_at p.for_at p.if_at p.expression p.assignment p.joined p.arrow_of_list
    p.arrow_of_one p.arrow_rest p.operation p.chain p.unary p.postfix p.call p.links p.primary p.function_at
    p.properties_at p.property_at p.key_at q.arguments_before q.more_assignments q.names_before q.parameters_at
    q.items_at q.braces q.code_at q.declarator_at q.declarators_at q.optional_before q.ended_expression q.expect_name
    r.expect r.expect_near r.name_at r.fresh_name r.word_at r.semicolon_at r.elements r.others r.items
script_4 = refl

-- x = () => a LF (1)
script_5 : p.parse_script 20 []
    (w "x" ∷ a k.Assign ∷ a k.LeftParenthesis ∷ a k.RightParenthesis ∷ a k.Arrow ∷ w "a" ∷ nl (a k.LeftParenthesis)
    ∷ d 1 ∷ a k.RightParenthesis ∷ [])
    ≡ Ok (statements
    (expression (assign assigns.Assign (v "x") (arrow (name_list []) (call (v "a") (expressions (number 1 ∷ [])))))
    ∷ []))
unfolding p.parse_script p.parse_expression p.parse_function p.below p.item p.declaration_at p.lexical_at p.statement
    p.try_at p.finalizer_at p.handler_at p.for_at p.if_at p.expression p.assignment p.joined p.arrow_of_list
    p.arrow_of_one p.arrow_rest p.operation p.chain p.unary p.postfix p.call p.links p.primary p.function_at
    p.properties_at p.property_at p.key_at q.arguments_before q.more_assignments q.names_before q.parameters_at
    q.items_at q.braces q.code_at q.declarator_at q.declarators_at q.optional_before q.ended_expression q.expect_name
    r.expect r.expect_near r.name_at r.fresh_name r.word_at r.semicolon_at r.elements r.others r.items
script_5 = refl

-- let a = 1 LF (2)
script_6 : p.parse_script 20 []
    (reserved k.Let "let" ∷ w "a" ∷ a k.Assign ∷ d 1 ∷ nl (a k.LeftParenthesis) ∷ d 2 ∷ a k.RightParenthesis ∷ []) ≡ Ok
    (statements
    (lexical false
    (declarators (declarator (codes "a") (present (call (number 1) (expressions (number 2 ∷ [])))) ∷ []))
    ∷ []))
unfolding p.parse_script p.parse_expression p.parse_function p.below p.item p.declaration_at p.lexical_at p.statement
    p.try_at p.finalizer_at p.handler_at p.for_at p.if_at p.expression p.assignment p.joined p.arrow_of_list
    p.arrow_of_one p.arrow_rest p.operation p.chain p.unary p.postfix p.call p.links p.primary p.function_at
    p.properties_at p.property_at p.key_at q.arguments_before q.more_assignments q.names_before q.parameters_at
    q.items_at q.braces q.code_at q.declarator_at q.declarators_at q.optional_before q.ended_expression q.expect_name
    r.expect r.expect_near r.name_at r.fresh_name r.word_at r.semicolon_at r.elements r.others r.items
script_6 = refl

-- a++ LF (b) LF [c] LF - d
script_7 : p.parse_script 20 []
    (w "a" ∷ a k.Increment ∷ nl (a k.LeftParenthesis) ∷ w "b" ∷ a k.RightParenthesis ∷ nl (a k.LeftBracket)
    ∷ w "c" ∷ a k.RightBracket ∷ nl (a k.Minus) ∷ w "d" ∷ [])
    ≡ Ok (statements
    (expression (postfix updates.Increment (v "a")) ∷ expression
    (binary binaries.Subtract (index (parenthesized (v "b")) (v "c")) (v "d")) ∷ []))
unfolding p.parse_script p.parse_expression p.parse_function p.below p.item p.declaration_at p.lexical_at p.statement
    p.try_at p.finalizer_at p.handler_at p.for_at p.if_at p.expression p.assignment p.joined p.arrow_of_list
    p.arrow_of_one p.arrow_rest p.operation p.chain p.unary p.postfix p.call p.links p.primary p.function_at
    p.properties_at p.property_at p.key_at q.arguments_before q.more_assignments q.names_before q.parameters_at
    q.items_at q.braces q.code_at q.declarator_at q.declarators_at q.optional_before q.ended_expression q.expect_name
    r.expect r.expect_near r.name_at r.fresh_name r.word_at r.semicolon_at r.elements r.others r.items
script_7 = refl

-- let x LF (1) LF [2]
script_8 : p.parse_script 20 []
    (reserved k.Let "let" ∷ w "x" ∷ nl (a k.LeftParenthesis) ∷ d 1 ∷ a k.RightParenthesis ∷ nl (a k.LeftBracket)
    ∷ d 2 ∷ a k.RightBracket ∷ [])
    ≡ Ok (statements
    (lexical false (declarators (declarator (codes "x") omitted ∷ [])) ∷ expression
    (index (parenthesized (number 1)) (number 2)) ∷ []))
unfolding p.parse_script p.parse_expression p.parse_function p.below p.item p.declaration_at p.lexical_at p.statement
    p.try_at p.finalizer_at p.handler_at p.for_at p.if_at p.expression p.assignment p.joined p.arrow_of_list
    p.arrow_of_one p.arrow_rest p.operation p.chain p.unary p.postfix p.call p.links p.primary p.function_at
    p.properties_at p.property_at p.key_at q.arguments_before q.more_assignments q.names_before q.parameters_at
    q.items_at q.braces q.code_at q.declarator_at q.declarators_at q.optional_before q.ended_expression q.expect_name
    r.expect r.expect_near r.name_at r.fresh_name r.word_at r.semicolon_at r.elements r.others r.items
script_8 = refl

-- if (a) b LF else c
script_9 : p.parse_script 20 []
    (reserved k.If "if" ∷ a k.LeftParenthesis ∷ w "a" ∷ a k.RightParenthesis ∷ w "b" ∷ nl (reserved k.Else "else")
    ∷ w "c" ∷ [])
    ≡ Ok (statements (if_else (v "a") (expression (v "b")) (expression (v "c")) ∷ []))
unfolding p.parse_script p.parse_expression p.parse_function p.below p.item p.declaration_at p.lexical_at p.statement
    p.try_at p.finalizer_at p.handler_at p.for_at p.if_at p.expression p.assignment p.joined p.arrow_of_list
    p.arrow_of_one p.arrow_rest p.operation p.chain p.unary p.postfix p.call p.links p.primary p.function_at
    p.properties_at p.property_at p.key_at q.arguments_before q.more_assignments q.names_before q.parameters_at
    q.items_at q.braces q.code_at q.declarator_at q.declarators_at q.optional_before q.ended_expression q.expect_name
    r.expect r.expect_near r.name_at r.fresh_name r.word_at r.semicolon_at r.elements r.others r.items
script_9 = refl

-- if (a) if (b) c; else d
script_10 : p.parse_script 20 []
    (reserved k.If "if" ∷ a k.LeftParenthesis ∷ w "a" ∷ a k.RightParenthesis ∷ reserved k.If "if" ∷ a
    k.LeftParenthesis ∷ w "b" ∷ a k.RightParenthesis ∷ w "c" ∷ a k.Semicolon ∷ reserved k.Else "else" ∷ w "d" ∷ [])
    ≡ Ok (statements (if_then (v "a") (if_else (v "b") (expression (v "c")) (expression (v "d"))) ∷ []))
unfolding p.parse_script p.parse_expression p.parse_function p.below p.item p.declaration_at p.lexical_at p.statement
    p.try_at p.finalizer_at p.handler_at p.for_at p.if_at p.expression p.assignment p.joined p.arrow_of_list
    p.arrow_of_one p.arrow_rest p.operation p.chain p.unary p.postfix p.call p.links p.primary p.function_at
    p.properties_at p.property_at p.key_at q.arguments_before q.more_assignments q.names_before q.parameters_at
    q.items_at q.braces q.code_at q.declarator_at q.declarators_at q.optional_before q.ended_expression q.expect_name
    r.expect r.expect_near r.name_at r.fresh_name r.word_at r.semicolon_at r.elements r.others r.items
script_10 = refl

-- if (a) { if (b) c; } else d
script_11 : p.parse_script 20 []
    (reserved k.If "if" ∷ a k.LeftParenthesis ∷ w "a" ∷ a k.RightParenthesis ∷ a k.LeftBrace ∷ reserved k.If "if" ∷ a
    k.LeftParenthesis ∷ w "b" ∷ a k.RightParenthesis ∷ w "c" ∷ a k.Semicolon ∷ a k.RightBrace ∷ reserved k.Else
    "else" ∷ w "d" ∷ [])
    ≡ Ok (statements
    (if_else (v "a") (block (statements (if_then (v "b") (expression (v "c")) ∷ []))) (expression (v "d")) ∷ []))
unfolding p.parse_script p.parse_expression p.parse_function p.below p.item p.declaration_at p.lexical_at p.statement
    p.try_at p.finalizer_at p.handler_at p.for_at p.if_at p.expression p.assignment p.joined p.arrow_of_list
    p.arrow_of_one p.arrow_rest p.operation p.chain p.unary p.postfix p.call p.links p.primary p.function_at
    p.properties_at p.property_at p.key_at q.arguments_before q.more_assignments q.names_before q.parameters_at
    q.items_at q.braces q.code_at q.declarator_at q.declarators_at q.optional_before q.ended_expression q.expect_name
    r.expect r.expect_near r.name_at r.fresh_name r.word_at r.semicolon_at r.elements r.others r.items
script_11 = refl

-- for (let of of of) ;
script_12 : p.parse_script 20 []
    (reserved k.For "for" ∷ a k.LeftParenthesis ∷ reserved k.Let "let" ∷ w "of" ∷ w "of" ∷ w "of" ∷ a
    k.RightParenthesis ∷ a k.Semicolon ∷ [])
    ≡ Ok (statements (for_of false (codes "of") (v "of") empty ∷ []))
unfolding p.parse_script p.parse_expression p.parse_function p.below p.item p.declaration_at p.lexical_at p.statement
    p.try_at p.finalizer_at p.handler_at p.for_at p.if_at p.expression p.assignment p.joined p.arrow_of_list
    p.arrow_of_one p.arrow_rest p.operation p.chain p.unary p.postfix p.call p.links p.primary p.function_at
    p.properties_at p.property_at p.key_at q.arguments_before q.more_assignments q.names_before q.parameters_at
    q.items_at q.braces q.code_at q.declarator_at q.declarators_at q.optional_before q.ended_expression q.expect_name
    r.expect r.expect_near r.name_at r.fresh_name r.word_at r.semicolon_at r.elements r.others r.items
script_12 = refl

-- for (const a = 1, b = 2; a; a, b) { break }
script_13 : p.parse_script 20 []
    (reserved k.For "for" ∷ a k.LeftParenthesis ∷ reserved k.Const "const" ∷ w "a" ∷ a k.Assign ∷ d 1 ∷ a k.Comma ∷ w
    "b" ∷ a k.Assign ∷ d 2 ∷ a k.Semicolon ∷ w "a" ∷ a k.Semicolon ∷ w "a" ∷ a k.Comma ∷ w "b" ∷ a
    k.RightParenthesis ∷ a k.LeftBrace ∷ reserved k.Break "break" ∷ a k.RightBrace ∷ [])
    ≡ Ok (statements
    (for_lexical true
    (declarators
    (declarator (codes "a") (present (number 1)) ∷ declarator (codes "b") (present (number 2)) ∷ []))
    (present (v "a")) (present (comma (expressions (v "a" ∷ v "b" ∷ [])))) (block (statements (break ∷ [])))
    ∷ []))
unfolding p.parse_script p.parse_expression p.parse_function p.below p.item p.declaration_at p.lexical_at p.statement
    p.try_at p.finalizer_at p.handler_at p.for_at p.if_at p.expression p.assignment p.joined p.arrow_of_list
    p.arrow_of_one p.arrow_rest p.operation p.chain p.unary p.postfix p.call p.links p.primary p.function_at
    p.properties_at p.property_at p.key_at q.arguments_before q.more_assignments q.names_before q.parameters_at
    q.items_at q.braces q.code_at q.declarator_at q.declarators_at q.optional_before q.ended_expression q.expect_name
    r.expect r.expect_near r.name_at r.fresh_name r.word_at r.semicolon_at r.elements r.others r.items
script_13 = refl

-- for (;;) { if (a) continue; else break }
script_14 : p.parse_script 20 []
    (reserved k.For "for" ∷ a k.LeftParenthesis ∷ a k.Semicolon ∷ a k.Semicolon ∷ a k.RightParenthesis ∷ a k.LeftBrace ∷
    reserved k.If "if" ∷ a k.LeftParenthesis ∷ w "a" ∷ a k.RightParenthesis ∷ reserved k.Continue "continue" ∷ a
    k.Semicolon ∷ reserved k.Else "else" ∷ reserved k.Break "break" ∷ a k.RightBrace ∷ [])
    ≡ Ok (statements (for omitted omitted omitted (block (statements (if_else (v "a") continue break ∷ []))) ∷ []))
unfolding p.parse_script p.parse_expression p.parse_function p.below p.item p.declaration_at p.lexical_at p.statement
    p.try_at p.finalizer_at p.handler_at p.for_at p.if_at p.expression p.assignment p.joined p.arrow_of_list
    p.arrow_of_one p.arrow_rest p.operation p.chain p.unary p.postfix p.call p.links p.primary p.function_at
    p.properties_at p.property_at p.key_at q.arguments_before q.more_assignments q.names_before q.parameters_at
    q.items_at q.braces q.code_at q.declarator_at q.declarators_at q.optional_before q.ended_expression q.expect_name
    r.expect r.expect_near r.name_at r.fresh_name r.word_at r.semicolon_at r.elements r.others r.items
script_14 = refl

-- for (a; b; ) while (c) do d; while (e) ;
script_15 : p.parse_script 20 []
    (reserved k.For "for" ∷ a k.LeftParenthesis ∷ w "a" ∷ a k.Semicolon ∷ w "b" ∷ a k.Semicolon ∷ a k.RightParenthesis ∷
    reserved k.While "while" ∷ a k.LeftParenthesis ∷ w "c" ∷ a k.RightParenthesis ∷ reserved k.Do "do" ∷ w "d" ∷ a
    k.Semicolon ∷ reserved k.While "while" ∷ a k.LeftParenthesis ∷ w "e" ∷ a k.RightParenthesis ∷ a k.Semicolon ∷
    [])
    ≡ Ok (statements
    (for (present (v "a")) (present (v "b")) omitted (while (v "c") (do_while (expression (v "d")) (v "e"))) ∷ []))
unfolding p.parse_script p.parse_expression p.parse_function p.below p.item p.declaration_at p.lexical_at p.statement
    p.try_at p.finalizer_at p.handler_at p.for_at p.if_at p.expression p.assignment p.joined p.arrow_of_list
    p.arrow_of_one p.arrow_rest p.operation p.chain p.unary p.postfix p.call p.links p.primary p.function_at
    p.properties_at p.property_at p.key_at q.arguments_before q.more_assignments q.names_before q.parameters_at
    q.items_at q.braces q.code_at q.declarator_at q.declarators_at q.optional_before q.ended_expression q.expect_name
    r.expect r.expect_near r.name_at r.fresh_name r.word_at r.semicolon_at r.elements r.others r.items
script_15 = refl

-- let a; { let a; } function f(b,) { { let b; } return; return b }
script_16 : p.parse_script 20 []
    (reserved k.Let "let" ∷ w "a" ∷ a k.Semicolon ∷ a k.LeftBrace ∷ reserved k.Let "let" ∷ w "a" ∷ a k.Semicolon ∷ a
    k.RightBrace ∷ reserved k.Function "function" ∷ w "f" ∷ a k.LeftParenthesis ∷ w "b" ∷ a k.Comma ∷ a
    k.RightParenthesis ∷ a k.LeftBrace ∷ a k.LeftBrace ∷ reserved k.Let "let" ∷ w "b" ∷ a k.Semicolon ∷ a
    k.RightBrace ∷ reserved k.Return "return" ∷ a k.Semicolon ∷ reserved k.Return "return" ∷ w "b" ∷ a
    k.RightBrace ∷ [])
    ≡ Ok (statements
    (lexical false (declarators (declarator (codes "a") omitted ∷ [])) ∷ block
    (statements (lexical false (declarators (declarator (codes "a") omitted ∷ [])) ∷ [])) ∷ declared_function
    (codes "f") ((codes "b") ∷ [])
    (statements
    (block (statements (lexical false (declarators (declarator (codes "b") omitted ∷ [])) ∷ []))
    ∷ return omitted ∷ return (present (v "b")) ∷ []))
    ∷ []))
unfolding p.parse_script p.parse_expression p.parse_function p.below p.item p.declaration_at p.lexical_at p.statement
    p.try_at p.finalizer_at p.handler_at p.for_at p.if_at p.expression p.assignment p.joined p.arrow_of_list
    p.arrow_of_one p.arrow_rest p.operation p.chain p.unary p.postfix p.call p.links p.primary p.function_at
    p.properties_at p.property_at p.key_at q.arguments_before q.more_assignments q.names_before q.parameters_at
    q.items_at q.braces q.code_at q.declarator_at q.declarators_at q.optional_before q.ended_expression q.expect_name
    r.expect r.expect_near r.name_at r.fresh_name r.word_at r.semicolon_at r.elements r.others r.items
script_16 = refl

-- try { throw a } catch (e) { { let e; } } finally {} try {} catch { debugger }
script_17 : p.parse_script 20 []
    (reserved k.Try "try" ∷ a k.LeftBrace ∷ reserved k.Throw "throw" ∷ w "a" ∷ a k.RightBrace ∷ reserved k.Catch
    "catch" ∷ a k.LeftParenthesis ∷ w "e" ∷ a k.RightParenthesis ∷ a k.LeftBrace ∷ a k.LeftBrace ∷ reserved k.Let
    "let" ∷ w "e" ∷ a k.Semicolon ∷ a k.RightBrace ∷ a k.RightBrace ∷ reserved k.Finally "finally" ∷ a k.LeftBrace ∷
    a k.RightBrace ∷ reserved k.Try "try" ∷ a k.LeftBrace ∷ a k.RightBrace ∷ reserved k.Catch "catch" ∷ a
    k.LeftBrace ∷ reserved k.Debugger "debugger" ∷ a k.RightBrace ∷ [])
    ≡ Ok (statements
    (try (statements (throw (v "a") ∷ []))
    (catch (Some (codes "e"))
    (statements
    (block (statements (lexical false (declarators (declarator (codes "e") omitted ∷ [])) ∷ [])) ∷ [])))
    (finally (statements [])) ∷ try (statements []) (catch None (statements (debugger ∷ []))) no_finally ∷ []))
unfolding p.parse_script p.parse_expression p.parse_function p.below p.item p.declaration_at p.lexical_at p.statement
    p.try_at p.finalizer_at p.handler_at p.for_at p.if_at p.expression p.assignment p.joined p.arrow_of_list
    p.arrow_of_one p.arrow_rest p.operation p.chain p.unary p.postfix p.call p.links p.primary p.function_at
    p.properties_at p.property_at p.key_at q.arguments_before q.more_assignments q.names_before q.parameters_at
    q.items_at q.braces q.code_at q.declarator_at q.declarators_at q.optional_before q.ended_expression q.expect_name
    r.expect r.expect_near r.name_at r.fresh_name r.word_at r.semicolon_at r.elements r.others r.items
script_17 = refl

-- () => { LF  return LF  a LF };
script_18 : p.parse_script 20 []
    (a k.LeftParenthesis ∷ a k.RightParenthesis ∷ a k.Arrow ∷ a k.LeftBrace ∷ nl (reserved k.Return "return") ∷ nl
    (w "a") ∷ nl (a k.RightBrace) ∷ a k.Semicolon ∷ [])
    ≡ Ok (statements
    (expression (arrow_block (name_list []) (statements (return omitted ∷ expression (v "a") ∷ []))) ∷ []))
unfolding p.parse_script p.parse_expression p.parse_function p.below p.item p.declaration_at p.lexical_at p.statement
    p.try_at p.finalizer_at p.handler_at p.for_at p.if_at p.expression p.assignment p.joined p.arrow_of_list
    p.arrow_of_one p.arrow_rest p.operation p.chain p.unary p.postfix p.call p.links p.primary p.function_at
    p.properties_at p.property_at p.key_at q.arguments_before q.more_assignments q.names_before q.parameters_at
    q.items_at q.braces q.code_at q.declarator_at q.declarators_at q.optional_before q.ended_expression q.expect_name
    r.expect r.expect_near r.name_at r.fresh_name r.word_at r.semicolon_at r.elements r.others r.items
script_18 = refl

-- (a) = delete a.b; (a.if)[0]++; ++f().x; a += b -= 1
script_19 : p.parse_script 20 []
    (a k.LeftParenthesis ∷ w "a" ∷ a k.RightParenthesis ∷ a k.Assign ∷ reserved k.Delete "delete" ∷ w "a" ∷ a k.Dot ∷ w
    "b" ∷ a k.Semicolon ∷ a k.LeftParenthesis ∷ w "a" ∷ a k.Dot ∷ reserved k.If "if" ∷ a k.RightParenthesis ∷ a
    k.LeftBracket ∷ d 0 ∷ a k.RightBracket ∷ a k.Increment ∷ a k.Semicolon ∷ a k.Increment ∷ w "f" ∷ a
    k.LeftParenthesis ∷ a k.RightParenthesis ∷ a k.Dot ∷ w "x" ∷ a k.Semicolon ∷ w "a" ∷ a k.AddAssign ∷ w "b" ∷ a
    k.SubtractAssign ∷ d 1 ∷ [])
    ≡ Ok (statements
    (expression (assign assigns.Assign (parenthesized (v "a")) (unary unaries.Delete (member (v "a") (codes "b"))))
    ∷ expression (postfix updates.Increment (index (parenthesized (member (v "a") (codes "if"))) (number 0)))
    ∷ expression (prefix updates.Increment (member (call (v "f") (expressions [])) (codes "x"))) ∷ expression
    (assign assigns.Add (v "a") (assign assigns.Subtract (v "b") (number 1))) ∷ []))
unfolding p.parse_script p.parse_expression p.parse_function p.below p.item p.declaration_at p.lexical_at p.statement
    p.try_at p.finalizer_at p.handler_at p.for_at p.if_at p.expression p.assignment p.joined p.arrow_of_list
    p.arrow_of_one p.arrow_rest p.operation p.chain p.unary p.postfix p.call p.links p.primary p.function_at
    p.properties_at p.property_at p.key_at q.arguments_before q.more_assignments q.names_before q.parameters_at
    q.items_at q.braces q.code_at q.declarator_at q.declarators_at q.optional_before q.ended_expression q.expect_name
    r.expect r.expect_near r.name_at r.fresh_name r.word_at r.semicolon_at r.elements r.others r.items
script_19 = refl

-- {a, if: 1, 'c': 2, [d]: 3, 4() {}, e(x, y,) { return this; }, }
expression_1 : p.parse_expression 20
    (a k.LeftBrace ∷ w "a" ∷ a k.Comma ∷ reserved k.If "if" ∷ a k.Colon ∷ d 1 ∷ a k.Comma ∷ s "c" ∷ a k.Colon ∷ d 2 ∷ a
    k.Comma ∷ a k.LeftBracket ∷ w "d" ∷ a k.RightBracket ∷ a k.Colon ∷ d 3 ∷ a k.Comma ∷ d 4 ∷ a k.LeftParenthesis ∷
    a k.RightParenthesis ∷ a k.LeftBrace ∷ a k.RightBrace ∷ a k.Comma ∷ w "e" ∷ a k.LeftParenthesis ∷ w "x" ∷ a
    k.Comma ∷ w "y" ∷ a k.Comma ∷ a k.RightParenthesis ∷ a k.LeftBrace ∷ reserved k.Return "return" ∷ reserved
    k.This "this" ∷ a k.Semicolon ∷ a k.RightBrace ∷ a k.Comma ∷ a k.RightBrace ∷ [])
    ≡ Ok (object
    (properties
    (shorthand (codes "a") ∷ value (word_key (codes "if")) (number 1) ∷ value (string_key (codes "c"))
    (number 2) ∷ value (computed_key (v "d")) (number 3) ∷ method (number_key 4) [] (statements [])
    ∷ method (word_key (codes "e")) ((codes "x") ∷ (codes "y") ∷ [])
    (statements (return (present this) ∷ [])) ∷ [])))
unfolding p.parse_script p.parse_expression p.parse_function p.below p.item p.declaration_at p.lexical_at p.statement
    p.try_at p.finalizer_at p.handler_at p.for_at p.if_at p.expression p.assignment p.joined p.arrow_of_list
    p.arrow_of_one p.arrow_rest p.operation p.chain p.unary p.postfix p.call p.links p.primary p.function_at
    p.properties_at p.property_at p.key_at q.arguments_before q.more_assignments q.names_before q.parameters_at
    q.items_at q.braces q.code_at q.declarator_at q.declarators_at q.optional_before q.ended_expression q.expect_name
    r.expect r.expect_near r.name_at r.fresh_name r.word_at r.semicolon_at r.elements r.others r.items
expression_1 = refl

-- f(a, 'b', [null, true, false,],)(), g
expression_2 : p.parse_expression 20
    (w "f" ∷ a k.LeftParenthesis ∷ w "a" ∷ a k.Comma ∷ s "b" ∷ a k.Comma ∷ a k.LeftBracket ∷ reserved k.Null "null" ∷ a
    k.Comma ∷ reserved k.True "true" ∷ a k.Comma ∷ reserved k.False "false" ∷ a k.Comma ∷ a k.RightBracket ∷ a
    k.Comma ∷ a k.RightParenthesis ∷ a k.LeftParenthesis ∷ a k.RightParenthesis ∷ a k.Comma ∷ w "g" ∷ [])
    ≡ Ok (comma
    (expressions
    (call (call (v "f")
    (expressions
    (v "a" ∷ string (codes "b") ∷ array (expressions (null ∷ boolean true ∷ boolean false ∷ []))
    ∷ [])))
    (expressions []) ∷ v "g" ∷ [])))
unfolding p.parse_script p.parse_expression p.parse_function p.below p.item p.declaration_at p.lexical_at p.statement
    p.try_at p.finalizer_at p.handler_at p.for_at p.if_at p.expression p.assignment p.joined p.arrow_of_list
    p.arrow_of_one p.arrow_rest p.operation p.chain p.unary p.postfix p.call p.links p.primary p.function_at
    p.properties_at p.property_at p.key_at q.arguments_before q.more_assignments q.names_before q.parameters_at
    q.items_at q.braces q.code_at q.declarator_at q.declarators_at q.optional_before q.ended_expression q.expect_name
    r.expect r.expect_near r.name_at r.fresh_name r.word_at r.semicolon_at r.elements r.others r.items
expression_2 = refl

-- a || b && c | d ^ e & f == g < h << i + j * k
expression_3 : p.parse_expression 20
    (w "a" ∷ a k.LogicalOr ∷ w "b" ∷ a k.LogicalAnd ∷ w "c" ∷ a k.BitwiseOr ∷ w "d" ∷ a k.BitwiseXor ∷ w "e" ∷ a
    k.BitwiseAnd ∷ w "f" ∷ a k.Equal ∷ w "g" ∷ a k.LessThan ∷ w "h" ∷ a k.LeftShift ∷ w "i" ∷ a k.Plus ∷ w "j" ∷ a
    k.Multiply ∷ w "k" ∷ [])
    ≡ Ok (binary binaries.LogicalOr (v "a")
    (binary binaries.LogicalAnd (v "b")
    (binary binaries.BitwiseOr (v "c")
    (binary binaries.BitwiseXor (v "d")
    (binary binaries.BitwiseAnd (v "e")
    (binary binaries.Equal (v "f")
    (binary binaries.LessThan (v "g")
    (binary binaries.LeftShift (v "h")
    (binary binaries.Add (v "i") (binary binaries.Multiply (v "j") (v "k")))))))))))
unfolding p.parse_script p.parse_expression p.parse_function p.below p.item p.declaration_at p.lexical_at p.statement
    p.try_at p.finalizer_at p.handler_at p.for_at p.if_at p.expression p.assignment p.joined p.arrow_of_list
    p.arrow_of_one p.arrow_rest p.operation p.chain p.unary p.postfix p.call p.links p.primary p.function_at
    p.properties_at p.property_at p.key_at q.arguments_before q.more_assignments q.names_before q.parameters_at
    q.items_at q.braces q.code_at q.declarator_at q.declarators_at q.optional_before q.ended_expression q.expect_name
    r.expect r.expect_near r.name_at r.fresh_name r.word_at r.semicolon_at r.elements r.others r.items
expression_3 = refl

-- a - b - c % (d, e)
expression_4 : p.parse_expression 20
    (w "a" ∷ a k.Minus ∷ w "b" ∷ a k.Minus ∷ w "c" ∷ a k.Remainder ∷ a k.LeftParenthesis ∷ w "d" ∷ a k.Comma ∷ w "e" ∷ a
    k.RightParenthesis ∷ [])
    ≡ Ok (binary binaries.Subtract (binary binaries.Subtract (v "a") (v "b"))
    (binary binaries.Remainder (v "c") (parenthesized (comma (expressions (v "d" ∷ v "e" ∷ []))))))
unfolding p.parse_script p.parse_expression p.parse_function p.below p.item p.declaration_at p.lexical_at p.statement
    p.try_at p.finalizer_at p.handler_at p.for_at p.if_at p.expression p.assignment p.joined p.arrow_of_list
    p.arrow_of_one p.arrow_rest p.operation p.chain p.unary p.postfix p.call p.links p.primary p.function_at
    p.properties_at p.property_at p.key_at q.arguments_before q.more_assignments q.names_before q.parameters_at
    q.items_at q.braces q.code_at q.declarator_at q.declarators_at q.optional_before q.ended_expression q.expect_name
    r.expect r.expect_near r.name_at r.fresh_name r.word_at r.semicolon_at r.elements r.others r.items
expression_4 = refl

-- - ! ~ typeof void a.b ++
expression_5 : p.parse_expression 20
    (a k.Minus ∷ a k.LogicalNot ∷ a k.BitwiseNot ∷ reserved k.Typeof "typeof" ∷ reserved k.Void "void" ∷ w "a" ∷ a
    k.Dot ∷ w "b" ∷ a k.Increment ∷ [])
    ≡ Ok (unary unaries.Minus
    (unary unaries.LogicalNot
    (unary unaries.BitwiseNot
    (unary unaries.Typeof (unary unaries.Void (postfix updates.Increment (member (v "a") (codes "b"))))))))
unfolding p.parse_script p.parse_expression p.parse_function p.below p.item p.declaration_at p.lexical_at p.statement
    p.try_at p.finalizer_at p.handler_at p.for_at p.if_at p.expression p.assignment p.joined p.arrow_of_list
    p.arrow_of_one p.arrow_rest p.operation p.chain p.unary p.postfix p.call p.links p.primary p.function_at
    p.properties_at p.property_at p.key_at q.arguments_before q.more_assignments q.names_before q.parameters_at
    q.items_at q.braces q.code_at q.declarator_at q.declarators_at q.optional_before q.ended_expression q.expect_name
    r.expect r.expect_near r.name_at r.fresh_name r.word_at r.semicolon_at r.elements r.others r.items
expression_5 = refl

-- a ? b : c = d ? (e) : f => { }
expression_6 : p.parse_expression 20
    (w "a" ∷ a k.Question ∷ w "b" ∷ a k.Colon ∷ w "c" ∷ a k.Assign ∷ w "d" ∷ a k.Question ∷ a k.LeftParenthesis ∷ w
    "e" ∷ a k.RightParenthesis ∷ a k.Colon ∷ w "f" ∷ a k.Arrow ∷ a k.LeftBrace ∷ a k.RightBrace ∷ [])
    ≡ Ok (conditional (v "a") (v "b")
    (assign assigns.Assign (v "c")
    (conditional (v "d") (parenthesized (v "e")) (arrow_block (one_name (codes "f")) (statements [])))))
unfolding p.parse_script p.parse_expression p.parse_function p.below p.item p.declaration_at p.lexical_at p.statement
    p.try_at p.finalizer_at p.handler_at p.for_at p.if_at p.expression p.assignment p.joined p.arrow_of_list
    p.arrow_of_one p.arrow_rest p.operation p.chain p.unary p.postfix p.call p.links p.primary p.function_at
    p.properties_at p.property_at p.key_at q.arguments_before q.more_assignments q.names_before q.parameters_at
    q.items_at q.braces q.code_at q.declarator_at q.declarators_at q.optional_before q.ended_expression q.expect_name
    r.expect r.expect_near r.name_at r.fresh_name r.word_at r.semicolon_at r.elements r.others r.items
expression_6 = refl

-- x => () => (y, z) => x
expression_7 : p.parse_expression 20
    (w "x" ∷ a k.Arrow ∷ a k.LeftParenthesis ∷ a k.RightParenthesis ∷ a k.Arrow ∷ a k.LeftParenthesis ∷ w "y" ∷ a
    k.Comma ∷ w "z" ∷ a k.RightParenthesis ∷ a k.Arrow ∷ w "x" ∷ [])
    ≡ Ok (arrow (one_name (codes "x"))
    (arrow (name_list []) (arrow (name_list ((codes "y") ∷ (codes "z") ∷ [])) (v "x"))))
unfolding p.parse_script p.parse_expression p.parse_function p.below p.item p.declaration_at p.lexical_at p.statement
    p.try_at p.finalizer_at p.handler_at p.for_at p.if_at p.expression p.assignment p.joined p.arrow_of_list
    p.arrow_of_one p.arrow_rest p.operation p.chain p.unary p.postfix p.call p.links p.primary p.function_at
    p.properties_at p.property_at p.key_at q.arguments_before q.more_assignments q.names_before q.parameters_at
    q.items_at q.braces q.code_at q.declarator_at q.declarators_at q.optional_before q.ended_expression q.expect_name
    r.expect r.expect_near r.name_at r.fresh_name r.word_at r.semicolon_at r.elements r.others r.items
expression_7 = refl

-- function f(a) { return f; }
expression_8 : p.parse_expression 20
    (reserved k.Function "function" ∷ w "f" ∷ a k.LeftParenthesis ∷ w "a" ∷ a k.RightParenthesis ∷ a k.LeftBrace ∷
    reserved k.Return "return" ∷ w "f" ∷ a k.Semicolon ∷ a k.RightBrace ∷ [])
    ≡ Ok (function (Some (codes "f")) ((codes "a") ∷ []) (statements (return (present (v "f")) ∷ [])))
unfolding p.parse_script p.parse_expression p.parse_function p.below p.item p.declaration_at p.lexical_at p.statement
    p.try_at p.finalizer_at p.handler_at p.for_at p.if_at p.expression p.assignment p.joined p.arrow_of_list
    p.arrow_of_one p.arrow_rest p.operation p.chain p.unary p.postfix p.call p.links p.primary p.function_at
    p.properties_at p.property_at p.key_at q.arguments_before q.more_assignments q.names_before q.parameters_at
    q.items_at q.braces q.code_at q.declarator_at q.declarators_at q.optional_before q.ended_expression q.expect_name
    r.expect r.expect_near r.name_at r.fresh_name r.word_at r.semicolon_at r.elements r.others r.items
expression_8 = refl

-- a function expression or an arrow function, without parentheses around it
function_1 : p.parse_function 20
    (reserved k.Function "function" ∷ a k.LeftParenthesis ∷ a k.RightParenthesis ∷ a k.LeftBrace ∷ a k.RightBrace ∷ [])
    ≡ Ok (function None [] (statements []))
unfolding p.parse_script p.parse_expression p.parse_function p.below p.item p.declaration_at p.lexical_at p.statement
    p.try_at p.finalizer_at p.handler_at p.for_at p.if_at p.expression p.assignment p.joined p.arrow_of_list
    p.arrow_of_one p.arrow_rest p.operation p.chain p.unary p.postfix p.call p.links p.primary p.function_at
    p.properties_at p.property_at p.key_at q.arguments_before q.more_assignments q.names_before q.parameters_at
    q.items_at q.braces q.code_at q.declarator_at q.declarators_at q.optional_before q.ended_expression q.expect_name
    r.expect r.expect_near r.name_at r.fresh_name r.word_at r.semicolon_at r.elements r.others r.items
function_1 = refl

-- let b; where an earlier script declares a, and let a; there
script_after : p.parse_script 20 (codes "a" ∷ []) (reserved k.Let "let" ∷ w "b" ∷ a k.Semicolon ∷ []) ≡ Ok
    (statements (lexical false (declarators (declarator (codes "b") omitted ∷ [])) ∷ []))
unfolding p.parse_script p.parse_expression p.parse_function p.below p.item p.declaration_at p.lexical_at p.statement
    p.try_at p.finalizer_at p.handler_at p.for_at p.if_at p.expression p.assignment p.joined p.arrow_of_list
    p.arrow_of_one p.arrow_rest p.operation p.chain p.unary p.postfix p.call p.links p.primary p.function_at
    p.properties_at p.property_at p.key_at q.arguments_before q.more_assignments q.names_before q.parameters_at
    q.items_at q.braces q.code_at q.declarator_at q.declarators_at q.optional_before q.ended_expression q.expect_name
    r.expect r.expect_near r.name_at r.fresh_name r.word_at r.semicolon_at r.elements r.others r.items
script_after = refl
