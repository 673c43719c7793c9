-- Small sources, each with the tree that makes it a source of the language, and trees that make none: what the
-- definitions say of them, computed.
use Rattle.std.proofs.Common.{◌≡◌, ℕ, true, false, [], ◌∷◌, Some, None, refl, rules, arith}
use lib.Chars.{codes}
use Prim.Native.String.{String}
use Rattle.js_lexer.specs.declared.token.TokenKind.{TokenKind}
use Rattle.js_lexer.specs.declared.token.TokenKind.TheVariants as k
use Rattle.js_tree_operators.specs.declared.operator.UnaryOperator.TheVariants as unaries
use Rattle.js_tree_operators.specs.declared.operator.UpdateOperator.TheVariants as updates
use Rattle.js_tree_operators.specs.declared.operator.BinaryOperator.TheVariants as binaries
use Rattle.js_tree_operators.specs.declared.operator.AssignmentOperator.TheVariants as assigns
use Rattle.js_tree.specs.Trees.{one_name, name_list, Expression, this, name, number, string, boolean, null, array, object, function, arrow, arrow_block, parenthesized, member, index, call, postfix, prefix, unary, binary, conditional, assign, comma, omitted, present, word_key, string_key, number_key, computed_key, shorthand, value, method, declarator, block, lexical, empty, expression, if_then, if_else, do_while, while, for, for_lexical, for_of, continue, break, return, throw, try, debugger, declared_function, no_catch, catch, no_finally, finally}
use Rattle.js_tree.specs.Views.{expressions, statements, properties, declarators}
use Rattle.js_parser_language.specs.Tokens.{Token, token, beside, semicolon, trailing_comma, fixed, identifier, numeric_literal, after_expression, after_word, after_do, plain, braces, update}
use Rattle.js_parser_language.specs.Flat.{flat_statement}
use Rattle.js_tree.specs.Height.{height, height_of_statement}
use Rattle.js_parser_language.specs.Language.{IsScript, IsExpression, IsFunction}

-- a token on the line of the one before it: a punctuator, a reserved word, a name, a string literal, a number
abbrev pub a : TokenKind → Token
a kind = record { kind = kind; string_value = []; numeric_value = 0; newline_before = false; start = 0; end = 0 }

abbrev pub reserved : TokenKind → String → Token
reserved kind text = record (a kind) { string_value = codes text }

abbrev pub w : String → Token
w text = record (a k.Name) { string_value = codes text }

abbrev pub s : String → Token
s text = record (a k.String) { string_value = codes text }

abbrev pub d : ℕ → Token
d n = record (a k.Number) { numeric_value = n }

-- the same behind a line terminator
abbrev pub nl : Token → Token
nl t = record t { newline_before = true }

-- a name as an expression
abbrev pub v : String → Expression
v text = name (codes text)

-- ---- sources of the language

-- the empty source
script_1 : IsScript [] ([]) (statements [])
script_1 = record { well = search rules; spelled = search rules }

-- a LF ++ LF b
script_2 : IsScript [] (w "a" ∷ nl (a k.Increment) ∷ nl (w "b") ∷ [])
    (statements (expression (v "a") ∷ expression (prefix updates.Increment (v "b")) ∷ []))
script_2 = record { well = search rules; spelled = search rules }

-- do ; while (0) 1
script_3 : IsScript []
    (reserved k.Do "do" ∷ a k.Semicolon ∷ reserved k.While "while" ∷ a k.LeftParenthesis ∷ d 0 ∷ a k.RightParenthesis ∷
    d 1 ∷ [])
    (statements (do_while empty (number 0) ∷ expression (number 1) ∷ []))
script_3 = record { well = search rules; spelled = search rules }

-- x = () => {} LF (1)
script_4 : IsScript []
    (w "x" ∷ a k.Assign ∷ a k.LeftParenthesis ∷ a k.RightParenthesis ∷ a k.Arrow ∷ a k.LeftBrace ∷ a k.RightBrace ∷ nl
    (a k.LeftParenthesis) ∷ d 1 ∷ a k.RightParenthesis ∷ [])
    (statements
    (expression (assign assigns.Assign (v "x") (arrow_block (name_list []) (statements []))) ∷ expression
    (parenthesized (number 1)) ∷ []))
script_4 = record { well = search rules; spelled = search rules }

-- x = () => a LF (1)
script_5 : IsScript []
    (w "x" ∷ a k.Assign ∷ a k.LeftParenthesis ∷ a k.RightParenthesis ∷ a k.Arrow ∷ w "a" ∷ nl (a k.LeftParenthesis)
    ∷ d 1 ∷ a k.RightParenthesis ∷ [])
    (statements
    (expression (assign assigns.Assign (v "x") (arrow (name_list []) (call (v "a") (expressions (number 1 ∷ [])))))
    ∷ []))
script_5 = record { well = search rules; spelled = search rules }

-- let a = 1 LF (2)
script_6 : IsScript []
    (reserved k.Let "let" ∷ w "a" ∷ a k.Assign ∷ d 1 ∷ nl (a k.LeftParenthesis) ∷ d 2 ∷ a k.RightParenthesis ∷ [])
    (statements
    (lexical false
    (declarators (declarator (codes "a") (present (call (number 1) (expressions (number 2 ∷ [])))) ∷ []))
    ∷ []))
script_6 = record { well = search rules; spelled = search rules }

-- a++ LF (b) LF [c] LF - d
script_7 : IsScript []
    (w "a" ∷ a k.Increment ∷ nl (a k.LeftParenthesis) ∷ w "b" ∷ a k.RightParenthesis ∷ nl (a k.LeftBracket)
    ∷ w "c" ∷ a k.RightBracket ∷ nl (a k.Minus) ∷ w "d" ∷ [])
    (statements
    (expression (postfix updates.Increment (v "a")) ∷ expression
    (binary binaries.Subtract (index (parenthesized (v "b")) (v "c")) (v "d")) ∷ []))
script_7 = record { well = search rules; spelled = search rules }

-- let x LF (1) LF [2]
script_8 : IsScript []
    (reserved k.Let "let" ∷ w "x" ∷ nl (a k.LeftParenthesis) ∷ d 1 ∷ a k.RightParenthesis ∷ nl (a k.LeftBracket)
    ∷ d 2 ∷ a k.RightBracket ∷ [])
    (statements
    (lexical false (declarators (declarator (codes "x") omitted ∷ [])) ∷ expression
    (index (parenthesized (number 1)) (number 2)) ∷ []))
script_8 = record { well = search rules; spelled = search rules }

-- if (a) b LF else c
script_9 : IsScript []
    (reserved k.If "if" ∷ a k.LeftParenthesis ∷ w "a" ∷ a k.RightParenthesis ∷ w "b" ∷ nl (reserved k.Else "else")
    ∷ w "c" ∷ [])
    (statements (if_else (v "a") (expression (v "b")) (expression (v "c")) ∷ []))
script_9 = record { well = search rules; spelled = search rules }

-- if (a) if (b) c; else d
script_10 : IsScript []
    (reserved k.If "if" ∷ a k.LeftParenthesis ∷ w "a" ∷ a k.RightParenthesis ∷ reserved k.If "if" ∷ a
    k.LeftParenthesis ∷ w "b" ∷ a k.RightParenthesis ∷ w "c" ∷ a k.Semicolon ∷ reserved k.Else "else" ∷ w "d" ∷ [])
    (statements (if_then (v "a") (if_else (v "b") (expression (v "c")) (expression (v "d"))) ∷ []))
script_10 = record { well = search rules; spelled = search rules }

-- if (a) { if (b) c; } else d
script_11 : IsScript []
    (reserved k.If "if" ∷ a k.LeftParenthesis ∷ w "a" ∷ a k.RightParenthesis ∷ a k.LeftBrace ∷ reserved k.If "if" ∷ a
    k.LeftParenthesis ∷ w "b" ∷ a k.RightParenthesis ∷ w "c" ∷ a k.Semicolon ∷ a k.RightBrace ∷ reserved k.Else
    "else" ∷ w "d" ∷ [])
    (statements
    (if_else (v "a") (block (statements (if_then (v "b") (expression (v "c")) ∷ []))) (expression (v "d")) ∷ []))
script_11 = record { well = search rules; spelled = search rules }

-- for (let of of of) ;
script_12 : IsScript []
    (reserved k.For "for" ∷ a k.LeftParenthesis ∷ reserved k.Let "let" ∷ w "of" ∷ w "of" ∷ w "of" ∷ a
    k.RightParenthesis ∷ a k.Semicolon ∷ [])
    (statements (for_of false (codes "of") (v "of") empty ∷ []))
script_12 = record { well = search rules; spelled = search rules }

-- for (const a = 1, b = 2; a; a, b) { break }
script_13 : IsScript []
    (reserved k.For "for" ∷ a k.LeftParenthesis ∷ reserved k.Const "const" ∷ w "a" ∷ a k.Assign ∷ d 1 ∷ a k.Comma ∷ w
    "b" ∷ a k.Assign ∷ d 2 ∷ a k.Semicolon ∷ w "a" ∷ a k.Semicolon ∷ w "a" ∷ a k.Comma ∷ w "b" ∷ a
    k.RightParenthesis ∷ a k.LeftBrace ∷ reserved k.Break "break" ∷ a k.RightBrace ∷ [])
    (statements
    (for_lexical true
    (declarators
    (declarator (codes "a") (present (number 1)) ∷ declarator (codes "b") (present (number 2)) ∷ []))
    (present (v "a")) (present (comma (expressions (v "a" ∷ v "b" ∷ [])))) (block (statements (break ∷ [])))
    ∷ []))
script_13 = record { well = search rules; spelled = search rules }

-- for (;;) { if (a) continue; else break }
script_14 : IsScript []
    (reserved k.For "for" ∷ a k.LeftParenthesis ∷ a k.Semicolon ∷ a k.Semicolon ∷ a k.RightParenthesis ∷ a k.LeftBrace ∷
    reserved k.If "if" ∷ a k.LeftParenthesis ∷ w "a" ∷ a k.RightParenthesis ∷ reserved k.Continue "continue" ∷ a
    k.Semicolon ∷ reserved k.Else "else" ∷ reserved k.Break "break" ∷ a k.RightBrace ∷ [])
    (statements (for omitted omitted omitted (block (statements (if_else (v "a") continue break ∷ []))) ∷ []))
script_14 = record { well = search rules; spelled = search rules }

-- for (a; b; ) while (c) do d; while (e) ;
script_15 : IsScript []
    (reserved k.For "for" ∷ a k.LeftParenthesis ∷ w "a" ∷ a k.Semicolon ∷ w "b" ∷ a k.Semicolon ∷ a k.RightParenthesis ∷
    reserved k.While "while" ∷ a k.LeftParenthesis ∷ w "c" ∷ a k.RightParenthesis ∷ reserved k.Do "do" ∷ w "d" ∷ a
    k.Semicolon ∷ reserved k.While "while" ∷ a k.LeftParenthesis ∷ w "e" ∷ a k.RightParenthesis ∷ a k.Semicolon ∷
    [])
    (statements
    (for (present (v "a")) (present (v "b")) omitted (while (v "c") (do_while (expression (v "d")) (v "e"))) ∷ []))
script_15 = record { well = search rules; spelled = search rules }

-- let a; { let a; } function f(b,) { { let b; } return; return b }
script_16 : IsScript []
    (reserved k.Let "let" ∷ w "a" ∷ a k.Semicolon ∷ a k.LeftBrace ∷ reserved k.Let "let" ∷ w "a" ∷ a k.Semicolon ∷ a
    k.RightBrace ∷ reserved k.Function "function" ∷ w "f" ∷ a k.LeftParenthesis ∷ w "b" ∷ a k.Comma ∷ a
    k.RightParenthesis ∷ a k.LeftBrace ∷ a k.LeftBrace ∷ reserved k.Let "let" ∷ w "b" ∷ a k.Semicolon ∷ a
    k.RightBrace ∷ reserved k.Return "return" ∷ a k.Semicolon ∷ reserved k.Return "return" ∷ w "b" ∷ a
    k.RightBrace ∷ [])
    (statements
    (lexical false (declarators (declarator (codes "a") omitted ∷ [])) ∷ block
    (statements (lexical false (declarators (declarator (codes "a") omitted ∷ [])) ∷ [])) ∷ declared_function
    (codes "f") ((codes "b") ∷ [])
    (statements
    (block (statements (lexical false (declarators (declarator (codes "b") omitted ∷ [])) ∷ []))
    ∷ return omitted ∷ return (present (v "b")) ∷ []))
    ∷ []))
script_16 = record { well = search rules; spelled = search rules }

-- try { throw a } catch (e) { { let e; } } finally {} try {} catch { debugger }
script_17 : IsScript []
    (reserved k.Try "try" ∷ a k.LeftBrace ∷ reserved k.Throw "throw" ∷ w "a" ∷ a k.RightBrace ∷ reserved k.Catch
    "catch" ∷ a k.LeftParenthesis ∷ w "e" ∷ a k.RightParenthesis ∷ a k.LeftBrace ∷ a k.LeftBrace ∷ reserved k.Let
    "let" ∷ w "e" ∷ a k.Semicolon ∷ a k.RightBrace ∷ a k.RightBrace ∷ reserved k.Finally "finally" ∷ a k.LeftBrace ∷
    a k.RightBrace ∷ reserved k.Try "try" ∷ a k.LeftBrace ∷ a k.RightBrace ∷ reserved k.Catch "catch" ∷ a
    k.LeftBrace ∷ reserved k.Debugger "debugger" ∷ a k.RightBrace ∷ [])
    (statements
    (try (statements (throw (v "a") ∷ []))
    (catch (Some (codes "e"))
    (statements
    (block (statements (lexical false (declarators (declarator (codes "e") omitted ∷ [])) ∷ [])) ∷ [])))
    (finally (statements [])) ∷ try (statements []) (catch None (statements (debugger ∷ []))) no_finally ∷ []))
script_17 = record { well = search rules; spelled = search rules }

-- () => { LF  return LF  a LF };
script_18 : IsScript []
    (a k.LeftParenthesis ∷ a k.RightParenthesis ∷ a k.Arrow ∷ a k.LeftBrace ∷ nl (reserved k.Return "return") ∷ nl
    (w "a") ∷ nl (a k.RightBrace) ∷ a k.Semicolon ∷ [])
    (statements (expression (arrow_block (name_list []) (statements (return omitted ∷ expression (v "a") ∷ []))) ∷ []))
script_18 = record { well = search rules; spelled = search rules }

-- (a) = delete a.b; (a.if)[0]++; ++f().x; a += b -= 1
script_19 : IsScript []
    (a k.LeftParenthesis ∷ w "a" ∷ a k.RightParenthesis ∷ a k.Assign ∷ reserved k.Delete "delete" ∷ w "a" ∷ a k.Dot ∷ w
    "b" ∷ a k.Semicolon ∷ a k.LeftParenthesis ∷ w "a" ∷ a k.Dot ∷ reserved k.If "if" ∷ a k.RightParenthesis ∷ a
    k.LeftBracket ∷ d 0 ∷ a k.RightBracket ∷ a k.Increment ∷ a k.Semicolon ∷ a k.Increment ∷ w "f" ∷ a
    k.LeftParenthesis ∷ a k.RightParenthesis ∷ a k.Dot ∷ w "x" ∷ a k.Semicolon ∷ w "a" ∷ a k.AddAssign ∷ w "b" ∷ a
    k.SubtractAssign ∷ d 1 ∷ [])
    (statements
    (expression (assign assigns.Assign (parenthesized (v "a")) (unary unaries.Delete (member (v "a") (codes "b"))))
    ∷ expression (postfix updates.Increment (index (parenthesized (member (v "a") (codes "if"))) (number 0)))
    ∷ expression (prefix updates.Increment (member (call (v "f") (expressions [])) (codes "x"))) ∷ expression
    (assign assigns.Add (v "a") (assign assigns.Subtract (v "b") (number 1))) ∷ []))
script_19 = record { well = search rules; spelled = search rules }

-- {a, if: 1, 'c': 2, [d]: 3, 4() {}, e(x, y,) { return this; }, }
expression_1 : IsExpression
    (a k.LeftBrace ∷ w "a" ∷ a k.Comma ∷ reserved k.If "if" ∷ a k.Colon ∷ d 1 ∷ a k.Comma ∷ s "c" ∷ a k.Colon ∷ d 2 ∷ a
    k.Comma ∷ a k.LeftBracket ∷ w "d" ∷ a k.RightBracket ∷ a k.Colon ∷ d 3 ∷ a k.Comma ∷ d 4 ∷ a k.LeftParenthesis ∷
    a k.RightParenthesis ∷ a k.LeftBrace ∷ a k.RightBrace ∷ a k.Comma ∷ w "e" ∷ a k.LeftParenthesis ∷ w "x" ∷ a
    k.Comma ∷ w "y" ∷ a k.Comma ∷ a k.RightParenthesis ∷ a k.LeftBrace ∷ reserved k.Return "return" ∷ reserved
    k.This "this" ∷ a k.Semicolon ∷ a k.RightBrace ∷ a k.Comma ∷ a k.RightBrace ∷ [])
    (object (properties
    (shorthand (codes "a") ∷ value (word_key (codes "if")) (number 1) ∷ value (string_key (codes "c")) (number 2)
    ∷ value (computed_key (v "d")) (number 3) ∷ method (number_key 4) [] (statements []) ∷ method
    (word_key (codes "e")) ((codes "x") ∷ (codes "y") ∷ []) (statements (return (present this) ∷ [])) ∷ [])))
expression_1 = record { well = search rules; spelled = search rules }

-- f(a, 'b', [null, true, false,],)(), g
expression_2 : IsExpression
    (w "f" ∷ a k.LeftParenthesis ∷ w "a" ∷ a k.Comma ∷ s "b" ∷ a k.Comma ∷ a k.LeftBracket ∷ reserved k.Null "null" ∷ a
    k.Comma ∷ reserved k.True "true" ∷ a k.Comma ∷ reserved k.False "false" ∷ a k.Comma ∷ a k.RightBracket ∷ a
    k.Comma ∷ a k.RightParenthesis ∷ a k.LeftParenthesis ∷ a k.RightParenthesis ∷ a k.Comma ∷ w "g" ∷ [])
    (comma (expressions
    (call (call (v "f")
    (expressions
    (v "a" ∷ string (codes "b") ∷ array (expressions (null ∷ boolean true ∷ boolean false ∷ [])) ∷ [])))
    (expressions []) ∷ v "g" ∷ [])))
expression_2 = record { well = search rules; spelled = search rules }

-- a || b && c | d ^ e & f == g < h << i + j * k
expression_3 : IsExpression
    (w "a" ∷ a k.LogicalOr ∷ w "b" ∷ a k.LogicalAnd ∷ w "c" ∷ a k.BitwiseOr ∷ w "d" ∷ a k.BitwiseXor ∷ w "e" ∷ a
    k.BitwiseAnd ∷ w "f" ∷ a k.Equal ∷ w "g" ∷ a k.LessThan ∷ w "h" ∷ a k.LeftShift ∷ w "i" ∷ a k.Plus ∷ w "j" ∷ a
    k.Multiply ∷ w "k" ∷ [])
    (binary binaries.LogicalOr (v "a")
    (binary binaries.LogicalAnd (v "b")
    (binary binaries.BitwiseOr (v "c")
    (binary binaries.BitwiseXor (v "d")
    (binary binaries.BitwiseAnd (v "e")
    (binary binaries.Equal (v "f")
    (binary binaries.LessThan (v "g")
    (binary binaries.LeftShift (v "h")
    (binary binaries.Add (v "i") (binary binaries.Multiply (v "j") (v "k")))))))))))
expression_3 = record { well = search rules; spelled = search rules }

-- a - b - c % (d, e)
expression_4 : IsExpression
    (w "a" ∷ a k.Minus ∷ w "b" ∷ a k.Minus ∷ w "c" ∷ a k.Remainder ∷ a k.LeftParenthesis ∷ w "d" ∷ a k.Comma ∷ w "e" ∷ a
    k.RightParenthesis ∷ [])
    (binary binaries.Subtract (binary binaries.Subtract (v "a") (v "b"))
    (binary binaries.Remainder (v "c") (parenthesized (comma (expressions (v "d" ∷ v "e" ∷ []))))))
expression_4 = record { well = search rules; spelled = search rules }

-- - ! ~ typeof void a.b ++
expression_5 : IsExpression
    (a k.Minus ∷ a k.LogicalNot ∷ a k.BitwiseNot ∷ reserved k.Typeof "typeof" ∷ reserved k.Void "void" ∷ w "a" ∷ a
    k.Dot ∷ w "b" ∷ a k.Increment ∷ [])
    (unary unaries.Minus
    (unary unaries.LogicalNot
    (unary unaries.BitwiseNot
    (unary unaries.Typeof (unary unaries.Void (postfix updates.Increment (member (v "a") (codes "b"))))))))
expression_5 = record { well = search rules; spelled = search rules }

-- a ? b : c = d ? (e) : f => { }
expression_6 : IsExpression
    (w "a" ∷ a k.Question ∷ w "b" ∷ a k.Colon ∷ w "c" ∷ a k.Assign ∷ w "d" ∷ a k.Question ∷ a k.LeftParenthesis ∷ w
    "e" ∷ a k.RightParenthesis ∷ a k.Colon ∷ w "f" ∷ a k.Arrow ∷ a k.LeftBrace ∷ a k.RightBrace ∷ [])
    (conditional (v "a") (v "b")
    (assign assigns.Assign (v "c")
    (conditional (v "d") (parenthesized (v "e")) (arrow_block (one_name (codes "f")) (statements [])))))
expression_6 = record { well = search rules; spelled = search rules }

-- x => () => (y, z) => x
expression_7 : IsExpression
    (w "x" ∷ a k.Arrow ∷ a k.LeftParenthesis ∷ a k.RightParenthesis ∷ a k.Arrow ∷ a k.LeftParenthesis ∷ w "y" ∷ a
    k.Comma ∷ w "z" ∷ a k.RightParenthesis ∷ a k.Arrow ∷ w "x" ∷ [])
    (arrow (one_name (codes "x")) (arrow (name_list []) (arrow (name_list ((codes "y") ∷ (codes "z") ∷ [])) (v "x"))))
expression_7 = record { well = search rules; spelled = search rules }

-- function f(a) { return f; }
expression_8 : IsExpression
    (reserved k.Function "function" ∷ w "f" ∷ a k.LeftParenthesis ∷ w "a" ∷ a k.RightParenthesis ∷ a k.LeftBrace ∷
    reserved k.Return "return" ∷ w "f" ∷ a k.Semicolon ∷ a k.RightBrace ∷ [])
    (function (Some (codes "f")) ((codes "a") ∷ []) (statements (return (present (v "f")) ∷ [])))
expression_8 = record { well = search rules; spelled = search rules }

-- ---- trees that make no source of the language

-- a LF ++ LF b: no postfix operator on a new line
no_script_1 : IsScript [] (w "a" ∷ nl (a k.Increment) ∷ nl (w "b") ∷ [])
    (statements (expression (postfix updates.Increment (v "a")) ∷ expression (v "b") ∷ []))
    → ⊥
no_script_1 h = cc

-- x = () => {} LF (1): an arrow function is no callee
no_script_2 : IsScript []
    (w "x" ∷ a k.Assign ∷ a k.LeftParenthesis ∷ a k.RightParenthesis ∷ a k.Arrow ∷ a k.LeftBrace ∷ a k.RightBrace ∷ nl
    (a k.LeftParenthesis) ∷ d 1 ∷ a k.RightParenthesis ∷ [])
    (statements
    (expression
    (assign assigns.Assign (v "x")
    (call (arrow_block (name_list []) (statements [])) (expressions (number 1 ∷ []))))
    ∷ []))
    → ⊥
no_script_2 h = omega arith

-- x = () => a LF (1): ( goes on with the statement
no_script_3 : IsScript []
    (w "x" ∷ a k.Assign ∷ a k.LeftParenthesis ∷ a k.RightParenthesis ∷ a k.Arrow ∷ w "a" ∷ nl (a k.LeftParenthesis)
    ∷ d 1 ∷ a k.RightParenthesis ∷ [])
    (statements
    (expression (assign assigns.Assign (v "x") (arrow (name_list []) (v "a"))) ∷ expression
    (parenthesized (number 1)) ∷ []))
    → ⊥
no_script_3 h = grind arith

-- let a = 1 LF (2): the same
no_script_4 : IsScript []
    (reserved k.Let "let" ∷ w "a" ∷ a k.Assign ∷ d 1 ∷ nl (a k.LeftParenthesis) ∷ d 2 ∷ a k.RightParenthesis ∷ [])
    (statements
    (lexical false (declarators (declarator (codes "a") (present (number 1)) ∷ [])) ∷ expression
    (parenthesized (number 2)) ∷ []))
    → ⊥
no_script_4 h = grind arith

-- throw LF 1
no_script_5 : IsScript [] (reserved k.Throw "throw" ∷ nl (d 1) ∷ []) (statements (throw (number 1) ∷ [])) → ⊥
no_script_5 h = cc

-- let x = 1 let y: no line terminator before the second let
no_script_6 : IsScript [] (reserved k.Let "let" ∷ w "x" ∷ a k.Assign ∷ d 1 ∷ reserved k.Let "let" ∷ w "y" ∷ [])
    (statements
    (lexical false (declarators (declarator (codes "x") (present (number 1)) ∷ [])) ∷ lexical false
    (declarators (declarator (codes "y") omitted ∷ [])) ∷ []))
    → ⊥
no_script_6 h = grind arith

-- return at the top
no_script_7 : IsScript [] (reserved k.Return "return" ∷ []) (statements (return omitted ∷ [])) → ⊥
no_script_7 h = cc

-- let a = 1; let a = 2;
no_script_8 : IsScript []
    (reserved k.Let "let" ∷ w "a" ∷ a k.Assign ∷ d 1 ∷ a k.Semicolon ∷ reserved k.Let "let" ∷ w "a" ∷ a k.Assign ∷ d 2 ∷
    a k.Semicolon ∷ [])
    (statements
    (lexical false (declarators (declarator (codes "a") (present (number 1)) ∷ [])) ∷ lexical false
    (declarators (declarator (codes "a") (present (number 2)) ∷ [])) ∷ []))
    → ⊥
no_script_8 h = cc

-- let a; function a() {}
no_script_9 : IsScript []
    (reserved k.Let "let" ∷ w "a" ∷ a k.Semicolon ∷ reserved k.Function "function" ∷ w "a" ∷ a k.LeftParenthesis ∷ a
    k.RightParenthesis ∷ a k.LeftBrace ∷ a k.RightBrace ∷ [])
    (statements
    (lexical false (declarators (declarator (codes "a") omitted ∷ [])) ∷ declared_function (codes "a") []
    (statements []) ∷ []))
    → ⊥
no_script_9 h = cc

-- if (a) b else c
no_script_10 : IsScript []
    (reserved k.If "if" ∷ a k.LeftParenthesis ∷ w "a" ∷ a k.RightParenthesis ∷ w "b" ∷ reserved k.Else "else" ∷ w "c" ∷
    [])
    (statements (if_else (v "a") (expression (v "b")) (expression (v "c")) ∷ []))
    → ⊥
no_script_10 h = grind arith

-- if (a) if (b) c; else d: the else goes with the nearest if
no_script_11 : IsScript []
    (reserved k.If "if" ∷ a k.LeftParenthesis ∷ w "a" ∷ a k.RightParenthesis ∷ reserved k.If "if" ∷ a
    k.LeftParenthesis ∷ w "b" ∷ a k.RightParenthesis ∷ w "c" ∷ a k.Semicolon ∷ reserved k.Else "else" ∷ w "d" ∷ [])
    (statements (if_else (v "a") (if_then (v "b") (expression (v "c"))) (expression (v "d")) ∷ []))
    → ⊥
no_script_11 h = cc

-- if (a) let b
no_script_12 : IsScript []
    (reserved k.If "if" ∷ a k.LeftParenthesis ∷ w "a" ∷ a k.RightParenthesis ∷ reserved k.Let "let" ∷ w "b" ∷ [])
    (statements (if_then (v "a") (lexical false (declarators (declarator (codes "b") omitted ∷ []))) ∷ []))
    → ⊥
no_script_12 h = cc

-- while (0) function f() {}
no_script_13 : IsScript []
    (reserved k.While "while" ∷ a k.LeftParenthesis ∷ d 0 ∷ a k.RightParenthesis ∷ reserved k.Function "function" ∷ w
    "f" ∷ a k.LeftParenthesis ∷ a k.RightParenthesis ∷ a k.LeftBrace ∷ a k.RightBrace ∷ [])
    (statements (while (number 0) (declared_function (codes "f") [] (statements [])) ∷ []))
    → ⊥
no_script_13 h = cc

-- if (a): an empty statement is never absent
no_script_14 : IsScript [] (reserved k.If "if" ∷ a k.LeftParenthesis ∷ w "a" ∷ a k.RightParenthesis ∷ [])
    (statements (if_then (v "a") empty ∷ []))
    → ⊥
no_script_14 h = h.spelled.1.1.1.1.0

-- for (a LF ++b;;) ;: the semicolons of a head are never absent
no_script_15 : IsScript []
    (reserved k.For "for" ∷ a k.LeftParenthesis ∷ w "a" ∷ nl (a k.Increment)
    ∷ w "b" ∷ a k.Semicolon ∷ a k.Semicolon ∷ a k.RightParenthesis ∷ a k.Semicolon ∷ [])
    (statements (for (present (v "a")) (present (prefix updates.Increment (v "b"))) omitted empty ∷ []))
    → ⊥
no_script_15 h = cc

-- for (const a;;) ;
no_script_16 : IsScript []
    (reserved k.For "for" ∷ a k.LeftParenthesis ∷ reserved k.Const "const" ∷ w "a" ∷ a k.Semicolon ∷ a k.Semicolon ∷ a
    k.RightParenthesis ∷ a k.Semicolon ∷ [])
    (statements (for_lexical true (declarators (declarator (codes "a") omitted ∷ [])) omitted omitted empty ∷ []))
    → ⊥
no_script_16 h = cc

-- for (let a, a;;) ;
no_script_17 : IsScript []
    (reserved k.For "for" ∷ a k.LeftParenthesis ∷ reserved k.Let "let" ∷ w "a" ∷ a k.Comma ∷ w "a" ∷ a k.Semicolon ∷ a
    k.Semicolon ∷ a k.RightParenthesis ∷ a k.Semicolon ∷ [])
    (statements
    (for_lexical false (declarators (declarator (codes "a") omitted ∷ declarator (codes "a") omitted ∷ []))
    omitted omitted empty ∷ []))
    → ⊥
no_script_17 h = cc

-- const a
no_script_18 : IsScript [] (reserved k.Const "const" ∷ w "a" ∷ [])
    (statements (lexical true (declarators (declarator (codes "a") omitted ∷ [])) ∷ []))
    → ⊥
no_script_18 h = cc

-- break outside of a loop
no_script_19 : IsScript [] (reserved k.Break "break" ∷ []) (statements (break ∷ [])) → ⊥
no_script_19 h = cc

-- for (;;) { () => { break; } }: the loop is outside of the function
no_script_20 : IsScript []
    (reserved k.For "for" ∷ a k.LeftParenthesis ∷ a k.Semicolon ∷ a k.Semicolon ∷ a k.RightParenthesis ∷ a k.LeftBrace ∷
    a k.LeftParenthesis ∷ a k.RightParenthesis ∷ a k.Arrow ∷ a k.LeftBrace ∷ reserved k.Break "break" ∷ a
    k.Semicolon ∷ a k.RightBrace ∷ a k.RightBrace ∷ [])
    (statements
    (for omitted omitted omitted
    (block (statements (expression (arrow_block (name_list []) (statements (break ∷ []))) ∷ []))) ∷ []))
    → ⊥
no_script_20 h = cc

-- try {}
no_script_21 : IsScript [] (reserved k.Try "try" ∷ a k.LeftBrace ∷ a k.RightBrace ∷ [])
    (statements (try (statements []) no_catch no_finally ∷ []))
    → ⊥
no_script_21 h = cc

-- try {} catch (e) { let e; }
no_script_22 : IsScript []
    (reserved k.Try "try" ∷ a k.LeftBrace ∷ a k.RightBrace ∷ reserved k.Catch "catch" ∷ a k.LeftParenthesis ∷ w "e" ∷ a
    k.RightParenthesis ∷ a k.LeftBrace ∷ reserved k.Let "let" ∷ w "e" ∷ a k.Semicolon ∷ a k.RightBrace ∷ [])
    (statements
    (try (statements [])
    (catch (Some (codes "e"))
    (statements (lexical false (declarators (declarator (codes "e") omitted ∷ [])) ∷ [])))
    no_finally ∷ []))
    → ⊥
no_script_22 h = cc

-- function f(a) { let a; }
no_script_23 : IsScript []
    (reserved k.Function "function" ∷ w "f" ∷ a k.LeftParenthesis ∷ w "a" ∷ a k.RightParenthesis ∷ a k.LeftBrace ∷
    reserved k.Let "let" ∷ w "a" ∷ a k.Semicolon ∷ a k.RightBrace ∷ [])
    (statements
    (declared_function (codes "f") ((codes "a") ∷ [])
    (statements (lexical false (declarators (declarator (codes "a") omitted ∷ [])) ∷ [])) ∷ []))
    → ⊥
no_script_23 h = cc

-- {a}: a block, no object
no_script_24 : IsScript [] (a k.LeftBrace ∷ w "a" ∷ a k.RightBrace ∷ [])
    (statements (expression (object (properties (shorthand (codes "a") ∷ []))) ∷ []))
    → ⊥
no_script_24 h = cc

-- function f() {}: a declaration, no expression
no_script_25 : IsScript []
    (reserved k.Function "function" ∷ w "f" ∷ a k.LeftParenthesis ∷ a k.RightParenthesis ∷ a k.LeftBrace ∷ a
    k.RightBrace ∷ [])
    (statements (expression (function (Some (codes "f")) [] (statements [])) ∷ []))
    → ⊥
no_script_25 h = cc

-- a b
no_script_26 : IsScript [] (w "a" ∷ w "b" ∷ []) (statements (expression (v "a") ∷ expression (v "b") ∷ [])) → ⊥
no_script_26 h = grind arith

-- a - b - c: from the left
no_expression_1 : IsExpression (w "a" ∷ a k.Minus ∷ w "b" ∷ a k.Minus ∷ w "c" ∷ [])
    (binary binaries.Subtract (v "a") (binary binaries.Subtract (v "b") (v "c")))
    → ⊥
no_expression_1 h = omega arith

-- a = b = c: from the right
no_expression_2 : IsExpression (w "a" ∷ a k.Assign ∷ w "b" ∷ a k.Assign ∷ w "c" ∷ [])
    (assign assigns.Assign (assign assigns.Assign (v "a") (v "b")) (v "c"))
    → ⊥
no_expression_2 h = cc

-- a * b + c: * binds tighter
no_expression_3 : IsExpression (w "a" ∷ a k.Multiply ∷ w "b" ∷ a k.Plus ∷ w "c" ∷ [])
    (binary binaries.Multiply (v "a") (binary binaries.Add (v "b") (v "c")))
    → ⊥
no_expression_3 h = omega arith

-- 1 + a => 1
no_expression_4 : IsExpression (d 1 ∷ a k.Plus ∷ w "a" ∷ a k.Arrow ∷ d 1 ∷ [])
    (binary binaries.Add (number 1) (arrow (one_name (codes "a")) (number 1)))
    → ⊥
no_expression_4 h = omega arith

-- a LF => 1
no_expression_5 : IsExpression (w "a" ∷ nl (a k.Arrow) ∷ d 1 ∷ []) (arrow (one_name (codes "a")) (number 1)) → ⊥
no_expression_5 h = cc

-- (a, a) => 1
no_expression_6 : IsExpression
    (a k.LeftParenthesis ∷ w "a" ∷ a k.Comma ∷ w "a" ∷ a k.RightParenthesis ∷ a k.Arrow ∷ d 1 ∷ [])
    (arrow (name_list ((codes "a") ∷ (codes "a") ∷ [])) (number 1))
    → ⊥
no_expression_6 h = cc

-- x => { let x; }
no_expression_7 : IsExpression
    (w "x" ∷ a k.Arrow ∷ a k.LeftBrace ∷ reserved k.Let "let" ∷ w "x" ∷ a k.Semicolon ∷ a k.RightBrace ∷ [])
    (arrow_block (one_name (codes "x"))
    (statements (lexical false (declarators (declarator (codes "x") omitted ∷ [])) ∷ [])))
    → ⊥
no_expression_7 h = cc

-- () => {}: braces of statements
no_expression_8 : IsExpression
    (a k.LeftParenthesis ∷ a k.RightParenthesis ∷ a k.Arrow ∷ a k.LeftBrace ∷ a k.RightBrace ∷ [])
    (arrow (name_list []) (object (properties [])))
    → ⊥
no_expression_8 h = cc

-- (a,): a comma list has no trailing comma
no_expression_9 : IsExpression (a k.LeftParenthesis ∷ w "a" ∷ a k.Comma ∷ a k.RightParenthesis ∷ [])
    (parenthesized (comma (expressions (v "a" ∷ []))))
    → ⊥
no_expression_9 h = cc

-- (a, b) = 1
no_expression_10 : IsExpression
    (a k.LeftParenthesis ∷ w "a" ∷ a k.Comma ∷ w "b" ∷ a k.RightParenthesis ∷ a k.Assign ∷ d 1 ∷ [])
    (assign assigns.Assign (parenthesized (comma (expressions (v "a" ∷ v "b" ∷ [])))) (number 1))
    → ⊥
no_expression_10 h = cc

-- f() = 1
no_expression_11 : IsExpression (w "f" ∷ a k.LeftParenthesis ∷ a k.RightParenthesis ∷ a k.Assign ∷ d 1 ∷ [])
    (assign assigns.Assign (call (v "f") (expressions [])) (number 1))
    → ⊥
no_expression_11 h = cc

-- ++f()
no_expression_12 : IsExpression (a k.Increment ∷ w "f" ∷ a k.LeftParenthesis ∷ a k.RightParenthesis ∷ [])
    (prefix updates.Increment (call (v "f") (expressions [])))
    → ⊥
no_expression_12 h = cc

-- delete (a)
no_expression_13 : IsExpression (reserved k.Delete "delete" ∷ a k.LeftParenthesis ∷ w "a" ∷ a k.RightParenthesis ∷ [])
    (unary unaries.Delete (parenthesized (v "a")))
    → ⊥
no_expression_13 h = cc

-- delete a.b()
no_expression_14 : IsExpression
    (reserved k.Delete "delete" ∷ w "a" ∷ a k.Dot ∷ w "b" ∷ a k.LeftParenthesis ∷ a k.RightParenthesis ∷ [])
    (unary unaries.Delete (call (member (v "a") (codes "b")) (expressions [])))
    → ⊥
no_expression_14 h = cc

-- [a,,b]
no_expression_15 : IsExpression (a k.LeftBracket ∷ w "a" ∷ a k.Comma ∷ a k.Comma ∷ w "b" ∷ a k.RightBracket ∷ [])
    (array (expressions (v "a" ∷ v "b" ∷ [])))
    → ⊥
no_expression_15 h = cc

-- f(,)
no_expression_16 : IsExpression (w "f" ∷ a k.LeftParenthesis ∷ a k.Comma ∷ a k.RightParenthesis ∷ [])
    (call (v "f") (expressions []))
    → ⊥
no_expression_16 h = cc

-- a.1
no_expression_17 : IsExpression (w "a" ∷ a k.Dot ∷ d 1 ∷ []) (member (v "a") (codes "1")) → ⊥
no_expression_17 h = cc

-- ({if})
no_expression_18 : IsExpression
    (a k.LeftParenthesis ∷ a k.LeftBrace ∷ reserved k.If "if" ∷ a k.RightBrace ∷ a k.RightParenthesis ∷ [])
    (parenthesized (object (properties (shorthand (codes "if") ∷ []))))
    → ⊥
no_expression_18 h = cc

-- let
no_expression_19 : IsExpression (reserved k.Let "let" ∷ []) (v "let") → ⊥
no_expression_19 h = cc

-- a function expression or an arrow function, without parentheses around it
function_1 : IsFunction
    (reserved k.Function "function" ∷ a k.LeftParenthesis ∷ a k.RightParenthesis ∷ a k.LeftBrace ∷ a k.RightBrace ∷ [])
    (function None [] (statements []))
function_1 = record { form = refl; well = search rules; spelled = search rules }

function_2 : IsFunction (w "x" ∷ a k.Arrow ∷ d 1 ∷ []) (arrow (one_name (codes "x")) (number 1))
function_2 = record { form = refl; well = search rules; spelled = search rules }

no_function : IsFunction (a k.LeftParenthesis ∷ w "x" ∷ a k.Arrow ∷ d 1 ∷ a k.RightParenthesis ∷ [])
    (parenthesized (arrow (one_name (codes "x")) (number 1)))
    → ⊥
no_function h = cc

-- let b; where an earlier script declares a, and let a; there
script_after : IsScript (codes "a" ∷ []) (reserved k.Let "let" ∷ w "b" ∷ a k.Semicolon ∷ [])
    (statements (lexical false (declarators (declarator (codes "b") omitted ∷ [])) ∷ []))
script_after = record { well = search rules; spelled = search rules }

no_script_after : IsScript (codes "a" ∷ []) (reserved k.Let "let" ∷ w "a" ∷ a k.Semicolon ∷ [])
    (statements (lexical false (declarators (declarator (codes "a") omitted ∷ [])) ∷ []))
    → ⊥
no_script_after h = cc

-- ---- flat tokens

-- f(a, b);
flat_1 : flat_statement (expression (call (v "f") (expressions (v "a" ∷ v "b" ∷ []))))
    ≡ token (identifier (codes "f")) ∷ token (fixed k.LeftParenthesis) ∷ token (identifier (codes "a")) ∷ token
    (fixed k.Comma) ∷ token (identifier (codes "b")) ∷ trailing_comma ∷ token (fixed k.RightParenthesis)
    ∷ semicolon (after_expression plain) ∷ []
flat_1 = refl

-- return () => {};
flat_2 : flat_statement (return (present (arrow_block (name_list []) (statements []))))
    ≡ token (fixed k.Return) ∷ beside (fixed k.LeftParenthesis) ∷ token (fixed k.RightParenthesis) ∷ beside
    (fixed k.Arrow) ∷ token (fixed k.LeftBrace) ∷ token (fixed k.RightBrace) ∷ semicolon (after_expression braces)
    ∷ []
flat_2 = refl

-- do x++; while (1);
flat_3 : flat_statement (do_while (expression (postfix updates.Increment (v "x"))) (number 1))
    ≡ token (fixed k.Do) ∷ token (identifier (codes "x")) ∷ beside (fixed k.Increment) ∷ semicolon
    (after_expression update) ∷ token (fixed k.While) ∷ token (fixed k.LeftParenthesis) ∷ token (numeric_literal 1)
    ∷ token (fixed k.RightParenthesis) ∷ semicolon after_do ∷ []
flat_3 = refl

-- for (let x of y) break;
flat_4 : flat_statement (for_of false (codes "x") (v "y") break)
    ≡ token (fixed k.For) ∷ token (fixed k.LeftParenthesis) ∷ token (fixed k.Let) ∷ token (identifier (codes "x"))
    ∷ token (identifier (codes "of")) ∷ token (identifier (codes "y")) ∷ token (fixed k.RightParenthesis) ∷ token
    (fixed k.Break) ∷ semicolon after_word ∷ []
flat_4 = refl

-- ---- heights

-- 1;
height_1 : height_of_statement (expression (number 1)) ≡ 2
height_1 = refl

-- (1), 1 + 1 + 1 and a.b.c
height_2 : height (parenthesized (number 1)) ≡ 2
height_2 = refl

height_3 : height (binary binaries.Add (binary binaries.Add (number 1) (number 1)) (number 1)) ≡ 3
height_3 = refl

height_4 : height (member (member (v "a") (codes "b")) (codes "c")) ≡ 3
height_4 = refl

-- a, b, c
height_5 : height (comma (expressions (v "a" ∷ v "b" ∷ v "c" ∷ []))) ≡ 2
height_5 = refl

-- if (a) ; else if (b) ;
height_6 : height_of_statement (if_else (v "a") empty (if_then (v "b") empty)) ≡ 3
height_6 = refl

-- {a, b: c, d() {}}
height_7 : height
    (object (properties
    (shorthand (codes "a") ∷ value (word_key (codes "b")) (v "c") ∷ method (word_key (codes "d")) []
    (statements []) ∷ [])))
    ≡ 2
height_7 = refl

-- try { a } catch (e) {}
height_8 : height_of_statement
    (try (statements (expression (v "a") ∷ [])) (catch (Some (codes "e")) (statements [])) no_finally) ≡ 4
height_8 = refl

-- function f(a) { let b = 1; }
height_9 : height_of_statement
    (declared_function (codes "f") (codes "a" ∷ [])
    (statements (lexical false (declarators (declarator (codes "b") (present (number 1)) ∷ [])) ∷ [])))
    ≡ 3
height_9 = refl
