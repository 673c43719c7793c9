-- Words: names and reserved words.
use Rattle.std.specs.Prelude.{ℕ, Bool, false, ◌&&◌, List, [], ◌∷◌}
use Rattle.std.specs.List.{list_all}
use lib.Chars.{codes}
use Rattle.js_lexer.specs.declared.token.TokenKind.{TokenKind}
use Rattle.js_lexer.specs.declared.token.TokenKind.TheVariants.{Break, Case, Catch, Class, Const, Continue, Debugger, Default, Delete, Do, Else, Enum, Export, Extends, False, Finally, For, Function, If, Import, In, Instanceof, New, Null, Return, Super, Switch, This, Throw, True, Try, Typeof, Var, Void, While, With, Let, Static, Implements, Interface, Package, Private, Protected, Public, Yield, Await, Eval, Arguments}
use Rattle.js_lexer.specs.Classes.{is_word_start, is_word_part}

-- a word (ECMA-262, 12.7, IdentifierName, of ASCII and without escapes)
abbrev pub is_word : List ℕ → Bool
is_word [] = false
is_word (c ∷ cs) = is_word_start c && list_all is_word_part cs

-- the words that are no name (12.7.2, and those that strict code and modules reserve)
unfoldable pub reserved_words : List (TokenKind × List ℕ)
reserved_words =
    (Break, codes "break") ∷
    (Case, codes "case") ∷
    (Catch, codes "catch") ∷
    (Class, codes "class") ∷
    (Const, codes "const") ∷
    (Continue, codes "continue") ∷
    (Debugger, codes "debugger") ∷
    (Default, codes "default") ∷
    (Delete, codes "delete") ∷
    (Do, codes "do") ∷
    (Else, codes "else") ∷
    (Enum, codes "enum") ∷
    (Export, codes "export") ∷
    (Extends, codes "extends") ∷
    (False, codes "false") ∷
    (Finally, codes "finally") ∷
    (For, codes "for") ∷
    (Function, codes "function") ∷
    (If, codes "if") ∷
    (Import, codes "import") ∷
    (In, codes "in") ∷
    (Instanceof, codes "instanceof") ∷
    (New, codes "new") ∷
    (Null, codes "null") ∷
    (Return, codes "return") ∷
    (Super, codes "super") ∷
    (Switch, codes "switch") ∷
    (This, codes "this") ∷
    (Throw, codes "throw") ∷
    (True, codes "true") ∷
    (Try, codes "try") ∷
    (Typeof, codes "typeof") ∷
    (Var, codes "var") ∷
    (Void, codes "void") ∷
    (While, codes "while") ∷
    (With, codes "with") ∷
    (Let, codes "let") ∷
    (Static, codes "static") ∷
    (Implements, codes "implements") ∷
    (Interface, codes "interface") ∷
    (Package, codes "package") ∷
    (Private, codes "private") ∷
    (Protected, codes "protected") ∷
    (Public, codes "public") ∷
    (Yield, codes "yield") ∷
    (Await, codes "await") ∷
    (Eval, codes "eval") ∷
    (Arguments, codes "arguments") ∷
    []
