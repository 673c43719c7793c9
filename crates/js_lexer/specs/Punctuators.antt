-- Punctuators.
use Rattle.std.specs.Prelude.{ℕ, List, [], ◌∷◌}
use lib.Chars.{codes}
use Rattle.js_lexer.specs.declared.token.TokenKind.{TokenKind}
use Rattle.js_lexer.specs.declared.token.TokenKind.TheVariants.{UnsignedRightShiftAssign, StrictEqual, StrictNotEqual, UnsignedRightShift, LeftShiftAssign, RightShiftAssign, LessThanOrEqual, GreaterThanOrEqual, Equal, NotEqual, Increment, Decrement, LeftShift, RightShift, LogicalAnd, LogicalOr, AddAssign, SubtractAssign, MultiplyAssign, DivideAssign, RemainderAssign, BitwiseAndAssign, BitwiseOrAssign, BitwiseXorAssign, Arrow, LeftBrace, RightBrace, LeftParenthesis, RightParenthesis, LeftBracket, RightBracket, Dot, Semicolon, Comma, LessThan, GreaterThan, Plus, Minus, Multiply, Divide, Remainder, BitwiseAnd, BitwiseOr, BitwiseXor, LogicalNot, BitwiseNot, Question, Colon, Assign}

-- the punctuators (ECMA-262, 12.8), no longer one below a shorter one
unfoldable pub punctuators : List (TokenKind × List ℕ)
punctuators =
    (UnsignedRightShiftAssign, codes ">>>=") ∷
    (StrictEqual, codes "===") ∷
    (StrictNotEqual, codes "!==") ∷
    (UnsignedRightShift, codes ">>>") ∷
    (LeftShiftAssign, codes "<<=") ∷
    (RightShiftAssign, codes ">>=") ∷
    (LessThanOrEqual, codes "<=") ∷
    (GreaterThanOrEqual, codes ">=") ∷
    (Equal, codes "==") ∷
    (NotEqual, codes "!=") ∷
    (Increment, codes "++") ∷
    (Decrement, codes "--") ∷
    (LeftShift, codes "<<") ∷
    (RightShift, codes ">>") ∷
    (LogicalAnd, codes "&&") ∷
    (LogicalOr, codes "||") ∷
    (AddAssign, codes "+=") ∷
    (SubtractAssign, codes "-=") ∷
    (MultiplyAssign, codes "*=") ∷
    (DivideAssign, codes "/=") ∷
    (RemainderAssign, codes "%=") ∷
    (BitwiseAndAssign, codes "&=") ∷
    (BitwiseOrAssign, codes "|=") ∷
    (BitwiseXorAssign, codes "^=") ∷
    (Arrow, codes "=>") ∷
    (LeftBrace, codes "{") ∷
    (RightBrace, codes "}") ∷
    (LeftParenthesis, codes "(") ∷
    (RightParenthesis, codes ")") ∷
    (LeftBracket, codes "[") ∷
    (RightBracket, codes "]") ∷
    (Dot, codes ".") ∷
    (Semicolon, codes ";") ∷
    (Comma, codes ",") ∷
    (LessThan, codes "<") ∷
    (GreaterThan, codes ">") ∷
    (Plus, codes "+") ∷
    (Minus, codes "-") ∷
    (Multiply, codes "*") ∷
    (Divide, codes "/") ∷
    (Remainder, codes "%") ∷
    (BitwiseAnd, codes "&") ∷
    (BitwiseOr, codes "|") ∷
    (BitwiseXor, codes "^") ∷
    (LogicalNot, codes "!") ∷
    (BitwiseNot, codes "~") ∷
    (Question, codes "?") ∷
    (Colon, codes ":") ∷
    (Assign, codes "=") ∷
    []
