-- What is written of the result of an evaluation, piece by piece.
use Rattle.std.specs.Prelude.{ℕ, List, ◌++◌, codes, decimal}

-- the result that has a value of this text
abbrev pub value_text : List ℕ → List ℕ
value_text described = codes "{\"result\":" ++ (described ++ codes "}")

-- what went wrong, where a value of this text was thrown; the number is that of the exception
abbrev pub uncaught_text : ℕ → List ℕ → List ℕ
uncaught_text id described =
    codes "{\"columnNumber\":0,\"exception\":" ++
    (described ++
    (codes ",\"exceptionId\":" ++ (decimal id ++ codes ",\"lineNumber\":0,\"text\":\"Uncaught\"}")))

-- the result of a throw, where the one text stands in both places
abbrev pub thrown_text : ℕ → List ℕ → List ℕ
thrown_text id described =
    codes "{\"exceptionDetails\":" ++
    (uncaught_text id described ++ (codes ",\"result\":" ++ (described ++ codes "}")))
