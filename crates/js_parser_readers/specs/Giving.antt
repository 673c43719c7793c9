-- What a function of the parser answers, beside what reading gives.
use Rattle.std.specs.Prelude.{◌≡◌, Result, Ok, Err}
use Rattle.js_parser_readers.specs.declared.fault.ParseError.{ParseError}
use Rattle.js_parser_readers.specs.declared.fault.ParseError.TheVariants as errors
use Rattle.js_parser_readers.specs.Reading.{Fault, stuck, deep}

-- the error of the code says this of what reading gives; out of memory it says nothing
abbrev pub Fails : {Y : Type 0} → ParseError → Result Y Fault → Type 0
Fails errors.Memory read = Unit {0}
Fails (errors.TooDeep left) read = read ≡ Err (deep left)
Fails (errors.Syntax left) read = read ≡ Err (stuck left)

-- what a function returned, seen by look, is what reading gives, unless memory ran out
abbrev pub Gives : {X Y : Type 0} → (X → Y) → Result X ParseError → Result Y Fault → Type 0
Gives look (Ok x) read = read ≡ Ok (look x)
Gives look (Err e) read = Fails e read
