-- What is in the language is read: the laws of all that reads, by induction on the height that is allowed.
use Rattle.std.proofs.Common.{◌≡◌, ℕ, zero, suc, ◌≤◌, List, [], Ok, refl, arith}
use Rattle.std.specs.Prelude.{max}
use Rattle.js_tree.specs.Trees.{Identifier, Expression, Statement, Statements}
use Rattle.js_parser_language.specs.Tokens.{Token}
use Rattle.js_parser_language.specs.Flat.{edge}
use Rattle.js_parser_language.specs.Well.{top}
use Rattle.js_tree.specs.Height.{height, height_of_statement, height_of_statements}
use Rattle.js_parser_language.specs.Language.{IsScript, IsExpression, IsFunction}
use Rattle.js_parser_readers.specs.Parsing.{below, parse_script, parse_expression, parse_function}
use Rattle.js_parser_laws.proofs.Claims.{AgainBelow}
use Rattle.js_parser_laws.proofs.Again.Expression.{assignment_again, expression_again, operation_again, unary_again, call_again}
use Rattle.js_parser_laws.proofs.Again.Assignment.{function_code_again, stops_at_end}
use Rattle.js_parser_laws.proofs.Again.Part.{statements_again}
use Rattle.js_parser_laws.proofs.Again.Production.{seq_again}
use Rattle.js_tree.specs.Trees as trees
use Rattle.js_parser_laws.proofs.Again.Level.{height_positive}
use Rattle.js_parser_laws.proofs.Again.Part.{braces_again, code_again}
use Rattle.js_parser_laws.proofs.Again.Statement.{statement_again, item_again}

statement_positive : (s : Statement) → 1 ≤ height_of_statement s
statement_positive (trees.block ss) = omega arith
statement_positive (trees.lexical c ds) = omega arith
statement_positive trees.empty = omega arith
statement_positive (trees.expression e) = omega arith
statement_positive (trees.if_then e s) = omega arith
statement_positive (trees.if_else e s t) = omega arith
statement_positive (trees.do_while s e) = omega arith
statement_positive (trees.while e s) = omega arith
statement_positive (trees.for i t u s) = omega arith
statement_positive (trees.for_lexical c ds t u s) = omega arith
statement_positive (trees.for_of c n e s) = omega arith
statement_positive trees.continue = omega arith
statement_positive trees.break = omega arith
statement_positive (trees.return e) = omega arith
statement_positive (trees.throw e) = omega arith
statement_positive (trees.try ss h f) = omega arith
statement_positive trees.debugger = omega arith
statement_positive (trees.declared_function n ps body) = omega arith

pub again_below : (n : ℕ) → AgainBelow n (below n)
unfolding below
again_below zero = record {
  assignment = λ e w l h ts r m s. absurd (omega (arith, height_positive e));
  expression = λ e w h ts r m s c. absurd (omega (arith, height_positive e));
  operation = λ k e w l g h ts r m s. absurd (omega (arith, height_positive e));
  unary = λ e w l h ts r m s. absurd (omega (arith, height_positive e));
  call = λ e w l h ts r m s. absurd (omega (arith, height_positive e));
  statement = λ context s w i h ts r m f. absurd (omega (arith, statement_positive s));
  item = λ context taken s w f h ts r m g. absurd (omega (arith, statement_positive s));
  block = λ context taken ss w f h ts r m. absurd (omega arith);
  function = λ f d w h ts r m. absurd (omega arith);
}
again_below (suc n) =
    let a = again_below n in
    record {
      assignment = λ e w l h ts r m s. assignment_again seq_again n (below n) a e w l h ts r m s;
      expression = λ e w h ts r m s c. expression_again seq_again n (below n) a e w h ts r m s c;
      operation = λ k e w l g h ts r m s. operation_again seq_again n (below n) a k e w l g h ts r m s;
      unary = λ e w l h ts r m s. unary_again seq_again n (below n) a e w l h ts r m s;
      call = λ e w l h ts r m s. call_again seq_again n (below n) a e w l h ts r m s;
      statement = λ context s w i h ts r m f. statement_again n (below n) a context s w i h ts r m f;
      item = λ context taken s w f h ts r m g. item_again n (below n) a context taken s w f h ts r m g;
      block = λ context taken ss w f h ts r m. braces_again n (below n) a context taken ss w f (omega arith) ts r m;
      function = λ f d w h ts r m. code_again n (below n) a f d w (omega arith) ts r m;
    }

-- ---- whole sources

-- What is an expression is read, as itself.
pub expression_again_whole : (n : ℕ) (ts : List Token) (e : Expression)
    → IsExpression ts e
    → height e ≤ n
    → parse_expression n ts ≡ Ok e
unfolding parse_expression
expression_again_whole n ts e i h =
    rw ((again_below n).expression e i.well h ts [] i.spelled (stops_at_end (edge e)) refl) refl

pub function_again_whole : (n : ℕ) (ts : List Token) (e : Expression)
    → IsFunction ts e
    → height e ≤ n
    → parse_function n ts ≡ Ok e
unfolding parse_function
function_again_whole zero ts e i h = absurd (omega (arith, height_positive e))
function_again_whole (suc n) ts e i h =
    rw (function_code_again seq_again n (below n) (again_below n) e i.form i.well h ts i.spelled) refl

pub script_again_whole : (n : ℕ) (earlier : List Identifier) (ts : List Token) (body : Statements)
    → IsScript earlier ts body
    → height_of_statements body ≤ n
    → parse_script n earlier ts ≡ Ok body
unfolding parse_script
script_again_whole n earlier ts body i h =
    rw (statements_again n (below n) (again_below n) top earlier body i.well.1 i.well.0 h ts [] i.spelled refl) refl

-- ---- one tree

-- A source has at most one tree.
pub one_expression : (ts : List Token) (e f : Expression) → IsExpression ts e → IsExpression ts f → e ≡ f
one_expression ts e f i j =
    let n : ℕ = max (height e) (height f) in
    let p : parse_expression n ts ≡ Ok e = expression_again_whole n ts e i (omega arith) in
    let q : parse_expression n ts ≡ Ok f = expression_again_whole n ts f j (omega arith) in
    cc

pub one_function : (ts : List Token) (e f : Expression) → IsFunction ts e → IsFunction ts f → e ≡ f
one_function ts e f i j =
    let n : ℕ = max (height e) (height f) in
    let p : parse_function n ts ≡ Ok e = function_again_whole n ts e i (omega arith) in
    let q : parse_function n ts ≡ Ok f = function_again_whole n ts f j (omega arith) in
    cc

pub one_script : (earlier : List Identifier) (ts : List Token) (a b : Statements)
    → IsScript earlier ts a
    → IsScript earlier ts b
    → a ≡ b
one_script earlier ts a b i j =
    let n : ℕ = max (height_of_statements a) (height_of_statements b) in
    let p : parse_script n earlier ts ≡ Ok a = script_again_whole n earlier ts a i (omega arith) in
    let q : parse_script n earlier ts ≡ Ok b = script_again_whole n earlier ts b j (omega arith) in
    cc
