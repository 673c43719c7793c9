-- Why readers need levels to spare where they are to tell what is too deep: with one alone, names in parentheses are
-- answered to be too deep, though they begin an arrow function that is low enough.
use Rattle.std.proofs.Common.{◌≡◌, ℕ, ◌+◌, ◌<◌, ◌≤◌, false, List, [], ◌∷◌, ◌++◌, Ok, Err, refl, subst, arith}
use Rattle.js_lexer.specs.declared.token.TokenKind.TheVariants as k
use Rattle.js_tree.specs.Trees.{Identifier, name_list, Expression, arrow_block, no_statements}
use Rattle.js_parser_language.specs.Tokens.{Token}
use Rattle.js_tree.specs.Height.{height}
use Rattle.js_parser_language.specs.Language.{IsExpression}
use Rattle.js_parser_language.proofs.Sources.{a}
use Rattle.js_parser_readers.specs.Reading as r
use Rattle.js_parser_readers.specs.Productions as q
use Rattle.js_parser_readers.specs.Parsing as p
use Rattle.js_parser_laws.specs.Exact.{TooDeepFrom}
use Rattle.js_parser_laws.proofs.Soundness.{expression_read}

abbrev a_name : Identifier → Token
a_name s = record { kind = k.Name; string_value = s; numeric_value = 0; newline_before = false; start = 0; end = 0 }

-- ---- first tokens

-- this holds of all first tokens
abbrev AllFirst : List Token → (List Token → Type 0) → Type 0
AllFirst [] P = P []
AllFirst (t ∷ ts) P = P [] × AllFirst ts (λ b. P (t ∷ b))

at_first : (ts before left : List Token) (P : List Token → Type 0) → ts ≡ before ++ left → AllFirst ts P → P before
at_first [] [] left P e h = h
at_first [] (x ∷ b) left P e h = absurd cc
at_first (t ∷ ts) [] left P e h = h.0
at_first (t ∷ ts) (x ∷ b) left P e h =
    let heads : t ≡ x = cc in
    let tails : ts ≡ b ++ left = cc in
    subst (λ (x : Token). P (x ∷ b)) heads (at_first ts b left (λ b. P (t ∷ b)) tails h.1)

-- an expression that isn't deeper begins so
abbrev Shallow : ℕ → List Token → Type 0
Shallow n before = (rest : List Token) × (t : Expression) × IsExpression (before ++ rest) t × (height t ≤ n)

not_too_deep : (n : ℕ) (ts : List Token) → AllFirst ts (Shallow n) → TooDeepFrom IsExpression height ts n → ⊥
not_too_deep n ts h d =
    let s = at_first ts d.before d.left (Shallow n) d.parts h in
    let deeper : n < height s.1 = d.deeper s.0 s.1 s.2 in
    let low : height s.1 ≤ n = s.3 in
    omega (arith, deeper, low)

shallow : (n : ℕ) (before rest : List Token) (t : Expression)
    → p.parse_expression n (before ++ rest) ≡ Ok t
    → Shallow n before
shallow n before rest t e = let s = expression_read n (before ++ rest) t e in (rest, t, s.0, s.1)

-- ---- two names in parentheses

abbrev second : List Token
second = a_name (1 ∷ []) ∷ a k.RightParenthesis ∷ []

abbrev two_names : List Token
two_names = a k.LeftParenthesis ∷ a_name [] ∷ a k.Comma ∷ second

abbrev an_arrow : List Token
an_arrow = a k.Arrow ∷ a k.LeftBrace ∷ a k.RightBrace ∷ []

abbrev of_two : Expression
of_two = arrow_block (name_list ([] ∷ (1 ∷ []) ∷ [])) no_statements

-- (a, b) is too deep behind its comma,
names_deep : p.parse_expression 2 two_names ≡ Err (r.deep 2)
unfolding p.parse_expression p.below p.expression p.assignment p.joined p.arrow_of_list p.arrow_of_one p.arrow_rest
    p.operation p.chain p.unary p.postfix p.call p.links p.primary q.more_assignments q.names_before q.items_at q.braces
    r.expect r.expect_near r.name_at r.elements r.others r.items
names_deep = refl

-- (a, b) => {} is read.
arrow_read : p.parse_expression 1 (two_names ++ an_arrow) ≡ Ok of_two
unfolding p.parse_expression p.below p.expression p.assignment p.joined p.arrow_of_list p.arrow_of_one p.arrow_rest
    p.operation p.chain p.unary p.postfix p.call p.links p.primary q.more_assignments q.names_before q.items_at q.braces
    r.expect r.expect_near r.name_at r.elements r.others r.items
arrow_read = refl

-- All first tokens of it begin an arrow function, which is no deeper than 1.
pub names_not_too_deep : (p.parse_expression (1 + 1) two_names ≡ Err (r.deep 2))
    × (TooDeepFrom IsExpression height two_names 1 → ⊥)
names_not_too_deep = (
  names_deep,
  not_too_deep 1 two_names (
    shallow 1 [] (two_names ++ an_arrow) of_two arrow_read,
    (
      shallow 1 (a k.LeftParenthesis ∷ []) (a_name [] ∷ a k.Comma ∷ (second ++ an_arrow)) of_two arrow_read,
      (
        shallow 1 (a k.LeftParenthesis ∷ a_name [] ∷ []) (a k.Comma ∷ (second ++ an_arrow)) of_two arrow_read,
        (
          shallow 1 (a k.LeftParenthesis ∷ a_name [] ∷ a k.Comma ∷ []) (second ++ an_arrow) of_two arrow_read,
          (
            shallow 1 (a k.LeftParenthesis ∷ a_name [] ∷ a k.Comma ∷ a_name (1 ∷ []) ∷ [])
                (a k.RightParenthesis ∷ an_arrow) of_two arrow_read,
            shallow 1 two_names an_arrow of_two arrow_read,
          ),
        ),
      ),
    ),
  ),
)
