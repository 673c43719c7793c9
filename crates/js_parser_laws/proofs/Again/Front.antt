-- What expressions and statements begin with, and what may follow them.
use Rattle.std.proofs.Common.{◌≡◌, ◌<◌, Bool, true, false, cond, List, [], ◌∷◌, ◌++◌, length, Option, Some, None, refl, sym, ap, subst, ◌∙◌, ◌⊎◌, inl, inr, arith}
use Rattle.std.specs.Prelude.{◌&&◌, ◌||◌, not}
use Rattle.js_lexer.specs.declared.token.TokenKind.{TokenKind}
use Rattle.js_lexer.specs.declared.token.TokenKind.TheVariants as kinds
use Rattle.js_tree_operators.specs.declared.operator.UnaryOperator.{UnaryOperator}
use Rattle.js_tree_operators.specs.declared.operator.UnaryOperator.TheVariants as unaries
use Rattle.js_tree_operators.specs.declared.operator.UpdateOperator.{UpdateOperator}
use Rattle.js_tree_operators.specs.declared.operator.UpdateOperator.TheVariants as updates
use Rattle.js_tree.specs.Trees as trees
use Rattle.js_tree.specs.Trees.{Expression, Statement}
use Rattle.js_parser_language.specs.Tokens.{Token, Symbol, fixed, identifier, identifier_name, numeric_literal, string_literal, IsNext, ExpressionEnd, plain, braces, update, StatementEnd, after_expression, after_word, continues, absent, absent_before, FlatToken, token, semicolon, head_of, tail_of, is_on_line, Matches}
use Rattle.js_parser_language.specs.Flat.{edge, flat, flat_statement, unary_kind, update_kind}
use Rattle.js_parser_language.specs.Well.{StatementContext, Well, WellStatement, begins_with_brace, begins_with_function}
use Rattle.js_parser_language.specs.Kinds.{is_kind, is_same_kind}
use Rattle.js_parser_readers.specs.Reading.{ends_list}
use Rattle.js_parser_readers.specs.Classes.{link_by, no_link, update_by, operator_by, joint_by, no_joint, an_expression, first, first_by, ends_return}
use Rattle.js_parser_language.proofs.KindLemmas.{kind_is, kind_not, next_again}
use Rattle.js_parser_laws.proofs.Claims.{Stops, NoComma, follows_by, follows_statement, closes}
use Rattle.js_parser_laws.proofs.Again.List.{matches_shorter}
use Rattle.js_parser_readers.proofs.PlacedTokenLemmas.{next_shorter}

-- ---- the first token of an expression

-- a kind of token that begins an expression
abbrev pub opens : TokenKind → Bool
opens kinds.Name = true
opens kinds.Number = true
opens kinds.String = true
opens kinds.This = true
opens kinds.True = true
opens kinds.False = true
opens kinds.Null = true
opens kinds.Function = true
opens kinds.LeftBracket = true
opens kinds.LeftBrace = true
opens kinds.LeftParenthesis = true
opens kinds.Delete = true
opens kinds.Void = true
opens kinds.Typeof = true
opens kinds.Plus = true
opens kinds.Minus = true
opens kinds.BitwiseNot = true
opens kinds.LogicalNot = true
opens kinds.Increment = true
opens kinds.Decrement = true
opens _ = false

-- a symbol whose tokens are of such a kind
abbrev pub opens_symbol : Symbol → Bool
opens_symbol (fixed k) = opens k
opens_symbol (identifier_name n) = false
opens_symbol _ = true

unary_opens : (o : UnaryOperator) → opens (unary_kind o) ≡ true
unary_opens unaries.Delete = refl
unary_opens unaries.Void = refl
unary_opens unaries.Typeof = refl
unary_opens unaries.Plus = refl
unary_opens unaries.Minus = refl
unary_opens unaries.BitwiseNot = refl
unary_opens unaries.LogicalNot = refl

update_opens : (o : UpdateOperator) → opens (update_kind o) ≡ true
update_opens updates.Increment = refl
update_opens updates.Decrement = refl

-- these marks begin with a token that begins an expression
pub record Front (ms : List FlatToken) : Type 0 where
  pub symbol : Symbol
  pub left : List FlatToken
  pub begins : opens_symbol symbol ≡ true
  pub marks : ms ≡ token symbol ∷ left

-- so do these with others behind them
pub front_of_more : (ms ns : List FlatToken) → Front ms → Front (ms ++ ns)
front_of_more ms ns f =
    record {
      symbol = f.symbol;
      left = f.left ++ ns;
      begins = f.begins;
      marks = ap (λ (l : List FlatToken). l ++ ns)
          f.marks;
    }

front_is : (s : Symbol) (ms : List FlatToken) → opens_symbol s ≡ true → Front (token s ∷ ms)
front_is s ms b = record { symbol = s; left = ms; begins = b; marks = refl }

pub expression_front : (e : Expression) → Well e → Front (flat e)
expression_front trees.this w = front_is (fixed kinds.This) _ refl
expression_front (trees.name n) w = front_is (identifier n) _ refl
expression_front (trees.number v) w = front_is (numeric_literal v) _ refl
expression_front (trees.string v) w = front_is (string_literal v) _ refl
expression_front (trees.boolean true) w = front_is (fixed kinds.True) _ refl
expression_front (trees.boolean false) w = front_is (fixed kinds.False) _ refl
expression_front trees.null w = front_is (fixed kinds.Null) _ refl
expression_front (trees.array es) w = front_is (fixed kinds.LeftBracket) _ refl
expression_front (trees.object ps) w = front_is (fixed kinds.LeftBrace) _ refl
expression_front (trees.function n ps body) w = front_is (fixed kinds.Function) _ refl
expression_front (trees.arrow (trees.one_name n) e) w = front_is (identifier n) _ refl
expression_front (trees.arrow (trees.name_list ns) e) w = front_is (fixed kinds.LeftParenthesis) _ refl
expression_front (trees.arrow_block (trees.one_name n) body) w = front_is (identifier n) _ refl
expression_front (trees.arrow_block (trees.name_list ns) body) w = front_is (fixed kinds.LeftParenthesis) _ refl
expression_front (trees.parenthesized e) w = front_is (fixed kinds.LeftParenthesis) _ refl
expression_front (trees.member e n) w = front_of_more (flat e) _ (expression_front e w.0)
expression_front (trees.index e k) w = front_of_more (flat e) _ (expression_front e w.0)
expression_front (trees.call f es) w = front_of_more (flat f) _ (expression_front f w.0)
expression_front (trees.postfix o e) w = front_of_more (flat e) _ (expression_front e w.0)
expression_front (trees.prefix o e) w = front_is (fixed (update_kind o)) _ (update_opens o)
expression_front (trees.unary o e) w = front_is (fixed (unary_kind o)) _ (unary_opens o)
expression_front (trees.binary o l r) w = front_of_more (flat l) _ (expression_front l w.0)
expression_front (trees.conditional t c e) w = front_of_more (flat t) _ (expression_front t w.0)
expression_front (trees.assign o t v) w = front_of_more (flat t) _ (expression_front t w.0)
expression_front (trees.comma trees.no_expressions) w = absurd cc
expression_front (trees.comma (trees.an_expression e es)) w = front_of_more (flat e) _ (expression_front e w.1.0)

-- the next token begins an expression
abbrev pub opens_next : Option Token → Bool
opens_next None = false
opens_next (Some t) = opens t.kind

symbol_opens : (s : Symbol) (o : Option Token) → opens_symbol s ≡ true → IsNext s o → opens_next o ≡ true
symbol_opens s None b m = absurd m
symbol_opens (fixed k) (Some t) b m = ap opens m ∙ b
symbol_opens (identifier n) (Some t) b m = ap opens m.0
symbol_opens (identifier_name n) (Some t) b m = absurd cc
symbol_opens (numeric_literal n) (Some t) b m = ap opens m.0
symbol_opens (string_literal n) (Some t) b m = ap opens m.0

-- the first token of marks that begin so
pub front_next : (ms : List FlatToken)
    → (f : Front ms)
    → (ts r : List Token)
    → Matches ms ts r
    → IsNext f.symbol (head_of ts)
front_next ms f ts r m =
    let n : Matches (token f.symbol ∷ f.left) ts r = subst (λ (l : List FlatToken). Matches l ts r) f.marks m in
    n.0

pub front_opens : (ms : List FlatToken) → Front ms → (ts r : List Token) → Matches ms ts r → opens_next (head_of ts) ≡ true
front_opens ms f ts r m = symbol_opens f.symbol (head_of ts) f.begins (front_next ms f ts r m)

pub expression_opens : (e : Expression)
    → Well e
    → (ts r : List Token)
    → Matches (flat e) ts r
    → opens_next (head_of ts) ≡ true
expression_opens e w ts r m = front_opens (flat e) (expression_front e w) ts r m

-- ---- what begins an expression is no token of these

pub opens_not : (k : TokenKind) (o : Option Token) → opens_next o ≡ true → opens k ≡ false → is_kind k o ≡ false
opens_not k None b c = refl
opens_not k (Some t) b c = by_test (is_kind k (Some t)) refl
  where
    by_test : (x : Bool) → is_kind k (Some t) ≡ x → x ≡ false
    by_test true e = let same : opens k ≡ true = ap opens (sym (kind_is k t e)) ∙ b in absurd cc
    by_test false e = refl

pub closes_opens : (k : TokenKind) → closes k ≡ true → opens k ≡ false
closes_opens kinds.RightParenthesis c = refl
closes_opens kinds.RightBracket c = refl
closes_opens kinds.RightBrace c = refl
closes_opens kinds.Semicolon c = refl
closes_opens kinds.Colon c = refl
closes_opens _ c = absurd cc

-- an expression that begins with neither a brace nor function begins an expression statement
pub opens_first : (o : Option Token)
    → opens_next o ≡ true
    → is_kind kinds.LeftBrace o ≡ false
    → is_kind kinds.Function o ≡ false
    → first o ≡ an_expression
opens_first None b c d = refl
opens_first (Some t) b c d = by_kind t.kind b c d
  where
    by_kind : (k : TokenKind)
        → opens k ≡ true
        → is_same_kind k kinds.LeftBrace ≡ false
        → is_same_kind k kinds.Function ≡ false
        → first_by k ≡ an_expression
    by_kind kinds.Name b c d = refl
    by_kind kinds.Number b c d = refl
    by_kind kinds.String b c d = refl
    by_kind kinds.This b c d = refl
    by_kind kinds.True b c d = refl
    by_kind kinds.False b c d = refl
    by_kind kinds.Null b c d = refl
    by_kind kinds.Function b c d = absurd cc
    by_kind kinds.LeftBracket b c d = refl
    by_kind kinds.LeftBrace b c d = absurd cc
    by_kind kinds.LeftParenthesis b c d = refl
    by_kind kinds.Delete b c d = refl
    by_kind kinds.Void b c d = refl
    by_kind kinds.Typeof b c d = refl
    by_kind kinds.Plus b c d = refl
    by_kind kinds.Minus b c d = refl
    by_kind kinds.BitwiseNot b c d = refl
    by_kind kinds.LogicalNot b c d = refl
    by_kind kinds.Increment b c d = refl
    by_kind kinds.Decrement b c d = refl
    by_kind _ b c d = absurd cc

-- a symbol whose token is of a kind that is no name's or literal's is that kind
symbol_of_kind : (k : TokenKind) (s : Symbol) (o : Option Token)
    → opens_symbol s ≡ true
    → is_same_kind kinds.Name k ≡ false
    → is_same_kind kinds.Number k ≡ false
    → is_same_kind kinds.String k ≡ false
    → IsNext s o → is_kind k o ≡ true → s ≡ fixed k
symbol_of_kind k s None b x y z m e = absurd m
symbol_of_kind k (fixed j) (Some t) b x y z m e = ap (λ (i : TokenKind). fixed i) (sym m ∙ kind_is k t e)
symbol_of_kind k (identifier n) (Some t) b x y z m e =
    let same : is_same_kind t.kind k ≡ false = ap (λ (i : TokenKind). is_same_kind i k) m.0 ∙ x in absurd cc
symbol_of_kind k (identifier_name n) (Some t) b x y z m e = absurd cc
symbol_of_kind k (numeric_literal n) (Some t) b x y z m e =
    let same : is_same_kind t.kind k ≡ false = ap (λ (i : TokenKind). is_same_kind i k) m.0 ∙ y in absurd cc
symbol_of_kind k (string_literal n) (Some t) b x y z m e =
    let same : is_same_kind t.kind k ≡ false = ap (λ (i : TokenKind). is_same_kind i k) m.0 ∙ z in absurd cc

pub front_no_brace : (ms : List FlatToken)
    → Front ms
    → begins_with_brace ms ≡ false
    → (ts r : List Token)
    → Matches ms ts r
    → is_kind kinds.LeftBrace (head_of ts) ≡ false
front_no_brace ms f n ts r m = by_test (is_kind kinds.LeftBrace (head_of ts)) refl
  where
    by_test : (x : Bool) → is_kind kinds.LeftBrace (head_of ts) ≡ x → x ≡ false
    by_test true e =
        let s : f.symbol ≡ fixed kinds.LeftBrace = symbol_of_kind kinds.LeftBrace f.symbol (head_of ts)
        f.begins refl refl refl (front_next ms f ts r m) e in
        let same : begins_with_brace ms ≡ true = ap begins_with_brace
        (f.marks ∙ ap (λ (s : Symbol). token s ∷ f.left) s) in
        absurd cc
    by_test false e = refl

pub front_no_function : (ms : List FlatToken)
    → Front ms
    → begins_with_function ms ≡ false
    → (ts r : List Token)
    → Matches ms ts r
    → is_kind kinds.Function (head_of ts) ≡ false
front_no_function ms f n ts r m = by_test (is_kind kinds.Function (head_of ts)) refl
  where
    by_test : (x : Bool) → is_kind kinds.Function (head_of ts) ≡ x → x ≡ false
    by_test true e =
        let s : f.symbol ≡ fixed kinds.Function = symbol_of_kind kinds.Function f.symbol (head_of ts)
        f.begins refl refl refl (front_next ms f ts r m) e in
        let same : begins_with_function ms ≡ true = ap begins_with_function
        (f.marks ∙ ap (λ (s : Symbol). token s ∷ f.left) s) in
        absurd cc
    by_test false e = refl

-- on its line, it is no end of a return
pub opens_no_return : (o : Option Token) → opens_next o ≡ true → is_on_line o ≡ true → ends_return o ≡ false
opens_no_return None b l = absurd cc
opens_no_return (Some t) b l = by_kind t.kind t.newline_before b l
  where
    by_kind : (k : TokenKind) (line : Bool)
        → opens k ≡ true
        → not line ≡ true
        → (is_same_kind k kinds.Semicolon || absent_before after_word k line) ≡ false
    by_kind k true b l = absurd cc
    by_kind kinds.Semicolon false b l = absurd cc
    by_kind kinds.RightBrace false b l = absurd cc
    by_kind _ false b l = refl

-- ---- where an expression ends

-- nothing goes on with an expression, however it ends
pub stops_all : (r : List Token) → Stops plain r → (g : ExpressionEnd) → Stops g r
stops_all r s plain = s
stops_all r s braces = tt
stops_all r s update = (s.2, s.3)

-- a token that goes on with no expression, or a comma
abbrev pub stops_by : TokenKind → Bool
stops_by kinds.Comma = true
stops_by k = closes k

kind_stops : (k : TokenKind)
    → stops_by k ≡ true
    → (link_by k ≡ no_link)
    × (update_by k ≡ None)
    × (operator_by k ≡ None)
    × (joint_by k ≡ no_joint)
    × (is_same_kind k kinds.Arrow ≡ false)
kind_stops kinds.Comma s = (refl, refl, refl, refl, refl)
kind_stops kinds.RightParenthesis s = (refl, refl, refl, refl, refl)
kind_stops kinds.RightBracket s = (refl, refl, refl, refl, refl)
kind_stops kinds.RightBrace s = (refl, refl, refl, refl, refl)
kind_stops kinds.Semicolon s = (refl, refl, refl, refl, refl)
kind_stops kinds.Colon s = (refl, refl, refl, refl, refl)
kind_stops _ s = absurd cc

line_update : (line : Bool) (k : TokenKind) → update_by k ≡ None → cond line None (update_by k) ≡ None
line_update true k u = refl
line_update false k u = u

and_false : (a b : Bool) → b ≡ false → (a && b) ≡ false
and_false true b e = e
and_false false b e = refl

token_stops : (t : Token) (r : List Token) → stops_by t.kind ≡ true → Stops plain (t ∷ r)
token_stops t r s =
    let k = kind_stops t.kind s in (
      k.0,
      line_update t.newline_before t.kind k.1,
      k.2,
      k.3,
      and_false (is_on_line (Some t)) (is_same_kind t.kind kinds.Arrow) k.4,
    )

pub next_stops : (k : TokenKind)
    → stops_by k ≡ true
    → (r : List Token)
    → is_kind k (head_of r) ≡ true
    → (g : ExpressionEnd)
    → Stops g r
next_stops k s [] e g = absurd cc
next_stops k s (t ∷ r) e g = stops_all (t ∷ r) (token_stops t r (ap stops_by (kind_is k t e) ∙ s)) g

closes_stops_by : (k : TokenKind) → closes k ≡ true → (stops_by k ≡ true) × (is_same_kind k kinds.Comma ≡ false)
closes_stops_by kinds.RightParenthesis c = (refl, refl)
closes_stops_by kinds.RightBracket c = (refl, refl)
closes_stops_by kinds.RightBrace c = (refl, refl)
closes_stops_by kinds.Semicolon c = (refl, refl)
closes_stops_by kinds.Colon c = (refl, refl)
closes_stops_by _ c = absurd cc

-- an expression ends before a token that closes
pub closes_stops : (k : TokenKind)
    → closes k ≡ true
    → (r : List Token)
    → is_kind k (head_of r) ≡ true
    → (g : ExpressionEnd)
    → Stops g r × NoComma r
closes_stops k c r e g =
    let s = closes_stops_by k c in
    (next_stops k s.0 r e g, kind_not k kinds.Comma (head_of r) e s.1)

pub comma_closes : (k : TokenKind) → closes k ≡ true → is_same_kind kinds.Comma k ≡ false
comma_closes kinds.RightParenthesis c = refl
comma_closes kinds.RightBracket c = refl
comma_closes kinds.RightBrace c = refl
comma_closes kinds.Semicolon c = refl
comma_closes kinds.Colon c = refl
comma_closes _ c = absurd cc

-- an expression ends before a comma
pub comma_stops : (r : List Token) → is_kind kinds.Comma (head_of r) ≡ true → (g : ExpressionEnd) → Stops g r
comma_stops r e g = next_stops kinds.Comma refl r e g

-- ---- where an expression ends with its statement

-- Whether what may follow a statement goes on with an expression, at a new line.
not_and : (a b : Bool) → (a && not b) ≡ true → (a ≡ true) × (b ≡ false)
not_and true true e = absurd cc
not_and true false e = (refl, refl)
not_and false b e = absurd cc

goes_on_by : (g : ExpressionEnd) (k : TokenKind) (line : Bool)
    → follows_by k ≡ true
    → absent_before (after_expression g) k line ≡ true
    → (k ≡ kinds.RightBrace) ⊎ ((line ≡ true) × (continues g k ≡ false))
goes_on_by g kinds.Semicolon line f a = absurd cc
goes_on_by g kinds.RightBrace line f a = inl refl
goes_on_by g _ line f a = inr (not_and line _ a)

no_joint_by : (k : TokenKind) → follows_by k ≡ true → joint_by k ≡ no_joint
no_joint_by kinds.Question f = absurd cc
no_joint_by kinds.Assign f = absurd cc
no_joint_by kinds.AddAssign f = absurd cc
no_joint_by kinds.SubtractAssign f = absurd cc
no_joint_by kinds.MultiplyAssign f = absurd cc
no_joint_by kinds.DivideAssign f = absurd cc
no_joint_by kinds.RemainderAssign f = absurd cc
no_joint_by kinds.LeftShiftAssign f = absurd cc
no_joint_by kinds.RightShiftAssign f = absurd cc
no_joint_by kinds.UnsignedRightShiftAssign f = absurd cc
no_joint_by kinds.BitwiseAndAssign f = absurd cc
no_joint_by kinds.BitwiseOrAssign f = absurd cc
no_joint_by kinds.BitwiseXorAssign f = absurd cc
no_joint_by _ f = refl

no_link_by : (k : TokenKind) → follows_by k ≡ true → continues plain k ≡ false → link_by k ≡ no_link
no_link_by kinds.Dot f c = absurd cc
no_link_by kinds.LeftBracket f c = absurd cc
no_link_by kinds.LeftParenthesis f c = absurd cc
no_link_by _ f c = refl

no_operator_by : (k : TokenKind) → follows_by k ≡ true → continues update k ≡ false → operator_by k ≡ None
no_operator_by kinds.Plus f c = absurd cc
no_operator_by kinds.Minus f c = absurd cc
no_operator_by kinds.LogicalOr f c = absurd cc
no_operator_by kinds.LogicalAnd f c = absurd cc
no_operator_by kinds.BitwiseOr f c = absurd cc
no_operator_by kinds.BitwiseXor f c = absurd cc
no_operator_by kinds.BitwiseAnd f c = absurd cc
no_operator_by kinds.Equal f c = absurd cc
no_operator_by kinds.NotEqual f c = absurd cc
no_operator_by kinds.StrictEqual f c = absurd cc
no_operator_by kinds.StrictNotEqual f c = absurd cc
no_operator_by kinds.LessThan f c = absurd cc
no_operator_by kinds.GreaterThan f c = absurd cc
no_operator_by kinds.LessThanOrEqual f c = absurd cc
no_operator_by kinds.GreaterThanOrEqual f c = absurd cc
no_operator_by kinds.LeftShift f c = absurd cc
no_operator_by kinds.RightShift f c = absurd cc
no_operator_by kinds.UnsignedRightShift f c = absurd cc
no_operator_by kinds.Multiply f c = absurd cc
no_operator_by kinds.Divide f c = absurd cc
no_operator_by kinds.Remainder f c = absurd cc
no_operator_by _ f c = refl

plain_update : (k : TokenKind) → continues plain k ≡ false → continues update k ≡ false
plain_update kinds.Plus c = absurd cc
plain_update kinds.Minus c = absurd cc
plain_update _ c = refl

no_arrow_by : (k : TokenKind) → follows_by k ≡ true → is_same_kind k kinds.Arrow ≡ false
no_arrow_by kinds.Arrow f = absurd cc
no_arrow_by _ f = refl

no_comma_by : (k : TokenKind) → follows_by k ≡ true → is_same_kind k kinds.Comma ≡ false
no_comma_by kinds.Comma f = absurd cc
no_comma_by _ f = refl

no_assign_by : (k : TokenKind) → follows_by k ≡ true → is_same_kind k kinds.Assign ≡ false
no_assign_by kinds.Assign f = absurd cc
no_assign_by _ f = refl

no_finally_by : (k : TokenKind) → follows_by k ≡ true → is_same_kind k kinds.Finally ≡ false
no_finally_by kinds.Finally f = absurd cc
no_finally_by _ f = refl

pub follows_no_finally : (r : List Token)
    → follows_statement (head_of r) ≡ true
    → is_kind kinds.Finally (head_of r) ≡ false
follows_no_finally [] f = refl
follows_no_finally (t ∷ r) f = no_finally_by t.kind f

pub follows_no_comma : (r : List Token) → follows_statement (head_of r) ≡ true → NoComma r
follows_no_comma [] f = refl
follows_no_comma (t ∷ r) f = no_comma_by t.kind f

pub follows_no_assign : (r : List Token)
    → follows_statement (head_of r) ≡ true
    → is_kind kinds.Assign (head_of r) ≡ false
follows_no_assign [] f = refl
follows_no_assign (t ∷ r) f = no_assign_by t.kind f

-- where its semicolon is absent, and what follows may follow a statement, an expression ends
pub absent_stops : (g : ExpressionEnd) (r : List Token)
    → follows_statement (head_of r) ≡ true
    → absent (after_expression g) (head_of r) ≡ true
    → Stops g r
absent_stops plain [] f a = (refl, refl, refl, refl, refl)
absent_stops braces [] f a = tt
absent_stops update [] f a = (refl, refl)
absent_stops g (t ∷ r) f a = elim (goes_on_by g t.kind t.newline_before f a) [
  | inl k ↦ stops_all (t ∷ r) (token_stops t r (ap stops_by k)) g
  | inr p ↦ by_edge g p.0 p.1
]
  where
    by_edge : (g : ExpressionEnd) → t.newline_before ≡ true → continues g t.kind ≡ false → Stops g (t ∷ r)
    by_edge plain l c = (
      no_link_by t.kind f c,
      rw l refl,
      no_operator_by t.kind f (plain_update t.kind c),
      no_joint_by t.kind f,
      and_false (is_on_line (Some t)) (is_same_kind t.kind kinds.Arrow) (no_arrow_by t.kind f),
    )
    by_edge braces l c = tt
    by_edge update l c = (no_operator_by t.kind f c, no_joint_by t.kind f)

-- an expression ends before the semicolon of its statement, also where that is absent
pub semicolon_stops : (g : ExpressionEnd) (ts r : List Token)
    → follows_statement (head_of r) ≡ true
    → Matches (semicolon (after_expression g) ∷ []) ts r
    → Stops g ts × NoComma ts
semicolon_stops g ts r f (inl m) = closes_stops kinds.Semicolon refl ts (next_again kinds.Semicolon (head_of ts) m.0) g
semicolon_stops g ts r f (inr m) =
    let here : follows_statement (head_of ts) ≡ true = subst (λ (l : List Token). follows_statement (head_of l) ≡ true)
    (sym m.1) f in
    (absent_stops g ts here m.0, follows_no_comma ts here)

-- a declared name ends before the semicolon of its statement, also where that is absent
pub word_stops : (end : StatementEnd) (ts r : List Token)
    → follows_statement (head_of r) ≡ true
    → Matches (semicolon end ∷ []) ts r
    → (is_kind kinds.Assign (head_of ts) ≡ false) × NoComma ts
word_stops end ts r f (inl m) =
    let s : is_kind kinds.Semicolon (head_of ts) ≡ true = next_again kinds.Semicolon (head_of ts) m.0 in (
      kind_not kinds.Semicolon kinds.Assign (head_of ts) s refl,
      kind_not kinds.Semicolon kinds.Comma (head_of ts) s refl,
    )
word_stops end ts r f (inr m) =
    let here : follows_statement (head_of ts) ≡ true = subst (λ (l : List Token). follows_statement (head_of l) ≡ true)
    (sym m.1) f in
    (follows_no_assign ts here, follows_no_comma ts here)

-- ---- the first token of a statement

-- a kind of token that begins a statement or a declaration
abbrev pub starts : TokenKind → Bool
starts kinds.Let = true
starts kinds.Const = true
starts kinds.Semicolon = true
starts kinds.If = true
starts kinds.Do = true
starts kinds.While = true
starts kinds.For = true
starts kinds.Continue = true
starts kinds.Break = true
starts kinds.Return = true
starts kinds.Throw = true
starts kinds.Try = true
starts kinds.Debugger = true
starts k = opens k

abbrev pub starts_next : Option Token → Bool
starts_next None = false
starts_next (Some t) = starts t.kind

opens_starts : (o : Option Token) → opens_next o ≡ true → starts_next o ≡ true
opens_starts None b = absurd cc
opens_starts (Some t) b = by_kind t.kind b
  where
    by_kind : (k : TokenKind) → opens k ≡ true → starts k ≡ true
    by_kind kinds.Let b = refl
    by_kind kinds.Const b = refl
    by_kind kinds.Semicolon b = refl
    by_kind kinds.If b = refl
    by_kind kinds.Do b = refl
    by_kind kinds.While b = refl
    by_kind kinds.For b = refl
    by_kind kinds.Continue b = refl
    by_kind kinds.Break b = refl
    by_kind kinds.Return b = refl
    by_kind kinds.Throw b = refl
    by_kind kinds.Try b = refl
    by_kind kinds.Debugger b = refl
    by_kind _ b = b

kind_starts : (k : TokenKind) (o : Option Token) → starts k ≡ true → IsNext (fixed k) o → starts_next o ≡ true
kind_starts k None s m = absurd m
kind_starts k (Some t) s m = ap starts m ∙ s

starts_follows_by : (k : TokenKind) → starts k ≡ true → follows_by k ≡ true
starts_follows_by kinds.Finally s = absurd cc
starts_follows_by kinds.Dot s = absurd cc
starts_follows_by kinds.Comma s = absurd cc
starts_follows_by kinds.RightParenthesis s = absurd cc
starts_follows_by kinds.RightBracket s = absurd cc
starts_follows_by kinds.Colon s = absurd cc
starts_follows_by kinds.Question s = absurd cc
starts_follows_by kinds.LogicalOr s = absurd cc
starts_follows_by kinds.LogicalAnd s = absurd cc
starts_follows_by kinds.BitwiseOr s = absurd cc
starts_follows_by kinds.BitwiseXor s = absurd cc
starts_follows_by kinds.BitwiseAnd s = absurd cc
starts_follows_by kinds.Equal s = absurd cc
starts_follows_by kinds.NotEqual s = absurd cc
starts_follows_by kinds.StrictEqual s = absurd cc
starts_follows_by kinds.StrictNotEqual s = absurd cc
starts_follows_by kinds.LessThan s = absurd cc
starts_follows_by kinds.GreaterThan s = absurd cc
starts_follows_by kinds.LessThanOrEqual s = absurd cc
starts_follows_by kinds.GreaterThanOrEqual s = absurd cc
starts_follows_by kinds.LeftShift s = absurd cc
starts_follows_by kinds.RightShift s = absurd cc
starts_follows_by kinds.UnsignedRightShift s = absurd cc
starts_follows_by kinds.Multiply s = absurd cc
starts_follows_by kinds.Divide s = absurd cc
starts_follows_by kinds.Remainder s = absurd cc
starts_follows_by kinds.Assign s = absurd cc
starts_follows_by kinds.AddAssign s = absurd cc
starts_follows_by kinds.SubtractAssign s = absurd cc
starts_follows_by kinds.MultiplyAssign s = absurd cc
starts_follows_by kinds.DivideAssign s = absurd cc
starts_follows_by kinds.RemainderAssign s = absurd cc
starts_follows_by kinds.LeftShiftAssign s = absurd cc
starts_follows_by kinds.RightShiftAssign s = absurd cc
starts_follows_by kinds.UnsignedRightShiftAssign s = absurd cc
starts_follows_by kinds.BitwiseAndAssign s = absurd cc
starts_follows_by kinds.BitwiseOrAssign s = absurd cc
starts_follows_by kinds.BitwiseXorAssign s = absurd cc
starts_follows_by kinds.Arrow s = absurd cc
starts_follows_by _ s = refl

starts_no_end_by : (k : TokenKind) → starts k ≡ true → is_same_kind k kinds.RightBrace ≡ false
starts_no_end_by kinds.RightBrace s = absurd cc
starts_no_end_by _ s = refl

starts_no_else_by : (k : TokenKind) → starts k ≡ true → is_same_kind k kinds.Else ≡ false
starts_no_else_by kinds.Else s = absurd cc
starts_no_else_by _ s = refl

-- what begins a statement may follow one, ends no list and is no else
pub starts_follows : (o : Option Token)
    → starts_next o ≡ true
    → (follows_statement o ≡ true) × (ends_list o ≡ false) × (is_kind kinds.Else o ≡ false)
starts_follows None s = absurd cc
starts_follows (Some t) s = (starts_follows_by t.kind s, starts_no_end_by t.kind s, starts_no_else_by t.kind s)

ends_follows_by : (k : TokenKind)
    → is_same_kind k kinds.RightBrace ≡ true
    → (follows_by k ≡ true) × (is_same_kind k kinds.Else ≡ false)
ends_follows_by kinds.RightBrace e = (refl, refl)
ends_follows_by _ e = absurd cc

-- what ends a list may follow a statement, and is no else
pub ends_follows : (o : Option Token)
    → ends_list o ≡ true
    → (follows_statement o ≡ true) × (is_kind kinds.Else o ≡ false)
ends_follows None e = (refl, refl)
ends_follows (Some t) e = ends_follows_by t.kind e

-- these marks begin with a token that begins a statement
pub record StatementFront (ms : List FlatToken) : Type 0 where
  pub symbol : Symbol
  pub left : List FlatToken
  pub begins : (o : Option Token) → IsNext symbol o → starts_next o ≡ true
  pub marks : ms ≡ token symbol ∷ left

starts_with : (k : TokenKind) (ms : List FlatToken) → starts k ≡ true → StatementFront (token (fixed k) ∷ ms)
starts_with k ms s = record { symbol = fixed k; left = ms; begins = λ o n. kind_starts k o s n; marks = refl }

starts_so : (ms : List FlatToken) → Front ms → StatementFront ms
starts_so ms f =
    record {
      symbol = f.symbol;
      left = f.left;
      begins = λ o n. opens_starts o
          (symbol_opens f.symbol o f.begins n);
      marks = f.marks;
    }

statement_front : (c : StatementContext) (s : Statement) → WellStatement c s → StatementFront (flat_statement s)
statement_front c (trees.block ss) w = starts_with kinds.LeftBrace _ refl
statement_front c (trees.lexical true ds) w = starts_with kinds.Const _ refl
statement_front c (trees.lexical false ds) w = starts_with kinds.Let _ refl
statement_front c trees.empty w = starts_with kinds.Semicolon _ refl
statement_front c (trees.expression e) w =
    starts_so (flat_statement (trees.expression e))
    (front_of_more (flat e) (semicolon (after_expression (edge e)) ∷ []) (expression_front e w.0))
statement_front c (trees.if_then e s) w = starts_with kinds.If _ refl
statement_front c (trees.if_else e s t) w = starts_with kinds.If _ refl
statement_front c (trees.do_while s e) w = starts_with kinds.Do _ refl
statement_front c (trees.while e s) w = starts_with kinds.While _ refl
statement_front c (trees.for i t u s) w = starts_with kinds.For _ refl
statement_front c (trees.for_lexical constant ds t u s) w = starts_with kinds.For _ refl
statement_front c (trees.for_of constant n e s) w = starts_with kinds.For _ refl
statement_front c trees.continue w = starts_with kinds.Continue _ refl
statement_front c trees.break w = starts_with kinds.Break _ refl
statement_front c (trees.return trees.omitted) w = starts_with kinds.Return _ refl
statement_front c (trees.return (trees.present e)) w = starts_with kinds.Return _ refl
statement_front c (trees.throw e) w = starts_with kinds.Throw _ refl
statement_front c (trees.try ss h f) w = starts_with kinds.Try _ refl
statement_front c trees.debugger w = starts_with kinds.Debugger _ refl
statement_front c (trees.declared_function n ps body) w = starts_with kinds.Function _ refl

-- a statement begins so, and takes a token
pub statement_starts : (c : StatementContext) (s : Statement)
    → WellStatement c s
    → (ts r : List Token)
    → Matches (flat_statement s) ts r
    → (starts_next (head_of ts) ≡ true) × (length r < length ts)
statement_starts c s w ts r m =
    let f = statement_front c s w in
    let n : Matches (token f.symbol ∷ f.left) ts r = subst (λ (l : List FlatToken). Matches l ts r) f.marks m in
    (f.begins (head_of ts) n.0, omega (arith, next_shorter f.symbol ts n.0, matches_shorter f.left (tail_of ts) r n.1))

-- the class of a fixed first token
pub first_is : (k : TokenKind) (o : Option Token) → IsNext (fixed k) o → first o ≡ first_by k
first_is k None m = absurd m
first_is k (Some t) m = ap first_by m
