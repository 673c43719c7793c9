-- Which expressions begin as an arrow function does.
use Rattle.std.proofs.Common.{◌≡◌, ℕ, ◌≤◌, Bool, true, false, List, [], ◌∷◌, ◌++◌, Some, None, refl, ap, subst, ◌∙◌, ◌⊎◌, inl, inr, arith}
use Rattle.js_lexer.specs.declared.token.TokenKind.{TokenKind}
use Rattle.js_lexer.specs.declared.token.TokenKind.TheVariants as kinds
use Rattle.js_tree_operators.specs.declared.operator.UnaryOperator.{UnaryOperator}
use Rattle.js_tree_operators.specs.declared.operator.UnaryOperator.TheVariants as unaries
use Rattle.js_tree_operators.specs.declared.operator.UpdateOperator.{UpdateOperator}
use Rattle.js_tree_operators.specs.declared.operator.UpdateOperator.TheVariants as updates
use Rattle.js_tree_operators.specs.declared.operator.BinaryOperator.{BinaryOperator}
use Rattle.js_tree_operators.specs.declared.operator.AssignmentOperator.{AssignmentOperator}
use Rattle.js_tree.specs.Trees as trees
use Rattle.js_tree.specs.Trees.{Identifier, Expression, Expressions}
use Rattle.js_parser_language.specs.Tokens.{Token, fixed, identifier, identifier_name, plain, token, beside, trailing_comma, head_of, tail_of, IsNext, Matches}
use Rattle.js_parser_language.specs.Flat.{edge, flat, flat_expressions, more_expressions, trailing, flat_names, more_names, flat_parameters, unary_kind, update_kind, binary_kind, assign_kind}
use Rattle.js_parser_language.specs.Well.{level, Well, AreAssignments}
use Rattle.js_parser_language.specs.Kinds.{is_same_kind}
use Rattle.js_parser_readers.specs.Classes as classes
use Rattle.js_parser_readers.specs.Classes.{operator_by, joint_by, assigns_by, is_arrow, past_names, one_parameter, listed, no_arrow, listed_by, arrow_head}
use Rattle.js_parser_laws.proofs.MarkLemmas.{parts}
use Rattle.js_parser_laws.proofs.Again.Head.{start_fixed, start_name, IsOperator, operator_again, IsAssignment, assignment_again, no_arrow_fixed, kind_of_identifier, kind_of_number, kind_of_string}
use Rattle.js_parser_laws.proofs.Again.Level.{strength_high, target_level}

-- ---- names in parentheses, token by token

past_true_other : (k : TokenKind) (ts : List Token)
    → IsNext (fixed k) (head_of ts)
    → is_same_kind k kinds.RightParenthesis ≡ false
    → is_same_kind k kinds.Name ≡ false
    → past_names true ts ≡ None
past_true_other k [] m c a = absurd m
past_true_other k (t ∷ ts) m c a = rw (m, c, a) refl

past_false_other : (k : TokenKind) (ts : List Token)
    → IsNext (fixed k) (head_of ts)
    → is_same_kind k kinds.RightParenthesis ≡ false
    → is_same_kind k kinds.Comma ≡ false
    → past_names false ts ≡ None
past_false_other k [] m c a = absurd m
past_false_other k (t ∷ ts) m c a = rw (m, c, a) refl

past_name : (ts : List Token)
    → IsNext (fixed kinds.Name) (head_of ts)
    → past_names true ts ≡ past_names false (tail_of ts)
past_name [] m = absurd m
past_name (t ∷ ts) m = rw m refl

past_comma : (ts : List Token)
    → IsNext (fixed kinds.Comma) (head_of ts)
    → past_names false ts ≡ past_names true (tail_of ts)
past_comma [] m = absurd m
past_comma (t ∷ ts) m = rw m refl

past_close : (name_next : Bool) (ts : List Token)
    → IsNext (fixed kinds.RightParenthesis) (head_of ts)
    → past_names name_next ts ≡ Some (name_next, tail_of ts)
past_close name_next [] m = absurd m
past_close true (t ∷ ts) m = rw m refl
past_close false (t ∷ ts) m = rw m refl

-- ---- kinds apart

apart_operator : (k : TokenKind) (o : BinaryOperator)
    → operator_by k ≡ Some o
    → (is_same_kind k kinds.RightParenthesis ≡ false) × (is_same_kind k kinds.Comma ≡ false)
apart_operator kinds.RightParenthesis o e = absurd cc
apart_operator kinds.Comma o e = absurd cc
apart_operator _ o e = (refl, refl)

apart_joint : (k : TokenKind) (o : AssignmentOperator)
    → joint_by k ≡ assigns_by o
    → (is_same_kind k kinds.RightParenthesis ≡ false) × (is_same_kind k kinds.Comma ≡ false)
apart_joint kinds.RightParenthesis o e = absurd cc
apart_joint kinds.Comma o e = absurd cc
apart_joint _ o e = (refl, refl)

apart_update : (o : UpdateOperator)
    → (is_same_kind (update_kind o) kinds.RightParenthesis ≡ false)
    × (is_same_kind (update_kind o) kinds.Comma ≡ false)
    × (is_same_kind (update_kind o) kinds.Name ≡ false)
    × (is_same_kind (update_kind o) kinds.Arrow ≡ false)
apart_update updates.Increment = (refl, refl, refl, refl)
apart_update updates.Decrement = (refl, refl, refl, refl)

apart_unary : (o : UnaryOperator)
    → (is_same_kind (unary_kind o) kinds.RightParenthesis ≡ false) × (is_same_kind (unary_kind o) kinds.Name ≡ false)
apart_unary unaries.Delete = (refl, refl)
apart_unary unaries.Void = (refl, refl)
apart_unary unaries.Typeof = (refl, refl)
apart_unary unaries.Plus = (refl, refl)
apart_unary unaries.Minus = (refl, refl)
apart_unary unaries.BitwiseNot = (refl, refl)
apart_unary unaries.LogicalNot = (refl, refl)

-- ---- names in parentheses over an expression

-- the tokens up to r are no names with commas, or they are and a comma or a parenthesis may follow
abbrev Passes : List Token → List Token → Type 0
Passes ts r = (past_names true ts ≡ None) ⊎ (past_names true ts ≡ past_names false r)

abbrev PassesMore : List Token → List Token → Type 0
PassesMore ts r = (past_names false ts ≡ None) ⊎ (past_names false ts ≡ past_names false r)

goes_on : (ts us r : List Token) → Passes ts us → PassesMore us r → Passes ts r
goes_on ts us r (inl p) more = inl p
goes_on ts us r (inr p) (inl more) = inl (p ∙ more)
goes_on ts us r (inr p) (inr more) = inr (p ∙ more)

-- before what is neither a comma nor a parenthesis
stuck_before : (k : TokenKind) (ts us r : List Token)
    → Passes ts us
    → IsNext (fixed k) (head_of us)
    → is_same_kind k kinds.RightParenthesis ≡ false
    → is_same_kind k kinds.Comma ≡ false
    → Passes ts r
stuck_before k ts us r p m c a = goes_on ts us r p (inl (past_false_other k us m c a))

mutual
  passes : (e : Expression) → Well e → (ts r : List Token) → Matches (flat e) ts r → Passes ts r
  passes trees.this w ts r m = inl (past_true_other kinds.This ts m.0 refl refl)
  passes (trees.name a) w ts r m =
      inr (past_name ts (kind_of_identifier a (head_of ts) m.0) ∙ ap (λ (l : List Token). past_names false l) m.1)
  passes (trees.number v) w ts r m = inl (past_true_other kinds.Number ts (kind_of_number v (head_of ts) m.0) refl refl)
  passes (trees.string v) w ts r m = inl (past_true_other kinds.String ts (kind_of_string v (head_of ts) m.0) refl refl)
  passes (trees.boolean true) w ts r m = inl (past_true_other kinds.True ts m.0 refl refl)
  passes (trees.boolean false) w ts r m = inl (past_true_other kinds.False ts m.0 refl refl)
  passes trees.null w ts r m = inl (past_true_other kinds.Null ts m.0 refl refl)
  passes (trees.array es) w ts r m = inl (past_true_other kinds.LeftBracket ts m.0 refl refl)
  passes (trees.object ps) w ts r m = inl (past_true_other kinds.LeftBrace ts m.0 refl refl)
  passes (trees.function o ps body) w ts r m = inl (past_true_other kinds.Function ts m.0 refl refl)
  passes (trees.arrow (trees.one_name a) e) w ts r m =
      inl (past_name ts (kind_of_identifier a (head_of ts) m.0)
      ∙ past_false_other kinds.Arrow (tail_of ts) m.1.0 refl refl)
  passes (trees.arrow (trees.name_list ps) e) w ts r m = inl (past_true_other kinds.LeftParenthesis ts m.0 refl refl)
  passes (trees.arrow_block (trees.one_name a) body) w ts r m =
      inl (past_name ts (kind_of_identifier a (head_of ts) m.0)
      ∙ past_false_other kinds.Arrow (tail_of ts) m.1.0 refl refl)
  passes (trees.arrow_block (trees.name_list ps) body) w ts r m =
      inl (past_true_other kinds.LeftParenthesis ts m.0 refl refl)
  passes (trees.parenthesized e) w ts r m = inl (past_true_other kinds.LeftParenthesis ts m.0 refl refl)
  passes (trees.member e a) w ts r m =
      let p = parts (flat e) (token (fixed kinds.Dot) ∷ token (identifier_name a) ∷ []) ts r m in
      stuck_before kinds.Dot ts p.0 r (passes e w.0 ts p.0 p.1) p.2.0 refl refl
  passes (trees.index e i) w ts r m =
      let p = parts (flat e) (token (fixed kinds.LeftBracket) ∷ (flat i ++ (token (fixed kinds.RightBracket) ∷ [])))
      ts r m in
      stuck_before kinds.LeftBracket ts p.0 r (passes e w.0 ts p.0 p.1) p.2.0 refl refl
  passes (trees.call f es) w ts r m =
      let p = parts (flat f)
      (token (fixed kinds.LeftParenthesis) ∷
      (flat_expressions es ++ (trailing es ++ (token (fixed kinds.RightParenthesis) ∷ []))))
      ts r m in
      stuck_before kinds.LeftParenthesis ts p.0 r (passes f w.0 ts p.0 p.1) p.2.0 refl refl
  passes (trees.postfix o e) w ts r m =
      let p = parts (flat e) (beside (fixed (update_kind o)) ∷ []) ts r m in
      let a = apart_update o in
      stuck_before (update_kind o) ts p.0 r (passes e w.0 ts p.0 p.1) p.2.0 a.0 a.1
  passes (trees.prefix o e) w ts r m = let a = apart_update o in inl (past_true_other (update_kind o) ts m.0 a.0 a.2)
  passes (trees.unary o e) w ts r m = let a = apart_unary o in inl (past_true_other (unary_kind o) ts m.0 a.0 a.1)
  passes (trees.binary o x y) w ts r m =
      let p = parts (flat x) (token (fixed (binary_kind o)) ∷ (flat y ++ [])) ts r m in
      let is : IsOperator (binary_kind o) o = operator_again o in
      let a = apart_operator (binary_kind o) o is.operator in
      stuck_before (binary_kind o) ts p.0 r (passes x w.0 ts p.0 p.1) p.2.0 a.0 a.1
  passes (trees.conditional t c a) w ts r m =
      let p = parts (flat t) (token (fixed kinds.Question) ∷ (flat c ++ (token (fixed kinds.Colon) ∷ (flat a ++ []))))
      ts r m in
      stuck_before kinds.Question ts p.0 r (passes t w.0 ts p.0 p.1) p.2.0 refl refl
  passes (trees.assign o t v) w ts r m =
      let p = parts (flat t) (token (fixed (assign_kind o)) ∷ (flat v ++ [])) ts r m in
      let is : IsAssignment (assign_kind o) o = assignment_again o in
      let a = apart_joint (assign_kind o) o is.joint in
      stuck_before (assign_kind o) ts p.0 r (passes t w.0 ts p.0 p.1) p.2.0 a.0 a.1
  passes (trees.comma trees.no_expressions) w ts r m = absurd cc
  passes (trees.comma (trees.an_expression e es)) w ts r m =
      let p = parts (flat e) (more_expressions es) ts r m in
      goes_on ts p.0 r (passes e w.1.0 ts p.0 p.1) (passes_more es w.1.2 p.0 r p.2)

  passes_more : (es : Expressions)
      → AreAssignments es
      → (ts r : List Token)
      → Matches (more_expressions es) ts r
      → PassesMore ts r
  passes_more trees.no_expressions w ts r m = inr (ap (λ (l : List Token). past_names false l) m)
  passes_more (trees.an_expression e es) w ts r m =
      let p = parts (flat e) (more_expressions es ++ []) (tail_of ts) r m.1 in
      let q = parts (more_expressions es) [] p.0 r p.2 in
      let rest : PassesMore p.0 q.0 = passes_more es w.2 p.0 q.0 q.1 in
      let all : Passes (tail_of ts) q.0 = goes_on (tail_of ts) p.0 q.0 (passes e w.0 (tail_of ts) p.0 p.1) rest in
      let whole : Passes (tail_of ts) r = subst (λ (l : List Token). Passes (tail_of ts) l) q.2 all in
      behind (past_comma ts m.0) whole
    where
      behind : past_names false ts ≡ past_names true (tail_of ts) → Passes (tail_of ts) r → PassesMore ts r
      behind c (inl p) = inl (c ∙ p)
      behind c (inr p) = inr (c ∙ p)

-- ---- what is no arrow function

-- neither an arrow function nor expressions with commas
abbrev pub is_low : Expression → Bool
is_low (trees.arrow ps e) = false
is_low (trees.arrow_block ps body) = false
is_low (trees.comma es) = false
is_low _ = true

pub level_low : (e : Expression) → 2 ≤ level e → is_low e ≡ true
level_low (trees.arrow ps e) l = absurd (omega arith)
level_low (trees.arrow_block ps body) l = absurd (omega arith)
level_low (trees.comma es) l = absurd (omega arith)
level_low _ l = refl

no_head_of_kind : (k : TokenKind) (ts : List Token)
    → IsNext (fixed k) (head_of ts)
    → ((s : List ℕ) (v : ℕ) (us : List Token) → classes.head_by (classes.start_by k s v) us ≡ no_arrow)
    → arrow_head ts ≡ no_arrow
no_head_of_kind k [] m e = absurd m
no_head_of_kind k (t ∷ ts) m e = rw m (e t.string_value t.numeric_value ts)

unary_no_head : (o : UnaryOperator) (s : List ℕ) (v : ℕ) (us : List Token)
    → classes.head_by (classes.start_by (unary_kind o) s v) us ≡ no_arrow
unary_no_head unaries.Delete s v us = refl
unary_no_head unaries.Void s v us = refl
unary_no_head unaries.Typeof s v us = refl
unary_no_head unaries.Plus s v us = refl
unary_no_head unaries.Minus s v us = refl
unary_no_head unaries.BitwiseNot s v us = refl
unary_no_head unaries.LogicalNot s v us = refl

update_no_head : (o : UpdateOperator) (s : List ℕ) (v : ℕ) (us : List Token)
    → classes.head_by (classes.start_by (update_kind o) s v) us ≡ no_arrow
update_no_head updates.Increment s v us = refl
update_no_head updates.Decrement s v us = refl

name_no_head : (a : Identifier) (ts r : List Token)
    → IsNext (identifier a) (head_of ts)
    → tail_of ts ≡ r
    → is_arrow (head_of r) ≡ false
    → arrow_head ts ≡ no_arrow
name_no_head a ts r m same n = rw (start_name a (head_of ts) m, same, n) refl

parenthesized_no_head : (e : Expression)
    → Well e
    → (ts r : List Token)
    → Matches (flat (trees.parenthesized e)) ts r
    → is_arrow (head_of r) ≡ false
    → arrow_head ts ≡ no_arrow
parenthesized_no_head e w ts r m n =
    let p = parts (flat e) (token (fixed kinds.RightParenthesis) ∷ []) (tail_of ts) r m.1 in
    let close : past_names false p.0 ≡ Some (false, tail_of p.0) = past_close false p.0 p.2.0 in
    rw (start_fixed kinds.LeftParenthesis classes.parenthesis (head_of ts) m.0 (λ s v. refl))
    (either p.0 p.2.1 close (passes e w (tail_of ts) p.0 p.1))
  where
    either : (us : List Token)
        → tail_of us ≡ r
        → past_names false us ≡ Some (false, tail_of us)
        → Passes (tail_of ts) us
        → listed_by (past_names true (tail_of ts)) ≡ no_arrow
    either us same close (inl none) = rw none refl
    either us same close (inr passed) = rw (passed, close, same, n) refl

pub no_head : (e : Expression)
    → Well e
    → is_low e ≡ true
    → (ts r : List Token)
    → Matches (flat e) ts r
    → (edge e ≡ plain → is_arrow (head_of r) ≡ false)
    → arrow_head ts ≡ no_arrow
no_head trees.this w l ts r m n = no_head_of_kind kinds.This ts m.0 (λ s v us. refl)
no_head (trees.name a) w l ts r m n = name_no_head a ts r m.0 m.1 (n refl)
no_head (trees.number v) w l ts r m n =
    no_head_of_kind kinds.Number ts (kind_of_number v (head_of ts) m.0) (λ s v us. refl)
no_head (trees.string v) w l ts r m n =
    no_head_of_kind kinds.String ts (kind_of_string v (head_of ts) m.0) (λ s v us. refl)
no_head (trees.boolean true) w l ts r m n = no_head_of_kind kinds.True ts m.0 (λ s v us. refl)
no_head (trees.boolean false) w l ts r m n = no_head_of_kind kinds.False ts m.0 (λ s v us. refl)
no_head trees.null w l ts r m n = no_head_of_kind kinds.Null ts m.0 (λ s v us. refl)
no_head (trees.array es) w l ts r m n = no_head_of_kind kinds.LeftBracket ts m.0 (λ s v us. refl)
no_head (trees.object ps) w l ts r m n = no_head_of_kind kinds.LeftBrace ts m.0 (λ s v us. refl)
no_head (trees.function o ps body) w l ts r m n = no_head_of_kind kinds.Function ts m.0 (λ s v us. refl)
no_head (trees.arrow ps e) w l ts r m n = absurd cc
no_head (trees.arrow_block ps body) w l ts r m n = absurd cc
no_head (trees.parenthesized e) w l ts r m n = parenthesized_no_head e w ts r m (n refl)
no_head (trees.member e a) w l ts r m n =
    let p = parts (flat e) (token (fixed kinds.Dot) ∷ token (identifier_name a) ∷ []) ts r m in
    no_head e w.0 (level_low e (omega (arith, w.1))) ts p.0 p.1 (λ d. no_arrow_fixed kinds.Dot (head_of p.0) p.2.0 refl)
no_head (trees.index e i) w l ts r m n =
    let p = parts (flat e) (token (fixed kinds.LeftBracket) ∷ (flat i ++ (token (fixed kinds.RightBracket) ∷ [])))
    ts r m in
    no_head e w.0 (level_low e (omega (arith, w.1))) ts p.0 p.1
    (λ d. no_arrow_fixed kinds.LeftBracket (head_of p.0) p.2.0 refl)
no_head (trees.call f es) w l ts r m n =
    let p = parts (flat f)
    (token (fixed kinds.LeftParenthesis) ∷
    (flat_expressions es ++ (trailing es ++ (token (fixed kinds.RightParenthesis) ∷ []))))
    ts r m in
    no_head f w.0 (level_low f (omega (arith, w.1))) ts p.0 p.1
    (λ d. no_arrow_fixed kinds.LeftParenthesis (head_of p.0) p.2.0 refl)
no_head (trees.postfix o e) w l ts r m n =
    let p = parts (flat e) (beside (fixed (update_kind o)) ∷ []) ts r m in
    let a = apart_update o in
    no_head e w.0 (level_low e (omega (arith, target_level e w.1))) ts p.0 p.1
    (λ d. no_arrow_fixed (update_kind o) (head_of p.0) p.2.0 a.3)
no_head (trees.prefix o e) w l ts r m n = no_head_of_kind (update_kind o) ts m.0 (update_no_head o)
no_head (trees.unary o e) w l ts r m n = no_head_of_kind (unary_kind o) ts m.0 (unary_no_head o)
no_head (trees.binary o x y) w l ts r m n =
    let p = parts (flat x) (token (fixed (binary_kind o)) ∷ (flat y ++ [])) ts r m in
    let is : IsOperator (binary_kind o) o = operator_again o in
    no_head x w.0 (level_low x (omega (arith, w.1, strength_high o))) ts p.0 p.1
    (λ d. no_arrow_fixed (binary_kind o) (head_of p.0) p.2.0 is.arrow)
no_head (trees.conditional t c a) w l ts r m n =
    let p = parts (flat t) (token (fixed kinds.Question) ∷ (flat c ++ (token (fixed kinds.Colon) ∷ (flat a ++ []))))
    ts r m in
    no_head t w.0 (level_low t (omega (arith, w.1))) ts p.0 p.1
    (λ d. no_arrow_fixed kinds.Question (head_of p.0) p.2.0 refl)
no_head (trees.assign o t v) w l ts r m n =
    let p = parts (flat t) (token (fixed (assign_kind o)) ∷ (flat v ++ [])) ts r m in
    let is : IsAssignment (assign_kind o) o = assignment_again o in
    no_head t w.0 (level_low t (omega (arith, target_level t w.1))) ts p.0 p.1
    (λ d. no_arrow_fixed (assign_kind o) (head_of p.0) p.2.0 is.arrow)
no_head (trees.comma es) w l ts r m n = absurd cc

-- ---- what an arrow function begins with

names_end : (ns : List Identifier) (ts r : List Token)
    → Matches ((more_names ns ++ (trailing_comma ∷ [])) ++ (token (fixed kinds.RightParenthesis) ∷ [])) ts r
    → (only : Bool) × (past_names false ts ≡ Some (only, r))
names_end [] ts r (inl m) =
    (true, past_comma ts m.0 ∙ past_close true (tail_of ts) m.1.0 ∙ ap (λ (l : List Token). Some (true, l)) m.1.1)
names_end [] ts r (inr m) = (false, past_close false ts m.0 ∙ ap (λ (l : List Token). Some (false, l)) m.1)
names_end (a ∷ ns) ts r m =
    let p = names_end ns (tail_of (tail_of ts)) r m.1.1 in
    (p.0, past_comma ts m.0 ∙ past_name (tail_of ts) (kind_of_identifier a (head_of (tail_of ts)) m.1.0) ∙ p.1)

names_all : (ns : List Identifier) (ts r : List Token)
    → Matches (flat_names ns ++ (token (fixed kinds.RightParenthesis) ∷ [])) ts r
    → (only : Bool) × (past_names true ts ≡ Some (only, r))
names_all [] ts r m = (true, past_close true ts m.0 ∙ ap (λ (l : List Token). Some (true, l)) m.1)
names_all (a ∷ ns) ts r m =
    let p = names_end ns (tail_of ts) r m.1 in
    (p.0, past_name ts (kind_of_identifier a (head_of ts) m.0) ∙ p.1)

pub list_head : (ns : List Identifier) (ts r : List Token)
    → Matches (flat_parameters ns) ts r
    → is_arrow (head_of r) ≡ true
    → (only : Bool) × (arrow_head ts ≡ listed only)
list_head ns ts r m a =
    let p = names_all ns (tail_of ts) r m.1 in
    (p.0, rw (start_fixed kinds.LeftParenthesis classes.parenthesis (head_of ts) m.0 (λ s v. refl), p.1) (either p.0))
  where
    either : (only : Bool) → listed_by (Some (only, r)) ≡ listed only
    either true = refl
    either false = rw a refl

pub name_head : (a : Identifier) (ts : List Token)
    → IsNext (identifier a) (head_of ts)
    → is_arrow (head_of (tail_of ts)) ≡ true
    → arrow_head ts ≡ one_parameter
name_head a ts m n = rw (start_name a (head_of ts) m, n) refl
