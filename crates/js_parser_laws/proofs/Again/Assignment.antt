-- Arrow functions, conditional expressions, assignments and expressions with commas are read again.
use Rattle.std.proofs.Common.{◌≡◌, ℕ, suc, ◌≤◌, Bool, true, false, List, [], ◌∷◌, ◌++◌, None, Ok, refl, ◌∙◌, arith}
use Rattle.std.specs.Prelude.{nat_le}
use Rattle.std.proofs.lemmas.Bool.{le-leb}
use Rattle.js_lexer.specs.declared.token.TokenKind.{TokenKind}
use Rattle.js_lexer.specs.declared.token.TokenKind.TheVariants as kinds
use Rattle.js_tree_operators.specs.declared.operator.AssignmentOperator.{AssignmentOperator}
use Rattle.js_tree.specs.Trees as trees
use Rattle.js_tree.specs.Trees.{Identifier, Parameters, Expression, Expressions, Statements}
use Rattle.js_parser_language.specs.Tokens.{Token, fixed, identifier, ExpressionEnd, plain, braces, update, FlatToken, token, beside, head_of, tail_of, IsNext, Matches}
use Rattle.js_parser_language.specs.Flat as flats
use Rattle.js_parser_language.specs.Flat.{edge, flat, more_expressions, flat_parameters, flat_arrow_parameters, flat_statements, assign_kind}
use Rattle.js_parser_language.specs.Well.{function_body, level, begins_with_brace, AreFresh, DifferIn, declared_names, names_of_parameters, is_function, Well, WellStatements}
use Rattle.js_tree.specs.Height.{height, height_of_statements}
use Rattle.js_parser_readers.specs.Reading.{with_names}
use Rattle.js_parser_language.specs.Kinds.{is_kind}
use Rattle.js_parser_readers.specs.Classes as classes
use Rattle.js_parser_readers.specs.Classes.{start, link_by, no_link, update_by, operator_by, joint, no_joint, question, assigns_by, is_arrow}
use Rattle.js_parser_readers.specs.Productions.{Below, tok, an_assignment, in_braces}
use Rattle.js_parser_readers.specs.Parsing.{operation, arrow_rest, are_fresh, arrow_of_one, arrow_of_list, joined, assignment, expression, function_code_by}
use Rattle.js_parser_language.proofs.KindLemmas.{next_again}
use Rattle.js_parser_laws.proofs.Claims.{AgainBelow, SeqAgain, Stops, StopsOperation, NoComma}
use Rattle.js_parser_laws.proofs.MarkLemmas.{parts}
use Rattle.js_parser_laws.proofs.TokenLemmas.{expect_again, expect_near_again, name_again}
use Rattle.js_parser_laws.proofs.Again.Front.{expression_front, front_no_brace, comma_stops}
use Rattle.js_parser_laws.proofs.Again.Part.{names_again, parameters_again, more_again, fresh_behind}
use Rattle.js_parser_laws.proofs.Again.Head.{start_fixed, start_name, link_fixed, no_update_fixed, operator_fixed, joint_fixed, no_arrow_fixed, arrow_fixed, IsAssignment, assignment_again}
use Rattle.js_parser_laws.proofs.Again.Level.{strength_high, target_level, operation_edge, assignment_stops}
use Rattle.js_parser_laws.proofs.Again.Primary.{ObjectsAgain, and_nothing, function_again}
use Rattle.js_parser_laws.proofs.Again.Operation.{operation_again}
use Rattle.js_parser_laws.proofs.Again.ArrowHead.{no_head, level_low, list_head, name_head}

-- ---- arrow functions

-- the arrow and the body with these marks are read again
abbrev RestAgain : Below → Parameters → Expression → List FlatToken → Type 0
RestAgain b ps x ms =
    (ts r : List Token)
    → Matches (beside (fixed kinds.Arrow) ∷ ms) ts r
    → Stops (edge x) r
    → arrow_rest b ps (names_of_parameters ps) ts ≡ Ok (x, r)

value_rest : (q : SeqAgain) (n : ℕ) (b : Below)
    → AgainBelow n b
    → (ps : Parameters) (e : Expression)
    → Well e
    → 1 ≤ level e
    → begins_with_brace (flat e) ≡ false
    → height e ≤ n
    → RestAgain b ps (trees.arrow ps e) (flat e ++ [])
unfolding arrow_rest
value_rest q n b h ps e w v no_brace l ts r m s =
    let inner : Matches (flat e) (tail_of ts) r = and_nothing (flat e) (tail_of ts) r m.2 in
    rw (
      expect_near_again kinds.Arrow ts (tail_of ts) (m.0, m.1, refl),
      front_no_brace (flat e) (expression_front e w) no_brace (tail_of ts) r inner,
      q n b h (an_assignment ∷ []) (e, tt) (tail_of ts) r ((w, v), tt) (omega arith) refl s m.2,
    )
    refl

block_rest : (q : SeqAgain) (n : ℕ) (b : Below)
    → AgainBelow n b
    → (ps : Parameters) (body : Statements)
    → DifferIn (names_of_parameters ps) body
    → WellStatements function_body body
    → height_of_statements body ≤ n
    → RestAgain b ps (trees.arrow_block ps body) (flats.in_braces (flat_statements body) ++ [])
unfolding arrow_rest
block_rest q n b h ps body d w l ts r m s =
    let names : List Identifier = names_of_parameters ps in
    rw (
      expect_near_again kinds.Arrow ts (tail_of ts) (m.0, m.1, refl),
      next_again kinds.LeftBrace (head_of (tail_of ts)) m.2.0,
      q n b h (in_braces function_body (with_names [] names) ∷ []) (body, tt) (tail_of ts) r
          ((fresh_behind names (declared_names body) d.1, w), tt) (omega arith) refl tt m.2,
    )
    refl

one_again : (b : Below) (a : Identifier) (x : Expression) (ms : List FlatToken)
    → RestAgain b (trees.one_name a) x ms
    → (ts r : List Token)
    → Matches (token (identifier a) ∷ beside (fixed kinds.Arrow) ∷ ms) ts r
    → Stops (edge x) r
    → arrow_of_one b ts ≡ Ok (x, r)
unfolding arrow_of_one
one_again b a x ms rest ts r m s = rw (name_again a ts (tail_of ts) (m.0, refl)) (rest (tail_of ts) r m.1 s)

fresh_test : (taken names : List Identifier) → AreFresh taken names → are_fresh taken names ≡ true
fresh_test taken [] f = refl
fresh_test taken (a ∷ names) f = rw f.0 (fresh_test (a ∷ taken) names f.1)

list_again : (b : Below) (ns : List Identifier) (x : Expression) (ms : List FlatToken)
    → AreFresh [] ns
    → RestAgain b (trees.name_list ns) x ms
    → (only : Bool) (ts r : List Token)
    → Matches (flat_parameters ns ++ (beside (fixed kinds.Arrow) ∷ ms)) ts r
    → Stops (edge x) r
    → arrow_of_list b only ts ≡ Ok (x, r)
unfolding arrow_of_list
list_again b ns x ms f rest only ts r m s =
    let p = parts (flat_parameters ns) (beside (fixed kinds.Arrow) ∷ ms) ts r m in
    rw (
      expect_again kinds.LeftParenthesis ts (tail_of ts) (p.1.0, refl),
      names_again ns (tail_of ts) p.0 p.1.1,
      fresh_test [] ns f,
    )
    (rest p.0 r p.2 s)

arrow_again : (n : ℕ) (b : Below) (ps : Parameters) (x : Expression) (ms : List FlatToken)
    → AreFresh [] (names_of_parameters ps)
    → RestAgain b ps x ms
    → (ts r : List Token)
    → Matches (flat_arrow_parameters ps ++ (beside (fixed kinds.Arrow) ∷ ms)) ts r
    → Stops (edge x) r
    → assignment b n ts ≡ Ok (x, r)
unfolding assignment
arrow_again n b (trees.one_name a) x ms f rest ts r m s =
    rw (name_head a ts m.0 (arrow_fixed (head_of (tail_of ts)) m.1.0 m.1.1)) (one_again b a x ms rest ts r m s)
arrow_again n b (trees.name_list ns) x ms f rest ts r m s =
    let p = parts (flat_parameters ns) (beside (fixed kinds.Arrow) ∷ ms) ts r m in
    let head = list_head ns ts p.0 p.1 (arrow_fixed (head_of p.0) p.2.0 p.2.1) in
    rw head.1 (list_again b ns x ms f rest head.0 ts r m s)

-- ---- conditional expressions and assignments

stops_arrow : (d : ExpressionEnd) (r : List Token) → Stops d r → d ≡ plain → is_arrow (head_of r) ≡ false
stops_arrow plain r s e = s.4
stops_arrow update r s e = absurd cc
stops_arrow braces r s e = absurd cc

stops_joint : (d : ExpressionEnd) (r : List Token) → (d ≡ braces → ⊥) → Stops d r → joint (head_of r) ≡ no_joint
stops_joint plain r n s = s.3
stops_joint update r n s = s.1
stops_joint braces r n s = absurd (n refl)

operation_assignment : (q : SeqAgain) (n : ℕ) (b : Below)
    → AgainBelow n b
    → ObjectsAgain n b
    → (e : Expression)
    → Well e
    → 3 ≤ level e
    → height e ≤ suc n
    → (ts r : List Token)
    → Matches (flat e) ts r
    → Stops (edge e) r
    → assignment b n ts ≡ Ok (e, r)
unfolding assignment joined
operation_assignment q n b h os e w v l ts r m s =
    rw (
      no_head e w (level_low e (omega (arith, v))) ts r m (stops_arrow (edge e) r s),
      operation_again q n b h os 3 e w v v l ts r m (assignment_stops 3 (edge e) r s),
      stops_joint (edge e) r (operation_edge e w v) s,
    )
    refl

-- a token of a kind that goes on with no operation
other_stops : (k : TokenKind)
    → link_by k ≡ no_link
    → update_by k ≡ None
    → operator_by k ≡ None
    → (m : ℕ) (d : ExpressionEnd) (r : List Token)
    → IsNext (fixed k) (head_of r)
    → StopsOperation m d r
other_stops k l u o m plain r next = (
  link_fixed k (head_of r) next
      ∙ l,
  no_update_fixed k (head_of r) next u,
  rw (operator_fixed k (head_of r) next, o) refl,
)
other_stops k l u o m update r next = rw (operator_fixed k (head_of r) next, o) refl
other_stops k l u o m braces r next = tt

conditional_again : (q : SeqAgain) (n : ℕ) (b : Below)
    → AgainBelow n b
    → ObjectsAgain n b
    → (t c a : Expression)
    → Well (trees.conditional t c a)
    → height (trees.conditional t c a) ≤ suc n
    → (ts r : List Token)
    → Matches (flat (trees.conditional t c a)) ts r
    → Stops (edge a) r
    → assignment b n ts ≡ Ok (trees.conditional t c a, r)
unfolding assignment joined
conditional_again q n b h os t c a w l ts r m s =
    let p = parts (flat t) (token (fixed kinds.Question) ∷ (flat c ++ (token (fixed kinds.Colon) ∷ (flat a ++ []))))
    ts r m in
    let low : nat_le (height t) n ≡ true = le-leb (height t) n (omega arith) in
    let found : joint (head_of p.0) ≡ question = joint_fixed kinds.Question (head_of p.0) p.2.0 in
    let test : operation b n 3 ts ≡ Ok (t, p.0) = operation_again q n b h os 3 t w.0 w.1 w.1 (omega arith) ts p.0 p.1
    (other_stops kinds.Question refl refl refl 3 (edge t) p.0 p.2.0) in
    rw (
      no_head t w.0 (level_low t (omega (arith, w.1))) ts p.0 p.1
          (λ d. no_arrow_fixed kinds.Question (head_of p.0) p.2.0 refl),
      test,
      found,
      low,
      q n b h (tok kinds.Question ∷ an_assignment ∷ tok kinds.Colon ∷ an_assignment ∷ []) (tt, (c, (tt, (a, tt))))
          p.0 r (tt, ((w.2, w.3), (tt, ((w.4, w.5), tt)))) (omega arith) refl s p.2,
    )
    refl

assign_again : (q : SeqAgain) (n : ℕ) (b : Below)
    → AgainBelow n b
    → ObjectsAgain n b
    → (o : AssignmentOperator) (t v : Expression)
    → Well (trees.assign o t v)
    → height (trees.assign o t v) ≤ suc n
    → (ts r : List Token)
    → Matches (flat (trees.assign o t v)) ts r
    → Stops (edge v) r
    → assignment b n ts ≡ Ok (trees.assign o t v, r)
unfolding assignment joined
assign_again q n b h os o t v w l ts r m s =
    let p = parts (flat t) (token (fixed (assign_kind o)) ∷ (flat v ++ [])) ts r m in
    let is : IsAssignment (assign_kind o) o = assignment_again o in
    let high : level t ≡ 15 = target_level t w.1 in
    let low : nat_le (height t) n ≡ true = le-leb (height t) n (omega arith) in
    let found : joint (head_of p.0) ≡ assigns_by o = joint_fixed (assign_kind o) (head_of p.0) p.2.0 ∙ is.joint in
    let target : operation b n 3 ts ≡ Ok (t, p.0) = operation_again q n b h os 3 t w.0 (omega arith) (omega arith)
    (omega arith) ts p.0 p.1 (other_stops (assign_kind o) is.link is.update is.operator 3 (edge t) p.0 p.2.0) in
    rw (
      no_head t w.0 (level_low t (omega arith)) ts p.0 p.1
          (λ d. no_arrow_fixed (assign_kind o) (head_of p.0) p.2.0 is.arrow),
      target,
      found,
      w.1,
      low,
      q n b h (tok (assign_kind o) ∷ an_assignment ∷ []) (tt, (v, tt)) p.0 r (tt, ((w.2, w.3), tt)) (omega arith)
          refl s p.2,
    )
    refl

abbrev AssignmentAgain : ℕ → Below → Expression → Type 0
AssignmentAgain n b e =
    height e ≤ suc n → (ts r : List Token) → Matches (flat e) ts r → Stops (edge e) r → assignment b n ts ≡ Ok (e, r)

assignment_reads : (q : SeqAgain) (n : ℕ) (b : Below)
    → AgainBelow n b
    → ObjectsAgain n b
    → (e : Expression)
    → 1 ≤ level e
    → Well e
    → AssignmentAgain n b e
assignment_reads q n b h os (trees.arrow ps e) v w l ts r m s =
    arrow_again n b ps (trees.arrow ps e) (flat e ++ []) w.0 (value_rest q n b h ps e w.1 w.2 w.3 (omega arith))
    ts r m s
assignment_reads q n b h os (trees.arrow_block ps body) v w l ts r m s =
    arrow_again n b ps (trees.arrow_block ps body) (flats.in_braces (flat_statements body) ++ []) w.0.0
    (block_rest q n b h ps body w.0 w.1 (omega arith)) ts r m s
assignment_reads q n b h os (trees.conditional t c a) v w l ts r m s = conditional_again q n b h os t c a w l ts r m s
assignment_reads q n b h os (trees.assign o t a) v w l ts r m s = assign_again q n b h os o t a w l ts r m s
assignment_reads q n b h os (trees.comma es) v w l ts r m s = absurd (omega arith)
assignment_reads q n b h os (trees.binary o x y) v w l ts r m s =
    operation_assignment q n b h os (trees.binary o x y) w (strength_high o) l ts r m s
assignment_reads q n b h os (trees.unary o e) v w l ts r m s =
    operation_assignment q n b h os (trees.unary o e) w (omega arith) l ts r m s
assignment_reads q n b h os (trees.prefix o e) v w l ts r m s =
    operation_assignment q n b h os (trees.prefix o e) w (omega arith) l ts r m s
assignment_reads q n b h os (trees.postfix o e) v w l ts r m s =
    operation_assignment q n b h os (trees.postfix o e) w (omega arith) l ts r m s
assignment_reads q n b h os (trees.member e a) v w l ts r m s =
    operation_assignment q n b h os (trees.member e a) w (omega arith) l ts r m s
assignment_reads q n b h os (trees.index e i) v w l ts r m s =
    operation_assignment q n b h os (trees.index e i) w (omega arith) l ts r m s
assignment_reads q n b h os (trees.call f es) v w l ts r m s =
    operation_assignment q n b h os (trees.call f es) w (omega arith) l ts r m s
assignment_reads q n b h os trees.this v w l ts r m s =
    operation_assignment q n b h os trees.this w (omega arith) l ts r m s
assignment_reads q n b h os (trees.name a) v w l ts r m s =
    operation_assignment q n b h os (trees.name a) w (omega arith) l ts r m s
assignment_reads q n b h os (trees.number a) v w l ts r m s =
    operation_assignment q n b h os (trees.number a) w (omega arith) l ts r m s
assignment_reads q n b h os (trees.string a) v w l ts r m s =
    operation_assignment q n b h os (trees.string a) w (omega arith) l ts r m s
assignment_reads q n b h os (trees.boolean a) v w l ts r m s =
    operation_assignment q n b h os (trees.boolean a) w (omega arith) l ts r m s
assignment_reads q n b h os trees.null v w l ts r m s =
    operation_assignment q n b h os trees.null w (omega arith) l ts r m s
assignment_reads q n b h os (trees.array es) v w l ts r m s =
    operation_assignment q n b h os (trees.array es) w (omega arith) l ts r m s
assignment_reads q n b h os (trees.object ps) v w l ts r m s =
    operation_assignment q n b h os (trees.object ps) w (omega arith) l ts r m s
assignment_reads q n b h os (trees.function o ps body) v w l ts r m s =
    operation_assignment q n b h os (trees.function o ps body) w (omega arith) l ts r m s
assignment_reads q n b h os (trees.parenthesized e) v w l ts r m s =
    operation_assignment q n b h os (trees.parenthesized e) w (omega arith) l ts r m s

pub assignment_is_read : (q : SeqAgain) (n : ℕ) (b : Below)
    → AgainBelow n b
    → ObjectsAgain n b
    → (e : Expression)
    → Well e
    → 1 ≤ level e
    → height e ≤ suc n
    → (ts r : List Token)
    → Matches (flat e) ts r
    → Stops (edge e) r
    → assignment b n ts ≡ Ok (e, r)
assignment_is_read q n b h os e w v l ts r m s = assignment_reads q n b h os e v w l ts r m s

-- ---- expressions with commas

one_expression : (q : SeqAgain) (n : ℕ) (b : Below)
    → AgainBelow n b
    → ObjectsAgain n b
    → (e : Expression)
    → Well e
    → 1 ≤ level e
    → height e ≤ suc n
    → (ts r : List Token)
    → Matches (flat e) ts r
    → Stops (edge e) r
    → NoComma r
    → expression b n ts ≡ Ok (e, r)
unfolding expression
one_expression q n b h os e w v l ts r m s c = rw (assignment_is_read q n b h os e w v l ts r m s, c) refl

comma_expression : (q : SeqAgain) (n : ℕ) (b : Below)
    → AgainBelow n b
    → ObjectsAgain n b
    → (e f : Expression) (es : Expressions)
    → Well (trees.comma (trees.an_expression e (trees.an_expression f es)))
    → height (trees.comma (trees.an_expression e (trees.an_expression f es))) ≤ suc n
    → (ts r : List Token)
    → Matches (flat (trees.comma (trees.an_expression e (trees.an_expression f es)))) ts r
    → Stops (edge (trees.comma (trees.an_expression e (trees.an_expression f es)))) r
    → NoComma r
    → expression b n ts ≡ Ok (trees.comma (trees.an_expression e (trees.an_expression f es)), r)
unfolding expression
comma_expression q n b h os e f es w l ts r m s c =
    let rest : Expressions = trees.an_expression f es in
    let p = parts (flat e) (more_expressions rest) ts r m in
    let comma : is_kind kinds.Comma (head_of p.0) ≡ true = next_again kinds.Comma (head_of p.0) p.2.0 in
    let low : nat_le (height e) n ≡ true = le-leb (height e) n (omega arith) in
    rw (
      assignment_is_read q n b h os e w.1.0 w.1.1 (omega arith) ts p.0 p.1 (comma_stops p.0 comma (edge e)),
      comma,
      low,
      more_again n b h e rest w.1.2 (omega arith) p.0 r p.2 s c,
    )
    refl

pub expression_is_read : (q : SeqAgain) (n : ℕ) (b : Below)
    → AgainBelow n b
    → ObjectsAgain n b
    → (e : Expression)
    → Well e
    → height e ≤ suc n
    → (ts r : List Token)
    → Matches (flat e) ts r
    → Stops (edge e) r
    → NoComma r
    → expression b n ts ≡ Ok (e, r)
expression_is_read q n b h os (trees.comma trees.no_expressions) w l ts r m s c = absurd cc
expression_is_read q n b h os (trees.comma (trees.an_expression e trees.no_expressions)) w l ts r m s c = absurd cc
expression_is_read q n b h os (trees.comma (trees.an_expression e (trees.an_expression f es))) w l ts r m s c =
    comma_expression q n b h os e f es w l ts r m s c
expression_is_read q n b h os (trees.binary o x y) w l ts r m s c =
    one_expression q n b h os (trees.binary o x y) w (omega (arith, strength_high o)) l ts r m s c
expression_is_read q n b h os e w l ts r m s c = one_expression q n b h os e w (omega arith) l ts r m s c

-- ---- the code of a function

-- nothing goes on with an expression at the end of the source
pub stops_at_end : (d : ExpressionEnd) → Stops d []
stops_at_end plain = (refl, refl, refl, refl, refl)
stops_at_end update = (refl, refl)
stops_at_end braces = tt

arrow_code : (b : Below) (ps : Parameters) (x : Expression) (ms : List FlatToken)
    → AreFresh [] (names_of_parameters ps)
    → RestAgain b ps x ms
    → (ts : List Token)
    → Matches (flat_arrow_parameters ps ++ (beside (fixed kinds.Arrow) ∷ ms)) ts []
    → function_code_by b (start (head_of ts)) ts ≡ Ok (x, [])
arrow_code b (trees.one_name a) x ms f rest ts m =
    rw (start_name a (head_of ts) m.0) (one_again b a x ms rest ts [] m (stops_at_end (edge x)))
arrow_code b (trees.name_list ns) x ms f rest ts m =
    let p = parts (flat_parameters ns) (beside (fixed kinds.Arrow) ∷ ms) ts [] m in
    rw (
      start_fixed kinds.LeftParenthesis classes.parenthesis (head_of ts) p.1.0 (λ s v. refl),
      parameters_again ns f ts p.0 p.1,
    )
    (rest p.0 [] p.2 (stops_at_end (edge x)))

pub function_code_again : (q : SeqAgain) (n : ℕ) (b : Below)
    → AgainBelow n b
    → (e : Expression)
    → is_function e ≡ true
    → Well e
    → height e ≤ suc n
    → (ts : List Token)
    → Matches (flat e) ts []
    → function_code_by b (start (head_of ts)) ts ≡ Ok (e, [])
function_code_again q n b h (trees.function o ps body) i w l ts m =
    rw (start_fixed kinds.Function classes.function_word (head_of ts) m.0 (λ s v. refl))
    (function_again q n b h o ps body w l ts [] m)
function_code_again q n b h (trees.arrow ps e) i w l ts m =
    arrow_code b ps (trees.arrow ps e) (flat e ++ []) w.0 (value_rest q n b h ps e w.1 w.2 w.3 (omega arith)) ts m
function_code_again q n b h (trees.arrow_block ps body) i w l ts m =
    arrow_code b ps (trees.arrow_block ps body) (flats.in_braces (flat_statements body) ++ []) w.0.0
    (block_rest q n b h ps body w.0 w.1 (omega arith)) ts m
function_code_again q n b h _ i w l ts m = absurd cc
