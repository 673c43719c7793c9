-- What the readers of the parts of a node read, where what reads below the node reads well-formed trees.
use Rattle.std.proofs.Common.{◌≡◌, ℕ, suc, ◌≤◌, Bool, true, false, List, [], ◌∷◌, ◌++◌, length, Option, Some, None, Ok, refl, sym, ap, subst, ◌∙◌, append_assoc, arith}
use Rattle.std.specs.Prelude.{◌||◌, nat_eq}
use Rattle.std.specs.Cmp.Lexicographic.{pointwise, same_text}
use Rattle.std.proofs.lemmas.List.{append-nil}
use Rattle.js_lexer.specs.declared.token.TokenKind.{TokenKind}
use Rattle.js_lexer.specs.declared.token.TokenKind.TheVariants as kinds
use Rattle.js_tree.specs.Trees as trees
use Rattle.js_tree.specs.Trees.{Identifier, Expression, Expressions, OptionalExpression, Declarator, Declarators, Statement, Statements}
use Rattle.js_parser_language.specs.Tokens.{Token, fixed, identifier, FlatToken, token, semicolon, trailing_comma, after_expression, head_of, tail_of, IsNext, Matches}
use Rattle.js_parser_language.specs.Flat as flats
use Rattle.js_parser_language.specs.Flat.{edge, flat, flat_optional, flat_expressions, more_expressions, trailing, an_identifier, more_names, flat_names, flat_parameters, flat_declarator, flat_declarators, more_declarators, flat_statement, flat_statements}
use Rattle.js_parser_language.specs.Well.{StatementContext, function_body, level, Well, WellOptional, AreAssignments, WellDeclarator, WellDeclarators, has_initializer, IsInitialized, is_some_declarator, WellStatement, WellStatements, is_among, AreFresh, declared_by, declared_names, names_of_declarators}
use Rattle.js_tree.specs.Height.{height, height_of_optional, height_of_expressions, height_of_declarator, height_of_declarators, height_of_statement, height_of_statements}
use Rattle.js_tree.specs.Views.{expressions, statements, declarators}
use Rattle.js_parser_language.specs.Kinds.{is_kind}
use Rattle.js_parser_readers.specs.Classes.{is_name}
use Rattle.js_parser_readers.specs.Reading.{stuck, ◌>>=◌, expect, name_at, fresh_name, semicolon_at, elements, others, items, ends_list, no_state, with_name, with_names}
use Rattle.js_parser_readers.specs.Productions.{ParametersAndBody, Below, one_of, arguments_before, more_assignments, names_before, parameters_at, with_declared, items_at, braces, code_at, initializer_by, declarator_at, name_of, with_declarator, declarators_at, optional_by, optional_before, ended_expression, Piece, tok, near, a_name, the_name, an_assignment, an_expression, optional, arguments, ended, an_end, declared, a_statement, a_block, in_braces, code, PieceValue, PieceValues, expect_name, item, seq}
use Rattle.js_parser_language.proofs.KindLemmas.{next_is}
use Rattle.js_parser_laws.proofs.Claims.{NoElse, TakesBlock, TakesCode, SoundBelow, marks_of, marks, Sane, height_at, LastNoElse, TakesAll, SeqSound}
use Rattle.js_parser_laws.proofs.MarkLemmas.{joins}
use Rattle.js_parser_laws.proofs.TokenLemmas.{ok_is, test_ok, expect_sound, expect_near_sound, name_sound, fresh_sound, semicolon_sound}
use Rattle.js_parser_laws.proofs.Sound.List.{behind_commas, up_to, in_a_row, AllGood, Reads, elements_sound, others_sound, items_sound}
use Rattle.js_parser_readers.proofs.ShorterLemmas.{bind_ok}
use Rattle.std.proofs.lemmas.Bool.{and_parts}
use Rattle.cdp_text.proofs.TestLemmas.{or_false}

-- ---- names

or_swap : (a b c : Bool) → (b || (a || c)) ≡ ((a || b) || c)
or_swap true true c = refl
or_swap true false c = refl
or_swap false b c = refl

-- a name is among names and further ones if it is among one of the two
pub among_with : (taken ns : List Identifier) (n : Identifier)
    → is_among (with_names taken ns) n ≡ (is_among ns n || is_among taken n)
among_with taken [] n = refl
among_with taken (m ∷ ns) n =
    among_with (m ∷ taken) ns n ∙ or_swap (pointwise nat_eq m n) (is_among ns n) (is_among taken n)

-- names that differ from some differ from all lists with the same names
pub fresh_same : (known taken ns : List Identifier)
    → ((n : Identifier) → is_among known n ≡ is_among taken n)
    → AreFresh known ns
    → AreFresh taken ns
fresh_same known taken [] same f = tt
fresh_same known taken (n ∷ ns) same f = (
  sym (same n)
      ∙ f.0,
  fresh_same (n ∷ known) (n ∷ taken) ns (λ m. ap (λ (b : Bool). pointwise nat_eq n m || b) (same m)) f.1,
)

-- the order of the names before doesn't matter
pub fresh_behind : (ps ns : List Identifier) → AreFresh (with_names [] ps) ns → AreFresh ps ns
fresh_behind ps ns f = fresh_same (with_names [] ps) ps ns (λ n. among_with [] ps n ∙ or_false (is_among ps n)) f

-- names that differ one after the other
pub fresh_append : (taken ns ms : List Identifier)
    → AreFresh taken ns
    → AreFresh (with_names taken ns) ms
    → AreFresh taken (ns ++ ms)
fresh_append taken [] ms f g = g
fresh_append taken (n ∷ ns) ms f g = (f.0, fresh_append (n ∷ taken) ns ms f.1 g)

-- ---- lists of expressions

-- an assignment, at most n high
abbrev pub GoodAssignment : ℕ → Unit {0} → Expression → Type 0
GoodAssignment n u e = Well e × (1 ≤ level e) × (height e ≤ n)

one_reads : (n : ℕ) (b : Below) → SoundBelow n b → Reads (one_of b.assignment) flat (GoodAssignment n)
one_reads n b s = λ u ts x e. let t = s.assignment ts x e in (t.marks, (t.well, t.level, t.height))

all_assignments : (n : ℕ) (u : Unit {0}) (es : List Expression)
    → AllGood no_state (GoodAssignment n) u es
    → AreAssignments (expressions es) × (height_of_expressions (expressions es) ≤ n)
all_assignments n u [] g = (tt, omega arith)
all_assignments n u (e ∷ es) g = let r = all_assignments n tt es g.1 in ((g.0.0, g.0.1, r.0), omega (arith, g.0.2, r.1))

pub more_is : (es : List Expression) → more_expressions (expressions es) ≡ behind_commas flat es
more_is [] = refl
more_is (e ∷ es) =
    ap (λ (ms : List FlatToken). token (fixed kinds.Comma) ∷ (flat e ++ ms))
    (append-nil (more_expressions (expressions es)) ∙ more_is es)

pub arguments_marks : (closer : TokenKind) (es : List Expression)
    → flat_expressions (expressions es) ++ (trailing (expressions es) ++ (token (fixed closer) ∷ []))
    ≡ up_to flat closer es
arguments_marks closer [] = refl
arguments_marks closer (e ∷ es) =
    ap (λ (ms : List FlatToken). (flat e ++ ms) ++ (trailing_comma ∷ token (fixed closer) ∷ [])) (more_is es)

pub arguments_sound : (n : ℕ) (b : Below)
    → SoundBelow n b
    → (closer : TokenKind) (ts : List Token) (x : Expressions × List Token)
    → arguments_before b closer ts ≡ Ok x
    → Matches (flat_expressions x.0 ++ (trailing x.0 ++ (token (fixed closer) ∷ []))) ts x.1
    × AreAssignments x.0
    × (height_of_expressions x.0 ≤ n)
unfolding arguments_before
arguments_sound n b s closer ts x e =
    let p = bind_ok (elements (one_of b.assignment) no_state closer (suc (length ts)) tt ts)
    (λ x. Ok (expressions x.0, x.1)) x e in
    let t = elements_sound (one_of b.assignment) no_state flat (GoodAssignment n) (one_reads n b s) closer
    (suc (length ts)) tt ts p.0 p.1 in
    let g = all_assignments n tt p.0.0 t.1 in
    subst (λ (x : Expressions × List Token). Matches
    (flat_expressions x.0 ++ (trailing x.0 ++ (token (fixed closer) ∷ []))) ts x.1
    × AreAssignments x.0
    × (height_of_expressions x.0 ≤ n))
    (ok_is (expressions p.0.0, p.0.1) x p.2)
    (subst (λ (ms : List FlatToken). Matches ms ts p.0.1) (sym (arguments_marks closer p.0.0)) t.0, g.0, g.1)

-- behind further expressions stands no comma
pub more_sound : (n : ℕ) (b : Below)
    → SoundBelow n b
    → (ts : List Token) (x : Expressions × List Token)
    → more_assignments b ts ≡ Ok x
    → Matches (more_expressions x.0) ts x.1
    × AreAssignments x.0
    × (height_of_expressions x.0 ≤ n)
    × (is_kind kinds.Comma (head_of x.1) ≡ false)
unfolding more_assignments
more_sound n b s ts x e =
    let p = bind_ok (others (one_of b.assignment) no_state (suc (length ts)) tt ts) (λ x. Ok (expressions x.0, x.1))
    x e in
    let t = others_sound (one_of b.assignment) no_state flat (GoodAssignment n) (one_reads n b s) (suc (length ts))
    tt ts p.0 p.1 in
    let g = all_assignments n tt p.0.0 t.1 in
    subst (λ (x : Expressions × List Token). Matches (more_expressions x.0) ts x.1
    × AreAssignments x.0
    × (height_of_expressions x.0 ≤ n)
    × (is_kind kinds.Comma (head_of x.1) ≡ false))
    (ok_is (expressions p.0.0, p.0.1) x p.2)
    (subst (λ (ms : List FlatToken). Matches ms ts p.0.1) (sym (more_is p.0.0)) t.0, g.0, g.1, t.2)

-- ---- parameters

pub more_names_is : (ns : List Identifier) → more_names ns ≡ behind_commas an_identifier ns
more_names_is [] = refl
more_names_is (n ∷ ns) =
    ap (λ (ms : List FlatToken). token (fixed kinds.Comma) ∷ token (identifier n) ∷ ms) (more_names_is ns)

pub names_marks : (ns : List Identifier)
    → flat_names ns ++ (token (fixed kinds.RightParenthesis) ∷ []) ≡ up_to an_identifier kinds.RightParenthesis ns
names_marks [] = refl
names_marks (n ∷ ns) =
    ap (λ (ms : List FlatToken). token (identifier n) ∷ ms)
    (append_assoc (more_names ns) (trailing_comma ∷ []) (token (fixed kinds.RightParenthesis) ∷ [])
    ∙ ap (λ (ms : List FlatToken). ms ++ (trailing_comma ∷ token (fixed kinds.RightParenthesis) ∷ [])) (more_names_is ns))

abbrev AnyName : Unit {0} → Identifier → Type 0
AnyName u n = Unit {0}

-- names up to the parenthesis
pub names_before_sound : (ts : List Token) (x : List Identifier × List Token)
    → names_before ts ≡ Ok x
    → Matches (flat_names x.0 ++ (token (fixed kinds.RightParenthesis) ∷ [])) ts x.1
unfolding names_before
names_before_sound ts x e =
    let t = elements_sound (one_of name_at) no_state an_identifier AnyName (λ u ts x e. (name_sound ts x e, tt))
    kinds.RightParenthesis (suc (length ts)) tt ts x e in
    subst (λ (ms : List FlatToken). Matches ms ts x.1) (sym (names_marks x.0)) t.0

-- a name that isn't among these
abbrev pub Differs : List Identifier → Identifier → Type 0
Differs taken n = is_among taken n ≡ false

pub all_fresh : (taken ns : List Identifier) → AllGood with_name Differs taken ns → AreFresh taken ns
all_fresh taken [] g = tt
all_fresh taken (n ∷ ns) g = (g.0, all_fresh (n ∷ taken) ns g.1)

pub parameters_sound : (ts : List Token) (x : List Identifier × List Token)
    → parameters_at ts ≡ Ok x
    → Matches (flat_parameters x.0) ts x.1 × AreFresh [] x.0
unfolding parameters_at
parameters_sound ts x e =
    let o = bind_ok (expect kinds.LeftParenthesis ts)
    (λ o. elements fresh_name with_name kinds.RightParenthesis (suc (length o.1)) [] o.1) x e in
    let p = expect_sound kinds.LeftParenthesis ts o.0 o.1 in
    let t = elements_sound fresh_name with_name an_identifier Differs fresh_sound kinds.RightParenthesis
    (suc (length o.0.1)) [] o.0.1 x o.2 in (
      joins (token (fixed kinds.LeftParenthesis) ∷ []) (flat_names x.0 ++ (token (fixed kinds.RightParenthesis) ∷ []))
          ts o.0.1 x.1 p (subst (λ (ms : List FlatToken). Matches ms o.0.1 x.1) (sym (names_marks x.0)) t.0),
      all_fresh [] x.0 t.1,
    )

-- ---- statements in braces

-- statements up to what ends a list, each at most n high
pub record TakesItems (context : StatementContext) (taken : List Identifier) (n : ℕ) (ts : List Token) (ss : Statements)
    (r : List Token) : Type 0 where
  pub marks : Matches (flat_statements ss) ts r
  pub well : WellStatements context ss
  pub fresh : AreFresh taken (declared_names ss)
  pub height : height_of_statements ss ≤ n
  pub ends : ends_list (head_of r) ≡ true

abbrev IsItem : StatementContext → ℕ → List Identifier → Statement → Type 0
IsItem context n taken s = WellStatement context s × AreFresh taken (declared_by s) × (height_of_statement s ≤ n)

all_items : (context : StatementContext) (n : ℕ) (taken : List Identifier) (ss : List Statement)
    → AllGood with_declared (IsItem context n) taken ss
    → WellStatements context (statements ss)
    × AreFresh taken (declared_names (statements ss))
    × (height_of_statements (statements ss) ≤ n)
all_items context n taken [] g = (tt, tt, omega arith)
all_items context n taken (s ∷ ss) g =
    let r = all_items context n (with_declared taken s) ss g.1 in (
      (g.0.0, r.0),
      fresh_append taken (declared_by s) (declared_names (statements ss)) g.0.1 r.1,
      omega (arith, g.0.2, r.2),
    )

pub row_is : (ss : List Statement) → flat_statements (statements ss) ≡ in_a_row flat_statement ss
row_is [] = refl
row_is (s ∷ ss) = ap (λ (ms : List FlatToken). flat_statement s ++ ms) (row_is ss)

pub items_at_sound : (n : ℕ) (b : Below)
    → SoundBelow n b
    → (context : StatementContext) (taken : List Identifier) (ts : List Token) (x : Statements × List Token)
    → items_at b context taken ts ≡ Ok x
    → TakesItems context taken n ts x.0 x.1
unfolding items_at
items_at_sound n b s context taken ts x e =
    let p = bind_ok (items (λ names r. b.item context names r) with_declared (suc (length ts)) taken ts)
    (λ x. Ok (statements x.0, x.1)) x e in
    let reads : Reads (λ names r. b.item context names r) flat_statement (IsItem context n)
    = λ names ts x e. let t = s.item context names ts x e in
    (t.marks, (t.well, t.fresh, t.height)) in
    let t = items_sound (λ names r. b.item context names r) with_declared flat_statement (IsItem context n) reads
    (suc (length ts)) taken ts p.0 p.1 in
    let g = all_items context n taken p.0.0 t.1 in
    subst (λ (x : Statements × List Token). TakesItems context taken n ts x.0 x.1)
    (ok_is (statements p.0.0, p.0.1) x p.2) (record {
      marks = subst (λ (ms : List FlatToken). Matches ms ts p.0.1) (sym (row_is p.0.0)) t.0;
      well = g.0;
      fresh = g.1;
      height = g.2;
      ends = t.2;
    })

pub braces_sound : (n : ℕ) (b : Below)
    → SoundBelow n b
    → (context : StatementContext) (taken : List Identifier) (ts : List Token) (x : Statements × List Token)
    → braces b context taken ts ≡ Ok x
    → TakesBlock context taken n ts x.0 x.1
unfolding braces
braces_sound n b s context taken ts x e =
    let o = bind_ok (expect kinds.LeftBrace ts)
    (λ o. items_at b context taken o.1 >>= λ x. expect kinds.RightBrace x.1 >>= λ c. Ok (x.0, c.1)) x e in
    let p = bind_ok (items_at b context taken o.0.1) (λ x. expect kinds.RightBrace x.1 >>= λ c. Ok (x.0, c.1)) x o.2 in
    let c = bind_ok (expect kinds.RightBrace p.0.1) (λ c. Ok (p.0.0, c.1)) x p.2 in
    let t = items_at_sound n b s context taken o.0.1 p.0 p.1 in
    subst (λ (x : Statements × List Token). TakesBlock context taken n ts x.0 x.1) (ok_is (p.0.0, c.0.1) x c.2)
    (record {
      marks =
          joins (token (fixed kinds.LeftBrace) ∷ []) (flat_statements p.0.0 ++ (token (fixed kinds.RightBrace) ∷ []))
          ts o.0.1 c.0.1 (expect_sound kinds.LeftBrace ts o.0 o.1)
          (joins (flat_statements p.0.0) (token (fixed kinds.RightBrace) ∷ []) o.0.1 p.0.1 c.0.1 t.marks
          (expect_sound kinds.RightBrace p.0.1 c.0 c.1));
      well = t.well;
      fresh = t.fresh;
      height = t.height;
    })

pub code_sound : (n : ℕ) (b : Below)
    → SoundBelow n b
    → (ts : List Token) (x : ParametersAndBody × List Token)
    → code_at b ts ≡ Ok x
    → TakesCode n ts x.0 x.1
unfolding code_at
code_sound n b s ts x e =
    let p = bind_ok (parameters_at ts)
    (λ ps. braces b function_body (with_names [] ps.0) ps.1 >>= λ body. Ok
    (record { parameters = ps.0; body = body.0 }, body.1))
    x e in
    let q = bind_ok (braces b function_body (with_names [] p.0.0) p.0.1)
    (λ body. Ok (record { parameters = p.0.0; body = body.0 }, body.1)) x p.2 in
    let t = parameters_sound ts p.0 p.1 in
    let u = braces_sound n b s function_body (with_names [] p.0.0) p.0.1 q.0 q.1 in
    subst (λ (x : ParametersAndBody × List Token). TakesCode n ts x.0 x.1)
    (ok_is (record { parameters = p.0.0; body = q.0.0 }, q.0.1) x q.2) (record {
      marks = joins (flat_parameters p.0.0) (flats.in_braces (flat_statements q.0.0)) ts p.0.1 q.0.1 t.0 u.marks;
      differ = (t.1, fresh_behind p.0.0 (declared_names q.0.0) u.fresh);
      well = u.well;
      height = u.height;
    })

-- ---- declared names

-- a constant has an initializer
abbrev pub InitializedOne : Bool → Declarator → Type 0
InitializedOne false d = Unit {0}
InitializedOne true d = has_initializer d ≡ true

pub record TakesDeclarator (constant : Bool) (taken : List Identifier) (n : ℕ) (ts : List Token) (d : Declarator)
    (r : List Token) : Type 0 where
  pub marks : Matches (flat_declarator d) ts r
  pub well : WellDeclarator d
  pub initialized : InitializedOne constant d
  pub fresh : is_among taken (name_of d) ≡ false
  pub height : height_of_declarator d ≤ n

pub initialized_present : (constant : Bool) (m : Identifier) (e : Expression)
    → InitializedOne constant (trees.declarator m (trees.present e))
initialized_present true m e = refl
initialized_present false m e = tt

initializer_sound : (n : ℕ) (b : Below)
    → SoundBelow n b
    → (constant : Bool) (taken : List Identifier) (ts : List Token) (m : Identifier) (r : List Token)
    → Matches (token (identifier m) ∷ []) ts r
    → is_among taken m ≡ false
    → (a : Bool)
    → is_kind kinds.Assign (head_of r) ≡ a
    → (x : Declarator × List Token)
    → initializer_by b constant m a r ≡ Ok x
    → TakesDeclarator constant taken n ts x.0 x.1
initializer_sound n b s constant taken ts m r t f true h x e =
    let p = bind_ok (b.assignment (tail_of r)) (λ e. Ok (trees.declarator m (trees.present e.0), e.1)) x e in
    let u = s.assignment (tail_of r) p.0 p.1 in
    subst (λ (x : Declarator × List Token). TakesDeclarator constant taken n ts x.0 x.1)
    (ok_is (trees.declarator m (trees.present p.0.0), p.0.1) x p.2) (record {
      marks =
          joins (token (identifier m) ∷ []) (token (fixed kinds.Assign) ∷ (flat p.0.0 ++ [])) ts r p.0.1 t
          (next_is kinds.Assign (head_of r) h, joins (flat p.0.0) [] (tail_of r) p.0.1 p.0.1 u.marks refl);
      well = (u.well, u.level);
      initialized = initialized_present constant m p.0.0;
      fresh = f;
      height = u.height;
    })
initializer_sound n b s true taken ts m r t f false h x e = absurd cc
initializer_sound n b s false taken ts m r t f false h x e =
    subst (λ (x : Declarator × List Token). TakesDeclarator false taken n ts x.0 x.1)
    (ok_is (trees.declarator m trees.omitted, r) x e) (record {
      marks = t;
      well = tt;
      initialized = tt;
      fresh = f;
      height = omega arith;
    })

pub declarator_sound : (n : ℕ) (b : Below)
    → SoundBelow n b
    → (constant : Bool) (taken : List Identifier) (ts : List Token) (x : Declarator × List Token)
    → declarator_at b constant taken ts ≡ Ok x
    → TakesDeclarator constant taken n ts x.0 x.1
unfolding declarator_at
declarator_sound n b s constant taken ts x e =
    let p = bind_ok (fresh_name taken ts) (λ n. initializer_by b constant n.0 (is_kind kinds.Assign (head_of n.1)) n.1)
    x e in
    let t = fresh_sound taken ts p.0 p.1 in
    initializer_sound n b s constant taken ts p.0.0 p.0.1 t.0 t.1 (is_kind kinds.Assign (head_of p.0.1)) refl x p.2

pub record TakesDeclarators (constant : Bool) (taken : List Identifier) (n : ℕ) (ts : List Token) (ds : Declarators)
    (r : List Token) : Type 0 where
  pub marks : Matches (flat_declarators ds) ts r
  pub some : is_some_declarator ds ≡ true
  pub well : WellDeclarators ds
  pub initialized : IsInitialized constant ds
  pub fresh : AreFresh taken (names_of_declarators ds)
  pub height : height_of_declarators ds ≤ n

abbrev IsDeclarator : Bool → ℕ → List Identifier → Declarator → Type 0
IsDeclarator constant n taken d =
    WellDeclarator d × InitializedOne constant d × (is_among taken (name_of d) ≡ false) × (height_of_declarator d ≤ n)

pub initialized_more : (constant : Bool) (d : Declarator) (ds : Declarators)
    → InitializedOne constant d
    → IsInitialized constant ds
    → IsInitialized constant (trees.a_declarator d ds)
initialized_more true d ds i is = (i, is)
initialized_more false d ds i is = tt

pub no_more_initialized : (constant : Bool) → IsInitialized constant trees.no_declarators
no_more_initialized true = tt
no_more_initialized false = tt

pub fresh_more : (taken : List Identifier) (d : Declarator) (ds : Declarators)
    → is_among taken (name_of d) ≡ false
    → AreFresh (with_declarator taken d) (names_of_declarators ds)
    → AreFresh taken (names_of_declarators (trees.a_declarator d ds))
fresh_more taken (trees.declarator n e) ds f g = (f, g)

all_declarators : (constant : Bool) (n : ℕ) (taken : List Identifier) (ds : List Declarator)
    → AllGood with_declarator (IsDeclarator constant n) taken ds
    → WellDeclarators (declarators ds)
    × IsInitialized constant (declarators ds)
    × AreFresh taken (names_of_declarators (declarators ds))
    × (height_of_declarators (declarators ds) ≤ n)
all_declarators constant n taken [] g = (tt, no_more_initialized constant, tt, omega arith)
all_declarators constant n taken (d ∷ ds) g =
    let r = all_declarators constant n (with_declarator taken d) ds g.1 in (
      (g.0.0, r.0),
      initialized_more constant d (declarators ds) g.0.1 r.1,
      fresh_more taken d (declarators ds) g.0.2 r.2,
      omega (arith, g.0.3, r.3),
    )

pub more_declarators_is : (ds : List Declarator) → more_declarators (declarators ds) ≡ behind_commas flat_declarator ds
more_declarators_is [] = refl
more_declarators_is (d ∷ ds) =
    ap (λ (ms : List FlatToken). token (fixed kinds.Comma) ∷ (flat_declarator d ++ ms))
    (append-nil (more_declarators (declarators ds)) ∙ more_declarators_is ds)

pub declarators_sound : (n : ℕ) (b : Below)
    → SoundBelow n b
    → (constant : Bool) (taken : List Identifier) (ts : List Token) (x : Declarators × List Token)
    → declarators_at b constant taken ts ≡ Ok x
    → TakesDeclarators constant taken n ts x.0 x.1
unfolding declarators_at
declarators_sound n b s constant taken ts x e =
    let p = bind_ok (declarator_at b constant taken ts)
    (λ d. others (λ names r. declarator_at b constant names r) with_declarator (suc (length d.1))
    (with_declarator taken d.0) d.1 >>= λ ds. Ok (trees.a_declarator d.0 (declarators ds.0), ds.1))
    x e in
    let q = bind_ok
    (others (λ names r. declarator_at b constant names r) with_declarator (suc (length p.0.1))
    (with_declarator taken p.0.0) p.0.1)
    (λ ds. Ok (trees.a_declarator p.0.0 (declarators ds.0), ds.1)) x p.2 in
    let reads : Reads (λ names r. declarator_at b constant names r) flat_declarator (IsDeclarator constant n)
    = λ names ts x e. let t = declarator_sound n b s constant names ts x e in
    (t.marks, (t.well, t.initialized, t.fresh, t.height)) in
    let t = declarator_sound n b s constant taken ts p.0 p.1 in
    let u = others_sound (λ names r. declarator_at b constant names r) with_declarator flat_declarator
    (IsDeclarator constant n) reads (suc (length p.0.1)) (with_declarator taken p.0.0) p.0.1 q.0 q.1 in
    let g = all_declarators constant n (with_declarator taken p.0.0) q.0.0 u.1 in
    subst (λ (x : Declarators × List Token). TakesDeclarators constant taken n ts x.0 x.1)
    {x = (trees.a_declarator p.0.0 (declarators q.0.0), q.0.1)}
    (ok_is (trees.a_declarator p.0.0 (declarators q.0.0), q.0.1) x q.2) (record {
      marks =
          joins (flat_declarator p.0.0) (more_declarators (declarators q.0.0)) ts p.0.1 q.0.1 t.marks
          (subst (λ (ms : List FlatToken). Matches ms p.0.1 q.0.1) (sym (more_declarators_is q.0.0)) u.0);
      some = refl;
      well = (t.well, g.0);
      initialized = initialized_more constant p.0.0 (declarators q.0.0) t.initialized g.1;
      fresh = fresh_more taken p.0.0 (declarators q.0.0) t.fresh g.2;
      height = omega (arith, t.height, g.3);
    })

-- ---- expressions with what ends them

optional_by_sound : (n : ℕ) (b : Below)
    → SoundBelow n b
    → (closer : TokenKind) (c : Bool) (ts : List Token)
    → is_kind closer (head_of ts) ≡ c
    → (x : OptionalExpression × List Token)
    → optional_by b closer c ts ≡ Ok x
    → Matches (flat_optional x.0 ++ (token (fixed closer) ∷ [])) ts x.1
    × WellOptional x.0
    × (height_of_optional x.0 ≤ n)
optional_by_sound n b s closer true ts h x e =
    subst (λ (x : OptionalExpression × List Token). Matches (flat_optional x.0 ++ (token (fixed closer) ∷ [])) ts x.1
    × WellOptional x.0
    × (height_of_optional x.0 ≤ n))
    (ok_is (trees.omitted, tail_of ts) x e)
    ((next_is closer (head_of ts) h, refl), tt, omega arith)
optional_by_sound n b s closer false ts h x e =
    let p = bind_ok (b.expression ts) (λ e. expect closer e.1 >>= λ c. Ok (trees.present e.0, c.1)) x e in
    let c = bind_ok (expect closer p.0.1) (λ c. Ok (trees.present p.0.0, c.1)) x p.2 in
    let t = s.expression ts p.0 p.1 in
    subst (λ (x : OptionalExpression × List Token). Matches (flat_optional x.0 ++ (token (fixed closer) ∷ [])) ts x.1
    × WellOptional x.0
    × (height_of_optional x.0 ≤ n))
    (ok_is (trees.present p.0.0, c.0.1) x c.2) (
      joins (flat p.0.0) (token (fixed closer) ∷ []) ts p.0.1 c.0.1 t.marks (expect_sound closer p.0.1 c.0 c.1),
      t.well,
      t.height,
    )

pub optional_sound : (n : ℕ) (b : Below)
    → SoundBelow n b
    → (closer : TokenKind) (ts : List Token) (x : OptionalExpression × List Token)
    → optional_before b closer ts ≡ Ok x
    → Matches (flat_optional x.0 ++ (token (fixed closer) ∷ [])) ts x.1
    × WellOptional x.0
    × (height_of_optional x.0 ≤ n)
unfolding optional_before
optional_sound n b s closer ts x e = optional_by_sound n b s closer (is_kind closer (head_of ts)) ts refl x e

pub ended_sound : (n : ℕ) (b : Below)
    → SoundBelow n b
    → (ts : List Token) (x : Expression × List Token)
    → ended_expression b ts ≡ Ok x
    → Matches (flat x.0 ++ (semicolon (after_expression (edge x.0)) ∷ [])) ts x.1 × Well x.0 × (height x.0 ≤ n)
unfolding ended_expression
ended_sound n b s ts x e =
    let p = bind_ok (b.expression ts) (λ e. semicolon_at (after_expression (edge e.0)) e.1 >>= λ s. Ok (e.0, s.1))
    x e in
    let c = bind_ok (semicolon_at (after_expression (edge p.0.0)) p.0.1) (λ s. Ok (p.0.0, s.1)) x p.2 in
    let t = s.expression ts p.0 p.1 in
    subst (λ (x : Expression × List Token). Matches (flat x.0 ++ (semicolon (after_expression (edge x.0)) ∷ [])) ts x.1
    × Well x.0
    × (height x.0 ≤ n))
    (ok_is (p.0.0, c.0.1) x c.2) (
      joins (flat p.0.0) (semicolon (after_expression (edge p.0.0)) ∷ []) ts p.0.1 c.0.1 t.marks
          (semicolon_sound (after_expression (edge p.0.0)) p.0.1 c.0 c.1),
      t.well,
      t.height,
    )

-- this name is next
pub name_is : (n : List ℕ) (o : Option Token) → is_name n o ≡ true → IsNext (identifier n) o
name_is n None e = absurd cc
name_is n (Some t) e =
    let p = and_parts (is_kind kinds.Name (Some t)) (pointwise nat_eq t.string_value n) e in
    (next_is kinds.Name (Some t) p.0, same_text t.string_value n (sym p.1))

pub expect_name_sound : (n : List ℕ) (ts : List Token) (y : Unit {0} × List Token)
    → expect_name n ts ≡ Ok y
    → Matches (token (identifier n) ∷ []) ts y.1
unfolding expect_name
expect_name_sound n ts y e =
    let t = test_ok (is_name n (head_of ts)) (Ok (tt, tail_of ts)) (stuck (length ts)) y e in
    (name_is n (head_of ts) t.0, ap (λ (p : Unit {0} × List Token). p.1) (ok_is (tt, tail_of ts) y t.1))

-- ---- items and productions

-- no else behind a statement that ends in an if without one
abbrev pub ItemNoElse : (i : Piece) → PieceValue i → List Token → Type 0
ItemNoElse (a_statement context) s r = NoElse s r
ItemNoElse i v r = Unit {0}

pub record TakesOne (n : ℕ) (i : Piece) (ts : List Token) (v : PieceValue i) (r : List Token) : Type 0 where
  pub marks : Matches (marks_of i v) ts r
  pub sane : Sane i v
  pub last : ItemNoElse i v r
  pub height : height_at i v ≤ n

pub item_sound : (n : ℕ) (b : Below)
    → SoundBelow n b
    → (i : Piece) (ts : List Token) (x : PieceValue i × List Token)
    → item b i ts ≡ Ok x
    → TakesOne n i ts x.0 x.1
item_sound n b s (tok k) ts x e = record { marks = expect_sound k ts x e; sane = tt; last = tt; height = omega arith }
item_sound n b s (near k) ts x e =
    record { marks = expect_near_sound k ts x e; sane = tt; last = tt; height = omega arith }
item_sound n b s a_name ts x e = record { marks = name_sound ts x e; sane = tt; last = tt; height = omega arith }
item_sound n b s (the_name m) ts x e =
    record { marks = expect_name_sound m ts x e; sane = tt; last = tt; height = omega arith }
item_sound n b s an_assignment ts x e =
    let t = s.assignment ts x e in record { marks = t.marks; sane = (t.well, t.level); last = tt; height = t.height }
item_sound n b s an_expression ts x e =
    let t = s.expression ts x e in record { marks = t.marks; sane = t.well; last = tt; height = t.height }
item_sound n b s (optional k) ts x e =
    let t = optional_sound n b s k ts x e in record { marks = t.0; sane = t.1; last = tt; height = t.2 }
item_sound n b s (arguments k) ts x e =
    let t = arguments_sound n b s k ts x e in record { marks = t.0; sane = t.1; last = tt; height = t.2 }
item_sound n b s ended ts x e =
    let t = ended_sound n b s ts x e in record { marks = t.0; sane = t.1; last = tt; height = t.2 }
item_sound n b s (an_end end) ts x e =
    record { marks = semicolon_sound end ts x e; sane = tt; last = tt; height = omega arith }
item_sound n b s (declared constant taken) ts x e =
    let t = declarators_sound n b s constant taken ts x e in
    record { marks = t.marks; sane = (t.some, t.well, t.initialized, t.fresh); last = tt; height = t.height }
item_sound n b s (a_statement context) ts x e =
    let t = s.statement context ts x e in
    record { marks = t.marks; sane = (t.well, t.form); last = t.no_else; height = t.height }
item_sound n b s (a_block context taken) ts x e =
    let t = s.block context taken ts x e in
    record { marks = t.0.marks; sane = (t.0.fresh, t.0.well); last = tt; height = t.1 }
item_sound n b s (in_braces context taken) ts x e =
    let t = braces_sound n b s context taken ts x e in
    record { marks = t.marks; sane = (t.fresh, t.well); last = tt; height = t.height }
item_sound n b s code ts x e =
    let t = code_sound n b s ts x e in
    record { marks = t.marks; sane = (t.differ, t.well); last = tt; height = t.height }

last_one : (i : Piece) (vs : PieceValues (i ∷ [])) (r : List Token) → ItemNoElse i vs.0 r → LastNoElse (i ∷ []) vs r
last_one (a_statement context) vs r h = h
last_one _ vs r h = tt

last_more : (i j : Piece) (is : List Piece) (vs : PieceValues (i ∷ j ∷ is)) (r : List Token)
    → LastNoElse (j ∷ is) vs.1 r
    → LastNoElse (i ∷ j ∷ is) vs r
last_more (a_statement context) j is vs r h = h
last_more _ j is vs r h = h

last_of : (i : Piece) (is : List Piece) (vs : PieceValues (i ∷ is)) (us r : List Token)
    → ItemNoElse i vs.0 us
    → Matches (marks is vs.1) us r
    → LastNoElse is vs.1 r
    → LastNoElse (i ∷ is) vs r
last_of i [] vs us r h m l = last_one i vs r (subst (λ (r : List Token). ItemNoElse i vs.0 r) m h)
last_of i (j ∷ is) vs us r h m l = last_more i j is vs r l

pub seq_sound : SeqSound
seq_sound n b s [] ts x e =
    subst (λ (x : Unit {0} × List Token). TakesAll n [] ts x.0 x.1) (ok_is (tt, ts) x e)
    (record { marks = refl; sane = tt; last = tt; height = omega arith })
seq_sound n b s (i ∷ is) ts x e =
    let p = bind_ok (item b i ts) (λ x. seq b is x.1 >>= λ y. Ok ((x.0, y.0), y.1)) x e in
    let q = bind_ok (seq b is p.0.1) (λ y. Ok ((p.0.0, y.0), y.1)) x p.2 in
    let t = item_sound n b s i ts p.0 p.1 in
    let u = seq_sound n b s is p.0.1 q.0 q.1 in
    subst (λ (x : PieceValues (i ∷ is) × List Token). TakesAll n (i ∷ is) ts x.0 x.1) (ok_is ((p.0.0, q.0.0), q.0.1) x q.2)
    (record {
      marks = joins (marks_of i p.0.0) (marks is q.0.0) ts p.0.1 q.0.1 t.marks u.marks;
      sane = (t.sane, u.sane);
      last = last_of i is (p.0.0, q.0.0) p.0.1 q.0.1 t.last u.marks u.last;
      height = omega (arith, t.height, u.height);
    })
