-- The parts of trees and the productions are read again.
use Rattle.std.proofs.Common.{◌≡◌, ℕ, suc, ◌≤◌, Bool, true, false, List, [], ◌∷◌, ◌++◌, length, Option, Some, None, Ok, refl, sym, ap, subst, ◌∙◌, inl, inr, append_assoc, arith}
use Rattle.std.specs.Prelude.{◌||◌, nat_eq}
use Rattle.std.specs.Cmp.Lexicographic.{pointwise}
use Rattle.std.proofs.lemmas.List.{append-nil}
use Rattle.js_lexer.specs.declared.token.TokenKind.{TokenKind}
use Rattle.js_lexer.specs.declared.token.TokenKind.TheVariants as kinds
use Rattle.js_tree.specs.Trees as trees
use Rattle.js_tree.specs.Trees.{Identifier, Expression, Expressions, OptionalExpression, Declarator, Declarators, Statement, Statements}
use Rattle.js_parser_language.specs.Tokens.{Token, fixed, identifier, IsNext, after_expression, after_word, FlatToken, token, semicolon, trailing_comma, head_of, tail_of, Matches}
use Rattle.js_parser_language.specs.Flat as flats
use Rattle.js_parser_language.specs.Flat.{edge, edge_of_last, end_of_declarators, an_identifier, more_names, flat_names, flat_parameters, flat, flat_expressions, more_expressions, trailing, flat_optional, flat_declarator, flat_declarators, more_declarators, flat_statement, flat_statements}
use Rattle.js_parser_language.specs.Well.{StatementContext, function_body, Well, WellOptional, AreAssignments, WellDeclarator, WellDeclarators, has_initializer, IsInitialized, is_some_declarator, WellStatement, WellStatements, is_among, AreFresh, DifferIn, declared_by, declared_names, names_of_declarators}
use Rattle.js_tree.specs.Height.{height, height_of_optional, height_of_expressions, height_of_declarator, height_of_declarators, height_of_statement, height_of_statements}
use Rattle.js_tree.specs.Views.{expressions, statements, declarators}
use Rattle.js_parser_language.specs.Kinds.{is_kind}
use Rattle.js_parser_readers.specs.Reading.{expect, name_at, fresh_name, elements, others, items, ends_list, no_state, with_name, with_names}
use Rattle.js_parser_readers.specs.Productions.{ParametersAndBody, Below, one_of, arguments_before, more_assignments, names_before, parameters_at, with_declared, items_at, braces, code_at, declarator_at, name_of, with_declarator, declarators_at, optional_before, ended_expression}
use Rattle.js_parser_language.proofs.KindLemmas.{next_again, kind_not}
use Rattle.js_parser_laws.proofs.Claims.{Stops, NoComma, follows_statement, Follows, closes, AgainBelow}
use Rattle.js_parser_laws.proofs.MarkLemmas.{parts}
use Rattle.js_parser_laws.proofs.TokenLemmas.{expect_again, name_again, fresh_again, semicolon_again}
use Rattle.js_parser_laws.proofs.Sound.Part.{Differs, GoodAssignment}
use Rattle.js_parser_laws.proofs.Sound.List.{behind_commas, with_commas, behind_last, in_a_row, AllGood}
use Rattle.js_parser_laws.proofs.Again.List.{elements_again, LastEnds, others_again, items_again}
use Rattle.js_parser_laws.proofs.Again.Front.{expression_opens, opens_not, closes_opens, closes_stops, comma_closes, comma_stops, semicolon_stops, word_stops, statement_starts, starts_follows, ends_follows}
use Rattle.js_parser_laws.proofs.Sound.Part.{more_names_is}
use Rattle.std.proofs.lemmas.Bool.{or_parts, or_from}

-- ---- lists of expressions

abbrev pub list_of : Expressions → List Expression
list_of trees.no_expressions = []
list_of (trees.an_expression e es) = e ∷ list_of es

list_is : (es : Expressions) → expressions (list_of es) ≡ es
list_is trees.no_expressions = refl
list_is (trees.an_expression e es) = ap (λ (l : Expressions). trees.an_expression e l) (list_is es)

more_marks : (es : Expressions) → more_expressions es ≡ behind_commas flat (list_of es)
more_marks trees.no_expressions = refl
more_marks (trees.an_expression e es) =
    ap (λ (l : List FlatToken). token (fixed kinds.Comma) ∷ (flat e ++ l)) (append-nil (more_expressions es) ∙ more_marks es)

list_marks : (es : Expressions) → flat_expressions es ≡ with_commas flat (list_of es)
list_marks trees.no_expressions = refl
list_marks (trees.an_expression e es) = ap (λ (l : List FlatToken). flat e ++ l) (more_marks es)

trailing_marks : (es : Expressions) → trailing es ≡ behind_last (list_of es)
trailing_marks trees.no_expressions = refl
trailing_marks (trees.an_expression e es) = refl

good_assignments : (n : ℕ) (es : Expressions)
    → AreAssignments es
    → height_of_expressions es ≤ n
    → AllGood no_state (GoodAssignment n) tt (list_of es)
good_assignments n trees.no_expressions w h = tt
good_assignments n (trees.an_expression e es) w h =
    ((w.0, w.1, omega (arith, h)), good_assignments n es w.2 (omega (arith, h)))

pub arguments_again : (n : ℕ) (b : Below)
    → AgainBelow n b
    → (k : TokenKind)
    → closes k ≡ true
    → (es : Expressions)
    → AreAssignments es
    → height_of_expressions es ≤ n
    → (ts r : List Token)
    → Matches (flat_expressions es ++ (trailing es ++ (token (fixed k) ∷ []))) ts r
    → arguments_before b k ts ≡ Ok (es, r)
unfolding arguments_before
arguments_again n b a k c es w h ts r m =
    let n_marks : flat_expressions es ++ (trailing es ++ (token (fixed k) ∷ [])) ≡ with_commas flat (list_of es) ++
    (behind_last (list_of es) ++ (token (fixed k) ∷ [])) = rw (list_marks es, trailing_marks es) refl in
    let read : elements (one_of b.assignment) no_state k (suc (length ts)) tt ts ≡ Ok (list_of es, r) =
    elements_again (one_of b.assignment) no_state flat (GoodAssignment n) k (comma_closes k c)
    (λ s e g us v q. opens_not k (head_of us) (expression_opens e g.0 us v q) (closes_opens k c))
    (λ s e g us v q x. a.assignment e g.0 g.1 g.2 us v q
    (elim x [ inl y ↦ (closes_stops k c v y (edge e)).0 | inr y ↦ comma_stops v y (edge e) ]))
    (list_of es) (suc (length ts)) tt ts r (good_assignments n es w h) (omega arith)
    (subst (λ (l : List FlatToken). Matches l ts r) n_marks m) in
    rw (read, list_is es) refl

-- the last of these ends here
last_stops : (e : Expression) (es : Expressions) (r : List Token)
    → Stops (edge_of_last (trees.an_expression e es)) r
    → LastEnds (λ e r. Stops (edge e) r) (list_of es) r
last_stops e trees.no_expressions r s = tt
last_stops e (trees.an_expression f trees.no_expressions) r s = s
last_stops e (trees.an_expression f (trees.an_expression g es)) r s = last_stops f (trees.an_expression g es) r s

pub more_again : (n : ℕ) (b : Below)
    → AgainBelow n b
    → (e : Expression) (es : Expressions)
    → AreAssignments es
    → height_of_expressions es ≤ n
    → (ts r : List Token)
    → Matches (more_expressions es) ts r
    → Stops (edge_of_last (trees.an_expression e es)) r
    → NoComma r
    → more_assignments b ts ≡ Ok (es, r)
unfolding more_assignments
more_again n b a e es w h ts r m s no_comma =
    let read : others (one_of b.assignment) no_state (suc (length ts)) tt ts ≡ Ok (list_of es, r) =
    others_again (one_of b.assignment) no_state flat (GoodAssignment n) (λ e r. Stops (edge e) r)
    (λ e u c. comma_stops u c (edge e))
    (λ s e g us v q x. a.assignment e g.0 g.1 g.2 us v q x)
    (list_of es) (suc (length ts)) tt ts r (good_assignments n es w h) (omega arith) (last_stops e es r s) no_comma
    (subst (λ (l : List FlatToken). Matches l ts r) (more_marks es) m) in
    rw (read, list_is es) refl

-- ---- names

-- names up to the parenthesis behind them
names_marks : (ns : List Identifier)
    → flat_names ns ++ (token (fixed kinds.RightParenthesis) ∷ []) ≡ with_commas an_identifier ns ++
    (behind_last ns ++ (token (fixed kinds.RightParenthesis) ∷ []))
names_marks [] = refl
names_marks (n ∷ ns) =
    ap (λ (l : List FlatToken). token (identifier n) ∷ l)
    (append_assoc (more_names ns) (trailing_comma ∷ []) (token (fixed kinds.RightParenthesis) ∷ [])
    ∙ ap (λ (l : List FlatToken). l ++ (trailing_comma ∷ token (fixed kinds.RightParenthesis) ∷ []))
    (more_names_is ns))

name_no_closer : (n : Identifier) (o : Option Token)
    → IsNext (identifier n) o
    → is_kind kinds.RightParenthesis o ≡ false
name_no_closer n None m = refl
name_no_closer n (Some t) m =
    kind_not kinds.Name kinds.RightParenthesis (Some t) (next_again kinds.Name (Some t) m.0) refl

any_names : (ns : List Identifier) → AllGood no_state (λ (s : Unit {0}) (n : Identifier). Unit {0}) tt ns
any_names [] = tt
any_names (n ∷ ns) = (tt, any_names ns)

pub names_again : (ns : List Identifier) (ts r : List Token)
    → Matches (flat_names ns ++ (token (fixed kinds.RightParenthesis) ∷ [])) ts r
    → names_before ts ≡ Ok (ns, r)
unfolding names_before
names_again ns ts r m =
    elements_again (one_of name_at) no_state an_identifier (λ (s : Unit {0}) (n : Identifier). Unit {0})
    kinds.RightParenthesis refl
    (λ s x g us v q. name_no_closer x (head_of us) q.0)
    (λ s x g us v q y. name_again x us v q)
    ns (suc (length ts)) tt ts r (any_names ns) (omega arith)
    (subst (λ (l : List FlatToken). Matches l ts r) (names_marks ns) m)

good_names : (taken ns : List Identifier) → AreFresh taken ns → AllGood with_name Differs taken ns
good_names taken [] f = tt
good_names taken (n ∷ ns) f = (f.0, good_names (n ∷ taken) ns f.1)

pub parameters_again : (ns : List Identifier)
    → AreFresh [] ns
    → (ts r : List Token)
    → Matches (flat_parameters ns) ts r
    → parameters_at ts ≡ Ok (ns, r)
unfolding parameters_at
parameters_again ns f ts r m =
    let start : expect kinds.LeftParenthesis ts ≡ Ok (tt, tail_of ts) = expect_again kinds.LeftParenthesis ts
    (tail_of ts) (m.0, refl) in
    let read : elements fresh_name with_name kinds.RightParenthesis (suc (length (tail_of ts))) [] (tail_of ts) ≡ Ok
    (ns, r) =
    elements_again fresh_name with_name an_identifier Differs kinds.RightParenthesis refl
    (λ s x g us v q. name_no_closer x (head_of us) q.0)
    (λ s x g us v q y. fresh_again s x us v q g)
    ns (suc (length (tail_of ts))) [] (tail_of ts) r (good_names [] ns f) (omega arith)
    (subst (λ (l : List FlatToken). Matches l (tail_of ts) r) (names_marks ns) m.1) in
    rw start read

-- ---- names that differ

-- names that differ from some and from one another differ from fewer
fresh_under : (ns taken fewer : List Identifier)
    → ((n : Identifier) → is_among taken n ≡ false → is_among fewer n ≡ false)
    → AreFresh taken ns
    → AreFresh fewer ns
fresh_under [] taken fewer u f = tt
fresh_under (n ∷ ns) taken fewer u f = (u n f.0, fresh_under ns (n ∷ taken) (n ∷ fewer) under f.1)
  where
    or_false : (x y z : Bool) → (y ≡ false → z ≡ false) → (x || y) ≡ false → (x || z) ≡ false
    or_false true y z i e = e
    or_false false y z i e = i e

    under : (m : Identifier) → is_among (n ∷ taken) m ≡ false → is_among (n ∷ fewer) m ≡ false
    under m e = or_false (pointwise nat_eq n m) (is_among taken m) (is_among fewer m) (u m) e

fresh_parts : (taken ms ns : List Identifier)
    → AreFresh taken (ms ++ ns)
    → AreFresh taken ms × AreFresh (with_names taken ms) ns
fresh_parts taken [] ns f = (tt, f)
fresh_parts taken (m ∷ ms) ns f = let p = fresh_parts (m ∷ taken) ms ns f.1 in ((f.0, p.0), p.1)

among_names : (ns taken : List Identifier) (m : Identifier)
    → is_among ns m ≡ false
    → is_among taken m ≡ false
    → is_among (with_names taken ns) m ≡ false
among_names [] taken m e f = f
among_names (n ∷ ns) taken m e f =
    let p = or_parts (pointwise nat_eq n m) (is_among ns m) e in
    among_names ns (n ∷ taken) m p.1 (or_from (pointwise nat_eq n m) (is_among taken m) p.0 f)

-- the names of a body differ from parameters, in either order
pub fresh_behind : (ps ns : List Identifier) → AreFresh ps ns → AreFresh (with_names [] ps) ns
fresh_behind ps ns f = fresh_under ns ps (with_names [] ps) (λ m e. among_names ps [] m e refl) f

-- ---- statements

abbrev pub statements_of : Statements → List Statement
statements_of trees.no_statements = []
statements_of (trees.a_statement s ss) = s ∷ statements_of ss

statements_are : (ss : Statements) → statements (statements_of ss) ≡ ss
statements_are trees.no_statements = refl
statements_are (trees.a_statement s ss) = ap (λ (l : Statements). trees.a_statement s l) (statements_are ss)

statements_marks : (ss : Statements) → flat_statements ss ≡ in_a_row flat_statement (statements_of ss)
statements_marks trees.no_statements = refl
statements_marks (trees.a_statement s ss) = ap (λ (l : List FlatToken). flat_statement s ++ l) (statements_marks ss)

-- a statement or declaration of other names than those taken, at most n high
abbrev pub GoodItem : ℕ → StatementContext → List Identifier → Statement → Type 0
GoodItem n context taken s = WellStatement context s × AreFresh taken (declared_by s) × (height_of_statement s ≤ n)

good_items : (n : ℕ) (context : StatementContext) (taken : List Identifier) (ss : Statements)
    → WellStatements context ss
    → AreFresh taken (declared_names ss)
    → height_of_statements ss ≤ n
    → AllGood with_declared (GoodItem n context) taken (statements_of ss)
good_items n context taken trees.no_statements w f h = tt
good_items n context taken (trees.a_statement s ss) w f h =
    let p = fresh_parts taken (declared_by s) (declared_names ss) f in
    ((w.0, p.0, omega (arith, h)), good_items n context (with_declared taken s) ss w.1 p.1 (omega (arith, h)))

pub statements_again : (n : ℕ) (b : Below)
    → AgainBelow n b
    → (context : StatementContext) (taken : List Identifier) (ss : Statements)
    → WellStatements context ss
    → AreFresh taken (declared_names ss)
    → height_of_statements ss ≤ n
    → (ts r : List Token)
    → Matches (flat_statements ss) ts r
    → ends_list (head_of r) ≡ true
    → items_at b context taken ts ≡ Ok (ss, r)
unfolding items_at
statements_again n b a context taken ss w f h ts r m e =
    let read : items (λ names r. b.item context names r) with_declared (suc (length ts)) taken ts ≡ Ok
    (statements_of ss, r) =
    items_again (λ names r. b.item context names r) with_declared flat_statement (GoodItem n context)
    (λ s r. Follows s r)
    (λ names s g us v q. let p = statement_starts context s g.0 us v q in ((starts_follows (head_of us) p.0).1, p.1))
    (λ s u d. let p = ends_follows (head_of u) d in (p.0, λ i. p.1))
    (λ s names x g us v q. let p = starts_follows (head_of us) (statement_starts context x g.0 us v q).0 in
    (p.0, λ i. p.2))
    (λ names s g us v q x. a.item context names s g.0 g.1 g.2 us v q x)
    (statements_of ss) (suc (length ts)) taken ts r (good_items n context taken ss w f h) (omega arith) e
    (subst (λ (l : List FlatToken). Matches l ts r) (statements_marks ss) m) in
    rw (read, statements_are ss) refl

brace_ends : (o : Option Token) → is_kind kinds.RightBrace o ≡ true → ends_list o ≡ true
brace_ends None e = refl
brace_ends (Some t) e = e

pub braces_again : (n : ℕ) (b : Below)
    → AgainBelow n b
    → (context : StatementContext) (taken : List Identifier) (ss : Statements)
    → WellStatements context ss
    → AreFresh taken (declared_names ss)
    → height_of_statements ss ≤ n
    → (ts r : List Token) → Matches (flats.in_braces (flat_statements ss)) ts r → braces b context taken ts ≡ Ok (ss, r)
unfolding braces
braces_again n b a context taken ss w f h ts r m =
    let start : expect kinds.LeftBrace ts ≡ Ok (tt, tail_of ts) = expect_again kinds.LeftBrace ts (tail_of ts)
    (m.0, refl) in
    let p = parts (flat_statements ss) (token (fixed kinds.RightBrace) ∷ []) (tail_of ts) r m.1 in
    let end : ends_list (head_of p.0) ≡ true = brace_ends (head_of p.0)
    (next_again kinds.RightBrace (head_of p.0) p.2.0) in
    rw (
      start,
      statements_again n b a context taken ss w f h (tail_of ts) p.0 p.1 end,
      expect_again kinds.RightBrace p.0 r p.2,
    )
    refl

pub code_again : (n : ℕ) (b : Below)
    → AgainBelow n b
    → (f : ParametersAndBody)
    → DifferIn f.parameters f.body
    → WellStatements function_body f.body
    → height_of_statements f.body ≤ n
    → (ts r : List Token)
    → Matches (flat_parameters f.parameters ++ flats.in_braces (flat_statements f.body)) ts r
    → code_at b ts ≡ Ok (f, r)
unfolding code_at
code_again n b a f d w h ts r m =
    let p = parts (flat_parameters f.parameters) (flats.in_braces (flat_statements f.body)) ts r m in
    rw (
      parameters_again f.parameters d.0 ts p.0 p.1,
      braces_again n b a function_body (with_names [] f.parameters) f.body w
          (fresh_behind f.parameters (declared_names f.body) d.1) h p.0 r p.2,
    )
    refl

-- ---- declared names

-- where a declared name with its initializer ends
abbrev pub DeclaratorEnds : Declarator → List Token → Type 0
DeclaratorEnds (trees.declarator n trees.omitted) r = is_kind kinds.Assign (head_of r) ≡ false
DeclaratorEnds (trees.declarator n (trees.present e)) r = Stops (edge e) r

-- a declared name, that a constant's initializer follows
abbrev pub GoodDeclarator : ℕ → Bool → List Identifier → Declarator → Type 0
GoodDeclarator n constant taken d =
    WellDeclarator d
    × (constant ≡ true → has_initializer d ≡ true)
    × (is_among taken (name_of d) ≡ false)
    × (height_of_declarator d ≤ n)

pub declarator_again : (n : ℕ) (b : Below)
    → AgainBelow n b
    → (constant : Bool) (taken : List Identifier) (d : Declarator)
    → GoodDeclarator n constant taken d
    → (ts r : List Token)
    → Matches (flat_declarator d) ts r
    → DeclaratorEnds d r
    → declarator_at b constant taken ts ≡ Ok (d, r)
unfolding declarator_at
declarator_again n b a true taken (trees.declarator x trees.omitted) g ts r m e =
    let no : false ≡ true = g.1 refl in absurd cc
declarator_again n b a false taken (trees.declarator x trees.omitted) g ts r m e =
    rw (fresh_again taken x ts r m g.2, e) refl
declarator_again n b a constant taken (trees.declarator x (trees.present v)) g ts r m e =
    let q = parts (flat v) [] (tail_of (tail_of ts)) r m.1.1 in
    let marks : Matches (flat v) (tail_of (tail_of ts)) r = subst
    (λ (l : List Token). Matches (flat v) (tail_of (tail_of ts)) l) q.2 q.1 in
    rw (
      fresh_again taken x ts (tail_of ts) (m.0, refl) g.2,
      next_again kinds.Assign (head_of (tail_of ts)) m.1.0,
      a.assignment v g.0.0 g.0.1 g.3 (tail_of (tail_of ts)) r marks e,
    )
    refl

abbrev pub declarators_of : Declarators → List Declarator
declarators_of trees.no_declarators = []
declarators_of (trees.a_declarator d ds) = d ∷ declarators_of ds

declarators_are : (ds : Declarators) → declarators (declarators_of ds) ≡ ds
declarators_are trees.no_declarators = refl
declarators_are (trees.a_declarator d ds) = ap (λ (l : Declarators). trees.a_declarator d l) (declarators_are ds)

more_declarators_marks : (ds : Declarators) → more_declarators ds ≡ behind_commas flat_declarator (declarators_of ds)
more_declarators_marks trees.no_declarators = refl
more_declarators_marks (trees.a_declarator d ds) =
    ap (λ (l : List FlatToken). token (fixed kinds.Comma) ∷ (flat_declarator d ++ l))
    (append-nil (more_declarators ds) ∙ more_declarators_marks ds)

first_initialized : (constant : Bool) (d : Declarator) (ds : Declarators)
    → IsInitialized constant (trees.a_declarator d ds)
    → (constant ≡ true → has_initializer d ≡ true) × IsInitialized constant ds
first_initialized true d ds i = (λ e. i.0, i.1)
first_initialized false d ds i = (λ e. absurd cc, tt)

good_declarators : (n : ℕ) (constant : Bool) (taken : List Identifier) (ds : Declarators)
    → WellDeclarators ds
    → IsInitialized constant ds
    → AreFresh taken (names_of_declarators ds)
    → height_of_declarators ds ≤ n
    → AllGood with_declarator (GoodDeclarator n constant) taken (declarators_of ds)
good_declarators n constant taken trees.no_declarators w i f h = tt
good_declarators n constant taken (trees.a_declarator (trees.declarator x e) ds) w i f h =
    let p = first_initialized constant (trees.declarator x e) ds i in
    ((w.0, p.0, f.0, omega (arith, h)), good_declarators n constant (x ∷ taken) ds w.1 p.1 f.1 (omega (arith, h)))

declarator_comma : (d : Declarator) (u : List Token) → is_kind kinds.Comma (head_of u) ≡ true → DeclaratorEnds d u
declarator_comma (trees.declarator n trees.omitted) u c = kind_not kinds.Comma kinds.Assign (head_of u) c refl
declarator_comma (trees.declarator n (trees.present e)) u c = comma_stops u c (edge e)

-- where a let or const with its names ends
abbrev pub DeclaratorsEnd : Declarators → List Token → Type 0
DeclaratorsEnd ds r = LastEnds DeclaratorEnds (declarators_of ds) r × NoComma r

pub declarators_again : (n : ℕ) (b : Below)
    → AgainBelow n b
    → (constant : Bool) (taken : List Identifier) (ds : Declarators)
    → is_some_declarator ds ≡ true
    → WellDeclarators ds
    → IsInitialized constant ds
    → AreFresh taken (names_of_declarators ds)
    → height_of_declarators ds ≤ n
    → (ts r : List Token)
    → Matches (flat_declarators ds) ts r
    → DeclaratorsEnd ds r
    → declarators_at b constant taken ts ≡ Ok (ds, r)
unfolding declarators_at
declarators_again n b a constant taken trees.no_declarators some w i f h ts r m e = absurd cc
declarators_again n b a constant taken (trees.a_declarator d ds) some w i f h ts r m e =
    let g = good_declarators n constant taken (trees.a_declarator d ds) w i f h in
    let p = parts (flat_declarator d) (more_declarators ds) ts r m in
    let first : declarator_at b constant taken ts ≡ Ok (d, p.0) = declarator_again n b a constant taken d g.0 ts p.0 p.1
    (first_ends ds p.0 p.2 e) in
    let rest : others (λ names r. declarator_at b constant names r) with_declarator (suc (length p.0))
    (with_declarator taken d) p.0 ≡ Ok (declarators_of ds, r) =
    others_again (λ names r. declarator_at b constant names r) with_declarator flat_declarator
    (GoodDeclarator n constant) DeclaratorEnds
    declarator_comma
    (λ s x y us v q z. declarator_again n b a constant s x y us v q z)
    (declarators_of ds) (suc (length p.0)) (with_declarator taken d) p.0 r g.1 (omega arith) (rest_end ds e.0) e.1
    (subst (λ (l : List FlatToken). Matches l p.0 r) (more_declarators_marks ds) p.2) in
    rw (first, rest, declarators_are ds) refl
  where
    first_ends : (ds : Declarators) (us : List Token)
        → Matches (more_declarators ds) us r
        → DeclaratorsEnd (trees.a_declarator d ds) r
        → DeclaratorEnds d us
    first_ends trees.no_declarators us q e = subst (λ (l : List Token). DeclaratorEnds d l) (sym q) e.0
    first_ends (trees.a_declarator c cs) us q e = declarator_comma d us (next_again kinds.Comma (head_of us) q.0)

    rest_end : (ds : Declarators)
        → LastEnds DeclaratorEnds (d ∷ declarators_of ds) r
        → LastEnds DeclaratorEnds (declarators_of ds) r
    rest_end trees.no_declarators e = tt
    rest_end (trees.a_declarator c cs) e = e

declarator_closes : (d : Declarator) (r : List Token) → is_kind kinds.Semicolon (head_of r) ≡ true → DeclaratorEnds d r
declarator_closes (trees.declarator n trees.omitted) r s = kind_not kinds.Semicolon kinds.Assign (head_of r) s refl
declarator_closes (trees.declarator n (trees.present e)) r s = (closes_stops kinds.Semicolon refl r s (edge e)).0

-- they end at a semicolon
pub declarators_close : (ds : Declarators) (r : List Token)
    → is_kind kinds.Semicolon (head_of r) ≡ true
    → DeclaratorsEnd ds r
declarators_close ds r s = (last ds, kind_not kinds.Semicolon kinds.Comma (head_of r) s refl)
  where
    last : (ds : Declarators) → LastEnds DeclaratorEnds (declarators_of ds) r
    last trees.no_declarators = tt
    last (trees.a_declarator d trees.no_declarators) = declarator_closes d r s
    last (trees.a_declarator d (trees.a_declarator c ds)) = last (trees.a_declarator c ds)

-- and at the semicolon of their statement, also where that is absent
pub declarators_end : (ds : Declarators) (ts r : List Token)
    → follows_statement (head_of r) ≡ true
    → Matches (semicolon (end_of_declarators ds) ∷ []) ts r
    → DeclaratorsEnd ds ts
declarators_end trees.no_declarators ts r f m = (tt, (word_stops after_word ts r f m).1)
declarators_end (trees.a_declarator (trees.declarator n trees.omitted) trees.no_declarators) ts r f m =
    word_stops after_word ts r f m
declarators_end (trees.a_declarator (trees.declarator n (trees.present e)) trees.no_declarators) ts r f m =
    semicolon_stops (edge e) ts r f m
declarators_end (trees.a_declarator d (trees.a_declarator c ds)) ts r f m =
    declarators_end (trees.a_declarator c ds) ts r f m

-- ---- expressions with what ends them

pub optional_again : (n : ℕ) (b : Below)
    → AgainBelow n b
    → (k : TokenKind)
    → closes k ≡ true
    → (e : OptionalExpression)
    → WellOptional e
    → height_of_optional e ≤ n
    → (ts r : List Token)
    → Matches (flat_optional e ++ (token (fixed k) ∷ [])) ts r
    → optional_before b k ts ≡ Ok (e, r)
unfolding optional_before
optional_again n b a k c trees.omitted w h ts r m =
    rw (next_again k (head_of ts) m.0) (ap (λ (l : List Token). Ok (trees.omitted, l)) m.1)
optional_again n b a k c (trees.present e) w h ts r m =
    let p = parts (flat e) (token (fixed k) ∷ []) ts r m in
    let s = closes_stops k c p.0 (next_again k (head_of p.0) p.2.0) (edge e) in
    rw (
      opens_not k (head_of ts) (expression_opens e w ts p.0 p.1) (closes_opens k c),
      a.expression e w h ts p.0 p.1 s.0 s.1,
      expect_again k p.0 r p.2,
    )
    refl

pub ended_again : (n : ℕ) (b : Below) → AgainBelow n b → (e : Expression) → Well e → height e ≤ n
    → (ts r : List Token)
    → Matches (flat e ++ (semicolon (after_expression (edge e)) ∷ [])) ts r
    → follows_statement (head_of r) ≡ true
    → ended_expression b ts ≡ Ok (e, r)
unfolding ended_expression
ended_again n b a e w h ts r m f =
    let p = parts (flat e) (semicolon (after_expression (edge e)) ∷ []) ts r m in
    let s = semicolon_stops (edge e) p.0 r f p.2 in
    rw (a.expression e w h ts p.0 p.1 s.0 s.1, semicolon_again (after_expression (edge e)) p.0 r p.2) refl
