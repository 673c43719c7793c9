-- Where the readers of parts and of productions stop, the tokens before begin well-formed ones.
use Rattle.std.proofs.Common.{◌≡◌, ℕ, zero, suc, ◌+◌, ◌<◌, ◌≤◌, Bool, true, false, List, [], ◌∷◌, ◌++◌, length, Option, Ok, Err, refl, sym, ap, subst, ◌∙◌, inl, inr, append_assoc, arith}
use Rattle.std.specs.Prelude.{◌&&◌, ◌||◌, nat_eq}
use Rattle.std.specs.List.{list_all}
use Rattle.std.specs.Cmp.Lexicographic.{pointwise, same_text}
use Rattle.std.proofs.lemmas.List.{append-nil}
use Rattle.js_lexer.specs.declared.token.TokenKind.{TokenKind}
use Rattle.js_lexer.specs.declared.token.TokenKind.TheVariants as kinds
use Rattle.js_lexer.specs.Classes.{is_word_part}
use Rattle.js_tree.specs.Trees as trees
use Rattle.js_tree.specs.Trees.{Identifier, Expression, Expressions, Declarator, Declarators, Statement, Statements}
use Rattle.js_parser_language.specs.Tokens.{Token, IsSymbol, fixed, identifier, numeric_literal, FlatToken, token, semicolon, StatementEnd, after_expression, absent, head_of, tail_of, is_on_line, IsNext, Matches}
use Rattle.js_parser_language.specs.Flat as flats
use Rattle.js_parser_language.specs.Flat.{edge, flat, flat_expressions, more_expressions, trailing, an_identifier, flat_parameters, flat_declarator, flat_declarators, flat_statement, flat_statements}
use Rattle.js_parser_language.specs.Well.{StatementContext, function_body, level, Well, AreAssignments, WellDeclarator, WellDeclarators, IsInitialized, is_some_declarator, WellStatement, WellStatements, is_statement, is_among, AreFresh, DifferIn, declared_by, declared_names, names_of_declarators}
use Rattle.js_tree.specs.Views.{expressions, statements, declarators}
use Rattle.js_parser_language.specs.Kinds.{is_same_kind, is_kind}
use Rattle.js_parser_readers.specs.Classes.{is_name}
use Rattle.js_parser_readers.specs.Reading.{Fault, stuck, ◌>>=◌, expect, expect_near, name_at, fresh_name, text_of, semicolon_at, elements, others, items, no_state, with_name, with_names}
use Rattle.js_parser_readers.specs.Productions.{ParametersAndBody, Below, one_of, arguments_before, more_assignments, parameters_at, with_declared, items_at, braces, code_at, initializer_by, declarator_at, name_of, with_declarator, declarators_at, optional_by, optional_before, ended_expression, Piece, tok, near, a_name, the_name, an_assignment, an_expression, optional, arguments, ended, an_end, declared, a_statement, a_block, in_braces, code, PieceValue, PieceValues, expect_name, item, seq, made}
use Rattle.js_parser_language.proofs.KindLemmas.{same_kind, next_is}
use Rattle.js_parser_laws.proofs.Claims.{SoundBelow, marks_of, marks, Sane, AllSane}
use Rattle.js_parser_laws.proofs.MarkLemmas.{joins}
use Rattle.js_parser_laws.proofs.TokenLemmas.{expect_sound, expect_again, fresh_sound}
use Rattle.js_parser_laws.proofs.Sound.List.{behind_commas, up_to, in_a_row, AllGood, Reads}
use Rattle.js_parser_laws.proofs.Sound.Part.{fresh_behind, fresh_append, more_is, arguments_marks, names_marks, Differs, all_fresh, row_is, items_at_sound, parameters_sound, InitializedOne, initialized_present, declarator_sound, initialized_more, no_more_initialized, fresh_more, more_declarators_is, item_sound}
use Rattle.js_parser_laws.proofs.SpelledKindLemmas.{is_free}
use Rattle.js_parser_laws.proofs.Alive.Tools.{bind_err, cond_err, Counts, stuck_counts, Added, as_token, added, added_append, a_token, a_near_token, a_name_token, Anything, Nothing, IsAdded, IsZero, Starts, zero_softer, while_softer, brace_softer, softens, is_firm, firm_append, Lives, fills, anything, from_nothing, ends_in, around, around_softly, stopped}
use Rattle.js_parser_laws.proofs.Alive.Lists.{elements_lives, others_lives, items_lives}
use Rattle.js_parser_laws.proofs.FirmTreeLemmas.{expression_firm, firm_last, firm_braces, firm_parameters, declarator_firm, declarators_firm}
use Rattle.std.proofs.lemmas.Bool.{and_parts}

-- ---- what lives below

-- an expression of this level at least
abbrev pub Fits : ℕ → Expression → Type 0
Fits low e = Well e × (low ≤ level e)

abbrev pub IsStatement : StatementContext → Statement → Type 0
IsStatement context s = WellStatement context s × (is_statement s ≡ true)

-- a statement or a declaration of other names than those taken
abbrev pub IsItem : StatementContext → List Identifier → Statement → Type 0
IsItem context taken s = WellStatement context s × AreFresh taken (declared_by s)

abbrev pub IsBlock : StatementContext → List Identifier → Statements → Type 0
IsBlock context taken ss = AreFresh taken (declared_names ss) × WellStatements context ss

abbrev pub flat_block : Statements → List FlatToken
flat_block ss = flats.in_braces (flat_statements ss)

abbrev pub IsCode : ParametersAndBody → Type 0
IsCode f = DifferIn f.parameters f.body × WellStatements function_body f.body

abbrev pub flat_code : ParametersAndBody → List FlatToken
flat_code f = flat_parameters f.parameters ++ flats.in_braces (flat_statements f.body)

-- Where what reads below a node stops, the tokens before begin a well-formed tree.
pub record AliveBelow (b : Below) : Type 0 where
  pub assignment : (ts : List Token) (e : Fault) → b.assignment ts ≡ Err e → Lives IsZero flat (Fits 1) ts e
  pub expression : (ts : List Token) (e : Fault) → b.expression ts ≡ Err e → Lives IsZero flat (Fits 0) ts e
  pub operation : (m : ℕ)
      → m ≤ 13
      → (ts : List Token) (e : Fault)
      → b.operation m ts ≡ Err e
      → Lives IsZero flat (Fits m) ts e
  pub unary : (ts : List Token) (e : Fault) → b.unary ts ≡ Err e → Lives IsZero flat (Fits 13) ts e
  pub call : (ts : List Token) (e : Fault) → b.call ts ≡ Err e → Lives IsZero flat (Fits 15) ts e
  pub statement : (context : StatementContext) (ts : List Token) (e : Fault)
      → b.statement context ts ≡ Err e
      → Lives IsZero flat_statement (IsStatement context) ts e
  pub item : (context : StatementContext) (taken : List Identifier) (ts : List Token) (e : Fault)
      → b.item context taken ts ≡ Err e
      → Lives IsZero flat_statement (IsItem context taken) ts e
  pub block : (context : StatementContext) (taken : List Identifier) (ts : List Token) (e : Fault)
      → b.block context taken ts ≡ Err e
      → Lives (IsAdded kinds.LeftBrace) flat_block (IsBlock context taken) ts e
  pub function : (ts : List Token) (e : Fault)
      → b.function ts ≡ Err e
      → Lives (IsAdded kinds.LeftParenthesis) flat_code IsCode ts e

-- ---- what is added

pub zero_expression : (low : ℕ)
    → low ≤ 15
    → (ts : List Token) (e : Fault)
    → Counts e ts
    → Lives IsZero flat (Fits low) ts e
zero_expression low h ts e c =
    fills ts e c (trees.number 0) (tt, h) (a_token kinds.Number ∷ []) (λ r. ((refl, refl), refl)) (λ r. refl)

abbrev pub zero_marks : List FlatToken
zero_marks = token (numeric_literal 0) ∷ []

-- 0; as a statement
abbrev pub zero_spelled : List Added
zero_spelled = a_token kinds.Number ∷ a_token kinds.Semicolon ∷ []

pub zero_spells : (r : List Token)
    → Matches (flat_statement (trees.expression (trees.number 0))) (added zero_spelled ++ r) r
zero_spells r = ((refl, refl), inl (refl, refl))

pub zero_statement : (context : StatementContext) (ts : List Token) (e : Fault)
    → Counts e ts
    → Lives IsZero flat_statement (IsStatement context) ts e
zero_statement context ts e c =
    fills ts e c (trees.expression (trees.number 0)) ((tt, refl, refl), refl) zero_spelled zero_spells (λ r. refl)

pub zero_item : (context : StatementContext) (taken : List Identifier) (ts : List Token) (e : Fault)
    → Counts e ts
    → Lives IsZero flat_statement (IsItem context taken) ts e
zero_item context taken ts e c =
    fills ts e c (trees.expression (trees.number 0)) ((tt, refl, refl), tt) zero_spelled zero_spells (λ r. refl)

pub empty_block : (context : StatementContext) (taken : List Identifier) (ts : List Token) (e : Fault)
    → Counts e ts
    → Lives (IsAdded kinds.LeftBrace) flat_block (IsBlock context taken) ts e
empty_block context taken ts e c =
    fills ts e c trees.no_statements (tt, tt) (a_token kinds.LeftBrace ∷ a_token kinds.RightBrace ∷ [])
    (λ r. (refl, (refl, refl))) (λ r. refl)

pub empty_code : (ts : List Token) (e : Fault)
    → Counts e ts
    → Lives (IsAdded kinds.LeftParenthesis) flat_code IsCode ts e
empty_code ts e c =
    fills ts e c (record { parameters = []; body = trees.no_statements }) ((tt, tt), tt)
    (a_token kinds.LeftParenthesis ∷ a_token kinds.RightParenthesis ∷ a_token kinds.LeftBrace ∷ a_token
    kinds.RightBrace ∷ [])
    (λ r. (refl, (refl, (refl, (refl, refl))))) (λ r. refl)

-- x, one time more than this
abbrev pub xs : ℕ → Identifier
xs zero = 120 ∷ []
xs (suc n) = 120 ∷ xs n

abbrev pub total : List Identifier → ℕ
total [] = 0
total (m ∷ ms) = length m + total ms

xs_length : (n : ℕ) → length (xs n) ≡ suc n
xs_length zero = refl
xs_length (suc n) = ap (λ n. suc n) (xs_length n)

xs_parts : (n : ℕ) → list_all is_word_part (xs n) ≡ true
xs_parts zero = refl
xs_parts (suc n) = xs_parts n

pub xs_free : (n : ℕ) → is_free (xs n) ≡ true
xs_free zero = refl
xs_free (suc n) = xs_parts n

apart_test : (m n : Identifier) (c b : Bool) → (m ≡ n → ⊥) → pointwise nat_eq m n ≡ b → c ≡ false → (b || c) ≡ false
apart_test m n c true differ same h = absurd (differ (same_text m n (sym same)))
apart_test m n c false differ same h = h

apart : (ms : List Identifier) (n : Identifier) → total ms < length n → is_among ms n ≡ false
apart [] n h = refl
apart (m ∷ ms) n h =
    apart_test m n (is_among ms n) (pointwise nat_eq m n)
    (λ same. omega (arith, h, ap (λ (n : Identifier). length n) same)) refl (apart ms n (omega (arith, h)))

-- a name that differs from these: it is longer than all of them
abbrev pub some_name : List Identifier → Identifier
some_name taken = xs (total taken)

abbrev pub fresh_token : List Identifier → Added
fresh_token taken = a_name_token (some_name taken) (xs_free (total taken))

pub some_name_fresh : (taken : List Identifier) → is_among taken (some_name taken) ≡ false
some_name_fresh taken = apart taken (some_name taken) (omega (arith, xs_length (total taken)))

-- ---- names

pub name_lives : (ts : List Token) (e : Fault) → name_at ts ≡ Err e → Lives Anything an_identifier (λ n. Unit {0}) ts e
unfolding name_at
name_lives ts e p =
    elim (cond_err (is_kind kinds.Name (head_of ts)) (Ok (text_of (head_of ts), tail_of ts)) (Err (stuck (length ts)))
    e p) [
      | inl q ↦ absurd cc
      | inr q ↦ fills ts e (stuck_counts {A = Identifier} ts e q.1) (some_name []) tt (fresh_token [] ∷ [])
          (λ r. ((refl, refl), refl)) (λ r. tt)
    ]

pub fresh_lives : (taken : List Identifier) (ts : List Token) (e : Fault)
    → fresh_name taken ts ≡ Err e
    → Lives Anything an_identifier (Differs taken) ts e
unfolding fresh_name name_at
fresh_lives taken ts e p =
    elim (cond_err (is_among taken (text_of (head_of ts))) (Err (stuck (length ts))) (name_at ts) e p) [
      | inl q ↦ another (stuck_counts {A = Identifier} ts e q.1)
      | inr q ↦ elim
          (cond_err (is_kind kinds.Name (head_of ts)) (Ok (text_of (head_of ts), tail_of ts)) (Err (stuck (length ts)))
          e q.1) [
            | inl k ↦ absurd cc
            | inr k ↦ another (stuck_counts {A = Identifier} ts e k.1)
          ]
    ]
  where
    another : Counts e ts → Lives Anything an_identifier (Differs taken) ts e
    another c =
        fills ts e c (some_name taken) (some_name_fresh taken) (fresh_token taken ∷ []) (λ r. ((refl, refl), refl))
        (λ r. tt)

pub expect_err : (k : TokenKind) (ts : List Token) (e : Fault) → expect k ts ≡ Err e → Counts e ts
unfolding expect
expect_err k ts e p = elim (cond_err (is_kind k (head_of ts)) (Ok (tt, tail_of ts)) (Err (stuck (length ts))) e p) [
  | inl q ↦ absurd cc
  | inr q ↦ stuck_counts {A = Unit {0}} ts e q.1
]

pub expect_near_err : (k : TokenKind) (ts : List Token) (e : Fault) → expect_near k ts ≡ Err e → Counts e ts
unfolding expect_near
expect_near_err k ts e p = elim (cond_err (is_on_line (head_of ts)) (expect k ts) (Err (stuck (length ts))) e p) [
  | inl q ↦ expect_err k ts e q.1
  | inr q ↦ stuck_counts {A = Unit {0}} ts e q.1
]

pub semicolon_err : (end : StatementEnd) (ts : List Token) (e : Fault) → semicolon_at end ts ≡ Err e → Counts e ts
unfolding semicolon_at
semicolon_err end ts e p = elim (cond_err (is_kind kinds.Semicolon (head_of ts)) (Ok (tt, tail_of ts)) _ e p) [
  | inl q ↦ absurd cc
  | inr q ↦ elim (cond_err (absent end (head_of ts)) (Ok (tt, ts)) (Err (stuck (length ts))) e q.1) [
    | inl k ↦ absurd cc
    | inr k ↦ stuck_counts {A = Unit {0}} ts e k.1
  ]
]

pub name_err : (n : List ℕ) (ts : List Token) (e : Fault) → expect_name n ts ≡ Err e → Counts e ts
unfolding expect_name
name_err n ts e p = elim (cond_err (is_name n (head_of ts)) (Ok (tt, tail_of ts)) (Err (stuck (length ts))) e p) [
  | inl q ↦ absurd cc
  | inr q ↦ stuck_counts {A = Unit {0}} ts e q.1
]

-- ---- lists of expressions

abbrev IsAssignment : Unit {0} → Expression → Type 0
IsAssignment u e = Fits 1 e

one_reads : (n : ℕ) (b : Below) → SoundBelow n b → Reads (one_of b.assignment) flat IsAssignment
one_reads n b s = λ u ts x e. let t = s.assignment ts x e in (t.marks, (t.well, t.level))

all_assignments : (u : Unit {0}) (es : List Expression)
    → AllGood no_state IsAssignment u es
    → AreAssignments (expressions es)
all_assignments u [] g = tt
all_assignments u (e ∷ es) g = (g.0.0, g.0.1, all_assignments tt es g.1)

abbrev pub flat_arguments : TokenKind → Expressions → List FlatToken
flat_arguments closer es = flat_expressions es ++ (trailing es ++ (token (fixed closer) ∷ []))

pub arguments_lives : (n : ℕ) (b : Below)
    → SoundBelow n b
    → AliveBelow b
    → (closer : TokenKind) (ts : List Token) (e : Fault)
    → arguments_before b closer ts ≡ Err e
    → Lives Anything (flat_arguments closer) AreAssignments ts e
unfolding arguments_before
arguments_lives n b s a closer ts e p =
    elim (bind_err (elements (one_of b.assignment) no_state closer (suc (length ts)) tt ts)
    (λ x. Ok (expressions x.0, x.1)) e p) [
      | inl q ↦
          let l = elements_lives IsZero (one_of b.assignment) no_state flat IsAssignment (one_reads n b s)
          (λ u e g. expression_firm e g.0) (λ u ts e p. a.assignment ts e p) closer (suc (length ts)) tt ts e q in
          ends_in l (expressions l.tree) (all_assignments tt l.tree l.good) [] [] (λ r. refl)
          (append-nil (up_to flat closer l.tree) ∙ sym (arguments_marks closer l.tree))
      | inr q ↦ absurd cc
    ]

-- further expressions, each behind a comma
pub more_lives : (n : ℕ) (b : Below)
    → SoundBelow n b
    → AliveBelow b
    → (ts : List Token) (e : Fault)
    → more_assignments b ts ≡ Err e
    → Lives Anything more_expressions AreAssignments ts e
unfolding more_assignments
more_lives n b s a ts e p =
    elim (bind_err (others (one_of b.assignment) no_state (suc (length ts)) tt ts) (λ x. Ok (expressions x.0, x.1)) e p) [
      | inl q ↦
          let l = others_lives IsZero (one_of b.assignment) no_state flat IsAssignment (one_reads n b s)
          (λ u e g. expression_firm e g.0) (λ u ts e p. a.assignment ts e p) (suc (length ts)) tt ts e q in
          ends_in l (expressions l.tree) (all_assignments tt l.tree l.good) [] [] (λ r. refl)
          (append-nil (behind_commas flat l.tree) ∙ sym (more_is l.tree))
      | inr q ↦ absurd cc
    ]

-- ---- parameters

pub parameters_lives : (ts : List Token) (e : Fault)
    → parameters_at ts ≡ Err e
    → Lives (IsAdded kinds.LeftParenthesis) flat_parameters (AreFresh []) ts e
unfolding parameters_at
parameters_lives ts e p =
    elim (bind_err (expect kinds.LeftParenthesis ts)
    (λ o. elements fresh_name with_name kinds.RightParenthesis (suc (length o.1)) [] o.1) e p) [
      | inl q ↦ fills ts e (expect_err kinds.LeftParenthesis ts e q) [] tt
          (a_token kinds.LeftParenthesis ∷ a_token kinds.RightParenthesis ∷ []) (λ r. (refl, (refl, refl))) (λ r. refl)
      | inr q ↦
          let l = elements_lives Anything fresh_name with_name an_identifier Differs fresh_sound (λ s x g. refl)
          fresh_lives kinds.RightParenthesis (suc (length q.0.1)) [] q.0.1 e q.2 in
          from_nothing
          (around l (token (fixed kinds.LeftParenthesis) ∷ []) refl ts (expect_sound kinds.LeftParenthesis ts q.0 q.1)
          l.tree (all_fresh [] l.tree l.good) [] [] (λ r. refl)
          (ap (λ (ms : List FlatToken). token (fixed kinds.LeftParenthesis) ∷ ms)
          (append-nil (up_to an_identifier kinds.RightParenthesis l.tree) ∙ sym (names_marks l.tree))))
    ]

-- ---- statements in braces

all_items : (context : StatementContext) (taken : List Identifier) (ss : List Statement)
    → AllGood with_declared (IsItem context) taken ss
    → IsBlock context taken (statements ss)
all_items context taken [] g = (tt, tt)
all_items context taken (s ∷ ss) g =
    let r = all_items context (with_declared taken s) ss g.1 in
    (fresh_append taken (declared_by s) (declared_names (statements ss)) g.0.1 r.0, (g.0.0, r.1))

pub items_at_lives : (n : ℕ) (b : Below)
    → SoundBelow n b
    → AliveBelow b
    → (context : StatementContext) (taken : List Identifier) (ts : List Token) (e : Fault)
    → items_at b context taken ts ≡ Err e
    → Lives IsZero flat_statements (IsBlock context taken) ts e
unfolding items_at
items_at_lives n b s a context taken ts e p =
    elim (bind_err (items (λ names r. b.item context names r) with_declared (suc (length ts)) taken ts)
    (λ x. Ok (statements x.0, x.1)) e p) [
      | inl q ↦
          let reads : Reads (λ names r. b.item context names r) flat_statement (IsItem context)
          = λ names ts x e. let t = s.item context names ts x e in
          (t.marks, (t.well, t.fresh)) in
          let l = items_lives IsZero zero_softer (λ names r. b.item context names r) with_declared flat_statement
          (IsItem context) reads (λ names ts e p. a.item context names ts e p) (zero_item context) (suc (length ts))
          taken ts e q in
          ends_in l (statements l.tree) (all_items context taken l.tree l.good) [] [] (λ r. refl)
          (append-nil (in_a_row flat_statement l.tree) ∙ sym (row_is l.tree))
      | inr q ↦ absurd cc
    ]

-- statements that were read, and the brace that ends them
abbrev flat_closed : Statements → List FlatToken
flat_closed ss = flat_statements ss ++ (token (fixed kinds.RightBrace) ∷ [])

closed_lives : (Good : Statements → Type 0) (ss : Statements)
    → Good ss
    → (ts mid : List Token)
    → Matches (flat_statements ss) ts mid
    → (e : Fault)
    → Counts e mid
    → Lives Anything flat_closed Good ts e
closed_lives Good ss good ts mid m e c =
    let f = softens (flat_statements ss) ts mid m in
    record {
      before = f.before;
      left = mid;
      parts = f.parts;
      counted = c;
      tree = ss;
      good = good;
      rest = a_token kinds.RightBrace ∷ [];
      spelled =
          λ r. joins (flat_statements ss) (token (fixed kinds.RightBrace) ∷ [])
          (f.before ++ (as_token (a_token kinds.RightBrace) ∷ r)) (as_token (a_token kinds.RightBrace) ∷ r) r
          (f.other (as_token (a_token kinds.RightBrace) ∷ r) (brace_softer mid r)) (refl, refl);
      starts = λ r. inr tt;
    }

-- behind the first brace
inside_lives : (n : ℕ) (b : Below)
    → SoundBelow n b
    → AliveBelow b
    → (context : StatementContext) (taken : List Identifier) (ts us : List Token) (e : Fault)
    → Matches (token (fixed kinds.LeftBrace) ∷ []) ts us
    → (items_at b context taken us >>= λ x. expect kinds.RightBrace x.1 >>= λ c. Ok (x.0, c.1)) ≡ Err e
    → Lives Nothing flat_block (IsBlock context taken) ts e
inside_lives n b s a context taken ts us e m p =
    elim (bind_err (items_at b context taken us) (λ x. expect kinds.RightBrace x.1 >>= λ c. Ok (x.0, c.1)) e p) [
      | inl q ↦
          let l = items_at_lives n b s a context taken us e q in
          around l (token (fixed kinds.LeftBrace) ∷ []) refl ts m l.tree l.good (token (fixed kinds.RightBrace) ∷ [])
          (a_token kinds.RightBrace ∷ []) (λ r. (refl, refl)) refl
      | inr q ↦ elim (bind_err (expect kinds.RightBrace q.0.1) (λ c. Ok (q.0.0, c.1)) e q.2) [
        | inl k ↦
            let t = items_at_sound n b s context taken us q.0 q.1 in
            let l = closed_lives (IsBlock context taken) q.0.0 (t.fresh, t.well) us q.0.1 t.marks e
            (expect_err kinds.RightBrace q.0.1 e k) in
            around l (token (fixed kinds.LeftBrace) ∷ []) refl ts m l.tree l.good [] [] (λ r. refl)
            (ap (λ (ms : List FlatToken). token (fixed kinds.LeftBrace) ∷ ms) (append-nil (flat_closed l.tree)))
        | inr k ↦ absurd cc
      ]
    ]

pub braces_lives : (n : ℕ) (b : Below)
    → SoundBelow n b
    → AliveBelow b
    → (context : StatementContext) (taken : List Identifier) (ts : List Token) (e : Fault)
    → braces b context taken ts ≡ Err e
    → Lives (IsAdded kinds.LeftBrace) flat_block (IsBlock context taken) ts e
unfolding braces
braces_lives n b s a context taken ts e p =
    elim (bind_err (expect kinds.LeftBrace ts)
    (λ o. items_at b context taken o.1 >>= λ x. expect kinds.RightBrace x.1 >>= λ c. Ok (x.0, c.1)) e p) [
      | inl q ↦ empty_block context taken ts e (expect_err kinds.LeftBrace ts e q)
      | inr q ↦ from_nothing (inside_lives n b s a context taken ts q.0.1 e (expect_sound kinds.LeftBrace ts q.0 q.1)
          q.2)
    ]

-- where the first brace is there
pub opened_lives : (n : ℕ) (b : Below)
    → SoundBelow n b
    → AliveBelow b
    → (context : StatementContext) (taken : List Identifier) (ts : List Token) (e : Fault)
    → IsNext (fixed kinds.LeftBrace) (head_of ts)
    → braces b context taken ts ≡ Err e
    → Lives Nothing flat_block (IsBlock context taken) ts e
unfolding braces
opened_lives n b s a context taken ts e f p =
    elim (bind_err (expect kinds.LeftBrace ts)
    (λ o. items_at b context taken o.1 >>= λ x. expect kinds.RightBrace x.1 >>= λ c. Ok (x.0, c.1)) e p) [
      | inl q ↦ let again = expect_again kinds.LeftBrace ts (tail_of ts) (f, refl) in absurd cc
      | inr q ↦ inside_lives n b s a context taken ts q.0.1 e (expect_sound kinds.LeftBrace ts q.0 q.1) q.2
    ]

pub code_lives : (n : ℕ) (b : Below)
    → SoundBelow n b
    → AliveBelow b
    → (ts : List Token) (e : Fault)
    → code_at b ts ≡ Err e
    → Lives (IsAdded kinds.LeftParenthesis) flat_code IsCode ts e
unfolding code_at
code_lives n b s a ts e p =
    elim (bind_err (parameters_at ts)
    (λ ps. braces b function_body (with_names [] ps.0) ps.1 >>= λ body. Ok
    (record { parameters = ps.0; body = body.0 }, body.1))
    e p) [
      | inl q ↦
          let l = parameters_lives ts e q in
          ends_in l (record { parameters = l.tree; body = trees.no_statements }) ((l.good, tt), tt)
          (token (fixed kinds.LeftBrace) ∷ token (fixed kinds.RightBrace) ∷ [])
          (a_token kinds.LeftBrace ∷ a_token kinds.RightBrace ∷ []) (λ r. (refl, (refl, refl))) refl
      | inr q ↦ elim
          (bind_err (braces b function_body (with_names [] q.0.0) q.0.1)
          (λ body. Ok (record { parameters = q.0.0; body = body.0 }, body.1)) e q.2) [
            | inl k ↦
                let t = parameters_sound ts q.0 q.1 in
                let l = braces_lives n b s a function_body (with_names [] q.0.0) q.0.1 e k in
                from_nothing
                (around l (flat_parameters q.0.0) (firm_parameters q.0.0) ts t.0
                (record { parameters = q.0.0; body = l.tree })
                ((t.1, fresh_behind q.0.0 (declared_names l.tree) l.good.0), l.good.1) [] [] (λ r. refl)
                (ap (λ (ms : List FlatToken). flat_parameters q.0.0 ++ ms) (append-nil (flat_block l.tree))))
            | inr k ↦ absurd cc
          ]
    ]

-- ---- declared names

-- a declared name that differs from these, with an initializer if it is a constant
abbrev pub IsDeclarator : Bool → List Identifier → Declarator → Type 0
IsDeclarator constant taken d = WellDeclarator d × InitializedOne constant d × (is_among taken (name_of d) ≡ false)

-- = 0 behind a name
abbrev pub zero_initializer : List FlatToken
zero_initializer = token (fixed kinds.Assign) ∷ token (numeric_literal 0) ∷ []

abbrev pub zero_initialized : List Added
zero_initialized = a_token kinds.Assign ∷ a_token kinds.Number ∷ []

zero_initializes : (r : List Token) → Matches zero_initializer (added zero_initialized ++ r) r
zero_initializes r = (refl, ((refl, refl), refl))

abbrev pub zero_declarator : Identifier → Declarator
zero_declarator n = trees.declarator n (trees.present (trees.number 0))

initializer_lives : (b : Below)
    → AliveBelow b
    → (constant : Bool) (taken : List Identifier) (ts : List Token) (m : Identifier) (r : List Token)
    → Matches (token (identifier m) ∷ []) ts r
    → is_among taken m ≡ false
    → (c : Bool)
    → is_kind kinds.Assign (head_of r) ≡ c
    → (e : Fault)
    → initializer_by b constant m c r ≡ Err e
    → Lives Nothing flat_declarator (IsDeclarator constant taken) ts e
initializer_lives b a constant taken ts m r t f true h e p =
    elim (bind_err (b.assignment (tail_of r)) (λ e. Ok (trees.declarator m (trees.present e.0), e.1)) e p) [
      | inl q ↦
          let l = a.assignment (tail_of r) e q in
          around l (token (identifier m) ∷ token (fixed kinds.Assign) ∷ []) refl ts
          (joins (token (identifier m) ∷ []) (token (fixed kinds.Assign) ∷ []) ts r (tail_of r) t
          (next_is kinds.Assign (head_of r) h, refl))
          (trees.declarator m (trees.present l.tree)) (l.good, initialized_present constant m l.tree, f) [] []
          (λ r. refl)
          refl
      | inr q ↦ absurd cc
    ]
initializer_lives b a true taken ts m r t f false h e p =
    stopped (token (identifier m) ∷ []) refl ts r t e (stuck_counts {A = Declarator} r e p) (zero_declarator m)
    ((tt, omega arith), refl, f) zero_initializer zero_initialized zero_initializes refl
initializer_lives b a false taken ts m r t f false h e p = absurd cc

pub declarator_lives : (b : Below)
    → AliveBelow b
    → (constant : Bool) (taken : List Identifier) (ts : List Token) (e : Fault)
    → declarator_at b constant taken ts ≡ Err e
    → Lives Anything flat_declarator (IsDeclarator constant taken) ts e
unfolding declarator_at
declarator_lives b a constant taken ts e p =
    elim (bind_err (fresh_name taken ts) (λ n. initializer_by b constant n.0 (is_kind kinds.Assign (head_of n.1)) n.1)
    e p) [
      | inl q ↦
          let l = fresh_lives taken ts e q in
          ends_in l (zero_declarator l.tree)
          ((tt, omega arith), initialized_present constant l.tree (trees.number 0), l.good)
          zero_initializer zero_initialized zero_initializes refl
      | inr q ↦
          let t = fresh_sound taken ts q.0 q.1 in
          from_nothing
          (initializer_lives b a constant taken ts q.0.0 q.0.1 t.0 t.1 (is_kind kinds.Assign (head_of q.0.1))
          refl e q.2)
    ]

-- declared names that differ from these, one at least
abbrev pub AreDeclared : Bool → List Identifier → Declarators → Type 0
AreDeclared constant taken ds =
    (is_some_declarator ds ≡ true)
    × WellDeclarators ds
    × IsInitialized constant ds
    × AreFresh taken (names_of_declarators ds)

all_declarators : (constant : Bool) (taken : List Identifier) (ds : List Declarator)
    → AllGood with_declarator (IsDeclarator constant) taken ds
    → WellDeclarators (declarators ds)
    × IsInitialized constant (declarators ds)
    × AreFresh taken (names_of_declarators (declarators ds))
all_declarators constant taken [] g = (tt, no_more_initialized constant, tt)
all_declarators constant taken (d ∷ ds) g =
    let r = all_declarators constant (with_declarator taken d) ds g.1 in (
      (g.0.0, r.0),
      initialized_more constant d (declarators ds) g.0.1 r.1,
      fresh_more taken d (declarators ds) g.0.2 r.2,
    )

pub declared_more : (constant : Bool) (taken : List Identifier) (d : Declarator) (ds : List Declarator)
    → IsDeclarator constant taken d
    → AllGood with_declarator (IsDeclarator constant) (with_declarator taken d) ds
    → AreDeclared constant taken (trees.a_declarator d (declarators ds))
declared_more constant taken d ds g h =
    let r = all_declarators constant (with_declarator taken d) ds h in (
      refl,
      (g.0, r.0),
      initialized_more constant d (declarators ds) g.1 r.1,
      fresh_more taken d (declarators ds) g.2 r.2,
    )

pub declarators_lives : (n : ℕ) (b : Below)
    → SoundBelow n b
    → AliveBelow b
    → (constant : Bool) (taken : List Identifier) (ts : List Token) (e : Fault)
    → declarators_at b constant taken ts ≡ Err e
    → Lives Anything flat_declarators (AreDeclared constant taken) ts e
unfolding declarators_at
declarators_lives n b s a constant taken ts e p =
    elim (bind_err (declarator_at b constant taken ts)
    (λ d. others (λ names r. declarator_at b constant names r) with_declarator (suc (length d.1))
    (with_declarator taken d.0) d.1 >>= λ ds. Ok (trees.a_declarator d.0 (declarators ds.0), ds.1))
    e p) [
      | inl q ↦
          let l = declarator_lives b a constant taken ts e q in
          ends_in l (trees.a_declarator l.tree trees.no_declarators) (declared_more constant taken l.tree [] l.good tt)
          [] [] (λ r. refl) refl
      | inr q ↦ elim
          (bind_err
          (others (λ names r. declarator_at b constant names r) with_declarator (suc (length q.0.1))
          (with_declarator taken q.0.0) q.0.1)
          (λ ds. Ok (trees.a_declarator q.0.0 (declarators ds.0), ds.1)) e q.2) [
            | inl k ↦
                let t = declarator_sound n b s constant taken ts q.0 q.1 in
                let reads : Reads (λ names r. declarator_at b constant names r) flat_declarator (IsDeclarator constant)
                = λ names ts x e. let t = declarator_sound n b s constant names ts x e in
                (t.marks, (t.well, t.initialized, t.fresh)) in
                let l = others_lives Anything (λ names r. declarator_at b constant names r) with_declarator
                flat_declarator
                (IsDeclarator constant) reads (λ names d g. declarator_firm d (g.0, tt))
                (λ names ts e p. declarator_lives b a constant names ts e p) (suc (length q.0.1))
                (with_declarator taken q.0.0) q.0.1 e k in
                from_nothing
                (around l (flat_declarator q.0.0) (declarator_firm q.0.0 (t.well, tt)) ts t.marks
                (trees.a_declarator q.0.0 (declarators l.tree))
                (declared_more constant taken q.0.0 l.tree (t.well, t.initialized, t.fresh) l.good) [] [] (λ r. refl)
                (ap (λ (ms : List FlatToken). flat_declarator q.0.0 ++ ms)
                (append-nil (behind_commas flat_declarator l.tree) ∙ sym (more_declarators_is l.tree))))
            | inr k ↦ absurd cc
          ]
    ]

-- ---- expressions with what ends them

optional_by_lives : (n : ℕ) (b : Below)
    → SoundBelow n b
    → AliveBelow b
    → (closer : TokenKind) (c : Bool) (ts : List Token) (e : Fault)
    → optional_by b closer c ts ≡ Err e
    → Lives Anything (marks_of (optional closer)) (Sane (optional closer)) ts e
optional_by_lives n b s a closer true ts e p = absurd cc
optional_by_lives n b s a closer false ts e p =
    elim (bind_err (b.expression ts) (λ e. expect closer e.1 >>= λ c. Ok (trees.present e.0, c.1)) e p) [
      | inl q ↦
          let l = anything (a.expression ts e q) in
          ends_in l (trees.present l.tree) l.good.0 (token (fixed closer) ∷ []) (a_token closer ∷ [])
          (λ r. (refl, refl))
          refl
      | inr q ↦ elim (bind_err (expect closer q.0.1) (λ c. Ok (trees.present q.0.0, c.1)) e q.2) [
        | inl k ↦
            let t = s.expression ts q.0 q.1 in
            from_nothing
            (stopped (flat q.0.0) (expression_firm q.0.0 t.well) ts q.0.1 t.marks e (expect_err closer q.0.1 e k)
            (trees.present q.0.0) t.well (token (fixed closer) ∷ []) (a_token closer ∷ []) (λ r. (refl, refl))
            refl)
        | inr k ↦ absurd cc
      ]
    ]

pub optional_lives : (n : ℕ) (b : Below)
    → SoundBelow n b
    → AliveBelow b
    → (closer : TokenKind) (ts : List Token) (e : Fault)
    → optional_before b closer ts ≡ Err e
    → Lives Anything (marks_of (optional closer)) (Sane (optional closer)) ts e
unfolding optional_before
optional_lives n b s a closer ts e p = optional_by_lives n b s a closer (is_kind closer (head_of ts)) ts e p

abbrev pub flat_ended : Expression → List FlatToken
flat_ended e = flat e ++ (semicolon (after_expression (edge e)) ∷ [])

pub ended_lives : (n : ℕ) (b : Below)
    → SoundBelow n b
    → AliveBelow b
    → (ts : List Token) (e : Fault)
    → ended_expression b ts ≡ Err e
    → Lives IsZero flat_ended Well ts e
unfolding ended_expression
ended_lives n b s a ts e p =
    elim (bind_err (b.expression ts) (λ e. semicolon_at (after_expression (edge e.0)) e.1 >>= λ s. Ok (e.0, s.1)) e p) [
      | inl q ↦
          let l = a.expression ts e q in
          ends_in l l.tree l.good.0 (semicolon (after_expression (edge l.tree)) ∷ []) (a_token kinds.Semicolon ∷ [])
          (λ r. inl (refl, refl)) refl
      | inr q ↦ elim (bind_err (semicolon_at (after_expression (edge q.0.0)) q.0.1) (λ s. Ok (q.0.0, s.1)) e q.2) [
        | inl k ↦
            let t = s.expression ts q.0 q.1 in
            from_nothing
            (stopped (flat q.0.0) (expression_firm q.0.0 t.well) ts q.0.1 t.marks e
            (semicolon_err (after_expression (edge q.0.0)) q.0.1 e k) q.0.0 t.well
            (semicolon (after_expression (edge q.0.0)) ∷ []) (a_token kinds.Semicolon ∷ []) (λ r. inl (refl, refl))
            refl)
        | inr k ↦ absurd cc
      ]
    ]

-- ---- a value for each item, and its tokens

abbrev fill : (i : Piece) → PieceValue i
fill (tok k) = tt
fill (near k) = tt
fill a_name = some_name []
fill (the_name n) = tt
fill an_assignment = trees.number 0
fill an_expression = trees.number 0
fill (optional k) = trees.omitted
fill (arguments k) = trees.no_expressions
fill ended = trees.number 0
fill (an_end end) = tt
fill (declared constant taken) = trees.a_declarator (zero_declarator (some_name taken)) trees.no_declarators
fill (a_statement context) = trees.expression (trees.number 0)
fill (a_block context taken) = trees.no_statements
fill (in_braces context taken) = trees.no_statements
fill code = record { parameters = []; body = trees.no_statements }

-- a given name, where it is free
abbrev given : (n : List ℕ) (c : Bool) → is_free n ≡ c → Added
given n true f = a_name_token n f
given n false f = a_token kinds.Name

given_is : (n : List ℕ) (c : Bool) (f : is_free n ≡ c) → c ≡ true → IsSymbol (identifier n) (as_token (given n c f))
given_is n true f h = (refl, refl)
given_is n false f h = absurd cc

-- a name that is given is free
abbrev is_writable : Piece → Bool
is_writable (the_name n) = is_free n
is_writable i = true

abbrev spell : Piece → List Added
spell (tok k) = a_token k ∷ []
spell (near k) = a_near_token k ∷ []
spell a_name = fresh_token [] ∷ []
spell (the_name n) = given n (is_free n) refl ∷ []
spell an_assignment = a_token kinds.Number ∷ []
spell an_expression = a_token kinds.Number ∷ []
spell (optional k) = a_token k ∷ []
spell (arguments k) = a_token k ∷ []
spell ended = zero_spelled
spell (an_end end) = a_token kinds.Semicolon ∷ []
spell (declared constant taken) = fresh_token taken ∷ zero_initialized
spell (a_statement context) = zero_spelled
spell (a_block context taken) = a_token kinds.LeftBrace ∷ a_token kinds.RightBrace ∷ []
spell (in_braces context taken) = a_token kinds.LeftBrace ∷ a_token kinds.RightBrace ∷ []
spell code =
    a_token kinds.LeftParenthesis ∷ a_token kinds.RightParenthesis ∷ a_token kinds.LeftBrace ∷ a_token
    kinds.RightBrace ∷ []

spelled : (i : Piece) → is_writable i ≡ true → (r : List Token) → Matches (marks_of i (fill i)) (added (spell i) ++ r) r
spelled (tok k) w r = (refl, refl)
spelled (near k) w r = (refl, refl, refl)
spelled a_name w r = ((refl, refl), refl)
spelled (the_name n) w r = (given_is n (is_free n) refl w, refl)
spelled an_assignment w r = ((refl, refl), refl)
spelled an_expression w r = ((refl, refl), refl)
spelled (optional k) w r = (refl, refl)
spelled (arguments k) w r = (refl, refl)
spelled ended w r = zero_spells r
spelled (an_end end) w r = inl (refl, refl)
spelled (declared constant taken) w r = ((refl, refl), (refl, ((refl, refl), refl)))
spelled (a_statement context) w r = zero_spells r
spelled (a_block context taken) w r = (refl, (refl, refl))
spelled (in_braces context taken) w r = (refl, (refl, refl))
spelled code w r = (refl, (refl, (refl, (refl, refl))))

fill_sane : (i : Piece) → Sane i (fill i)
fill_sane (tok k) = tt
fill_sane (near k) = tt
fill_sane a_name = tt
fill_sane (the_name n) = tt
fill_sane an_assignment = (tt, omega arith)
fill_sane an_expression = tt
fill_sane (optional k) = tt
fill_sane (arguments k) = tt
fill_sane ended = tt
fill_sane (an_end end) = tt
fill_sane (declared constant taken) =
    declared_more constant taken (zero_declarator (some_name taken)) []
    ((tt, omega arith), initialized_present constant (some_name taken) (trees.number 0), some_name_fresh taken) tt
fill_sane (a_statement context) = ((tt, refl, refl), refl)
fill_sane (a_block context taken) = (tt, tt)
fill_sane (in_braces context taken) = (tt, tt)
fill_sane code = ((tt, tt), tt)

abbrev fill_all : (is : List Piece) → PieceValues is
fill_all [] = tt
fill_all (i ∷ is) = (fill i, fill_all is)

abbrev spell_all : List Piece → List Added
spell_all [] = []
spell_all (i ∷ is) = spell i ++ spell_all is

abbrev are_writable : List Piece → Bool
are_writable [] = true
are_writable (i ∷ is) = is_writable i && are_writable is

all_spelled : (is : List Piece)
    → are_writable is ≡ true
    → (r : List Token)
    → Matches (marks is (fill_all is)) (added (spell_all is) ++ r) r
all_spelled [] w r = refl
all_spelled (i ∷ is) w r =
    let h = and_parts (is_writable i) (are_writable is) w in
    subst (λ (us : List Token). Matches (marks (i ∷ is) (fill_all (i ∷ is))) us r)
    (sym (ap (λ (us : List Token). us ++ r) (added_append (spell i) (spell_all is))
    ∙ append_assoc (added (spell i)) (added (spell_all is)) r))
    (joins (marks_of i (fill i)) (marks is (fill_all is)) (added (spell i) ++ (added (spell_all is) ++ r))
    (added (spell_all is) ++ r) r (spelled i h.0 (added (spell_all is) ++ r)) (all_spelled is h.1 r))

all_sane : (is : List Piece) → AllSane is (fill_all is)
all_sane [] = tt
all_sane (i ∷ is) = (fill_sane i, all_sane is)

-- ---- items

-- what the first token of an added item is
abbrev pub FirstOf : Piece → Option Token → Type 0
FirstOf (tok k) o = IsAdded k o
FirstOf an_assignment o = IsZero o
FirstOf an_expression o = IsZero o
FirstOf ended o = IsZero o
FirstOf i o = Anything o

item_lives : (n : ℕ) (b : Below)
    → SoundBelow n b
    → AliveBelow b
    → (i : Piece)
    → is_writable i ≡ true
    → (ts : List Token) (e : Fault)
    → item b i ts ≡ Err e
    → Lives (FirstOf i) (marks_of i) (Sane i) ts e
item_lives n b s a (tok k) w ts e p =
    fills ts e (expect_err k ts e p) tt tt (a_token k ∷ []) (λ r. (refl, refl)) (λ r. refl)
item_lives n b s a (near k) w ts e p =
    fills ts e (expect_near_err k ts e p) tt tt (a_near_token k ∷ []) (λ r. (refl, refl, refl)) (λ r. tt)
item_lives n b s a a_name w ts e p = name_lives ts e p
item_lives n b s a (the_name m) w ts e p =
    fills ts e (name_err m ts e p) tt tt (given m (is_free m) refl ∷ []) (λ r. (given_is m (is_free m) refl w, refl))
    (λ r. tt)
item_lives n b s a an_assignment w ts e p = a.assignment ts e p
item_lives n b s a an_expression w ts e p =
    let l = a.expression ts e p in
    ends_in l l.tree l.good.0 [] [] (λ r. refl) (append-nil (flat l.tree))
item_lives n b s a (optional k) w ts e p = optional_lives n b s a k ts e p
item_lives n b s a (arguments k) w ts e p = arguments_lives n b s a k ts e p
item_lives n b s a ended w ts e p = ended_lives n b s a ts e p
item_lives n b s a (an_end end) w ts e p =
    fills ts e (semicolon_err end ts e p) tt tt (a_token kinds.Semicolon ∷ []) (λ r. inl (refl, refl)) (λ r. tt)
item_lives n b s a (declared constant taken) w ts e p = declarators_lives n b s a constant taken ts e p
item_lives n b s a (a_statement context) w ts e p = anything (a.statement context ts e p)
item_lives n b s a (a_block context taken) w ts e p = anything (a.block context taken ts e p)
item_lives n b s a (in_braces context taken) w ts e p = anything (braces_lives n b s a context taken ts e p)
item_lives n b s a code w ts e p = anything (code_lives n b s a ts e p)

-- ---- productions

-- items that end in a token
abbrev is_firm_item : Piece → Bool
is_firm_item ended = false
is_firm_item (an_end end) = false
is_firm_item (a_statement context) = false
is_firm_item i = true

firm_item : (i : Piece) (v : PieceValue i) → is_firm_item i ≡ true → Sane i v → is_firm (marks_of i v) ≡ true
firm_item (tok k) v f s = refl
firm_item (near k) v f s = refl
firm_item a_name v f s = refl
firm_item (the_name n) v f s = refl
firm_item an_assignment v f s = expression_firm v s.0
firm_item an_expression v f s = expression_firm v s
firm_item (optional k) v f s = firm_last (flats.flat_optional v) k
firm_item (arguments k) v f s =
    firm_append (flat_expressions v) (trailing v ++ (token (fixed k) ∷ [])) (firm_last (trailing v) k)
firm_item ended v f s = absurd cc
firm_item (an_end end) v f s = absurd cc
firm_item (declared constant taken) v f s = declarators_firm v s.0 s.1
firm_item (a_statement context) v f s = absurd cc
firm_item (a_block context taken) v f s = firm_braces (flat_statements v)
firm_item (in_braces context taken) v f s = firm_braces (flat_statements v)
firm_item code v f s =
    firm_append (flat_parameters v.parameters) (flats.in_braces (flat_statements v.body))
    (firm_braces (flat_statements v.body))

-- an item that may end in an absent semicolon stands last, or before while
abbrev stands : Piece → List Piece → Bool
stands i [] = true
stands (a_statement context) (tok k ∷ is) = is_same_kind k kinds.While
stands i (j ∷ is) = is_firm_item i

abbrev pub lively : List Piece → Bool
lively [] = true
lively (i ∷ is) = (is_writable i && stands i is) && lively is

lively_writable : (is : List Piece) → lively is ≡ true → are_writable is ≡ true
lively_writable [] y = refl
lively_writable (i ∷ is) y =
    let h = and_parts (is_writable i && stands i is) (lively is) y in
    let w = and_parts (is_writable i) (stands i is) h.0 in
    rw (w.0, lively_writable is h.1) refl

abbrev pub FirstOfAll : List Piece → Option Token → Type 0
FirstOfAll [] o = Anything o
FirstOfAll (i ∷ is) o = FirstOf i o

-- what lives behind an item that was read
behind_item : (i : Piece) (is : List Piece)
    → stands i is ≡ true
    → (v : PieceValue i)
    → Sane i v
    → (ts mid : List Token)
    → Matches (marks_of i v) ts mid
    → (e : Fault)
    → ((is ≡ []) → ⊥)
    → (l : Lives (FirstOfAll is) (marks is) (AllSane is) mid e)
    → Lives (FirstOf i) (marks (i ∷ is)) (AllSane (i ∷ is)) ts e
behind_item i [] h v s ts mid m e some l = absurd (some refl)
behind_item (a_statement context) (tok k ∷ is) h v s ts mid m e some l =
    anything (around_softly l
    (λ us t. while_softer mid us
    (subst (λ (k : TokenKind). Starts (IsAdded k) mid us) (same_kind k kinds.While h) t))
    (flat_statement v) ts m (v, l.tree) (s, l.good) [] [] (λ r. refl)
    (ap (λ (ms : List FlatToken). flat_statement v ++ ms) (append-nil (marks (tok k ∷ is) l.tree))))
behind_item i (j ∷ is) h v s ts mid m e some l =
    from_nothing
    (around l (marks_of i v) (firm_item i v h s) ts m (v, l.tree) (s, l.good) [] [] (λ r. refl)
    (ap (λ (ms : List FlatToken). marks_of i v ++ ms) (append-nil (marks (j ∷ is) l.tree))))

some_items : (b : Below) (is : List Piece) (ts : List Token) (e : Fault) → seq b is ts ≡ Err e → (is ≡ []) → ⊥
some_items b [] ts e p is = absurd cc
some_items b (i ∷ is) ts e p none = absurd cc

-- Where a production stops, the tokens before begin one.
pub seq_lives : (n : ℕ) (b : Below)
    → SoundBelow n b
    → AliveBelow b
    → (is : List Piece)
    → lively is ≡ true
    → (ts : List Token) (e : Fault)
    → seq b is ts ≡ Err e
    → Lives (FirstOfAll is) (marks is) (AllSane is) ts e
seq_lives n b s a [] y ts e p = absurd cc
seq_lives n b s a (i ∷ is) y ts e p =
    elim (bind_err (item b i ts) (λ x. seq b is x.1 >>= λ y. Ok ((x.0, y.0), y.1)) e p) [
      | inl q ↦
          let h = and_parts (is_writable i && stands i is) (lively is) y in
          let w = and_parts (is_writable i) (stands i is) h.0 in
          let l = item_lives n b s a i w.0 ts e q in
          ends_in l (l.tree, fill_all is) (l.good, all_sane is) (marks is (fill_all is)) (spell_all is)
          (all_spelled is (lively_writable is h.1)) refl
      | inr q ↦ elim (bind_err (seq b is q.0.1) (λ y. Ok ((q.0.0, y.0), y.1)) e q.2) [
        | inl k ↦
            let t = item_sound n b s i ts q.0 q.1 in
            let h = and_parts (is_writable i && stands i is) (lively is) y in
            let w = and_parts (is_writable i) (stands i is) h.0 in
            behind_item i is w.1 q.0.0 t.sane ts q.0.1 t.marks e (some_items b is q.0.1 e k)
            (seq_lives n b s a is h.1 q.0.1 e k)
        | inr k ↦ absurd cc
      ]
    ]

-- where its first token is there
pub known_lives : (n : ℕ) (b : Below)
    → SoundBelow n b
    → AliveBelow b
    → (k : TokenKind) (is : List Piece)
    → lively is ≡ true
    → (ts : List Token) (e : Fault)
    → IsNext (fixed k) (head_of ts)
    → seq b (tok k ∷ is) ts ≡ Err e
    → Lives Nothing (marks (tok k ∷ is)) (AllSane (tok k ∷ is)) ts e
known_lives n b s a k is y ts e f p =
    elim (bind_err (expect k ts) (λ x. seq b is x.1 >>= λ y. Ok ((x.0, y.0), y.1)) e p) [
      | inl q ↦ let again = expect_again k ts (tail_of ts) (f, refl) in absurd cc
      | inr q ↦ elim (bind_err (seq b is q.0.1) (λ y. Ok ((q.0.0, y.0), y.1)) e q.2) [
        | inl j ↦
            let l = seq_lives n b s a is y q.0.1 e j in
            around l (token (fixed k) ∷ []) refl ts (expect_sound k ts q.0 q.1) (tt, l.tree) (tt, l.good) [] []
            (λ r. refl)
            (ap (λ (ms : List FlatToken). token (fixed k) ∷ ms) (append-nil (marks is l.tree)))
        | inr j ↦ absurd cc
      ]
    ]

-- what is made of a production's values stops where the production does
pub made_err : {A : Type 0} (b : Below) (is : List Piece) (make : PieceValues is → A) (ts : List Token) (e : Fault)
    → made b is make ts ≡ Err e
    → seq b is ts ≡ Err e
made_err b is make ts e p = elim (bind_err (seq b is ts) (λ x. Ok (make x.0, x.1)) e p) [
  | inl q ↦ q
  | inr q ↦ absurd cc
]
