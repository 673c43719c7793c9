-- What is read of arrow functions, assignments and whole expressions is a well-formed expression's.
use Rattle.std.proofs.Common.{◌≡◌, ℕ, suc, Bool, true, false, List, [], ◌∷◌, ◌++◌, length, Ok, Err, refl, ap, subst, inl, inr, arith}
use Rattle.std.specs.Prelude.{not, if◌then◌else◌}
use Rattle.std.proofs.lemmas.List.{append-nil}
use Rattle.js_lexer.specs.declared.token.TokenKind.TheVariants as kinds
use Rattle.js_tree.specs.Trees as trees
use Rattle.js_tree.specs.Trees.{Identifier, Parameters, Expression, Expressions}
use Rattle.js_parser_language.specs.Tokens.{Token, fixed, FlatToken, token, beside, head_of, Matches}
use Rattle.js_parser_language.specs.Flat as flats
use Rattle.js_parser_language.specs.Flat.{assign_kind, flat, more_expressions, flat_names, flat_parameters, flat_arrow_parameters, flat_statements}
use Rattle.js_parser_language.specs.Well.{function_body, is_among, AreFresh, names_of_parameters, is_two_expressions, is_function}
use Rattle.js_tree.specs.Targets.{is_target}
use Rattle.js_tree.specs.Height.{height}
use Rattle.js_parser_language.specs.Kinds.{is_kind}
use Rattle.js_parser_readers.specs.Reading.{stuck, ◌>>=◌, expect, expect_near, name_at, with_names}
use Rattle.js_parser_readers.specs.Classes as classes
use Rattle.js_parser_readers.specs.Classes.{PrimaryStart, start, Joint, question, assigns_by, no_joint, joint, ArrowStart, one_parameter, listed, no_arrow, arrow_head}
use Rattle.js_parser_readers.specs.Productions.{Below, more_assignments, names_before, parameters_at, tok, an_assignment, in_braces, made}
use Rattle.js_parser_readers.specs.Parsing.{if_low, operation, arrow_body_by, arrow_rest, are_fresh, arrow_of_names, arrow_of_one, arrow_of_list, joined_by, joined, assignment_by, assignment, comma_by, expression, function_code_by}
use Rattle.js_parser_laws.proofs.Claims.{TakesExpression, SoundBelow, SeqSound}
use Rattle.js_parser_laws.proofs.MarkLemmas.{joins}
use Rattle.js_parser_laws.proofs.TokenLemmas.{cond_ok, test_ok, expect_sound, expect_near_sound, name_sound}
use Rattle.js_parser_laws.proofs.Sound.Part.{fresh_behind, more_sound, names_before_sound, parameters_sound}
use Rattle.js_parser_laws.proofs.Sound.Operator.{made_takes, low_ok, weaker, takes_ok, operation_sound}
use Rattle.js_parser_laws.proofs.Sound.Primary.{function_sound, call_sound}
use Rattle.js_parser_readers.proofs.ClassLemmas.{start_function}
use Rattle.js_parser_readers.proofs.ShorterLemmas.{bind_ok}
use Rattle.js_parser_laws.proofs.Sound.Statement.{no_brace}
use Rattle.std.proofs.lemmas.Bool.{and_parts, not-true}

-- ---- arrow functions

-- a function that is an assignment
abbrev pub TakesFunction : ℕ → List Token → Expression → List Token → Type 0
TakesFunction n s e r = TakesExpression 1 (suc n) s e r × (is_function e ≡ true)

arrow_body_by_sound : (q : SeqSound) (n : ℕ) (b : Below)
    → SoundBelow n b
    → (s : List Token) (ps : Parameters) (ts : List Token)
    → Matches (flat_arrow_parameters ps) s ts
    → AreFresh [] (names_of_parameters ps)
    → (us : List Token)
    → Matches (beside (fixed kinds.Arrow) ∷ []) ts us
    → (c : Bool)
    → is_kind kinds.LeftBrace (head_of us) ≡ c
    → (x : Expression × List Token)
    → arrow_body_by b ps (names_of_parameters ps) c us ≡ Ok x
    → TakesFunction n s x.0 x.1
arrow_body_by_sound q n b snd s ps ts m fresh us a true f x e =
    made_takes q n b snd (in_braces function_body (with_names [] (names_of_parameters ps)) ∷ [])
    (λ v. trees.arrow_block ps v.0) us x (λ e r. TakesFunction n s e r) (λ v r t. (
      record {
        marks =
            joins (flat_arrow_parameters ps)
            (beside (fixed kinds.Arrow) ∷ (flats.in_braces (flat_statements v.0) ++ [])) s ts r m
            (joins (beside (fixed kinds.Arrow) ∷ []) (flats.in_braces (flat_statements v.0) ++ [])
            ts us r a t.marks);
        well = ((fresh, fresh_behind (names_of_parameters ps) _ t.sane.0.0), t.sane.0.1);
        level = omega arith;
        height = omega (arith, t.height);
      },
      refl,
    )) e
arrow_body_by_sound q n b snd s ps ts m fresh us a false f x e =
    made_takes q n b snd (an_assignment ∷ []) (λ v. trees.arrow ps v.0) us x (λ e r. TakesFunction n s e r) (λ v r t. (
      record {
        marks =
            joins (flat_arrow_parameters ps) (beside (fixed kinds.Arrow) ∷ (flat v.0 ++ [])) s ts r m
            (joins (beside (fixed kinds.Arrow) ∷ []) (flat v.0 ++ []) ts us r a t.marks);
        well = (
          fresh,
          t.sane.0.0,
          t.sane.0.1,
          no_brace (flat v.0) us r f
              (subst (λ (ms : List FlatToken). Matches ms us r) (append-nil (flat v.0)) t.marks),
        );
        level = omega arith;
        height = omega (arith, t.height);
      },
      refl,
    )) e

pub arrow_rest_sound : (q : SeqSound) (n : ℕ) (b : Below)
    → SoundBelow n b
    → (s : List Token) (ps : Parameters) (ts : List Token) (x : Expression × List Token)
    → Matches (flat_arrow_parameters ps) s ts
    → AreFresh [] (names_of_parameters ps)
    → arrow_rest b ps (names_of_parameters ps) ts ≡ Ok x
    → TakesFunction n s x.0 x.1
unfolding arrow_rest
arrow_rest_sound q n b snd s ps ts x m fresh e =
    let a = bind_ok (expect_near kinds.Arrow ts)
    (λ a. arrow_body_by b ps (names_of_parameters ps) (is_kind kinds.LeftBrace (head_of a.1)) a.1) x e in
    arrow_body_by_sound q n b snd s ps ts m fresh a.0.1 (expect_near_sound kinds.Arrow ts a.0 a.1)
    (is_kind kinds.LeftBrace (head_of a.0.1)) refl x a.2

pub arrow_of_one_sound : (q : SeqSound) (n : ℕ) (b : Below)
    → SoundBelow n b
    → (ts : List Token) (x : Expression × List Token)
    → arrow_of_one b ts ≡ Ok x
    → TakesFunction n ts x.0 x.1
unfolding arrow_of_one
arrow_of_one_sound q n b s ts x e =
    let p = bind_ok (name_at ts) (λ n. arrow_rest b (trees.one_name n.0) (n.0 ∷ []) n.1) x e in
    arrow_rest_sound q n b s ts (trees.one_name p.0.0) p.0.1 x (name_sound ts p.0 p.1) (refl, tt) p.2

pub fresh_is : (taken ns : List Identifier) → are_fresh taken ns ≡ true → AreFresh taken ns
fresh_is taken [] e = tt
fresh_is taken (n ∷ ns) e =
    let p = and_parts (not (is_among taken n)) (are_fresh (n ∷ taken) ns) e in
    (not-true (is_among taken n) p.0, fresh_is (n ∷ taken) ns p.1)

-- an arrow function whose names in parentheses were read
arrow_of_names_sound : (q : SeqSound) (n : ℕ) (b : Below)
    → SoundBelow n b
    → (s : List Token) (only : Bool) (names : List Identifier) (ts : List Token) (x : Expression × List Token)
    → Matches (flat_parameters names) s ts
    → arrow_of_names b only names ts ≡ Ok x
    → TakesFunction n s x.0 x.1
arrow_of_names_sound q n b snd s only names ts x m e =
    elim (cond_ok (are_fresh [] names) (arrow_rest b (trees.name_list names) names ts)
    (if only then Err (stuck (suc (length ts))) else Err (stuck (length ts))) x e) [
      | inl p ↦ arrow_rest_sound q n b snd s (trees.name_list names) ts x m (fresh_is [] names p.0) p.1
      | inr p ↦ elim (cond_ok only (Err (stuck (suc (length ts)))) (Err (stuck (length ts))) x p.1) [
        | inl r ↦ absurd cc
        | inr r ↦ absurd cc
      ]
    ]

pub arrow_of_list_sound : (q : SeqSound) (n : ℕ) (b : Below)
    → SoundBelow n b
    → (only : Bool) (ts : List Token) (x : Expression × List Token)
    → arrow_of_list b only ts ≡ Ok x
    → TakesFunction n ts x.0 x.1
unfolding arrow_of_list
arrow_of_list_sound q n b s only ts x e =
    let o = bind_ok (expect kinds.LeftParenthesis ts) (λ o. names_before o.1 >>= λ ns. arrow_of_names b only ns.0 ns.1)
    x e in
    let p = bind_ok (names_before o.0.1) (λ ns. arrow_of_names b only ns.0 ns.1) x o.2 in
    let m = joins (token (fixed kinds.LeftParenthesis) ∷ [])
    (flat_names p.0.0 ++ (token (fixed kinds.RightParenthesis) ∷ [])) ts o.0.1 p.0.1
    (expect_sound kinds.LeftParenthesis ts o.0 o.1) (names_before_sound o.0.1 p.0 p.1) in
    arrow_of_names_sound q n b s ts only p.0.0 p.0.1 x m p.2

-- ---- assignments

joined_by_sound : (q : SeqSound) (n : ℕ) (b : Below)
    → SoundBelow n b
    → (s : List Token) (t : Expression) (j : Joint) (ts : List Token) (x : Expression × List Token)
    → TakesExpression 3 (suc n) s t ts
    → joined_by b n t j ts ≡ Ok x
    → TakesExpression 1 (suc n) s x.0 x.1
joined_by_sound q n b snd s t question ts x l e =
    let p = low_ok (height t) n ts
    (made b (tok kinds.Question ∷ an_assignment ∷ tok kinds.Colon ∷ an_assignment ∷ [])
    (λ v. trees.conditional t v.1.0 v.1.1.1.0) ts)
    x e in
    made_takes q n b snd (tok kinds.Question ∷ an_assignment ∷ tok kinds.Colon ∷ an_assignment ∷ [])
    (λ v. trees.conditional t v.1.0 v.1.1.1.0) ts x (λ e r. TakesExpression 1 (suc n) s e r) (λ v r a. record {
      marks =
          joins (flat t)
          (token (fixed kinds.Question) ∷ (flat v.1.0 ++ (token (fixed kinds.Colon) ∷ (flat v.1.1.1.0 ++ []))))
          s ts r l.marks a.marks;
      well = (l.well, l.level, a.sane.1.0.0, a.sane.1.0.1, a.sane.1.1.1.0.0, a.sane.1.1.1.0.1);
      level = omega arith;
      height = omega (arith, a.height, p.0);
    }) p.1
joined_by_sound q n b snd s t (assigns_by o) ts x l e =
    let c = test_ok (is_target t)
    (if_low (height t) n ts (made b (tok (assign_kind o) ∷ an_assignment ∷ []) (λ v. trees.assign o t v.1.0) ts))
    (stuck (length ts)) x e in
    let p = low_ok (height t) n ts (made b (tok (assign_kind o) ∷ an_assignment ∷ []) (λ v. trees.assign o t v.1.0) ts)
    x c.1 in
    made_takes q n b snd (tok (assign_kind o) ∷ an_assignment ∷ []) (λ v. trees.assign o t v.1.0) ts x
    (λ e r. TakesExpression 1 (suc n) s e r) (λ v r a. record {
      marks = joins (flat t) (token (fixed (assign_kind o)) ∷ (flat v.1.0 ++ [])) s ts r l.marks a.marks;
      well = (l.well, c.0, a.sane.1.0.0, a.sane.1.0.1);
      level = omega arith;
      height = omega (arith, a.height, p.0);
    }) p.1
joined_by_sound q n b snd s t no_joint ts x l e =
    takes_ok 1 (suc n) s t ts x e (weaker 3 1 (suc n) s t ts (omega arith) l)

pub joined_sound : (q : SeqSound) (n : ℕ) (b : Below)
    → SoundBelow n b
    → (s : List Token) (t : Expression) (ts : List Token) (x : Expression × List Token)
    → TakesExpression 3 (suc n) s t ts
    → joined b n t ts ≡ Ok x
    → TakesExpression 1 (suc n) s x.0 x.1
unfolding joined
joined_sound q n b snd s t ts x l e = joined_by_sound q n b snd s t (joint (head_of ts)) ts x l e

assignment_by_sound : (q : SeqSound) (n : ℕ) (b : Below)
    → SoundBelow n b
    → (h : ArrowStart) (ts : List Token) (x : Expression × List Token)
    → assignment_by b n h ts ≡ Ok x
    → TakesExpression 1 (suc n) ts x.0 x.1
assignment_by_sound q n b s one_parameter ts x e = (arrow_of_one_sound q n b s ts x e).0
assignment_by_sound q n b s (listed only) ts x e = (arrow_of_list_sound q n b s only ts x e).0
assignment_by_sound q n b s no_arrow ts x e =
    let p = bind_ok (operation b n 3 ts) (λ x. joined b n x.0 x.1) x e in
    joined_sound q n b s ts p.0.0 p.0.1 x (operation_sound n b s (call_sound q n b s) 3 (omega arith) ts p.0 p.1).0 p.2

pub assignment_sound : (q : SeqSound) (n : ℕ) (b : Below)
    → SoundBelow n b
    → (ts : List Token) (x : Expression × List Token)
    → assignment b n ts ≡ Ok x
    → TakesExpression 1 (suc n) ts x.0 x.1
unfolding assignment
assignment_sound q n b s ts x e = assignment_by_sound q n b s (arrow_head ts) ts x e

-- ---- expressions

-- a comma goes on with one expression at least
two_by : (e : Expression) (es : Expressions) (ts r : List Token)
    → is_kind kinds.Comma (head_of ts) ≡ true
    → is_kind kinds.Comma (head_of r) ≡ false
    → Matches (more_expressions es) ts r
    → is_two_expressions (trees.an_expression e es) ≡ true
two_by e trees.no_expressions ts r f g m =
    let same : is_kind kinds.Comma (head_of ts) ≡ is_kind kinds.Comma (head_of r) = ap
    (λ (l : List Token). is_kind kinds.Comma (head_of l)) m in
    absurd cc
two_by e (trees.an_expression d es) ts r f g m = refl

comma_by_sound : (n : ℕ) (b : Below)
    → SoundBelow n b
    → (s : List Token) (f : Expression) (c : Bool) (ts : List Token) (x : Expression × List Token)
    → is_kind kinds.Comma (head_of ts) ≡ c
    → TakesExpression 1 (suc n) s f ts
    → comma_by b n f c ts ≡ Ok x
    → TakesExpression 0 (suc n) s x.0 x.1
comma_by_sound n b snd s f false ts x g t e = takes_ok 0 (suc n) s f ts x e (weaker 1 0 (suc n) s f ts (omega arith) t)
comma_by_sound n b snd s f true ts x g t e =
    let l = low_ok (height f) n ts (more_assignments b ts >>= λ x. Ok (trees.comma (trees.an_expression f x.0), x.1))
    x e in
    let p = bind_ok (more_assignments b ts) (λ x. Ok (trees.comma (trees.an_expression f x.0), x.1)) x l.1 in
    let a = more_sound n b snd ts p.0 p.1 in
    takes_ok 0 (suc n) s (trees.comma (trees.an_expression f p.0.0)) p.0.1 x p.2 (record {
      marks = joins (flat f) (more_expressions p.0.0) s ts p.0.1 t.marks a.0;
      well = (two_by f p.0.0 ts p.0.1 g a.3 a.0, (t.well, t.level, a.1));
      level = omega arith;
      height = omega (arith, a.2, l.0);
    })

pub expression_sound : (q : SeqSound) (n : ℕ) (b : Below)
    → SoundBelow n b
    → (ts : List Token) (x : Expression × List Token)
    → expression b n ts ≡ Ok x
    → TakesExpression 0 (suc n) ts x.0 x.1
unfolding expression
expression_sound q n b s ts x e =
    let p = bind_ok (assignment b n ts) (λ x. comma_by b n x.0 (is_kind kinds.Comma (head_of x.1)) x.1) x e in
    comma_by_sound n b s ts p.0.0 (is_kind kinds.Comma (head_of p.0.1)) p.0.1 x refl
    (assignment_sound q n b s ts p.0 p.1) p.2

-- ---- functions alone

-- a function expression or an arrow function
pub function_code_sound : (q : SeqSound) (n : ℕ) (b : Below)
    → SoundBelow n b
    → (c : PrimaryStart) (ts : List Token) (x : Expression × List Token)
    → start (head_of ts) ≡ c
    → function_code_by b c ts ≡ Ok x
    → TakesFunction n ts x.0 x.1
function_code_sound q n b s classes.function_word ts x f e =
    let t = function_sound q n b s ts x (start_function (head_of ts) f) e in
    (weaker 15 1 (suc n) ts x.0 x.1 (omega arith) t.0, t.1)
function_code_sound q n b s (classes.a_name w) ts x f e = arrow_of_one_sound q n b s ts x e
function_code_sound q n b s classes.parenthesis ts x f e =
    let p = bind_ok (parameters_at ts) (λ ps. arrow_rest b (trees.name_list ps.0) ps.0 ps.1) x e in
    let t = parameters_sound ts p.0 p.1 in
    arrow_rest_sound q n b s ts (trees.name_list p.0.0) p.0.1 x t.0 t.1 p.2
function_code_sound q n b s _ ts x f e = absurd cc
