-- Where the readers of arrow functions, assignments and whole expressions stop, the tokens before begin well-formed
-- expressions.
use Rattle.std.proofs.Common.{◌≡◌, ℕ, zero, suc, ◌<◌, Bool, true, false, List, [], ◌∷◌, ◌++◌, length, Option, Some, None, Ok, Err, refl, sym, ap, subst, ◌∙◌, inl, inr, append_assoc, arith}
use Rattle.std.specs.Prelude.{if◌then◌else◌}
use Rattle.std.proofs.lemmas.List.{append-nil}
use Rattle.js_lexer.specs.declared.token.TokenKind.{TokenKind}
use Rattle.js_lexer.specs.declared.token.TokenKind.TheVariants as kinds
use Rattle.js_tree_operators.specs.declared.operator.AssignmentOperator.{AssignmentOperator}
use Rattle.js_tree.specs.Trees as trees
use Rattle.js_tree.specs.Trees.{Identifier, Parameters, Expression, Expressions}
use Rattle.js_parser_language.specs.Tokens.{Token, fixed, identifier, numeric_literal, FlatToken, token, beside, head_of, tail_of, IsNext, Matches}
use Rattle.js_parser_language.specs.Flat as flats
use Rattle.js_parser_language.specs.Flat.{assign_kind, flat, flat_expressions, more_expressions, flat_parameters, flat_arrow_parameters}
use Rattle.js_parser_language.specs.Well.{function_body, Well, AreAssignments, AreFresh, names_of_parameters, begins_with_brace, is_two_expressions, declared_names}
use Rattle.js_tree.specs.Targets.{is_target}
use Rattle.js_tree.specs.Height.{height}
use Rattle.js_parser_language.specs.Kinds.{is_kind}
use Rattle.js_parser_readers.specs.Reading.{Fault, stuck, Read, ◌>>=◌, expect, expect_near, name_at, elements, no_state, with_names}
use Rattle.js_parser_readers.specs.Classes as classes
use Rattle.js_parser_readers.specs.Classes.{PrimaryStart, start, Joint, question, assigns_by, no_joint, joint_by, joint, is_arrow, past_names, ArrowStart, one_parameter, listed, no_arrow, listed_by, head_by, arrow_head}
use Rattle.js_parser_readers.specs.Productions.{Below, one_of, more_assignments, names_before, parameters_at, tok, an_assignment, in_braces, seq, made}
use Rattle.js_parser_readers.specs.Parsing.{if_low, operation, arrow_body_by, arrow_rest, are_fresh, arrow_of_names, arrow_of_one, arrow_of_list, joined_by, joined, assignment_by, assignment, comma_by, expression, function_code_by}
use Rattle.js_parser_language.proofs.KindLemmas.{kind_is, next_is}
use Rattle.js_parser_laws.proofs.Claims.{TakesExpression, SoundBelow}
use Rattle.js_parser_laws.proofs.MarkLemmas.{joins}
use Rattle.js_parser_laws.proofs.TokenLemmas.{faulty, ok_is, expect_sound, expect_again, expect_near_sound, name_again, name_sound}
use Rattle.js_parser_laws.proofs.Sound.Part.{fresh_behind, names_before_sound, parameters_sound, seq_sound}
use Rattle.js_parser_laws.proofs.Sound.Operator.{operation_sound}
use Rattle.js_parser_laws.proofs.Sound.Primary.{call_sound}
use Rattle.js_parser_laws.proofs.Sound.Expression.{fresh_is, assignment_sound}
use Rattle.js_parser_laws.proofs.Alive.Tools.{bind_err, cond_err, Counts, stuck_counts, Added, as_token, added, a_token, a_near_token, Anything, Nothing, IsZero, Starts, is_firm, firm_append, Lives, fills, anything, from_nothing, ends_in, around, stopped, renamed, behind}
use Rattle.js_parser_laws.proofs.Alive.Parts.{Fits, AliveBelow, zero_marks, flat_block, expect_near_err, parameters_lives, more_lives, seq_lives, made_err}
use Rattle.js_parser_laws.proofs.Alive.Expressions.{low_err, looser, whole_lives, token_lives, zero_token, IsFunctionOf, function_lives, operation_lives}
use Rattle.js_parser_laws.proofs.FirmTreeLemmas.{expression_firm, firm_parameters}
use Rattle.js_parser_readers.proofs.ClassLemmas.{start_function, start_name}
use Rattle.js_parser_laws.proofs.Follows.Assignments.{no_one, start_paren}
use Rattle.js_parser_laws.proofs.Sound.Statement.{no_brace}

-- ---- tokens that are no other

-- an added number is of no other kind
pub other_kind : (k : TokenKind) (ts us : List Token)
    → is_kind k (Some (as_token (a_token kinds.Number))) ≡ false
    → is_kind k (head_of ts) ≡ false
    → Starts IsZero ts us
    → is_kind k (head_of us) ≡ false
other_kind k ts us z f (inl same) = ap (λ (o : Option Token). is_kind k o) same ∙ f
other_kind k ts us z f (inr is) = ap (λ (o : Option Token). is_kind k o) is ∙ z

-- what lives behind no brace begins with none
pub alive_no_brace : {flat_of : Expression → List FlatToken} {Good : Expression → Type 0} {ts : List Token} {e : Fault}
    (l : Lives IsZero flat_of Good ts e)
    → is_kind kinds.LeftBrace (head_of ts) ≡ false
    → begins_with_brace (flat_of l.tree) ≡ false
alive_no_brace {flat_of} {Good} {ts} l f =
    no_brace (flat_of l.tree) (l.before ++ (added l.rest ++ [])) []
    (other_kind kinds.LeftBrace ts (l.before ++ (added l.rest ++ [])) refl f (l.starts [])) (l.spelled [])

-- ---- arrow functions

firm_arrow_parameters : (ps : Parameters) → is_firm (flat_arrow_parameters ps) ≡ true
firm_arrow_parameters (trees.one_name n) = refl
firm_arrow_parameters (trees.name_list ns) = firm_parameters ns

arrow_body_lives : (n : ℕ) (b : Below)
    → SoundBelow n b
    → AliveBelow b
    → (s : List Token) (ps : Parameters) (ts : List Token)
    → Matches (flat_arrow_parameters ps) s ts
    → AreFresh [] (names_of_parameters ps)
    → (us : List Token)
    → Matches (beside (fixed kinds.Arrow) ∷ []) ts us
    → (c : Bool)
    → is_kind kinds.LeftBrace (head_of us) ≡ c
    → (e : Fault)
    → arrow_body_by b ps (names_of_parameters ps) c us ≡ Err e
    → Lives Nothing flat (IsFunctionOf 1) s e
arrow_body_lives n b snd a s ps ts m fresh us next true f e p =
    let front = flat_arrow_parameters ps in
    let is = in_braces function_body (with_names [] (names_of_parameters ps)) ∷ [] in
    let l = anything
    (seq_lives n b snd a is refl us e (made_err {A = Expression} b is (λ v. trees.arrow_block ps v.0) us e p)) in
    around l (front ++ (beside (fixed kinds.Arrow) ∷ [])) (firm_append front (beside (fixed kinds.Arrow) ∷ []) refl) s
    (joins front (beside (fixed kinds.Arrow) ∷ []) s ts us m next)
    (trees.arrow_block ps l.tree.0) (
      (
        ((fresh, fresh_behind (names_of_parameters ps) (declared_names l.tree.0) l.good.0.0), l.good.0.1),
        omega arith,
      ),
      refl,
    )
    [] [] (λ r. refl)
    (append_assoc front (beside (fixed kinds.Arrow) ∷ []) ((flat_block l.tree.0 ++ []) ++ [])
    ∙ ap (λ (ms : List FlatToken). front ++ (beside (fixed kinds.Arrow) ∷ ms)) (append-nil (flat_block l.tree.0 ++ [])))
arrow_body_lives n b snd a s ps ts m fresh us next false f e p =
    let front = flat_arrow_parameters ps in
    elim (bind_err (seq b (an_assignment ∷ []) us) (λ v. Ok (trees.arrow ps v.0.0, v.1)) e p) [
      | inl q ↦ elim (bind_err (b.assignment us) (λ x. Ok ((x.0, tt), x.1)) e q) [
        | inl k ↦
            let l = a.assignment us e k in
            around l (front ++ (beside (fixed kinds.Arrow) ∷ []))
            (firm_append front (beside (fixed kinds.Arrow) ∷ []) refl) s
            (joins front (beside (fixed kinds.Arrow) ∷ []) s ts us m next)
            (trees.arrow ps l.tree) (((fresh, l.good.0, l.good.1, alive_no_brace l f), omega arith), refl) [] []
            (λ r. refl)
            (append_assoc front (beside (fixed kinds.Arrow) ∷ []) (flat l.tree ++ []))
        | inr k ↦ absurd cc
      ]
      | inr q ↦ absurd cc
    ]

-- => 0 behind the parameters
abbrev zero_arrow : List FlatToken
zero_arrow = beside (fixed kinds.Arrow) ∷ zero_marks

abbrev zero_arrow_tokens : List Added
zero_arrow_tokens = a_near_token kinds.Arrow ∷ zero_token

zero_arrow_spelled : (r : List Token) → Matches zero_arrow (added zero_arrow_tokens ++ r) r
zero_arrow_spelled r = (refl, refl, ((refl, refl), refl))

arrow_rest_lives : (n : ℕ) (b : Below)
    → SoundBelow n b
    → AliveBelow b
    → (s : List Token) (ps : Parameters) (ts : List Token) (e : Fault)
    → Matches (flat_arrow_parameters ps) s ts
    → AreFresh [] (names_of_parameters ps)
    → arrow_rest b ps (names_of_parameters ps) ts ≡ Err e
    → Lives Nothing flat (IsFunctionOf 1) s e
unfolding arrow_rest
arrow_rest_lives n b snd a s ps ts e m fresh p =
    elim (bind_err (expect_near kinds.Arrow ts)
    (λ a. arrow_body_by b ps (names_of_parameters ps) (is_kind kinds.LeftBrace (head_of a.1)) a.1) e p) [
      | inl q ↦ stopped (flat_arrow_parameters ps) (firm_arrow_parameters ps) s ts m e
          (expect_near_err kinds.Arrow ts e q)
          (trees.arrow ps (trees.number 0)) (((fresh, tt, omega arith, refl), omega arith), refl)
          zero_arrow zero_arrow_tokens zero_arrow_spelled refl
      | inr q ↦ arrow_body_lives n b snd a s ps ts m fresh q.0.1 (expect_near_sound kinds.Arrow ts q.0 q.1)
          (is_kind kinds.LeftBrace (head_of q.0.1)) refl e q.2
    ]

pub arrow_of_one_lives : (n : ℕ) (b : Below)
    → SoundBelow n b
    → AliveBelow b
    → (w : Identifier) (ts : List Token) (e : Fault)
    → IsNext (identifier w) (head_of ts)
    → arrow_of_one b ts ≡ Err e
    → Lives Nothing flat (IsFunctionOf 1) ts e
unfolding arrow_of_one
arrow_of_one_lives n b s a w ts e f p =
    elim (bind_err (name_at ts) (λ n. arrow_rest b (trees.one_name n.0) (n.0 ∷ []) n.1) e p) [
      | inl q ↦ let again = name_again w ts (tail_of ts) (f, refl) in absurd cc
      | inr q ↦ arrow_rest_lives n b s a ts (trees.one_name q.0.0) q.0.1 e (name_sound ts q.0 q.1) (refl, tt) q.2
    ]

-- ---- names in parentheses

-- the names as expressions, and with 0 behind them
abbrev as_expressions : List Identifier → Expressions
as_expressions [] = trees.no_expressions
as_expressions (n ∷ ns) = trees.an_expression (trees.name n) (as_expressions ns)

abbrev with_zero : List Identifier → Expressions
with_zero [] = trees.an_expression (trees.number 0) trees.no_expressions
with_zero (n ∷ ns) = trees.an_expression (trees.name n) (with_zero ns)

-- What names that end so are, as they are read: of true they begin expressions that 0 ends, of false they are
-- expressions with the parenthesis.
abbrev Shaped : Bool → List Identifier → List Token → List Token → Type 0
Shaped true names us r =
    (before : List Token)
    × (last : Token)
    × (us ≡ before ++ (last ∷ r))
    × ((x : List Token)
    → Matches (flat_expressions (with_zero names)) (before ++ (as_token (a_token kinds.Number) ∷ x)) x)
Shaped false names us r =
    Matches (flat_expressions (as_expressions names) ++ (token (fixed kinds.RightParenthesis) ∷ [])) us r
    × ((n : Identifier) × (ns : List Identifier) × (names ≡ n ∷ ns))

abbrev got_names : List Identifier → List Token → Read (List Identifier)
got_names ns r = Ok (ns, r)

record NamesAre (only : Bool) (k : ℕ) (us r : List Token) : Type 0 where
  pub names : List Identifier
  pub read : elements (one_of name_at) no_state kinds.RightParenthesis k tt us ≡ Ok (names, r)
  pub shaped : Shaped only names us r

read_none : (k : ℕ) (us : List Token)
    → is_kind kinds.RightParenthesis (head_of us) ≡ true
    → elements (one_of name_at) no_state kinds.RightParenthesis (suc k) tt us ≡ Ok ([], tail_of us)
unfolding elements
read_none k us h = rw h refl

read_name : (t : Token) (us : List Token)
    → is_kind kinds.Name (Some t) ≡ true
    → name_at (t ∷ us) ≡ Ok (t.string_value, us)
unfolding name_at
read_name t us h = rw h refl

read_last : (k : ℕ) (t u : Token) (us : List Token)
    → is_kind kinds.RightParenthesis (Some t) ≡ false
    → is_kind kinds.Name (Some t) ≡ true
    → is_kind kinds.RightParenthesis (Some u) ≡ true
    → elements (one_of name_at) no_state kinds.RightParenthesis (suc k) tt (t ∷ u ∷ us) ≡ Ok (t.string_value ∷ [], us)
unfolding elements
read_last k t u us f g h = rw (f, read_name t (u ∷ us) g, h) refl

read_more : (k : ℕ) (t u : Token) (us : List Token) (ns : List Identifier) (r : List Token)
    → is_kind kinds.RightParenthesis (Some t) ≡ false
    → is_kind kinds.Name (Some t) ≡ true
    → is_kind kinds.RightParenthesis (Some u) ≡ false
    → is_kind kinds.Comma (Some u) ≡ true
    → elements (one_of name_at) no_state kinds.RightParenthesis k tt us ≡ Ok (ns, r)
    → elements (one_of name_at) no_state kinds.RightParenthesis (suc k) tt (t ∷ u ∷ us) ≡ Ok (t.string_value ∷ ns, r)
unfolding elements
read_more k t u us ns r f g h c e = rw (f, read_name t (u ∷ us) g, h, c, e) refl

abbrev none : List Identifier
none = []

no_names : (n : Identifier) (ns : List Identifier) → none ≡ n ∷ ns → ⊥
no_names n ns e = absurd cc

-- one name before others
more_shaped : (only : Bool) (t u : Token) (us : List Token) (ns : List Identifier) (r : List Token)
    → t.kind ≡ kinds.Name
    → u.kind ≡ kinds.Comma
    → Shaped only ns us r
    → Shaped only (t.string_value ∷ ns) (t ∷ u ∷ us) r
more_shaped true t u us [] r f c s =
    (t ∷ u ∷ s.0, s.1, ap (λ (us : List Token). t ∷ u ∷ us) s.2, λ x. ((f, refl), (c, s.3 x)))
more_shaped true t u us (n ∷ ns) r f c s = (
  t ∷ u ∷ s.0,
  s.1,
  ap (λ (us : List Token). t ∷ u ∷ us) s.2,
  λ x. (
    (f, refl),
    (
      c,
      subst
          (λ (ms : List FlatToken). Matches (token (identifier n) ∷ ms) (s.0 ++ (as_token (a_token kinds.Number) ∷ x))
          x)
          (sym (append-nil (more_expressions (with_zero ns)))) (s.3 x),
    ),
  ),
)
more_shaped false t u us [] r f c s = absurd (no_names s.1.0 s.1.1 s.1.2)
more_shaped false t u us (n ∷ ns) r f c s = (
  (
    (f, refl),
    (
      c,
      subst
          (λ (ms : List FlatToken). Matches (token (identifier n) ∷ (ms ++ (token (fixed kinds.RightParenthesis) ∷ [])))
          us r)
          (sym (append-nil (more_expressions (as_expressions ns)))) s.0,
    ),
  ),
  (t.string_value, (n ∷ ns), refl),
)

abbrev some_past : Bool → List Token → Option (Bool × List Token)
some_past only r = Some (only, r)

past_is : (a b : Bool) (us r : List Token) → some_past a us ≡ some_past b r → (a ≡ b) × (us ≡ r)
past_is a b us r e =
    let x : Bool × List Token = (a, us) in
    let y : Bool × List Token = (b, r) in
    let same : x ≡ y = cc in
    (ap (λ (p : Bool × List Token). p.0) same, ap (λ (p : Bool × List Token). p.1) same)

abbrev nothing_past : Option (Bool × List Token)
nothing_past = None

no_past : (only : Bool) (r : List Token) → nothing_past ≡ some_past only r → ⊥
no_past only r e = absurd cc

-- the parenthesis that ends the names
end_are : (k : ℕ) (only : Bool) (t : Token) (us r : List Token)
    → is_kind kinds.RightParenthesis (Some t) ≡ true
    → some_past true us ≡ some_past only r
    → NamesAre only (suc k) (t ∷ us) r
end_are k only t us r h e =
    let p = past_is true only us r e in
    subst (λ (only : Bool). NamesAre only (suc k) (t ∷ us) r) p.0 (record {
      names = [];
      read = read_none k (t ∷ us) h ∙ ap (λ (r : List Token). got_names [] r) p.1;
      shaped = ([], t, ap (λ (r : List Token). t ∷ r) p.1, λ x. ((refl, refl), refl));
    })

-- the last name and the parenthesis
last_are : (k : ℕ) (only : Bool) (t u : Token) (us r : List Token)
    → is_kind kinds.RightParenthesis (Some t) ≡ false
    → is_kind kinds.Name (Some t) ≡ true
    → is_kind kinds.RightParenthesis (Some u) ≡ true
    → some_past false us ≡ some_past only r
    → NamesAre only (suc k) (t ∷ u ∷ us) r
last_are k only t u us r f g h e =
    let p = past_is false only us r e in
    subst (λ (only : Bool). NamesAre only (suc k) (t ∷ u ∷ us) r) p.0 (record {
      names = t.string_value ∷ [];
      read = read_last k t u us f g h ∙ ap (λ (r : List Token). got_names (t.string_value ∷ []) r) p.1;
      shaped =
          (((kind_is kinds.Name t g, refl), (kind_is kinds.RightParenthesis u h, p.1)), (t.string_value, [], refl));
    })

-- a name, a comma and the names behind it
more_are : (k : ℕ) (only : Bool) (t u : Token) (us r : List Token)
    → is_kind kinds.RightParenthesis (Some t) ≡ false
    → is_kind kinds.Name (Some t) ≡ true
    → is_kind kinds.RightParenthesis (Some u) ≡ false
    → is_kind kinds.Comma (Some u) ≡ true
    → NamesAre only k us r
    → NamesAre only (suc k) (t ∷ u ∷ us) r
more_are k only t u us r f g h c n = record {
  names = t.string_value ∷ n.names;
  read = read_more k t u us n.names r f g h c n.read;
  shaped = more_shaped only t u us n.names r (kind_is kinds.Name t g) (kind_is kinds.Comma u c) n.shaped;
}

-- behind a name
behind_name : (k : ℕ) (only : Bool) (t : Token) (us r : List Token)
    → is_kind kinds.RightParenthesis (Some t) ≡ false
    → is_kind kinds.Name (Some t) ≡ true
    → ((vs : List Token) → length vs < length us → past_names true vs ≡ Some (only, r) → NamesAre only k vs r)
    → past_names false us ≡ Some (only, r)
    → NamesAre only (suc k) (t ∷ us) r
behind_name k only t [] r f g go e = absurd (no_past only r e)
behind_name k only t (u ∷ us) r f g go e =
    by_tests (is_kind kinds.RightParenthesis (Some u)) (is_kind kinds.Comma (Some u)) refl refl e
  where
    by_tests : (a b : Bool)
        → is_kind kinds.RightParenthesis (Some u) ≡ a
        → is_kind kinds.Comma (Some u) ≡ b
        → (if a then Some (false, us) else (if b then past_names true us else None)) ≡ Some (only, r)
        → NamesAre only (suc k) (t ∷ u ∷ us) r
    by_tests true b h c e = last_are k only t u us r f g h e
    by_tests false true h c e = more_are k only t u us r f g h c (go us (omega arith) e)
    by_tests false false h c e = absurd (no_past only r e)

names_by : (k : ℕ) (only : Bool) (t : Token) (us r : List Token)
    → ((vs : List Token) → length vs < length us → past_names true vs ≡ Some (only, r) → NamesAre only k vs r)
    → (a b : Bool)
    → is_kind kinds.RightParenthesis (Some t) ≡ a
    → is_kind kinds.Name (Some t) ≡ b
    → (if a then Some (true, us) else (if b then past_names false us else None)) ≡ Some (only, r)
    → NamesAre only (suc k) (t ∷ us) r
names_by k only t us r go true b h c e = end_are k only t us r h e
names_by k only t us r go false true h c e = behind_name k only t us r h c go e
names_by k only t us r go false false h c e = absurd (no_past only r e)

names_are : (k : ℕ) (only : Bool) (us r : List Token)
    → length us < k
    → past_names true us ≡ Some (only, r)
    → NamesAre only k us r
names_are zero only us r h e = absurd (omega (arith, h))
names_are (suc k) only [] r h e = absurd (no_past only r e)
names_are (suc k) only (t ∷ us) r h e =
    names_by k only t us r (λ vs less f. names_are k only vs r (omega (arith, h, less)) f)
    (is_kind kinds.RightParenthesis (Some t)) (is_kind kinds.Name (Some t)) refl refl e

-- names that don't differ are two at least
two_names : (ns : List Identifier) → are_fresh [] ns ≡ false → is_two_expressions (as_expressions ns) ≡ true
two_names [] f = absurd cc
two_names (n ∷ []) f = absurd cc
two_names (n ∷ m ∷ ns) f = refl

two_with_zero : (ns : List Identifier) → are_fresh [] ns ≡ false → is_two_expressions (with_zero ns) ≡ true
two_with_zero [] f = absurd cc
two_with_zero (n ∷ []) f = refl
two_with_zero (n ∷ m ∷ ns) f = refl

names_assignments : (ns : List Identifier) → AreAssignments (as_expressions ns)
names_assignments [] = tt
names_assignments (n ∷ ns) = (tt, omega arith, names_assignments ns)

zero_assignments : (ns : List Identifier) → AreAssignments (with_zero ns)
zero_assignments [] = (tt, omega arith, tt)
zero_assignments (n ∷ ns) = (tt, omega arith, zero_assignments ns)

-- names that don't differ, which only an arrow function could have
refused_names : (s us ts : List Token) (e : Fault) (names : List Identifier)
    → Matches (token (fixed kinds.LeftParenthesis) ∷ []) s us
    → are_fresh [] names ≡ false
    → Shaped true names us ts
    → ((left : List Token) → length left ≡ suc (length ts) → Counts e left)
    → Lives Nothing flat (Fits 1) s e
refused_names [] us ts e names m f shape c = absurd m.0
refused_names (t ∷ s) us ts e names m f shape c = record {
  before = t ∷ shape.0;
  left = shape.1 ∷ ts;
  parts = ap (λ (us : List Token). t ∷ us) (m.1 ∙ shape.2);
  counted = c (shape.1 ∷ ts) refl;
  tree = trees.parenthesized (trees.comma (with_zero names));
  good = ((two_with_zero names f, zero_assignments names), omega arith);
  rest = a_token kinds.Number ∷ a_token kinds.RightParenthesis ∷ [];
  spelled =
      λ r. (
        m.0,
        joins (flat_expressions (with_zero names)) (token (fixed kinds.RightParenthesis) ∷ [])
            (shape.0 ++ (as_token (a_token kinds.Number) ∷ as_token (a_token kinds.RightParenthesis) ∷ r))
            (as_token (a_token kinds.RightParenthesis) ∷ r) r
            (shape.3 (as_token (a_token kinds.RightParenthesis) ∷ r)) (refl, refl),
      );
  starts = λ r. inl refl;
}

-- names that don't differ, before an arrow
kept_names : (s us ts : List Token) (e : Fault) (names : List Identifier)
    → Matches (token (fixed kinds.LeftParenthesis) ∷ []) s us
    → are_fresh [] names ≡ false
    → Shaped false names us ts
    → Counts e ts
    → Lives Nothing flat (Fits 1) s e
kept_names s us ts e names m f shape c =
    let tree = trees.parenthesized (trees.comma (as_expressions names)) in
    let well : Well tree = (two_names names f, names_assignments names) in
    stopped (flat tree) (expression_firm tree well) s ts
    (joins (token (fixed kinds.LeftParenthesis) ∷ [])
    (flat_expressions (as_expressions names) ++ (token (fixed kinds.RightParenthesis) ∷ [])) s us ts m shape.0)
    e c
    tree (well, omega arith) [] [] (λ r. refl) (append-nil (flat tree))

same_names_lives : (s us ts : List Token) (e : Fault) (only : Bool) (names : List Identifier)
    → Matches (token (fixed kinds.LeftParenthesis) ∷ []) s us
    → are_fresh [] names ≡ false
    → Shaped only names us ts
    → (if only then faulty {A = Expression} (stuck (suc (length ts))) else faulty {A = Expression} (stuck (length ts)))
    ≡ Err e
    → Lives Nothing flat (Fits 1) s e
same_names_lives s us ts e true names m f shape p =
    refused_names s us ts e names m f shape
    (λ left h. stuck_counts {A = Expression} left e (ap (λ (k : ℕ). faulty {A = Expression} (stuck k)) h ∙ p))
same_names_lives s us ts e false names m f shape p =
    kept_names s us ts e names m f shape (stuck_counts {A = Expression} ts e p)

arrow_of_names_lives : (n : ℕ) (b : Below)
    → SoundBelow n b
    → AliveBelow b
    → (s us ts : List Token) (e : Fault) (only : Bool) (names : List Identifier)
    → Matches (token (fixed kinds.LeftParenthesis) ∷ []) s us
    → Matches (flat_parameters names) s ts
    → Shaped only names us ts
    → arrow_of_names b only names ts ≡ Err e
    → Lives Nothing flat (Fits 1) s e
arrow_of_names_lives n b snd a s us ts e only names o m shape p =
    elim (cond_err (are_fresh [] names) (arrow_rest b (trees.name_list names) names ts)
    (if only then Err (stuck (suc (length ts))) else Err (stuck (length ts))) e p) [
      | inl q ↦
          let l = arrow_rest_lives n b snd a s (trees.name_list names) ts e m (fresh_is [] names q.0) q.1 in
          renamed l l.tree l.good.0 refl
      | inr q ↦ same_names_lives s us ts e only names o q.0 shape q.1
    ]

pub arrow_of_list_lives : (n : ℕ) (b : Below)
    → SoundBelow n b
    → AliveBelow b
    → (only : Bool) (ts r : List Token) (e : Fault)
    → IsNext (fixed kinds.LeftParenthesis) (head_of ts)
    → past_names true (tail_of ts) ≡ Some (only, r)
    → arrow_of_list b only ts ≡ Err e
    → Lives Nothing flat (Fits 1) ts e
unfolding arrow_of_list names_before
arrow_of_list_lives n b snd a only ts r e f past p =
    elim (bind_err (expect kinds.LeftParenthesis ts) (λ o. names_before o.1 >>= λ ns. arrow_of_names b only ns.0 ns.1)
    e p) [
      | inl q ↦ let again = expect_again kinds.LeftParenthesis ts (tail_of ts) (f, refl) in absurd cc
      | inr q ↦
          let us = q.0.1 in
          let o = expect_sound kinds.LeftParenthesis ts q.0 q.1 in
          let ns = names_are (suc (length us)) only us r (omega arith)
          (subst (λ (us : List Token). past_names true us ≡ Some (only, r)) o.1 past) in
          elim (bind_err (names_before us) (λ ns. arrow_of_names b only ns.0 ns.1) e q.2) [
            | inl k ↦ let read = ns.read in absurd cc
            | inr k ↦
                let same : (ns.names, r) ≡ k.0 = ok_is (ns.names, r) k.0 (sym ns.read ∙ k.1) in
                let m = joins (token (fixed kinds.LeftParenthesis) ∷ [])
                (flats.flat_names ns.names ++ (token (fixed kinds.RightParenthesis) ∷ [])) ts us r o
                (names_before_sound us (ns.names, r) ns.read) in
                arrow_of_names_lives n b snd a ts us r e only ns.names o m ns.shaped
                (subst (λ (x : List Identifier × List Token). arrow_of_names b only x.0 x.1 ≡ Err e) (sym same) k.2)
          ]
    ]

-- ---- what an arrow function begins with

listed_is : (o : Option (Bool × List Token)) (only : Bool)
    → listed_by o ≡ listed only
    → (r : List Token) × (o ≡ Some (only, r))
listed_is None only e = absurd cc
listed_is (Some (true, ts)) only e = let same : true ≡ only = cc in (ts, ap (λ (only : Bool). some_past only ts) same)
listed_is (Some (false, ts)) only e = by_test (is_arrow (head_of ts)) e
  where
    by_test : (c : Bool)
        → (if c then listed false else no_arrow) ≡ listed only
        → (r : List Token) × (some_past false ts ≡ Some (only, r))
    by_test true e = let same : false ≡ only = cc in (ts, ap (λ (only : Bool). some_past only ts) same)
    by_test false e = absurd cc

not_listed : (c : Bool) (only : Bool) → (if c then one_parameter else no_arrow) ≡ listed only → ⊥
not_listed true only e = absurd cc
not_listed false only e = absurd cc

head_listed : (c : PrimaryStart) (ts : List Token) (only : Bool)
    → head_by c ts ≡ listed only
    → (c ≡ classes.parenthesis) × ((r : List Token) × (past_names true ts ≡ Some (only, r)))
head_listed (classes.a_name n) ts only e = absurd (not_listed (is_arrow (head_of ts)) only e)
head_listed classes.parenthesis ts only e = (refl, listed_is (past_names true ts) only e)
head_listed _ ts only e = absurd cc

head_one : (c : PrimaryStart) (ts : List Token) → head_by c ts ≡ one_parameter → (w : Identifier) × (c ≡ classes.a_name w)
head_one (classes.a_name n) ts e = (n, refl)
head_one classes.parenthesis ts e = absurd (no_one (past_names true ts) e)
head_one _ ts e = absurd cc

-- ---- assignments

-- the joint of a kind, which is its token
abbrev JointOf : Joint → TokenKind → Type 0
JointOf question k = k ≡ kinds.Question
JointOf (assigns_by o) k = k ≡ assign_kind o
JointOf no_joint k = Unit {0}

joint_of : (k : TokenKind) → JointOf (joint_by k) k
joint_of kinds.Question = refl
joint_of kinds.Assign = refl
joint_of kinds.AddAssign = refl
joint_of kinds.SubtractAssign = refl
joint_of kinds.MultiplyAssign = refl
joint_of kinds.DivideAssign = refl
joint_of kinds.RemainderAssign = refl
joint_of kinds.LeftShiftAssign = refl
joint_of kinds.RightShiftAssign = refl
joint_of kinds.UnsignedRightShiftAssign = refl
joint_of kinds.BitwiseAndAssign = refl
joint_of kinds.BitwiseOrAssign = refl
joint_of kinds.BitwiseXorAssign = refl
joint_of _ = tt

joint_question : (o : Option Token) → joint o ≡ question → IsNext (fixed kinds.Question) o
joint_question None e = absurd cc
joint_question (Some t) e = subst (λ (j : Joint). JointOf j t.kind) e (joint_of t.kind)

joint_assigns : (u : AssignmentOperator) (o : Option Token) → joint o ≡ assigns_by u → IsNext (fixed (assign_kind u)) o
joint_assigns u None e = absurd cc
joint_assigns u (Some t) e = subst (λ (j : Joint). JointOf j t.kind) e (joint_of t.kind)

-- 0 : 0 behind the question mark of a conditional
abbrev zero_branches : List FlatToken
zero_branches = token (numeric_literal 0) ∷ token (fixed kinds.Colon) ∷ token (numeric_literal 0) ∷ []

joined_by_lives : (n : ℕ) (b : Below)
    → SoundBelow n b
    → AliveBelow b
    → (s : List Token) (t : Expression) (j : Joint) (ts : List Token) (e : Fault)
    → joint (head_of ts) ≡ j
    → TakesExpression 3 (suc n) s t ts
    → joined_by b n t j ts ≡ Err e
    → Lives Nothing flat (Fits 1) s e
joined_by_lives n b snd a s t question ts e f l p =
    let is = tok kinds.Question ∷ an_assignment ∷ tok kinds.Colon ∷ an_assignment ∷ [] in
    elim (low_err (height t) n ts (made b is (λ v. trees.conditional t v.1.0 v.1.1.1.0) ts) e p) [
      | inl q ↦
          let m = anything
          (seq_lives n b snd a is refl ts e
          (made_err {A = Expression} b is (λ v. trees.conditional t v.1.0 v.1.1.1.0) ts e q.1))
          in
          behind m (flat t) (expression_firm t l.well) s l.marks (trees.conditional t m.tree.1.0 m.tree.1.1.1.0)
          ((l.well, l.level, m.good.1.0.0, m.good.1.0.1, m.good.1.1.1.0.0, m.good.1.1.1.0.1), omega arith) refl
      | inr c ↦ token_lives 3 (suc n) s t ts e l kinds.Question (joint_question (head_of ts) f) c
          (trees.conditional t (trees.number 0) (trees.number 0))
          ((l.well, l.level, tt, omega arith, tt, omega arith), omega arith)
          zero_branches (a_token kinds.Number ∷ a_token kinds.Colon ∷ a_token kinds.Number ∷ [])
          (λ r. ((refl, refl), (refl, ((refl, refl), refl)))) refl
    ]
joined_by_lives n b snd a s t (assigns_by o) ts e f l p =
    let is = tok (assign_kind o) ∷ an_assignment ∷ [] in
    elim (cond_err (is_target t) (if_low (height t) n ts (made b is (λ v. trees.assign o t v.1.0) ts))
    (Err (stuck (length ts))) e p) [
      | inl w ↦ elim (low_err (height t) n ts (made b is (λ v. trees.assign o t v.1.0) ts) e w.1) [
        | inl q ↦
            let m = anything
            (seq_lives n b snd a is refl ts e
            (made_err {A = Expression} b is (λ v. trees.assign o t v.1.0) ts e q.1))
            in
            behind m (flat t) (expression_firm t l.well) s l.marks (trees.assign o t m.tree.1.0)
            ((l.well, w.0, m.good.1.0.0, m.good.1.0.1), omega arith) refl
        | inr c ↦ token_lives 3 (suc n) s t ts e l (assign_kind o) (joint_assigns o (head_of ts) f) c
            (trees.assign o t (trees.number 0)) ((l.well, w.0, tt, omega arith), omega arith) zero_marks zero_token
            (λ r. ((refl, refl), refl)) refl
      ]
      | inr w ↦ looser 3 1 (omega arith) (whole_lives 3 (suc n) s t ts e l (stuck_counts {A = Expression} ts e w.1))
    ]
joined_by_lives n b snd a s t no_joint ts e f l p = absurd cc

joined_lives : (n : ℕ) (b : Below)
    → SoundBelow n b
    → AliveBelow b
    → (s : List Token) (t : Expression) (ts : List Token) (e : Fault)
    → TakesExpression 3 (suc n) s t ts
    → joined b n t ts ≡ Err e
    → Lives Nothing flat (Fits 1) s e
unfolding joined
joined_lives n b snd a s t ts e l p = joined_by_lives n b snd a s t (joint (head_of ts)) ts e refl l p

assignment_by_lives : (n : ℕ) (b : Below)
    → SoundBelow n b
    → AliveBelow b
    → (h : ArrowStart) (ts : List Token) (e : Fault)
    → arrow_head ts ≡ h
    → assignment_by b n h ts ≡ Err e
    → Lives IsZero flat (Fits 1) ts e
assignment_by_lives n b s a one_parameter ts e f p =
    let w = head_one (start (head_of ts)) (tail_of ts) f in
    let l = arrow_of_one_lives n b s a w.0 ts e (start_name w.0 (head_of ts) w.1) p in
    from_nothing (renamed l l.tree l.good.0 refl)
assignment_by_lives n b s a (listed only) ts e f p =
    let w = head_listed (start (head_of ts)) (tail_of ts) only f in
    from_nothing (arrow_of_list_lives n b s a only ts w.1.0 e (start_paren (head_of ts) w.0) w.1.1 p)
assignment_by_lives n b s a no_arrow ts e f p = elim (bind_err (operation b n 3 ts) (λ x. joined b n x.0 x.1) e p) [
  | inl q ↦ looser 3 1 (omega arith) (operation_lives n b s a 3 (omega arith) ts e q)
  | inr q ↦ from_nothing
      (joined_lives n b s a ts q.0.0 q.0.1 e
      (operation_sound n b s (call_sound seq_sound n b s) 3 (omega arith) ts q.0 q.1).0 q.2)
]

pub assignment_lives : (n : ℕ) (b : Below)
    → SoundBelow n b
    → AliveBelow b
    → (ts : List Token) (e : Fault)
    → assignment b n ts ≡ Err e
    → Lives IsZero flat (Fits 1) ts e
unfolding assignment
assignment_lives n b s a ts e p = assignment_by_lives n b s a (arrow_head ts) ts e refl p

-- ---- expressions

append_none : (us vs : List Token) → us ++ vs ≡ [] → us ≡ []
append_none [] vs e = refl
append_none (u ∷ us) vs e = absurd cc

-- further expressions that are not whole, of which there may be none
further_lives : (n : ℕ) (s : List Token) (t : Expression) (ts : List Token) (e : Fault)
    → TakesExpression 1 (suc n) s t ts
    → (l : Lives Anything more_expressions AreAssignments ts e)
    → (es : Expressions)
    → l.tree ≡ es
    → Lives Nothing flat (Fits 0) s e
further_lives n s t ts e k l trees.no_expressions is =
    let all : l.before ++ (added l.rest ++ []) ≡ [] = subst
    (λ (es : Expressions). Matches (more_expressions es) (l.before ++ (added l.rest ++ [])) []) is (l.spelled [])
    in
    let none : l.before ≡ [] = append_none l.before (added l.rest ++ []) all in
    let same : ts ≡ l.left = l.parts ∙ ap (λ (us : List Token). us ++ l.left) none in
    looser 1 0 (omega arith)
    (whole_lives 1 (suc n) s t ts e k (subst (λ (us : List Token). Counts e us) (sym same) l.counted))
further_lives n s t ts e k l (trees.an_expression f fs) is =
    behind l (flat t) (expression_firm t k.well) s k.marks
    (trees.comma (trees.an_expression t (trees.an_expression f fs)))
    ((refl, (k.well, k.level, subst (λ (es : Expressions). AreAssignments es) is l.good)), omega arith)
    (ap (λ (es : Expressions). flat t ++ more_expressions es) is)

pub comma_by_lives : (n : ℕ) (b : Below)
    → SoundBelow n b
    → AliveBelow b
    → (s : List Token) (t : Expression) (c : Bool) (ts : List Token) (e : Fault)
    → is_kind kinds.Comma (head_of ts) ≡ c
    → TakesExpression 1 (suc n) s t ts
    → comma_by b n t c ts ≡ Err e
    → Lives Nothing flat (Fits 0) s e
comma_by_lives n b snd a s t false ts e f k p = absurd cc
comma_by_lives n b snd a s t true ts e f k p =
    elim (low_err (height t) n ts (more_assignments b ts >>= λ x. Ok (trees.comma (trees.an_expression t x.0), x.1))
    e p) [
      | inl q ↦ elim (bind_err (more_assignments b ts) (λ x. Ok (trees.comma (trees.an_expression t x.0), x.1)) e q.1) [
        | inl w ↦
            let l = more_lives n b snd a ts e w in
            further_lives n s t ts e k l l.tree refl
        | inr w ↦ absurd cc
      ]
      | inr c ↦ token_lives 1 (suc n) s t ts e k kinds.Comma (next_is kinds.Comma (head_of ts) f) c
          (trees.comma (trees.an_expression t (trees.an_expression (trees.number 0) trees.no_expressions)))
          ((refl, (k.well, k.level, (tt, omega arith, tt))), omega arith) zero_marks zero_token
          (λ r. ((refl, refl), refl))
          refl
    ]

pub expression_lives : (n : ℕ) (b : Below)
    → SoundBelow n b
    → AliveBelow b
    → (ts : List Token) (e : Fault)
    → expression b n ts ≡ Err e
    → Lives IsZero flat (Fits 0) ts e
unfolding expression
expression_lives n b s a ts e p =
    elim (bind_err (assignment b n ts) (λ x. comma_by b n x.0 (is_kind kinds.Comma (head_of x.1)) x.1) e p) [
      | inl q ↦ looser 1 0 (omega arith) (assignment_lives n b s a ts e q)
      | inr q ↦ from_nothing
          (comma_by_lives n b s a ts q.0.0 (is_kind kinds.Comma (head_of q.0.1)) q.0.1 e refl
          (assignment_sound seq_sound n b s ts q.0 q.1) q.2)
    ]

-- ---- functions alone

-- nothing of a function was read
pub no_function_lives : (ts : List Token) (e : Fault) → Counts e ts → Lives Anything flat (IsFunctionOf 1) ts e
no_function_lives ts e c =
    fills ts e c (trees.arrow (trees.name_list []) (trees.number 0)) (((tt, tt, omega arith, refl), omega arith), refl)
    (a_token kinds.LeftParenthesis ∷ a_token kinds.RightParenthesis ∷ zero_arrow_tokens)
    (λ r. (refl, (refl, zero_arrow_spelled r))) (λ r. tt)

pub function_code_lives : (n : ℕ) (b : Below)
    → SoundBelow n b
    → AliveBelow b
    → (c : PrimaryStart) (ts : List Token) (e : Fault)
    → start (head_of ts) ≡ c
    → function_code_by b c ts ≡ Err e
    → Lives Anything flat (IsFunctionOf 1) ts e
function_code_lives n b s a classes.function_word ts e f p =
    let l = function_lives n b s a ts e (start_function (head_of ts) f) p in
    from_nothing (renamed l l.tree ((l.good.0.0, omega (arith, l.good.0.1)), l.good.1) refl)
function_code_lives n b s a (classes.a_name w) ts e f p =
    from_nothing (arrow_of_one_lives n b s a w ts e (start_name w (head_of ts) f) p)
function_code_lives n b s a classes.parenthesis ts e f p =
    elim (bind_err (parameters_at ts) (λ ps. arrow_rest b (trees.name_list ps.0) ps.0 ps.1) e p) [
      | inl q ↦
          let l = anything (parameters_lives ts e q) in
          ends_in l (trees.arrow (trees.name_list l.tree) (trees.number 0))
          (((l.good, tt, omega arith, refl), omega arith), refl) zero_arrow zero_arrow_tokens zero_arrow_spelled refl
      | inr q ↦
          let t = parameters_sound ts q.0 q.1 in
          from_nothing (arrow_rest_lives n b s a ts (trees.name_list q.0.0) q.0.1 e t.0 t.1 q.2)
    ]
function_code_lives n b s a classes.this_word ts e f p = no_function_lives ts e (stuck_counts {A = Expression} ts e p)
function_code_lives n b s a (classes.a_number w) ts e f p =
    no_function_lives ts e (stuck_counts {A = Expression} ts e p)
function_code_lives n b s a (classes.a_string w) ts e f p =
    no_function_lives ts e (stuck_counts {A = Expression} ts e p)
function_code_lives n b s a (classes.a_boolean w) ts e f p =
    no_function_lives ts e (stuck_counts {A = Expression} ts e p)
function_code_lives n b s a classes.null_word ts e f p = no_function_lives ts e (stuck_counts {A = Expression} ts e p)
function_code_lives n b s a classes.bracket ts e f p = no_function_lives ts e (stuck_counts {A = Expression} ts e p)
function_code_lives n b s a classes.brace ts e f p = no_function_lives ts e (stuck_counts {A = Expression} ts e p)
function_code_lives n b s a classes.no_start ts e f p = no_function_lives ts e (stuck_counts {A = Expression} ts e p)
