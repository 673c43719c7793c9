-- Where a tree would be too deep: object literals, members, calls and operators, where what reads below them keeps it.
use Rattle.std.proofs.Common.{ℕ, suc, ◌≤◌, true, false, cond, List, [], ◌∷◌, length, Some, None, Ok, Err, arith}
use Rattle.std.specs.Prelude.{nat_le}
use Rattle.js_lexer.specs.declared.token.TokenKind.TheVariants as kinds
use Rattle.js_tree.specs.Trees as trees
use Rattle.js_tree.specs.Trees.{Identifier, Parameters, Expression, Key}
use Rattle.js_parser_language.specs.Tokens.{head_of, tail_of}
use Rattle.js_parser_language.specs.Flat.{assign_kind}
use Rattle.js_parser_language.specs.Well.{function_body}
use Rattle.js_tree.specs.Targets.{is_target}
use Rattle.js_tree.specs.Height.{height, height_of_key}
use Rattle.js_tree.specs.Views.{properties}
use Rattle.js_parser_language.specs.Kinds.{is_kind}
use Rattle.js_parser_readers.specs.Reading.{stuck, deep, ◌>>=◌, expect_near, elements, no_state, with_names}
use Rattle.js_parser_readers.specs.Classes as classes
use Rattle.js_parser_readers.specs.Classes.{start, update_near, question, assigns_by, no_joint, joint, key_start, AfterKey, after_key}
use Rattle.js_parser_readers.specs.Productions.{Below, one_of, tok, an_assignment, an_expression, arguments, a_name, code, in_braces, made}
use Rattle.js_parser_readers.specs.Parsing.{key_by, key_at, member_by, property_at, properties_at, is_name_next, function_by, function_at, primary_by, primary, updated_by, arrow_body_by, arrow_rest, joined_by, joined}
use Rattle.js_parser_laws.proofs.Follows.Tools.{past, shortens}
use Rattle.js_parser_laws.proofs.Follows.Parts.{Pair, expect_near_follows, elements_follows}
use Rattle.js_parser_laws.proofs.Follows.Expressions.{key_follows, named_member, name_next, property_form, property_is, property_follows, properties_follows}
use Rattle.js_parser_laws.proofs.Deep.Tools.{Deepens, DeepensOn, on, deep_gives, deep_sticks, deep_past, deep_peeks, deep_peeks_all, deep_token, deep_then, deep_makes, deep_tests, deep_limit, deep_as}
use Rattle.js_parser_laws.proofs.Deep.Parts.{DeepBelow, expect_near_deepens, elements_deepens, made_deepens}

-- ---- object literals

pub key_deepens : (b : Below) → Pair b b → DeepBelow b → (n : ℕ) → Deepens n (λ ts. key_at b ts)
unfolding key_at
key_deepens b p d n = deep_peeks_all n key_start (λ v ts. key_by b v ts) (elim [
  | classes.a_word_key w ↦ deep_token n (trees.word_key w)
  | classes.a_string_key s ↦ deep_token n (trees.string_key s)
  | classes.a_number_key v ↦ deep_token n (trees.number_key v)
  | classes.a_computed_key ↦ made_deepens b p d n (tok kinds.LeftBracket ∷ an_assignment ∷ tok kinds.RightBracket ∷ [])
      (λ v. trees.computed_key v.1.0)
  | classes.no_key ↦ deep_sticks n
])

method_deepens : (b : Below) (m : ℕ)
    → Pair b b
    → DeepBelow b
    → (n : ℕ) (k : Key)
    → DeepensOn n (λ ts. member_by b m k classes.parameters ts)
method_deepens b m p d n k =
    deep_limit n (suc (height_of_key k)) m
    (λ ts. b.function ts >>= λ f. Ok (trees.method k f.0.parameters f.0.body, f.1))
    (on n (λ ts. b.function ts >>= λ f. Ok (trees.method k f.0.parameters f.0.body, f.1))
    (deep_makes n b.function (λ f. trees.method k f.parameters f.body) p.both.function (d.function n)))

member_on : (b : Below) (m : ℕ)
    → Pair b b
    → DeepBelow b
    → (n : ℕ) (k : Key) (v : AfterKey)
    → DeepensOn n (λ ts. member_by b m k v ts)
member_on b m p d n k classes.colon =
    on n (λ ts. member_by b m k classes.colon ts)
    (made_deepens b p d n (tok kinds.Colon ∷ an_assignment ∷ []) (λ v. trees.value k v.1.0))
member_on b m p d n k classes.parameters = method_deepens b m p d n k
member_on b m p d n k classes.no_member = on n (λ ts. Err (stuck (length ts))) (deep_sticks n)

named_on : (b : Below) (m : ℕ)
    → Pair b b
    → DeepBelow b
    → (n : ℕ) (s : Identifier) (v : AfterKey)
    → DeepensOn n (λ ts. named_member b m s v ts)
named_on b m p d n s classes.no_member = on n (λ ts. Ok (trees.shorthand s, ts)) (deep_gives n (trees.shorthand s))
named_on b m p d n s classes.colon = member_on b m p d n (trees.word_key s) classes.colon
named_on b m p d n s classes.parameters = member_on b m p d n (trees.word_key s) classes.parameters

pub property_deepens : (b : Below) (m : ℕ) → Pair b b → DeepBelow b → (n : ℕ) → Deepens n (λ ts. property_at b m ts)
property_deepens b m p d n =
    deep_as n (λ ts. property_form b m (name_next (head_of ts)) ts) (λ ts. property_at b m ts) (property_is b m)
    (deep_peeks_all n name_next (λ v ts. property_form b m v ts) (elim [
      | Some s ↦ deep_past n (λ ts. named_member b m s (after_key (head_of ts)) ts)
          (deep_peeks n after_key (λ v ts. named_member b m s v ts) (λ j e. absurd cc) (named_on b m p d n s))
      | None ↦ deep_then n (λ ts. key_at b ts) (λ k ts. member_by b m k (after_key (head_of ts)) ts) (key_follows b b p)
          (key_deepens b p d n)
          (λ k. deep_peeks n after_key (λ v ts. member_by b m k v ts) (λ j e. absurd cc) (member_on b m p d n k))
    ]))

pub properties_deepens : (b : Below) (m : ℕ) → Pair b b → DeepBelow b → (n : ℕ) → Deepens n (λ ts. properties_at b m ts)
unfolding properties_at
properties_deepens b m p d n =
    let same : m ≤ m = omega arith in
    deep_makes n (λ ts. elements (one_of (λ r. property_at b m r)) no_state kinds.RightBrace (suc (length ts)) tt ts)
    properties
    (elements_follows (one_of (λ r. property_at b m r)) (one_of (λ r. property_at b m r)) no_state kinds.RightBrace
    (λ s. property_follows b b m m same p)
    (λ s. shortens (λ r. property_at b m r) (λ r. property_at b m r) (property_follows b b m m same p)) tt)
    (elements_deepens (one_of (λ r. property_at b m r)) no_state kinds.RightBrace (λ s. property_follows b b m m same p)
    (λ n s. property_deepens b m p d n) n tt)

-- ---- primaries

pub function_deepens : (b : Below) → Pair b b → DeepBelow b → (n : ℕ) → Deepens n (λ ts. function_at b ts)
unfolding function_at
function_deepens b p d n = deep_peeks_all n is_name_next (λ v ts. function_by b v ts) (elim [
  | true ↦ made_deepens b p d n (a_name ∷ code ∷ []) (λ v. trees.function (Some v.0) v.1.0.parameters v.1.0.body)
  | false ↦ made_deepens b p d n (code ∷ []) (λ v. trees.function None v.0.parameters v.0.body)
])

pub primary_deepens : (b : Below) (m : ℕ) → Pair b b → DeepBelow b → (n : ℕ) → Deepens n (λ ts. primary b m ts)
unfolding primary
primary_deepens b m p d n = deep_peeks_all n start (λ v ts. primary_by b m v ts) (elim [
  | classes.this_word ↦ deep_token n trees.this
  | classes.a_name s ↦ deep_token n (trees.name s)
  | classes.a_number v ↦ deep_token n (trees.number v)
  | classes.a_string s ↦ deep_token n (trees.string s)
  | classes.a_boolean v ↦ deep_token n (trees.boolean v)
  | classes.null_word ↦ deep_token n trees.null
  | classes.bracket ↦ made_deepens b p d n (tok kinds.LeftBracket ∷ arguments kinds.RightBracket ∷ [])
      (λ v. trees.array v.1.0)
  | classes.brace ↦ deep_makes n (λ ts. properties_at b m (tail_of ts)) (λ ps. trees.object ps)
      (past (λ ts. properties_at b m ts) (λ ts. properties_at b m ts) (properties_follows b b m m (omega arith) p))
      (deep_past n (λ ts. properties_at b m ts) (properties_deepens b m p d n))
  | classes.parenthesis ↦ made_deepens b p d n
      (tok kinds.LeftParenthesis ∷ an_expression ∷ tok kinds.RightParenthesis ∷ []) (λ v. trees.parenthesized v.1.0)
  | classes.function_word ↦ deep_past n (λ ts. function_at b ts) (function_deepens b p d n)
  | classes.no_start ↦ deep_sticks n
])

-- ---- what goes on with an expression

pub updated_deepens : (m n : ℕ) (e : Expression) → Deepens n (λ ts. updated_by m e (update_near (head_of ts)) ts)
updated_deepens m n e = deep_peeks n update_near (λ v ts. updated_by m e v ts) (λ j e. absurd cc) (elim [
  | None ↦ on n (λ ts. Ok (e, ts)) (deep_gives n e)
  | Some o ↦ deep_tests n (is_target e)
      (λ ts. cond (nat_le (height e) m) (Ok (trees.postfix o e, tail_of ts)) (Err (deep (length (tail_of ts)))))
      (λ ts. Err (stuck (length ts)))
      (deep_limit n (height e) m (λ ts. Ok (trees.postfix o e, tail_of ts))
      (on n (λ ts. Ok (trees.postfix o e, tail_of ts)) (deep_token n (trees.postfix o e))))
      (on n (λ ts. Err (stuck (length ts))) (deep_sticks n))
])

pub joined_deepens : (b : Below) (m : ℕ)
    → Pair b b
    → DeepBelow b
    → (n : ℕ) (t : Expression)
    → Deepens n (λ ts. joined b m t ts)
unfolding joined
joined_deepens b m p d n t = deep_peeks n joint (λ v ts. joined_by b m t v ts) (λ j e. absurd cc) (elim [
  | question ↦ deep_limit n (height t) m
      (λ ts. made b (tok kinds.Question ∷ an_assignment ∷ tok kinds.Colon ∷ an_assignment ∷ [])
      (λ v. trees.conditional t v.1.0 v.1.1.1.0) ts)
      (on n (λ ts. made b (tok kinds.Question ∷ an_assignment ∷ tok kinds.Colon ∷ an_assignment ∷ [])
      (λ v. trees.conditional t v.1.0 v.1.1.1.0) ts)
      (made_deepens b p d n (tok kinds.Question ∷ an_assignment ∷ tok kinds.Colon ∷ an_assignment ∷ [])
      (λ v. trees.conditional t v.1.0 v.1.1.1.0)))
  | assigns_by o ↦ deep_tests n (is_target t)
      (λ ts. cond (nat_le (height t) m)
      (made b (tok (assign_kind o) ∷ an_assignment ∷ []) (λ v. trees.assign o t v.1.0) ts)
      (Err (deep (length (tail_of ts)))))
      (λ ts. Err (stuck (length ts)))
      (deep_limit n (height t) m
      (λ ts. made b (tok (assign_kind o) ∷ an_assignment ∷ []) (λ v. trees.assign o t v.1.0) ts)
      (on n (λ ts. made b (tok (assign_kind o) ∷ an_assignment ∷ []) (λ v. trees.assign o t v.1.0) ts)
      (made_deepens b p d n (tok (assign_kind o) ∷ an_assignment ∷ []) (λ v. trees.assign o t v.1.0))))
      (on n (λ ts. Err (stuck (length ts))) (deep_sticks n))
  | no_joint ↦ on n (λ ts. Ok (t, ts)) (deep_gives n t)
])

pub arrow_rest_deepens : (b : Below)
    → Pair b b
    → DeepBelow b
    → (n : ℕ) (ps : Parameters) (names : List Identifier)
    → Deepens n (λ ts. arrow_rest b ps names ts)
unfolding arrow_rest
arrow_rest_deepens b p d n ps names =
    deep_then n (λ ts. expect_near kinds.Arrow ts)
    (λ a ts. arrow_body_by b ps names (is_kind kinds.LeftBrace (head_of ts)) ts) (expect_near_follows kinds.Arrow)
    (expect_near_deepens n kinds.Arrow)
    (λ a. deep_peeks_all n (λ o. is_kind kinds.LeftBrace o) (λ v ts. arrow_body_by b ps names v ts) (elim [
      | true ↦ made_deepens b p d n (in_braces function_body (with_names [] names) ∷ []) (λ v. trees.arrow_block ps v.0)
      | false ↦ made_deepens b p d n (an_assignment ∷ []) (λ v. trees.arrow ps v.0)
    ]))
