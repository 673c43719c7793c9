-- Readers that read nothing: at a token that begins what they are for, all is too deep, and elsewhere they are stuck.
-- Such readers stand below all others where one asks what is too deep.
use Rattle.std.proofs.Common.{◌≡◌, ℕ, suc, ◌≤◌, Bool, true, false, cond, List, [], ◌∷◌, length, Option, Some, None, Ok, Err, refl, ap, subst, ◌∙◌, ◌⊎◌, inl, inr, arith}
use Rattle.std.specs.Prelude.{◌||◌}
use Rattle.js_lexer.specs.declared.token.TokenKind.TheVariants as kinds
use Rattle.js_tree.specs.Trees as trees
use Rattle.js_tree.specs.Trees.{Identifier, Expression, Statement, Statements}
use Rattle.js_parser_language.specs.Tokens.{Token, fixed, FlatToken, token, head_of, tail_of}
use Rattle.js_parser_language.specs.Flat.{flat, flat_statement}
use Rattle.js_parser_language.specs.Well.{StatementContext}
use Rattle.js_parser_language.specs.Kinds.{is_kind}
use Rattle.js_parser_readers.specs.Reading.{Fault, stuck, deep, Reader}
use Rattle.js_parser_readers.specs.Classes as classes
use Rattle.js_parser_readers.specs.Classes.{start, prefix, StatementStart, first}
use Rattle.js_parser_readers.specs.Productions.{ParametersAndBody, Below}
use Rattle.js_parser_readers.specs.Parsing.{below}
use Rattle.js_parser_language.proofs.KindLemmas.{next_is}
use Rattle.js_parser_laws.proofs.Claims.{TakesExpression, SoundBelow}
use Rattle.js_parser_laws.proofs.TokenLemmas.{faulty}
use Rattle.js_parser_laws.proofs.Follows.Tools.{FollowsAt, Follows, Takes}
use Rattle.js_parser_laws.proofs.Follows.Parts.{FollowsBelow, Pair}
use Rattle.js_parser_laws.proofs.Alive.Tools.{Counts, fault_is, stuck_counts, a_token, Nothing, IsAdded, IsZero, Lives, from_nothing}
use Rattle.js_parser_laws.proofs.Alive.Parts.{Fits, IsStatement, IsItem, IsBlock, flat_block, IsCode, flat_code, AliveBelow, zero_expression, zero_statement, zero_item, empty_block, empty_code}
use Rattle.js_parser_laws.proofs.Alive.Expressions.{looser}
use Rattle.js_parser_laws.proofs.Alive.Statements.{FirstNext, empty_braces, empty_brace_tokens, first_next, as_item}
use Rattle.js_parser_laws.proofs.Alive.First.{first_token, start_lives, is_prefix, prefix_lives, first_lives, expression_first_lives, lexical_first_lives, function_first_lives}
use Rattle.js_parser_laws.proofs.Deep.Tools.{deep_is, DeepAt, Deepens}
use Rattle.js_parser_laws.proofs.Deep.Parts.{DeepBelow}
use Rattle.js_parser_laws.proofs.Deep.Start.{begins_call, begins_operand, begins_by, begins_statement, begins_item_by, begins_item, unary_elsewhere, operation_elsewhere, expression_elsewhere, statement_elsewhere, item_elsewhere, block_elsewhere, function_elsewhere, call_stuck}

-- ---- too deep at each token of a class

abbrev pub at_class : {A : Type 0} → (Option Token → Bool) → Reader A
at_class test ts = cond (test (head_of ts)) (Err (deep (length (tail_of ts)))) (Err (stuck (length ts)))

either : {A : Type 0} (v : Bool) (ts : List Token) (x : A × List Token)
    → cond v (Err (deep (length (tail_of ts)))) (Err (stuck (length ts))) ≡ Ok x
    → ⊥
either true ts x e = absurd cc
either false ts x e = absurd cc

pub class_none : {A : Type 0} (test : Option Token → Bool) (ts : List Token) (x : A × List Token)
    → at_class test ts ≡ Ok x
    → ⊥
class_none test ts x e = either (test (head_of ts)) ts x e

pub class_deepens : {A : Type 0} (test : Option Token → Bool)
    → test None ≡ false
    → (n : ℕ)
    → Deepens {A = A} n (λ ts. at_class test ts)
class_deepens {A} test none n = record {
  at = elim [
    | [] ↦ λ l k e. absurd (at_end (test None) none k e)
    | t ∷ ts ↦ λ l k e. by_test t ts k (test (Some t)) refl e
  ];
}
  where
    at_end : (v : Bool) → v ≡ false → (k : ℕ) → cond v (Err (deep 0)) (Err (stuck 0)) ≡ faulty {A = A} (deep k) → ⊥
    at_end true h k e = absurd cc
    at_end false h k e = absurd cc

    by_test : (t : Token) (ts : List Token) (k : ℕ) (v : Bool)
        → test (Some t) ≡ v
        → cond v (Err (deep (length ts))) (Err (stuck (suc (length ts)))) ≡ faulty {A = A} (deep k)
        → DeepAt {A = A} (λ us. at_class test us) (t ∷ ts) k
    by_test t ts k true h e =
        record {
          before = [];
          here = t;
          left = ts;
          parts = refl;
          counted = deep_is {A = A} (length ts)
              k e;
          never = λ r x q. class_none {A = A} test (t ∷ r) x q;
        }
    by_test t ts k false h e = absurd cc

-- what is stuck elsewhere too answers alike
pub class_follows : {A : Type 0} (test : Option Token → Bool) (g : Reader A)
    → ((ts : List Token) → test (head_of ts) ≡ false → g ts ≡ Err (stuck (length ts)))
    → Follows (λ ts. at_class test ts) g
class_follows {A} test g h = record { at = λ ts. by_test ts (test (head_of ts)) refl }
  where
    by_test : (ts : List Token) (v : Bool)
        → test (head_of ts) ≡ v
        → FollowsAt (cond v (Err (deep (length (tail_of ts)))) (Err (stuck (length ts)))) g ts
    by_test ts true e = λ c. absurd c
    by_test ts false e =
        λ c. record {
          pre = [];
          left = ts;
          parts = refl;
          same = refl;
          again = λ r q. h r
              (ap (λ (o : Option Token). test o) q ∙ e);
        }

pub class_stuck : {A : Type 0} (test : Option Token → Bool) (ts : List Token)
    → test (head_of ts) ≡ false
    → at_class {A = A} test ts ≡ Err (stuck (length ts))
class_stuck test ts e = rw e refl

pub class_lives : {A : Type 0} {StatementStart : Option Token → Type 0} {flat_of : A → List FlatToken} {Good : A → Type 0}
    (test : Option Token → Bool) (ts : List Token)
    → (test (head_of ts) ≡ true → Lives StatementStart flat_of Good ts (deep (length (tail_of ts))))
    → ((e : Fault) → Counts e ts → Lives StatementStart flat_of Good ts e)
    → (e : Fault)
    → at_class {A = A} test ts ≡ Err e
    → Lives StatementStart flat_of Good ts e
class_lives {A} {StatementStart} {flat_of} {Good} test ts here none e p = by_test (test (head_of ts)) refl p
  where
    by_test : (v : Bool)
        → test (head_of ts) ≡ v
        → cond v (Err (deep (length (tail_of ts)))) (Err (stuck (length ts))) ≡ faulty {A = A} e
        → Lives StatementStart flat_of Good ts e
    by_test true h q =
        subst (λ (e : Fault). Lives StatementStart flat_of Good ts e) (fault_is {A = A} (deep (length (tail_of ts))) e q)
        (here h)
    by_test false h q = none e (stuck_counts {A = A} ts e q)

-- ---- readers that read nothing but some expressions

-- these read assignments and expressions, and nothing else is read
abbrev pub shallow : Reader Expression → Reader Expression → Below
shallow a e = record {
  assignment = λ ts. a ts;
  expression = λ ts. e ts;
  operation = λ low ts. at_class begins_operand ts;
  unary = λ ts. at_class begins_operand ts;
  call = λ ts. at_class begins_call ts;
  statement = λ context ts. at_class (begins_statement context) ts;
  item = λ context taken ts. at_class (begins_item context) ts;
  block = λ context taken ts. at_class (λ o. is_kind kinds.LeftBrace o) ts;
  function = λ ts. at_class (λ o. is_kind kinds.LeftParenthesis o) ts;
}

-- what reads below is stuck at tokens that begin nothing
pub record Elsewhere (c : Below) : Type 0 where
  pub operation : (low : ℕ) (ts : List Token)
      → begins_operand (head_of ts) ≡ false
      → c.operation low ts ≡ Err (stuck (length ts))
  pub unary : (ts : List Token) → begins_operand (head_of ts) ≡ false → c.unary ts ≡ Err (stuck (length ts))
  pub call : (ts : List Token) → begins_call (head_of ts) ≡ false → c.call ts ≡ Err (stuck (length ts))
  pub statement : (context : StatementContext) (ts : List Token)
      → begins_statement context (head_of ts) ≡ false
      → c.statement context ts ≡ Err (stuck (length ts))
  pub item : (context : StatementContext) (taken : List Identifier) (ts : List Token)
      → begins_item context (head_of ts) ≡ false
      → c.item context taken ts ≡ Err (stuck (length ts))
  pub block : (context : StatementContext) (taken : List Identifier) (ts : List Token)
      → is_kind kinds.LeftBrace (head_of ts) ≡ false
      → c.block context taken ts ≡ Err (stuck (length ts))
  pub function : (ts : List Token)
      → is_kind kinds.LeftParenthesis (head_of ts) ≡ false
      → c.function ts ≡ Err (stuck (length ts))

pub shallow_elsewhere : (a e : Reader Expression) → Elsewhere (shallow a e)
shallow_elsewhere a e = record {
  operation = λ low ts h. class_stuck begins_operand ts h;
  unary = λ ts h. class_stuck begins_operand ts h;
  call = λ ts h. class_stuck begins_call ts h;
  statement = λ context ts h. class_stuck (begins_statement context) ts h;
  item = λ context taken ts h. class_stuck (begins_item context) ts h;
  block = λ context taken ts h. class_stuck (λ o. is_kind kinds.LeftBrace o) ts h;
  function = λ ts h. class_stuck (λ o. is_kind kinds.LeftParenthesis o) ts h;
}

-- so is what reads trees that are two high
pub below_elsewhere : (n : ℕ) → Elsewhere (below (suc (suc n)))
unfolding below
below_elsewhere n = record {
  operation = λ low ts h. operation_elsewhere (below (suc n)) (suc n) low ts h;
  unary = λ ts h. unary_elsewhere (below (suc n)) (suc n) ts h;
  call = λ ts h. call_stuck (below (suc n)) (suc n) ts h;
  statement =
      λ context ts h. statement_elsewhere (below (suc n)) context ts (λ k. expression_elsewhere (below n) n ts k) h;
  item =
      λ context taken ts h. item_elsewhere (below (suc n)) context taken ts (λ k. expression_elsewhere (below n) n ts k)
      h;
  block = λ context taken ts h. block_elsewhere (below (suc n)) context taken ts h;
  function = λ ts h. function_elsewhere (below (suc n)) ts h;
}

pub shallow_follows : (a e : Reader Expression) (c : Below)
    → Elsewhere c
    → Follows a c.assignment
    → Follows e c.expression
    → FollowsBelow (shallow a e) c
shallow_follows a e c s h k = record {
  assignment = h;
  expression = k;
  operation = λ low. class_follows begins_operand (λ ts. c.operation low ts) (s.operation low);
  unary = class_follows begins_operand c.unary s.unary;
  call = class_follows begins_call c.call s.call;
  statement = λ context. class_follows (begins_statement context) (λ ts. c.statement context ts) (s.statement context);
  item = λ context taken. class_follows (begins_item context) (λ ts. c.item context taken ts) (s.item context taken);
  block =
      λ context taken. class_follows (λ o. is_kind kinds.LeftBrace o) (λ ts. c.block context taken ts)
      (s.block context taken);
  function = class_follows (λ o. is_kind kinds.LeftParenthesis o) c.function s.function;
}

pub shallow_takes : (a e : Reader Expression) (context : StatementContext) (taken : List Identifier)
    → Takes (λ ts. (shallow a e).item context taken ts)
shallow_takes a e context taken ts x p = absurd (class_none {A = Statement} (begins_item context) ts x p)

pub shallow_own : (a e : Reader Expression) → Follows a a → Follows e e → Pair (shallow a e) (shallow a e)
shallow_own a e h k =
    let f : FollowsBelow (shallow a e) (shallow a e) = shallow_follows a e (shallow a e) (shallow_elsewhere a e) h k in
    record { both = f; right = f; takes = shallow_takes a e }

pub shallow_deepens : (a e : Reader Expression)
    → ((n : ℕ) → Deepens n a)
    → ((n : ℕ) → Deepens n e)
    → DeepBelow (shallow a e)
shallow_deepens a e h k = record {
  assignment = h;
  expression = k;
  operation = λ n low. class_deepens begins_operand refl n;
  unary = λ n. class_deepens begins_operand refl n;
  call = λ n. class_deepens begins_call refl n;
  statement = λ n context. class_deepens (begins_statement context) refl n;
  item = λ n context taken. class_deepens (begins_item context) refl n;
  block = λ n context taken. class_deepens (λ o. is_kind kinds.LeftBrace o) refl n;
  function = λ n. class_deepens (λ o. is_kind kinds.LeftParenthesis o) refl n;
}

pub shallow_sound : (n : ℕ) (a e : Reader Expression)
    → ((ts : List Token) (x : Expression × List Token) → a ts ≡ Ok x → TakesExpression 1 n ts x.0 x.1)
    → ((ts : List Token) (x : Expression × List Token) → e ts ≡ Ok x → TakesExpression 0 n ts x.0 x.1)
    → SoundBelow n (shallow a e)
shallow_sound n a e h k = record {
  assignment = h;
  expression = k;
  operation = λ low le ts x p. absurd (class_none {A = Expression} begins_operand ts x p);
  unary = λ ts x p. absurd (class_none {A = Expression} begins_operand ts x p);
  call = λ ts x p. absurd (class_none {A = Expression} begins_call ts x p);
  statement = λ context ts x p. absurd (class_none {A = Statement} (begins_statement context) ts x p);
  item = λ context taken ts x p. absurd (class_none {A = Statement} (begins_item context) ts x p);
  block = λ context taken ts x p. absurd (class_none {A = Statements} (λ o. is_kind kinds.LeftBrace o) ts x p);
  function = λ ts x p. absurd (class_none {A = ParametersAndBody} (λ o. is_kind kinds.LeftParenthesis o) ts x p);
}

-- ---- a token that begins something lives

or_true : (a b : Bool) → (a || b) ≡ true → (a ≡ true) ⊎ (b ≡ true)
or_true true b e = inl refl
or_true false b e = inr e

first_operand : (ts : List Token)
    → begins_operand (head_of ts) ≡ true
    → Lives Nothing flat (Fits 13) ts (deep (length (tail_of ts)))
first_operand ts h = elim (or_true (begins_call (head_of ts)) (is_prefix (prefix (head_of ts))) h) [
  | inl k ↦ looser 15 13 (omega arith) (start_lives (start (head_of ts)) ts refl k)
  | inr k ↦ prefix_lives (prefix (head_of ts)) ts refl k
]

pub operand_lives : (low : ℕ)
    → low ≤ 13
    → (ts : List Token) (e : Fault)
    → at_class {A = Expression} begins_operand ts ≡ Err e
    → Lives IsZero flat (Fits low) ts e
operand_lives low le ts e p =
    class_lives begins_operand ts (λ h. looser 13 low le (from_nothing (first_operand ts h)))
    (λ e c. zero_expression low (omega (arith, le)) ts e c) e p

statement_by_lives : (context : StatementContext) (c : StatementStart) (ts : List Token)
    → FirstNext c (head_of ts)
    → begins_by context c (head_of ts) ≡ true
    → Lives Nothing flat_statement (IsStatement context) ts (deep (length (tail_of ts)))
statement_by_lives context (classes.a_lexical constant) ts f h = absurd cc
statement_by_lives context classes.a_function ts f h = absurd cc
statement_by_lives context classes.an_expression ts f h =
    expression_first_lives context ts f (looser 13 0 (omega arith) (first_operand ts h))
statement_by_lives context c ts f h = first_lives context c ts f h

item_by_lives : (context : StatementContext) (taken : List Identifier) (c : StatementStart) (ts : List Token)
    → FirstNext c (head_of ts)
    → begins_item_by context c (head_of ts) ≡ true
    → Lives IsZero flat_statement (IsItem context taken) ts (deep (length (tail_of ts)))
item_by_lives context taken (classes.a_lexical constant) ts f h =
    from_nothing (lexical_first_lives context taken constant ts f)
item_by_lives context taken classes.a_function ts f h = from_nothing (function_first_lives context taken ts f)
item_by_lives context taken c ts f h =
    as_item context taken ts (deep (length (tail_of ts))) (from_nothing (statement_by_lives context c ts f h))

brace_lives : (context : StatementContext) (taken : List Identifier) (ts : List Token)
    → is_kind kinds.LeftBrace (head_of ts) ≡ true
    → Lives (IsAdded kinds.LeftBrace) flat_block (IsBlock context taken) ts (deep (length (tail_of ts)))
brace_lives context taken ts h =
    from_nothing
    (first_token kinds.LeftBrace ts (next_is kinds.LeftBrace (head_of ts) h) trees.no_statements (tt, tt)
    (token (fixed kinds.RightBrace) ∷ []) (a_token kinds.RightBrace ∷ []) (λ r. (refl, refl)) refl)

parameters_live : (ts : List Token)
    → is_kind kinds.LeftParenthesis (head_of ts) ≡ true
    → Lives (IsAdded kinds.LeftParenthesis) flat_code IsCode ts (deep (length (tail_of ts)))
parameters_live ts h =
    from_nothing
    (first_token kinds.LeftParenthesis ts (next_is kinds.LeftParenthesis (head_of ts) h)
    (record { parameters = []; body = trees.no_statements }) ((tt, tt), tt)
    (token (fixed kinds.RightParenthesis) ∷ empty_braces) (a_token kinds.RightParenthesis ∷ empty_brace_tokens)
    (λ r. (refl, (refl, (refl, refl)))) refl)

pub shallow_alive : (a e : Reader Expression)
    → ((ts : List Token) (d : Fault) → a ts ≡ Err d → Lives IsZero flat (Fits 1) ts d)
    → ((ts : List Token) (d : Fault) → e ts ≡ Err d → Lives IsZero flat (Fits 0) ts d)
    → AliveBelow (shallow a e)
shallow_alive a e h k = record {
  assignment = h;
  expression = k;
  operation = λ low le ts d p. operand_lives low le ts d p;
  unary = λ ts d p. operand_lives 13 (omega arith) ts d p;
  call =
      λ ts d p. class_lives begins_call ts (λ h. from_nothing (start_lives (start (head_of ts)) ts refl h))
      (λ d c. zero_expression 15 (omega arith) ts d c) d p;
  statement =
      λ context ts d p. class_lives (begins_statement context) ts
      (λ h. from_nothing (statement_by_lives context (first (head_of ts)) ts (first_next (head_of ts)) h))
      (λ d c. zero_statement context ts d c) d p;
  item =
      λ context taken ts d p. class_lives (begins_item context) ts
      (λ h. item_by_lives context taken (first (head_of ts)) ts (first_next (head_of ts)) h)
      (λ d c. zero_item context taken ts d c) d p;
  block =
      λ context taken ts d p. class_lives (λ o. is_kind kinds.LeftBrace o) ts (λ h. brace_lives context taken ts h)
      (λ d c. empty_block context taken ts d c) d p;
  function =
      λ ts d p. class_lives (λ o. is_kind kinds.LeftParenthesis o) ts (λ h. parameters_live ts h)
      (λ d c. empty_code ts d c) d p;
}
