-- Where a whole source is not read, the tokens before the fault begin one of the language.
use Rattle.std.proofs.Common.{◌≡◌, ℕ, zero, suc, List, [], ◌∷◌, ◌++◌, length, Option, Ok, Err, refl, sym, ap, subst, ◌∙◌, ◌⊎◌, inl, inr}
use Rattle.std.specs.Prelude.{map}
use Rattle.std.proofs.lemmas.List.{append-nil}
use Rattle.js_lexer.specs.Written.{AreTokens}
use Rattle.js_lexer.specs.Tokens.{IsToken}
use Rattle.js_parser_laws.specs.Exact.{written_view, BeginsWritten}
use Rattle.js_parser_laws.proofs.SpelledKindLemmas.{kind_token, free_token}
use Rattle.js_tree.specs.Trees.{Identifier, Expression, Statements}
use Rattle.js_parser_language.specs.Tokens.{Token, FlatToken, head_of, Matches}
use Rattle.js_parser_language.specs.Flat.{flat, flat_statements}
use Rattle.js_parser_language.specs.Well.{top, Well}
use Rattle.js_parser_language.specs.Language.{IsScript, IsExpression, IsFunction, BeginsLanguage}
use Rattle.js_parser_readers.specs.Reading.{Fault, stuck, deep, Read}
use Rattle.js_parser_readers.specs.Classes.{start}
use Rattle.js_parser_readers.specs.Productions.{items_at}
use Rattle.js_parser_readers.specs.Parsing.{below, ended_by, whole, parse_script, parse_expression, parse_function, function_code_by}
use Rattle.js_parser_laws.proofs.Sound.Part.{seq_sound, items_at_sound}
use Rattle.js_parser_laws.proofs.Sound.Expression.{function_code_sound}
use Rattle.js_parser_laws.proofs.Soundness.{sound_below}
use Rattle.js_parser_laws.proofs.Alive.Tools.{Counts, stuck_counts, deep_counts, Added, a_token, a_near_token, a_name_token, as_written, as_token, added, softens, Lives}
use Rattle.js_parser_laws.proofs.Alive.Parts.{AliveBelow, IsBlock, items_at_lives}
use Rattle.js_parser_laws.proofs.Alive.Expressions.{IsFunctionOf}
use Rattle.js_parser_laws.proofs.Alive.Assignments.{function_code_lives, no_function_lives}
use Rattle.js_parser_laws.proofs.Alive.Below.{alive_below}

-- The tokens before the fault begin a source of the language.
pub record LivesIn {Tree : Type 0} (Is : List Token → Tree → Type 0) (ts : List Token) (e : Fault) : Type 0 where
  pub before : List Token
  pub left : List Token
  pub parts : ts ≡ before ++ left
  pub counted : Counts e left
  pub begins : BeginsLanguage Is before
  pub written : BeginsWritten Is before

written_as : (rest : List Added) → map written_view (map as_written rest) ≡ added rest
written_as [] = refl
written_as (a ∷ rest) = ap (λ (us : List Token). as_token a ∷ us) (written_as rest)

added_token : (a : Added) → IsToken (as_written a).kind (as_written a).text []
added_token (a_token k) = kind_token k
added_token (a_near_token k) = kind_token k
added_token (a_name_token n f) = free_token n f

added_tokens : (rest : List Added) → AreTokens (map as_written rest)
added_tokens [] = tt
added_tokens (a ∷ rest) = (added_token a, added_tokens rest)

-- what lives begins a source
pub begins_so : {Tree : Type 0} {Is : List Token
    → Tree
    → Type 0} {First : Option Token
    → Type 0} {flat_of : Tree
    → List FlatToken} {Good : Tree
    → Type 0} {ts : List Token} {e : Fault}
    → ((us : List Token) (t : Tree) → Good t → Matches (flat_of t) us [] → Is us t)
    → Lives First flat_of Good ts e
    → LivesIn Is ts e
begins_so {Tree} {Is} is l = record {
  before = l.before;
  left = l.left;
  parts = l.parts;
  counted = l.counted;
  begins = (added l.rest ++ [], (l.tree, is (l.before ++ (added l.rest ++ [])) l.tree l.good (l.spelled [])));
  written = record {
    rest = map as_written l.rest;
    tokens = added_tokens l.rest;
    language = (
      l.tree,
      subst (λ (us : List Token). Is (l.before ++ us) l.tree)
          (append-nil (added l.rest) ∙ sym (written_as l.rest))
          (is (l.before ++ (added l.rest ++ [])) l.tree l.good (l.spelled [])),
    );
  };
}

-- what was read in whole, where further tokens are left
read_so : {Tree : Type 0} {Is : List Token → Tree → Type 0} (flat_of : Tree → List FlatToken) (Good : Tree → Type 0)
    (ts : List Token) (e : Fault)
    → ((us : List Token) (t : Tree) → Good t → Matches (flat_of t) us [] → Is us t)
    → (t : Tree) (left : List Token) → Good t → Matches (flat_of t) ts left → Counts e left → LivesIn Is ts e
read_so {Tree} {Is} flat_of Good ts e is t left good m c =
    let f = softens (flat_of t) ts left m in
    record {
      before = f.before;
      left = left;
      parts = f.parts;
      counted = c;
      begins = ([], (t, is (f.before ++ []) t good (f.other [] (λ end h. refl))));
      written =
          record { rest = []; tokens = tt; language = (t, is (f.before ++ []) t good (f.other [] (λ end h. refl))) };
    }

-- a whole source isn't read: its reader stops, or tokens are left
whole_err : {A : Type 0} (r : Read A) (e : Fault)
    → whole r ≡ Err e
    → (r ≡ Err e) ⊎ ((x : A × List Token) × (r ≡ Ok x) × Counts e x.1)
whole_err (Err d) e p = let same : d ≡ e = cc in inl (ap (λ d. Err d) same)
whole_err {A} (Ok x) e p = inr (x, refl, left_err x.0 x.1 p)
  where
    left_err : (t : A) (left : List Token) → ended_by t left ≡ Err e → Counts e left
    left_err t [] p = absurd cc
    left_err t (u ∷ us) p =
        stuck_counts {A = A} (u ∷ us) e (let same : stuck (suc (length us)) ≡ e = cc in ap (λ d. Err d) same)

pub alive : (n : ℕ) → AliveBelow (below n)
alive n = alive_below sound_below n

-- Where an expression isn't read, the tokens before the fault begin one.
pub expression_alive : (n : ℕ) (ts : List Token) (e : Fault) → parse_expression n ts ≡ Err e → LivesIn IsExpression ts e
unfolding parse_expression
expression_alive n ts e p =
    let is : (us : List Token) (t : Expression)
    → Well t
    → Matches (flat t) us []
    → IsExpression us t = λ us t w m. record { well = w; spelled = m } in
    elim (whole_err ((below n).expression ts) e p) [
      | inl q ↦ begins_so (λ us t g m. is us t g.0 m) ((alive n).expression ts e q)
      | inr q ↦
          let t = (sound_below n).expression ts q.0 q.1 in
          read_so flat Well ts e is q.0.0 q.0.1 t.well t.marks q.2
    ]

-- Where a script isn't read, the tokens before the fault begin one.
pub script_alive : (n : ℕ) (earlier : List Identifier) (ts : List Token) (e : Fault)
    → parse_script n earlier ts ≡ Err e
    → LivesIn (IsScript earlier) ts e
unfolding parse_script
script_alive n earlier ts e p =
    let is : (us : List Token) (t : Statements)
    → IsBlock top earlier t
    → Matches (flat_statements t) us []
    → IsScript earlier us t = λ us t w m. record { well = w; spelled = m } in
    elim (whole_err (items_at (below n) top earlier ts) e p) [
      | inl q ↦ begins_so is (items_at_lives n (below n) (sound_below n) (alive n) top earlier ts e q)
      | inr q ↦
          let t = items_at_sound n (below n) (sound_below n) top earlier ts q.0 q.1 in
          read_so flat_statements (IsBlock top earlier) ts e is q.0.0 q.0.1 (t.fresh, t.well) t.marks q.2
    ]

-- Where a function isn't read, the tokens before the fault begin one.
pub function_alive : (n : ℕ) (ts : List Token) (e : Fault) → parse_function n ts ≡ Err e → LivesIn IsFunction ts e
unfolding parse_function
function_alive zero ts e p =
    begins_so (λ us t g m. record { form = g.1; well = g.0.0; spelled = m })
    (no_function_lives ts e
    (deep_counts {A = Expression} ts e (let same : deep (length ts) ≡ e = cc in ap (λ d. Err d) same)))
function_alive (suc n) ts e p =
    let is : (us : List Token) (t : Expression)
    → IsFunctionOf 1 t
    → Matches (flat t) us []
    → IsFunction us t = λ us t g m. record { form = g.1; well = g.0.0; spelled = m } in
    elim (whole_err (function_code_by (below n) (start (head_of ts)) ts) e p) [
      | inl q ↦ begins_so is
          (function_code_lives n (below n) (sound_below n) (alive n) (start (head_of ts)) ts e refl q)
      | inr q ↦
          let t = function_code_sound seq_sound n (below n) (sound_below n) (start (head_of ts)) ts q.0 refl q.1 in
          read_so flat (IsFunctionOf 1) ts e is q.0.0 q.0.1 ((t.0.well, t.0.level), t.1) t.0.marks q.2
    ]
