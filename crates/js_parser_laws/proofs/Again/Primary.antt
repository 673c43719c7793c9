-- Primary expressions are read again.
use Rattle.std.proofs.Common.{◌≡◌, ℕ, suc, ◌≤◌, Bool, true, false, List, [], ◌∷◌, ◌++◌, Option, Some, None, Ok, refl, sym, ap, subst, append_assoc, arith}
use Rattle.std.proofs.lemmas.List.{append-nil}
use Rattle.js_lexer.specs.declared.token.TokenKind.TheVariants as kinds
use Rattle.js_tree.specs.Trees as trees
use Rattle.js_tree.specs.Trees.{Expression}
use Rattle.js_parser_language.specs.Tokens.{Token, fixed, FlatToken, token, head_of, tail_of, Matches}
use Rattle.js_parser_language.specs.Flat.{flat, flat_expressions, trailing, flat_parameters, flat_statements}
use Rattle.js_parser_language.specs.Flat as flats
use Rattle.js_parser_language.specs.Well.{Well}
use Rattle.js_tree.specs.Height.{height}
use Rattle.js_parser_readers.specs.Classes as classes
use Rattle.js_parser_readers.specs.Productions.{Below, tok, a_name, an_expression, arguments, code}
use Rattle.js_parser_readers.specs.Parsing.{primary, function_at, properties_at}
use Rattle.js_parser_laws.proofs.Claims.{AgainBelow, SeqAgain}
use Rattle.js_parser_laws.proofs.TokenLemmas.{text_is}
use Rattle.js_parser_laws.proofs.Again.Head.{start_fixed, start_name, start_number, start_string, other_kind}

-- marks before nothing
pub before_nothing : (ms : List FlatToken) (ts r : List Token) → Matches ms ts r → Matches (ms ++ []) ts r
before_nothing ms ts r m = subst (λ (l : List FlatToken). Matches l ts r) (sym (append-nil ms)) m

pub and_nothing : (ms : List FlatToken) (ts r : List Token) → Matches (ms ++ []) ts r → Matches ms ts r
and_nothing ms ts r m = subst (λ (l : List FlatToken). Matches l ts r) (append-nil ms) m

-- an object literal is read again behind its brace
abbrev pub ObjectsAgain : ℕ → Below → Type 0
ObjectsAgain n b =
    (ps : trees.PropertyDefinitions)
    → Well (trees.object ps)
    → height (trees.object ps) ≤ suc n
    → (ts r : List Token)
    → Matches (flat (trees.object ps)) ts r
    → properties_at b n (tail_of ts) ≡ Ok (ps, r)

array_again : (q : SeqAgain) (n : ℕ) (b : Below)
    → AgainBelow n b
    → (es : trees.Expressions)
    → Well (trees.array es)
    → height (trees.array es) ≤ suc n
    → (ts r : List Token)
    → Matches (flat (trees.array es)) ts r
    → primary b n ts ≡ Ok (trees.array es, r)
unfolding primary
array_again q n b h es w l ts r m =
    let inner : Matches ((flat_expressions es ++ (trailing es ++ (token (fixed kinds.RightBracket) ∷ []))) ++ [])
    (tail_of ts) r = before_nothing
    (flat_expressions es ++ (trailing es ++ (token (fixed kinds.RightBracket) ∷ []))) (tail_of ts) r m.1 in
    rw (
      start_fixed kinds.LeftBracket classes.bracket (head_of ts) m.0 (λ s v. refl),
      q n b h (tok kinds.LeftBracket ∷ arguments kinds.RightBracket ∷ []) (tt, (es, tt)) ts r (tt, (w, tt))
          (omega arith) refl tt (m.0, inner),
    )
    refl

parenthesized_again : (q : SeqAgain) (n : ℕ) (b : Below)
    → AgainBelow n b
    → (e : Expression)
    → Well e
    → height (trees.parenthesized e) ≤ suc n
    → (ts r : List Token)
    → Matches (flat (trees.parenthesized e)) ts r
    → primary b n ts ≡ Ok (trees.parenthesized e, r)
unfolding primary
parenthesized_again q n b h e w l ts r m =
    rw (
      start_fixed kinds.LeftParenthesis classes.parenthesis (head_of ts) m.0 (λ s v. refl),
      q n b h (tok kinds.LeftParenthesis ∷ an_expression ∷ tok kinds.RightParenthesis ∷ []) (tt, (e, (tt, tt))) ts r
          (tt, (w, (tt, tt))) (omega arith) refl tt m,
    )
    refl

-- behind the keyword
pub function_again : (q : SeqAgain) (n : ℕ) (b : Below)
    → AgainBelow n b
    → (o : Option trees.Identifier) (ps : List trees.Identifier) (body : trees.Statements)
    → Well (trees.function o ps body)
    → height (trees.function o ps body) ≤ suc n
    → (ts r : List Token)
    → Matches (flat (trees.function o ps body)) ts r
    → function_at b (tail_of ts) ≡ Ok (trees.function o ps body, r)
unfolding function_at
function_again q n b h None ps body w l ts r m =
    let is : flat_parameters ps ++ (flats.in_braces (flat_statements body) ++ []) ≡
    (flat_parameters ps ++ flats.in_braces (flat_statements body)) ++ [] = sym
    (append_assoc (flat_parameters ps) (flats.in_braces (flat_statements body)) []) in
    let inner : Matches ((flat_parameters ps ++ flats.in_braces (flat_statements body)) ++ []) (tail_of ts) r = subst
    (λ (l : List FlatToken). Matches l (tail_of ts) r) is m.1 in
    rw (
      other_kind kinds.LeftParenthesis kinds.Name (head_of (tail_of ts)) m.1.0 refl,
      q n b h (code ∷ []) (record { parameters = ps; body = body }, tt) (tail_of ts) r ((w.0, w.1), tt) (omega arith)
          refl tt inner,
    )
    refl
function_again q n b h (Some a) ps body w l ts r m =
    let is : flat_parameters ps ++ (flats.in_braces (flat_statements body) ++ []) ≡
    (flat_parameters ps ++ flats.in_braces (flat_statements body)) ++ [] = sym
    (append_assoc (flat_parameters ps) (flats.in_braces (flat_statements body)) []) in
    let inner : Matches ((flat_parameters ps ++ flats.in_braces (flat_statements body)) ++ []) (tail_of (tail_of ts))
    r = subst (λ (l : List FlatToken). Matches l (tail_of (tail_of ts)) r) is m.1.1 in
    rw (
      (text_is a (head_of (tail_of ts)) m.1.0).0,
      q n b h (a_name ∷ code ∷ []) (a, (record { parameters = ps; body = body }, tt)) (tail_of ts) r
          (tt, ((w.0, w.1), tt)) (omega arith) refl tt (m.1.0, inner),
    )
    refl

function_primary : (q : SeqAgain) (n : ℕ) (b : Below)
    → AgainBelow n b
    → (o : Option trees.Identifier) (ps : List trees.Identifier) (body : trees.Statements)
    → Well (trees.function o ps body)
    → height (trees.function o ps body) ≤ suc n
    → (ts r : List Token)
    → Matches (flat (trees.function o ps body)) ts r
    → primary b n ts ≡ Ok (trees.function o ps body, r)
unfolding primary
function_primary q n b h o ps body w l ts r m =
    rw (start_fixed kinds.Function classes.function_word (head_of ts) m.0 (λ s v. refl))
    (function_again q n b h o ps body w l ts r m)

object_primary : (n : ℕ) (b : Below)
    → ObjectsAgain n b
    → (ps : trees.PropertyDefinitions)
    → Well (trees.object ps)
    → height (trees.object ps) ≤ suc n
    → (ts r : List Token)
    → Matches (flat (trees.object ps)) ts r
    → primary b n ts ≡ Ok (trees.object ps, r)
unfolding primary
object_primary n b os ps w l ts r m =
    rw (start_fixed kinds.LeftBrace classes.brace (head_of ts) m.0 (λ s v. refl), os ps w l ts r m) refl

-- neither a member, an index nor a call
abbrev pub is_primary : Expression → Bool
is_primary trees.this = true
is_primary (trees.name n) = true
is_primary (trees.number v) = true
is_primary (trees.string v) = true
is_primary (trees.boolean v) = true
is_primary trees.null = true
is_primary (trees.array es) = true
is_primary (trees.object ps) = true
is_primary (trees.function o ps body) = true
is_primary (trees.parenthesized e) = true
is_primary _ = false

pub primary_again : (q : SeqAgain) (n : ℕ) (b : Below)
    → AgainBelow n b
    → ObjectsAgain n b
    → (e : Expression)
    → is_primary e ≡ true
    → Well e
    → height e ≤ suc n
    → (ts r : List Token)
    → Matches (flat e) ts r
    → primary b n ts ≡ Ok (e, r)
unfolding primary
primary_again q n b h os trees.this p w l ts r m =
    rw (start_fixed kinds.This classes.this_word (head_of ts) m.0 (λ s v. refl))
    (ap (λ (l : List Token). Ok (trees.this, l)) m.1)
primary_again q n b h os (trees.name a) p w l ts r m =
    rw (start_name a (head_of ts) m.0) (ap (λ (l : List Token). Ok (trees.name a, l)) m.1)
primary_again q n b h os (trees.number v) p w l ts r m =
    rw (start_number v (head_of ts) m.0) (ap (λ (l : List Token). Ok (trees.number v, l)) m.1)
primary_again q n b h os (trees.string v) p w l ts r m =
    rw (start_string v (head_of ts) m.0) (ap (λ (l : List Token). Ok (trees.string v, l)) m.1)
primary_again q n b h os (trees.boolean true) p w l ts r m =
    rw (start_fixed kinds.True (classes.a_boolean true) (head_of ts) m.0 (λ s v. refl))
    (ap (λ (l : List Token). Ok (trees.boolean true, l)) m.1)
primary_again q n b h os (trees.boolean false) p w l ts r m =
    rw (start_fixed kinds.False (classes.a_boolean false) (head_of ts) m.0 (λ s v. refl))
    (ap (λ (l : List Token). Ok (trees.boolean false, l)) m.1)
primary_again q n b h os trees.null p w l ts r m =
    rw (start_fixed kinds.Null classes.null_word (head_of ts) m.0 (λ s v. refl))
    (ap (λ (l : List Token). Ok (trees.null, l)) m.1)
primary_again q n b h os (trees.array es) p w l ts r m = array_again q n b h es w l ts r m
primary_again q n b h os (trees.object ps) p w l ts r m = object_primary n b os ps w l ts r m
primary_again q n b h os (trees.function o ps body) p w l ts r m = function_primary q n b h o ps body w l ts r m
primary_again q n b h os (trees.parenthesized e) p w l ts r m = parenthesized_again q n b h e w l ts r m
primary_again q n b h os _ p w l ts r m = absurd cc
