-- Lists of statements and of declared names, as their loops read them.
use Rattle.std.proofs.Common.{◌≡◌, ℕ, suc, ◌<◌, ◌≤◌, Bool, true, false, List, [], ◌∷◌, ◌++◌, length, Ok, map, refl, ap, arith}
use Rattle.std.specs.Prelude.{max}
use Rattle.js_lexer.specs.declared.token.TokenKind.TheVariants as kinds
use Rattle.js_tree.specs.Trees as trees
use Rattle.js_tree.specs.Trees.{Identifier, Declarator, Statement}
use Rattle.js_parser_language.specs.Tokens.{Token, head_of, tail_of}
use Rattle.js_parser_language.specs.Well.{StatementContext, names_of_declarators}
use Rattle.js_tree.specs.Height.{height_of_statement, height_of_statements, height_of_declarator, height_of_declarators}
use Rattle.js_tree.specs.Views.{statements, declarators}
use Rattle.js_parser_readers.specs.declared.fault.ParseError.{ParseError}
use Rattle.js_parser_readers.specs.declared.fault.ParseError.TheVariants as errors
use Rattle.js_parser_readers.specs.Giving.{Fails}
use Rattle.js_parser_language.specs.Kinds.{is_kind}
use Rattle.js_parser_readers.specs.Reading.{Read, ◌>>=◌, ends_list, items, others, with_names}
use Rattle.js_parser_readers.specs.Productions.{with_declared, items_at, declarator_at, declarators_at, name_of, with_declarator}
use Rattle.js_parser_readers.specs.Parsing.{below}
use Rattle.js_parser_readers.proofs.LoopLemmas.{ReadsItems, items_begin, items_go_on, items_end, items_fail, ReadsOthers, others_begin, others_go_on, others_end, others_fail, behind_comma}
use Rattle.js_parser_readers.proofs.ShorterLemmas.{item_shorter, declarator_no_longer}

pub map_push : {A B : Type 0} (f : A → B) (xs : List A) (x : A) → map f (xs ++ x ∷ []) ≡ map f xs ++ f x ∷ []
map_push f [] x = refl
map_push f (y ∷ xs) x = ap (λ ys. f y ∷ ys) (map_push f xs x)

-- ---- statements

-- these statements were read, the highest of which is so high; their names are taken beside those before them
pub record ReadsStatements (room : ℕ) (context : StatementContext) (taken : List Identifier) (ts : List Token)
    (xs : List Statement) (height : ℕ) (names : List Identifier) (rest : List Token) : Type 0 where
  pub is_height : height ≡ height_of_statements (statements xs)
  pub within : height ≤ room
  pub reads : ReadsItems (λ names r. (below room).item context names r) with_declared taken ts xs names rest

pub statements_begin : (room : ℕ) (context : StatementContext) (taken : List Identifier) (ts : List Token)
    → ReadsStatements room context taken ts [] 0 taken ts
statements_begin room context taken ts = record {
  is_height = refl;
  within = omega arith;
  reads = items_begin (λ names r. (below room).item context names r) with_declared taken ts;
}

statements_push : (xs : List Statement) (s : Statement)
    → height_of_statements (statements (xs ++ s ∷ [])) ≡ max (height_of_statements (statements xs))
    (height_of_statement s)
statements_push [] s = omega arith
statements_push (x ∷ xs) s = omega (arith, statements_push xs s)

pub statements_go_on : (room : ℕ) (context : StatementContext) (taken : List Identifier) (ts : List Token) (xs : List Statement)
    (height : ℕ) (names : List Identifier) (rest : List Token) (s : Statement) (h : ℕ) (later : List Token)
    → ReadsStatements room context taken ts xs height names rest
    → ends_list (head_of rest) ≡ false
    → (below room).item context names rest ≡ Ok (s, later)
    → h ≡ height_of_statement s
    → h ≤ room
    → ReadsStatements room context taken ts (xs ++ s ∷ []) (max height h) (with_declared names s) later
statements_go_on room context taken ts xs height names rest s h later r g a d l = record {
  is_height = omega (arith, statements_push xs s, r.is_height, d);
  within = omega (arith, r.within, l);
  reads =
      items_go_on (λ names r. (below room).item context names r)
      with_declared taken ts xs names rest s later r.reads g a (item_shorter room context names rest s later a);
}

pub statements_end : (room : ℕ) (context : StatementContext) (taken : List Identifier) (ts : List Token) (xs : List Statement)
    (height : ℕ) (names : List Identifier) (rest : List Token)
    → ReadsStatements room context taken ts xs height names rest
    → ends_list (head_of rest) ≡ true
    → items_at (below room) context taken ts ≡ Ok (statements xs, rest)
unfolding items_at
statements_end room context taken ts xs height names rest r g =
    rw (items_end (λ names r. (below room).item context names r) with_declared taken ts xs names rest r.reads g) refl

fails_behind : {A B : Type 0} (e : ParseError) (read : Read A) (f : A × List Token → Read B)
    → Fails e read
    → Fails e (read >>= f)
fails_behind errors.Memory read f h = tt
fails_behind (errors.TooDeep left) read f h = rw h refl
fails_behind (errors.Syntax left) read f h = rw h refl

pub statements_fail : (room : ℕ) (context : StatementContext) (taken : List Identifier) (ts : List Token) (xs : List Statement)
    (height : ℕ) (names : List Identifier) (rest : List Token) (e : ParseError)
    → ReadsStatements room context taken ts xs height names rest
    → ends_list (head_of rest) ≡ false
    → Fails e ((below room).item context names rest)
    → Fails e (items_at (below room) context taken ts)
unfolding items_at
statements_fail room context taken ts xs height names rest e r g a =
    fails_behind e (items (λ names r. (below room).item context names r) with_declared (suc (length ts)) taken ts)
    (λ x. Ok (statements x.0, x.1))
    (items_fail (λ names r. (below room).item context names r) with_declared taken ts xs names rest e r.reads g a)

-- ---- declared names

pub with_names_push : (taken ns : List Identifier) (n : Identifier)
    → with_names taken (ns ++ n ∷ []) ≡ n ∷ with_names taken ns
with_names_push taken [] n = refl
with_names_push taken (m ∷ ns) n = with_names_push (m ∷ taken) ns n

names_push : (xs : List Declarator) (d : Declarator)
    → names_of_declarators (declarators (xs ++ d ∷ [])) ≡ names_of_declarators (declarators xs) ++ name_of d ∷ []
names_push [] (trees.declarator n e) = refl
names_push (trees.declarator m e ∷ xs) d = ap (λ (ns : List Identifier). m ∷ ns) (names_push xs d)

heights_push : (xs : List Declarator) (d : Declarator)
    → height_of_declarators (declarators (xs ++ d ∷ [])) ≡ max (height_of_declarators (declarators xs))
    (height_of_declarator d)
heights_push [] d = omega arith
heights_push (x ∷ xs) d = omega (arith, heights_push xs d)

-- these names were read, the highest of whose initializers is so high; they are taken beside those before them
pub record ReadsDeclarators (room : ℕ) (constant : Bool) (taken : List Identifier) (ts : List Token)
    (xs : List Declarator) (height : ℕ) (names : List Identifier) (rest : List Token) : Type 0 where
  pub is_height : height ≡ height_of_declarators (declarators xs)
  pub within : height ≤ room
  pub declares : names ≡ with_names taken (names_of_declarators (declarators xs))
  pub front : Declarator
  pub others_of : List Declarator
  pub behind : List Token
  pub all : xs ≡ front ∷ others_of
  pub begins : declarator_at (below room) constant taken ts ≡ Ok (front, behind)
  pub reads : ReadsOthers (λ names r. declarator_at (below room) constant names r) with_declarator
      (with_declarator taken front) behind others_of names rest

one_name : (taken : List Identifier) (d : Declarator)
    → with_declarator taken d ≡ with_names taken (names_of_declarators (declarators (d ∷ [])))
one_name taken (trees.declarator n e) = refl

pub declarators_begin : (room : ℕ) (constant : Bool) (taken : List Identifier) (ts : List Token) (d : Declarator)
    (h : ℕ) (rest : List Token)
    → declarator_at (below room) constant taken ts ≡ Ok (d, rest)
    → h ≡ height_of_declarator d
    → h ≤ room
    → ReadsDeclarators room constant taken ts (d ∷ []) h (with_declarator taken d) rest
declarators_begin room constant taken ts d h rest a e l = record {
  is_height = omega (arith, e);
  within = l;
  declares = one_name taken d;
  front = d;
  others_of = [];
  behind = rest;
  all = refl;
  begins = a;
  reads =
      others_begin (λ names r. declarator_at (below room) constant names r) with_declarator (with_declarator taken d)
      rest;
}

pub declarators_go_on : (room : ℕ) (constant : Bool) (taken : List Identifier) (ts : List Token) (xs : List Declarator)
    (height : ℕ) (names : List Identifier) (rest : List Token) (d : Declarator) (h : ℕ) (later : List Token)
    → ReadsDeclarators room constant taken ts xs height names rest
    → is_kind kinds.Comma (head_of rest) ≡ true
    → declarator_at (below room) constant names (tail_of rest) ≡ Ok (d, later)
    → h ≡ height_of_declarator d
    → h ≤ room
    → ReadsDeclarators room constant taken ts (xs ++ d ∷ []) (max height h) (with_declarator names d) later
declarators_go_on room constant taken ts xs height names rest d h later r g a e l = record {
  is_height = omega (arith, heights_push xs d, r.is_height, e);
  within = omega (arith, r.within, l);
  declares =
      rw (names_push xs d, with_names_push taken (names_of_declarators (declarators xs)) (name_of d))
      (ap (λ (ns : List Identifier). name_of d ∷ ns) r.declares);
  front = r.front;
  others_of = r.others_of ++ d ∷ [];
  behind = r.behind;
  all = ap (λ (ys : List Declarator). ys ++ d ∷ []) r.all;
  begins = r.begins;
  reads =
      others_go_on (λ names r. declarator_at (below room) constant names r) with_declarator
      (with_declarator taken r.front) r.behind r.others_of names rest d later r.reads g a
      (declarator_no_longer room constant names (tail_of rest) d later a);
}

-- the next turn has fewer tokens left
pub declarators_shorten : (room : ℕ) (constant : Bool) (names : List Identifier) (rest : List Token) (d : Declarator)
    (later : List Token)
    → is_kind kinds.Comma (head_of rest) ≡ true
    → declarator_at (below room) constant names (tail_of rest) ≡ Ok (d, later)
    → length later < length rest
declarators_shorten room constant names rest d later g a =
    omega (arith, declarator_no_longer room constant names (tail_of rest) d later a, behind_comma rest g)

pub declarators_end : (room : ℕ) (constant : Bool) (taken : List Identifier) (ts : List Token) (xs : List Declarator)
    (height : ℕ) (names : List Identifier) (rest : List Token)
    → ReadsDeclarators room constant taken ts xs height names rest
    → is_kind kinds.Comma (head_of rest) ≡ false
    → declarators_at (below room) constant taken ts ≡ Ok (declarators xs, rest)
unfolding declarators_at
declarators_end room constant taken ts xs height names rest r g =
    rw (
      r.begins,
      others_end (λ names r. declarator_at (below room) constant names r) with_declarator
          (with_declarator taken r.front) r.behind r.others_of names rest r.reads g,
      r.all,
    )
    refl

pub declarators_fail : (room : ℕ) (constant : Bool) (taken : List Identifier) (ts : List Token) (xs : List Declarator)
    (height : ℕ) (names : List Identifier) (rest : List Token) (e : ParseError)
    → ReadsDeclarators room constant taken ts xs height names rest
    → is_kind kinds.Comma (head_of rest) ≡ true
    → Fails e (declarator_at (below room) constant names (tail_of rest))
    → Fails e (declarators_at (below room) constant taken ts)
unfolding declarators_at
declarators_fail room constant taken ts xs height names rest e r g a =
    rw r.begins
    (fails_behind e
    (others (λ names r. declarator_at (below room) constant names r) with_declarator (suc (length r.behind))
    (with_declarator taken r.front) r.behind)
    (λ x. Ok (trees.a_declarator r.front (declarators x.0), x.1))
    (others_fail (λ names r. declarator_at (below room) constant names r) with_declarator
    (with_declarator taken r.front) r.behind r.others_of names rest e r.reads g a))
