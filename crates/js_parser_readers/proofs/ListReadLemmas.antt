-- What a loop over expressions or members has read, with their heights.
use Rattle.std.proofs.Common.{◌≡◌, ℕ, suc, ◌<◌, ◌≤◌, true, false, List, [], ◌∷◌, ◌++◌, length, map, Ok, refl, arith}
use Rattle.std.specs.Prelude.{max}
use Rattle.js_lexer.specs.declared.token.TokenKind.{TokenKind}
use Rattle.js_lexer.specs.declared.token.TokenKind.TheVariants as kinds
use Rattle.js_tree.specs.declared.tree.Expr.{Expr}
use Rattle.js_tree.specs.declared.tree.PropertyDefinition.{PropertyDefinition}
use Rattle.js_lexer.specs.declared.token.Token as lexer
use Rattle.js_parser_readers.specs.Views.{tokens_view}
use Rattle.js_tree.specs.Trees.{Expression, PropertyDefinition as Property}
use Rattle.js_parser_language.specs.Tokens.{Token, head_of, tail_of}
use Rattle.js_tree.specs.Height.{height, height_of_expressions, height_of_property, height_of_properties}
use Rattle.js_tree.specs.Views.{expression_view, property_view, expressions, properties}
use Rattle.js_parser_language.specs.Kinds.{is_kind}
use Rattle.js_parser_readers.specs.Reading.{elements, others, no_state, after, goes_on}
use Rattle.js_parser_readers.specs.Productions.{one_of}
use Rattle.js_parser_readers.specs.Parsing.{below, property_at}
use Rattle.js_parser_readers.proofs.LeafLemmas.{short, shorter, property_short}
use Rattle.js_parser_readers.proofs.LoopStepLemmas.{Elements, Others, elements_begin, elements_more, others_begin, others_more, map_push, tail_shorter, less_in_view}

-- ---- expressions

heights_push : (xs : List Expression) (x : Expression)
    → height_of_expressions (expressions (xs ++ (x ∷ []))) ≡ max (height_of_expressions (expressions xs)) (height x)
heights_push [] x = omega arith
heights_push (y ∷ xs) x = omega (arith, heights_push xs x)

-- expressions up to a token
pub record ReadsElements (room : ℕ) (closer : TokenKind) (ts : List Token) (xs : List Expr) (high : ℕ)
    (rest : List Token) : Type 0 where
  pub reads : Elements (one_of (below room).assignment) no_state closer
      (elements (one_of (below room).assignment) no_state closer (suc (length ts)) tt ts) (map expression_view xs)
      tt rest
  pub is_height : high ≡ height_of_expressions (expressions (map expression_view xs))
  pub low : high ≤ room

pub elements_init : (room : ℕ) (closer : TokenKind) (ts : List Token) → ReadsElements room closer ts [] 0 ts
elements_init room closer ts = record {
  reads = elements_begin (one_of (below room).assignment) no_state closer tt ts;
  is_height = refl;
  low = omega arith;
}

pub elements_next : (room : ℕ) (closer : TokenKind) (ts : List Token) (xs : List Expr) (high : ℕ) (rest : List Token)
    (x : Expr) (h : ℕ) (later : List Token)
    → ReadsElements room closer ts xs high rest
    → is_kind closer (head_of rest) ≡ false
    → (below room).assignment rest ≡ Ok (expression_view x, later)
    → h ≡ height (expression_view x)
    → h ≤ room
    → after closer (head_of later) ≡ goes_on
    → ReadsElements room closer ts (xs ++ (x ∷ [])) (max high h) (tail_of later)
elements_next room closer ts xs high rest x h later r c o d l g = record {
  reads =
      rw map_push
      (elements_more (one_of (below room).assignment) no_state closer _ _ tt rest (expression_view x) later
      (shorter (below room).assignment rest (expression_view x) later (short room).assignment o)
      r.reads c o g);
  is_height = rw map_push (omega (arith, heights_push (map expression_view xs) (expression_view x), r.is_height));
  low = omega (arith, r.low);
}

-- further expressions
pub record ReadsOthers (room : ℕ) (ts : List Token) (xs : List Expr) (high : ℕ) (rest : List Token) : Type 0 where
  pub reads : Others (one_of (below room).assignment) no_state
      (others (one_of (below room).assignment) no_state (suc (length ts)) tt ts) (map expression_view xs) tt rest
  pub is_height : high ≡ height_of_expressions (expressions (map expression_view xs))
  pub low : high ≤ room

pub others_init : (room : ℕ) (ts : List Token) → ReadsOthers room ts [] 0 ts
others_init room ts = record {
  reads = others_begin (one_of (below room).assignment) no_state tt ts;
  is_height = refl;
  low = omega arith;
}

pub others_next : (room : ℕ) (ts : List Token) (xs : List Expr) (high : ℕ) (rest : List Token) (x : Expr) (h : ℕ)
    (later : List Token)
    → ReadsOthers room ts xs high rest
    → is_kind kinds.Comma (head_of rest) ≡ true
    → (below room).assignment (tail_of rest) ≡ Ok (expression_view x, later)
    → h ≡ height (expression_view x)
    → h ≤ room
    → ReadsOthers room ts (xs ++ (x ∷ [])) (max high h) later
others_next room ts xs high rest x h later r c o d l = record {
  reads =
      rw map_push
      (others_more (one_of (below room).assignment) no_state _ _ tt rest (expression_view x) later
      (shorter (below room).assignment (tail_of rest) (expression_view x) later (short room).assignment o)
      r.reads c o);
  is_height = rw map_push (omega (arith, heights_push (map expression_view xs) (expression_view x), r.is_height));
  low = omega (arith, r.low);
}

-- ---- members of an object literal

properties_push : (xs : List Property) (x : Property)
    → height_of_properties (properties (xs ++ (x ∷ []))) ≡ max (height_of_properties (properties xs))
    (height_of_property x)
properties_push [] x = omega arith
properties_push (y ∷ xs) x = omega (arith, properties_push xs x)

pub record ReadsMembers (room : ℕ) (ts : List Token) (xs : List PropertyDefinition) (high : ℕ) (rest : List Token)
    : Type 0 where
  pub reads : Elements (one_of (λ r. property_at (below room) room r)) no_state kinds.RightBrace
      (elements (one_of (λ r. property_at (below room) room r)) no_state kinds.RightBrace (suc (length ts)) tt ts)
      (map property_view xs) tt rest
  pub is_height : high ≡ height_of_properties (properties (map property_view xs))
  pub low : high ≤ room

pub members_init : (room : ℕ) (ts : List Token) → ReadsMembers room ts [] 0 ts
members_init room ts = record {
  reads = elements_begin (one_of (λ r. property_at (below room) room r)) no_state kinds.RightBrace tt ts;
  is_height = refl;
  low = omega arith;
}

pub member_shorter : (room : ℕ) (rest : List Token) (x : Property) (later : List Token)
    → property_at (below room) room rest ≡ Ok (x, later)
    → length later < length rest
member_shorter room rest x later o =
    shorter (λ r. property_at (below room) room r) rest x later (property_short (below room) (short room) room) o

pub members_next : (room : ℕ) (ts : List Token) (xs : List PropertyDefinition) (high : ℕ) (rest : List Token)
    (x : PropertyDefinition) (h : ℕ) (later : List Token)
    → ReadsMembers room ts xs high rest
    → is_kind kinds.RightBrace (head_of rest) ≡ false
    → property_at (below room) room rest ≡ Ok (property_view x, later)
    → h ≡ height_of_property (property_view x)
    → h ≤ room
    → after kinds.RightBrace (head_of later) ≡ goes_on
    → ReadsMembers room ts (xs ++ (x ∷ [])) (max high h) (tail_of later)
members_next room ts xs high rest x h later r c o d l g = record {
  reads =
      rw map_push
      (elements_more (one_of (λ r. property_at (below room) room r)) no_state kinds.RightBrace _ _ tt rest
      (property_view x) later (member_shorter room rest (property_view x) later o) r.reads c o g);
  is_height = rw map_push (omega (arith, properties_push (map property_view xs) (property_view x), r.is_height));
  low = omega (arith, r.low);
}

-- the heights of what ends a list
pub last_height : (xs : List Expr) (x : Expr) (high h : ℕ)
    → high ≡ height_of_expressions (expressions (map expression_view xs))
    → h ≡ height (expression_view x)
    → max high h ≡ height_of_expressions (expressions (map expression_view (xs ++ (x ∷ []))))
last_height xs x high h d e = rw map_push (omega (arith, heights_push (map expression_view xs) (expression_view x)))

pub last_property_height : (xs : List PropertyDefinition) (x : PropertyDefinition) (high h : ℕ)
    → high ≡ height_of_properties (properties (map property_view xs))
    → h ≡ height_of_property (property_view x)
    → max high h ≡ height_of_properties (properties (map property_view (xs ++ (x ∷ []))))
last_property_height xs x high h d e =
    rw map_push (omega (arith, properties_push (map property_view xs) (property_view x)))

pub others_smaller : (room : ℕ) (rest later : List lexer.Token) (x : Expression)
    → (below room).assignment (tail_of (tokens_view rest)) ≡ Ok (x, tokens_view later)
    → length later < length rest
others_smaller room rest later x o =
    let l : length (tokens_view later) < length (tail_of (tokens_view rest)) = shorter (below room).assignment
    (tail_of (tokens_view rest)) x (tokens_view later) (short room).assignment o in
    less_in_view rest later (omega (arith, tail_shorter (tokens_view rest)))
