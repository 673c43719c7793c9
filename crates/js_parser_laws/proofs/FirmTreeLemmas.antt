-- The flat tokens of an expression end in a token, whatever comes behind it.
use Rattle.std.proofs.Common.{◌≡◌, ℕ, Bool, true, false, List, [], ◌∷◌, ◌++◌, refl, ◌∙◌, ap}
use Rattle.std.proofs.lemmas.List.{append-nil}
use Rattle.js_lexer.specs.declared.token.TokenKind.{TokenKind}
use Rattle.js_lexer.specs.declared.token.TokenKind.TheVariants as kinds
use Rattle.js_tree.specs.Trees as trees
use Rattle.js_tree.specs.Trees.{Expression, Expressions, Key, PropertyDefinition, Declarator, Declarators}
use Rattle.js_parser_language.specs.Tokens.{fixed, identifier, identifier_name, FlatToken, token, beside}
use Rattle.js_parser_language.specs.Flat as flats
use Rattle.js_parser_language.specs.Flat.{unary_kind, update_kind, binary_kind, assign_kind, flat, flat_expressions, more_expressions, trailing, flat_optional_name, flat_names, flat_parameters, flat_arrow_parameters, flat_key, flat_property, flat_properties, trailing_property, flat_declarator, flat_declarators, more_declarators, flat_statements}
use Rattle.js_parser_language.specs.Well.{Well, WellProperty, is_some_declarator, WellDeclarators, is_two_expressions, AreAssignments}
use Rattle.js_parser_laws.proofs.Alive.Tools.{is_firm, firm_behind, firm_append}

-- with nothing behind them
pub firm_nil : (ms : List FlatToken) → is_firm ms ≡ true → is_firm (ms ++ []) ≡ true
firm_nil ms f = ap (λ (ms : List FlatToken). is_firm ms) (append-nil ms) ∙ f

-- marks up to a token
pub firm_last : (ms : List FlatToken) (k : TokenKind) → is_firm (ms ++ (token (fixed k) ∷ [])) ≡ true
firm_last ms k = firm_append ms (token (fixed k) ∷ []) refl

pub firm_braces : (ms : List FlatToken) → is_firm (flats.in_braces ms) ≡ true
firm_braces ms = firm_append (token (fixed kinds.LeftBrace) ∷ ms) (token (fixed kinds.RightBrace) ∷ []) refl

pub firm_parameters : (ns : List (List ℕ)) → is_firm (flat_parameters ns) ≡ true
firm_parameters ns =
    firm_append (token (fixed kinds.LeftParenthesis) ∷ flat_names ns) (token (fixed kinds.RightParenthesis) ∷ []) refl

-- one expression at least
abbrev is_some : Expressions → Bool
is_some trees.no_expressions = false
is_some (trees.an_expression e es) = true

some_of : (es : Expressions) → is_two_expressions es ≡ true → is_some es ≡ true
some_of trees.no_expressions t = absurd cc
some_of (trees.an_expression e es) t = refl

-- of an expression, of a list that isn't empty, and of a list behind such marks
mutual
  pub expression_firm : (e : Expression) → Well e → is_firm (flat e) ≡ true
  expression_firm trees.this w = refl
  expression_firm (trees.name n) w = refl
  expression_firm (trees.number v) w = refl
  expression_firm (trees.string v) w = refl
  expression_firm (trees.boolean true) w = refl
  expression_firm (trees.boolean false) w = refl
  expression_firm trees.null w = refl
  expression_firm (trees.array es) w =
      firm_behind (token (fixed kinds.LeftBracket))
      (flat_expressions es ++ (trailing es ++ (token (fixed kinds.RightBracket) ∷ [])))
      (firm_append (flat_expressions es) (trailing es ++ (token (fixed kinds.RightBracket) ∷ []))
      (firm_last (trailing es) kinds.RightBracket))
  expression_firm (trees.object ps) w =
      firm_behind (token (fixed kinds.LeftBrace))
      (flat_properties ps ++ (trailing_property ps ++ (token (fixed kinds.RightBrace) ∷ [])))
      (firm_append (flat_properties ps) (trailing_property ps ++ (token (fixed kinds.RightBrace) ∷ []))
      (firm_last (trailing_property ps) kinds.RightBrace))
  expression_firm (trees.function n ps body) w =
      firm_behind (token (fixed kinds.Function))
      (flat_optional_name n ++ (flat_parameters ps ++ (flats.in_braces (flat_statements body) ++ [])))
      (firm_append (flat_optional_name n) (flat_parameters ps ++ (flats.in_braces (flat_statements body) ++ []))
      (firm_append (flat_parameters ps) (flats.in_braces (flat_statements body) ++ [])
      (firm_nil (flats.in_braces (flat_statements body)) (firm_braces (flat_statements body)))))
  expression_firm (trees.arrow ps e) w =
      firm_append (flat_arrow_parameters ps) (beside (fixed kinds.Arrow) ∷ (flat e ++ []))
      (firm_behind (beside (fixed kinds.Arrow)) (flat e ++ []) (firm_nil (flat e) (expression_firm e w.1)))
  expression_firm (trees.arrow_block ps body) w =
      firm_append (flat_arrow_parameters ps)
      (beside (fixed kinds.Arrow) ∷ (flats.in_braces (flat_statements body) ++ []))
      (firm_behind (beside (fixed kinds.Arrow)) (flats.in_braces (flat_statements body) ++ [])
      (firm_nil (flats.in_braces (flat_statements body)) (firm_braces (flat_statements body))))
  expression_firm (trees.parenthesized e) w =
      firm_behind (token (fixed kinds.LeftParenthesis)) (flat e ++ (token (fixed kinds.RightParenthesis) ∷ []))
      (firm_last (flat e) kinds.RightParenthesis)
  expression_firm (trees.member e n) w =
      firm_append (flat e) (token (fixed kinds.Dot) ∷ token (identifier_name n) ∷ []) refl
  expression_firm (trees.index e k) w =
      firm_append (flat e) (token (fixed kinds.LeftBracket) ∷ (flat k ++ (token (fixed kinds.RightBracket) ∷ [])))
      (firm_behind (token (fixed kinds.LeftBracket)) (flat k ++ (token (fixed kinds.RightBracket) ∷ []))
      (firm_last (flat k) kinds.RightBracket))
  expression_firm (trees.call f es) w =
      firm_append (flat f)
      (token (fixed kinds.LeftParenthesis) ∷
      (flat_expressions es ++ (trailing es ++ (token (fixed kinds.RightParenthesis) ∷ []))))
      (firm_behind (token (fixed kinds.LeftParenthesis))
      (flat_expressions es ++ (trailing es ++ (token (fixed kinds.RightParenthesis) ∷ [])))
      (firm_append (flat_expressions es) (trailing es ++ (token (fixed kinds.RightParenthesis) ∷ []))
      (firm_last (trailing es) kinds.RightParenthesis)))
  expression_firm (trees.postfix o e) w = firm_append (flat e) (beside (fixed (update_kind o)) ∷ []) refl
  expression_firm (trees.prefix o e) w =
      firm_behind (token (fixed (update_kind o))) (flat e ++ []) (firm_nil (flat e) (expression_firm e w.0))
  expression_firm (trees.unary o e) w =
      firm_behind (token (fixed (unary_kind o))) (flat e ++ []) (firm_nil (flat e) (expression_firm e w.0))
  expression_firm (trees.binary o l r) w =
      firm_append (flat l) (token (fixed (binary_kind o)) ∷ (flat r ++ []))
      (firm_behind (token (fixed (binary_kind o))) (flat r ++ []) (firm_nil (flat r) (expression_firm r w.2)))
  expression_firm (trees.conditional t c e) w =
      firm_append (flat t) (token (fixed kinds.Question) ∷ (flat c ++ (token (fixed kinds.Colon) ∷ (flat e ++ []))))
      (firm_behind (token (fixed kinds.Question)) (flat c ++ (token (fixed kinds.Colon) ∷ (flat e ++ [])))
      (firm_append (flat c) (token (fixed kinds.Colon) ∷ (flat e ++ []))
      (firm_behind (token (fixed kinds.Colon)) (flat e ++ []) (firm_nil (flat e) (expression_firm e w.4)))))
  expression_firm (trees.assign o t v) w =
      firm_append (flat t) (token (fixed (assign_kind o)) ∷ (flat v ++ []))
      (firm_behind (token (fixed (assign_kind o))) (flat v ++ []) (firm_nil (flat v) (expression_firm v w.2)))
  expression_firm (trees.comma es) w = expressions_firm es (some_of es w.0) w.1

  expressions_firm : (es : Expressions) → is_some es ≡ true → AreAssignments es → is_firm (flat_expressions es) ≡ true
  expressions_firm trees.no_expressions s w = absurd cc
  expressions_firm (trees.an_expression e es) s w = more_firm (flat e) (expression_firm e w.0) es w.2

  -- further ones behind marks that end in a token
  more_firm : (ms : List FlatToken)
      → is_firm ms ≡ true
      → (es : Expressions)
      → AreAssignments es
      → is_firm (ms ++ more_expressions es) ≡ true
  more_firm ms f trees.no_expressions w = firm_nil ms f
  more_firm ms f (trees.an_expression e es) w =
      firm_append ms (token (fixed kinds.Comma) ∷ (flat e ++ (more_expressions es ++ [])))
      (firm_behind (token (fixed kinds.Comma)) (flat e ++ (more_expressions es ++ []))
      (ap (λ (l : List FlatToken). is_firm (flat e ++ l)) (append-nil (more_expressions es))
      ∙ more_firm (flat e) (expression_firm e w.0) es w.2))

-- ---- parts

pub key_firm : (k : Key) → is_firm (flat_key k) ≡ true
key_firm (trees.word_key w) = refl
key_firm (trees.string_key w) = refl
key_firm (trees.number_key w) = refl
key_firm (trees.computed_key e) =
    firm_behind (token (fixed kinds.LeftBracket)) (flat e ++ (token (fixed kinds.RightBracket) ∷ []))
    (firm_last (flat e) kinds.RightBracket)

pub property_firm : (p : PropertyDefinition) → WellProperty p → is_firm (flat_property p) ≡ true
property_firm (trees.shorthand n) w = refl
property_firm (trees.value k e) w =
    firm_append (flat_key k) (token (fixed kinds.Colon) ∷ (flat e ++ []))
    (firm_behind (token (fixed kinds.Colon)) (flat e ++ []) (firm_nil (flat e) (expression_firm e w.1)))
property_firm (trees.method k ps body) w =
    firm_append (flat_key k) (flat_parameters ps ++ (flats.in_braces (flat_statements body) ++ []))
    (firm_append (flat_parameters ps) (flats.in_braces (flat_statements body) ++ [])
    (firm_nil (flats.in_braces (flat_statements body)) (firm_braces (flat_statements body))))

pub declarator_firm : (d : Declarator)
    → (e : WellDeclarators (trees.a_declarator d trees.no_declarators))
    → is_firm (flat_declarator d) ≡ true
declarator_firm (trees.declarator n trees.omitted) w = refl
declarator_firm (trees.declarator n (trees.present e)) w =
    firm_behind (token (identifier n)) (token (fixed kinds.Assign) ∷ (flat e ++ []))
    (firm_behind (token (fixed kinds.Assign)) (flat e ++ []) (firm_nil (flat e) (expression_firm e w.0.0)))

more_declarators_firm : (ms : List FlatToken)
    → is_firm ms ≡ true
    → (ds : Declarators)
    → WellDeclarators ds
    → is_firm (ms ++ more_declarators ds) ≡ true
more_declarators_firm ms f trees.no_declarators w = firm_nil ms f
more_declarators_firm ms f (trees.a_declarator d ds) w =
    firm_append ms (token (fixed kinds.Comma) ∷ (flat_declarator d ++ (more_declarators ds ++ [])))
    (firm_behind (token (fixed kinds.Comma)) (flat_declarator d ++ (more_declarators ds ++ []))
    (ap (λ (l : List FlatToken). is_firm (flat_declarator d ++ l)) (append-nil (more_declarators ds))
    ∙ more_declarators_firm (flat_declarator d) (declarator_firm d (w.0, tt)) ds w.1))

pub declarators_firm : (ds : Declarators)
    → is_some_declarator ds ≡ true
    → WellDeclarators ds
    → is_firm (flat_declarators ds) ≡ true
declarators_firm trees.no_declarators s w = absurd cc
declarators_firm (trees.a_declarator d ds) s w =
    more_declarators_firm (flat_declarator d) (declarator_firm d (w.0, tt)) ds w.1
