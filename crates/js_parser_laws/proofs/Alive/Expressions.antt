-- Where the readers of expressions stop, the tokens before begin well-formed expressions.
use Rattle.std.proofs.Common.{◌≡◌, ℕ, zero, suc, ◌+◌, ◌<◌, ◌≤◌, Bool, true, false, cond, List, [], ◌∷◌, ◌++◌, length, Option, Some, None, Ok, Err, refl, sym, ap, subst, ◌∙◌, ◌⊎◌, inl, inr, append_assoc, arith}
use Rattle.std.specs.Prelude.{nat_le}
use Rattle.std.proofs.lemmas.List.{append-nil}
use Rattle.std.proofs.lemmas.Bool.{leb-true}
use Rattle.js_lexer.specs.declared.token.TokenKind.{TokenKind}
use Rattle.js_lexer.specs.declared.token.TokenKind.TheVariants as kinds
use Rattle.js_tree_operators.specs.declared.operator.UnaryOperator.TheVariants as unaries
use Rattle.js_tree_operators.specs.declared.operator.UpdateOperator.{UpdateOperator}
use Rattle.js_tree_operators.specs.declared.operator.BinaryOperator.{BinaryOperator}
use Rattle.js_tree.specs.Trees as trees
use Rattle.js_tree.specs.Trees.{Expression, Key, PropertyDefinition, PropertyDefinitions}
use Rattle.js_parser_language.specs.Tokens.{Token, fixed, identifier, identifier_name, numeric_literal, FlatToken, token, beside, head_of, tail_of, IsNext, Matches}
use Rattle.js_parser_language.specs.Flat as flats
use Rattle.js_parser_language.specs.Flat.{unary_kind, update_kind, binary_kind, flat, flat_parameters, flat_statements, flat_key, flat_property, flat_properties, trailing_property}
use Rattle.js_parser_language.specs.Well.{level, strength, is_property, WellKey, WellProperty, WellProperties, is_function}
use Rattle.js_tree.specs.Targets.{is_target}
use Rattle.js_tree.specs.Height.{height, height_of_key}
use Rattle.js_tree.specs.Views.{properties}
use Rattle.js_parser_readers.specs.Reading.{Fault, stuck, deep, Read, Reader, ◌>>=◌, name_at, text_of, is_word_next, word_at, elements, no_state}
use Rattle.js_parser_readers.specs.Classes as classes
use Rattle.js_parser_readers.specs.Classes.{PrimaryStart, start_by, start, CallTail, dot, key, no_link, link_by, link, Prefix, deletes, a_unary, an_update, no_prefix, prefix, update_near, operator, KeyStart, key_start, AfterKey, after_key_by, after_key, is_shorthand}
use Rattle.js_parser_readers.specs.Productions.{ParametersAndBody, Below, one_of, Piece, PieceValues, made, seq, tok, a_name, an_assignment, an_expression, arguments, code}
use Rattle.js_parser_readers.specs.Parsing.{if_low, key_by, key_at, member_by, property_by, property_at, properties_at, is_name_next, function_by, function_at, primary_by, primary, linked_by, links_by, links, call, updated_by, postfix, unary_by, unary, operator_from, chain_by, chain, operation}
use Rattle.js_parser_laws.proofs.Claims.{TakesExpression, SoundBelow, marks}
use Rattle.js_parser_laws.proofs.MarkLemmas.{joins}
use Rattle.js_parser_laws.proofs.TokenLemmas.{ok_is}
use Rattle.js_parser_laws.proofs.Sound.List.{AllGood, Reads}
use Rattle.js_parser_laws.proofs.Sound.Part.{seq_sound}
use Rattle.js_parser_laws.proofs.HeadLemmas.{update_next, prefix_unary, from_is, from_past}
use Rattle.js_parser_laws.proofs.Sound.Operator.{weaker, Ended, binary_takes, unary_sound}
use Rattle.js_parser_laws.proofs.Sound.Primary.{TakesKey, key_sound, property_sound, properties_marks, primary_sound, linked_by_sound, call_sound}
use Rattle.js_parser_laws.proofs.Alive.Tools.{bind_err, cond_err, Counts, stuck_counts, deep_counts, Added, added, a_token, a_name_token, Anything, Nothing, IsZero, firm_behind, firm_append, Lives, fills, anything, from_nothing, ends_in, around, stopped, renamed, behind}
use Rattle.js_parser_laws.proofs.Alive.Lists.{elements_lives}
use Rattle.js_parser_laws.proofs.Alive.Parts.{Fits, AliveBelow, zero_expression, zero_marks, flat_code, name_lives, seq_lives, known_lives, made_err}
use Rattle.js_parser_laws.proofs.FirmTreeLemmas.{expression_firm, key_firm, property_firm}
use Rattle.js_parser_readers.proofs.ClassLemmas.{start_brace, start_function, link_dot, prefix_delete, prefix_update, operator_next}
use Rattle.js_parser_laws.proofs.Again.Level.{strength_low, from_none, height_positive}
use Rattle.js_parser_readers.proofs.ShorterLemmas.{bind_ok}
use Rattle.js_parser_laws.proofs.Follows.Assignments.{start_paren}

-- ---- tools

-- a tree that is low enough, or the room is used up
pub low_err : {A : Type 0} (h n : ℕ) (ts : List Token) (read : Read A) (e : Fault)
    → if_low h n ts read ≡ Err e
    → ((h ≤ n) × (read ≡ Err e)) ⊎ Counts e (tail_of ts)
low_err {A} h n ts read e p = elim (cond_err (nat_le h n) read (Err (deep (length (tail_of ts)))) e p) [
  | inl q ↦ inl (leb-true h n q.0, q.1)
  | inr q ↦ inr (deep_counts {A = A} (tail_of ts) e q.1)
]

-- where one of a level lives, one of a lower level does
pub looser : {First : Option Token → Type 0} {ts : List Token} {e : Fault} (m k : ℕ)
    → k ≤ m
    → Lives First flat (Fits m) ts e
    → Lives First flat (Fits k) ts e
looser m k le l = renamed l l.tree (l.good.0, omega (arith, l.good.1)) refl

-- an expression is whole where the reader stops
pub whole_lives : (low n : ℕ) (s : List Token) (f : Expression) (ts : List Token) (e : Fault)
    → TakesExpression low n s f ts
    → Counts e ts
    → Lives Nothing flat (Fits low) s e
whole_lives low n s f ts e t c =
    stopped (flat f) (expression_firm f t.well) s ts t.marks e c f (t.well, t.level) [] [] (λ r. refl)
    (append-nil (flat f))

-- an expression and one token behind it, and what is added
pub token_lives : {flat_as : Expression → List FlatToken} {Fine : Expression → Type 0} (low n : ℕ) (s : List Token)
    (f : Expression) (ts : List Token) (e : Fault)
    → TakesExpression low n s f ts
    → (k : TokenKind)
    → IsNext (fixed k) (head_of ts)
    → Counts e (tail_of ts)
    → (tree : Expression)
    → Fine tree
    → (ns : List FlatToken) (more : List Added)
    → ((r : List Token) → Matches ns (added more ++ r) r)
    → flat f ++ (token (fixed k) ∷ ns) ≡ flat_as tree
    → Lives Nothing flat_as Fine s e
token_lives low n s f ts e t k next c tree fine ns more spelled same =
    stopped (flat f ++ (token (fixed k) ∷ [])) (firm_append (flat f) (token (fixed k) ∷ []) refl) s (tail_of ts)
    (joins (flat f) (token (fixed k) ∷ []) s ts (tail_of ts) t.marks (next, refl)) e c tree fine ns more spelled
    (append_assoc (flat f) (token (fixed k) ∷ []) ns ∙ same)

abbrev pub zero_token : List Added
zero_token = a_token kinds.Number ∷ []

-- the name x
abbrev pub x_name : List ℕ
x_name = 120 ∷ []

abbrev word_marks : List FlatToken
word_marks = token (identifier_name x_name) ∷ []

abbrev word_tokens : List Added
word_tokens = a_name_token x_name refl ∷ []

word_err : (ts : List Token) (e : Fault) → word_at ts ≡ Err e → Counts e ts
unfolding word_at
word_err ts e p =
    elim (cond_err (is_word_next (head_of ts)) (Ok (text_of (head_of ts), tail_of ts)) (Err (stuck (length ts))) e p) [
      | inl q ↦ absurd cc
      | inr q ↦ stuck_counts {A = List ℕ} ts e q.1
    ]

-- ---- classes

bracket_by : (k : TokenKind) (s : List ℕ) (v : ℕ) → start_by k s v ≡ classes.bracket → k ≡ kinds.LeftBracket
bracket_by kinds.LeftBracket s v e = refl
bracket_by _ s v e = absurd cc

pub start_bracket : (o : Option Token) → start o ≡ classes.bracket → IsNext (fixed kinds.LeftBracket) o
start_bracket None e = absurd cc
start_bracket (Some t) e = bracket_by t.kind t.string_value t.numeric_value e

key_by_link : (k : TokenKind) → link_by k ≡ key → k ≡ kinds.LeftBracket
key_by_link kinds.LeftBracket e = refl
key_by_link _ e = absurd cc

link_key : (o : Option Token) → link o ≡ key → IsNext (fixed kinds.LeftBracket) o
link_key None e = absurd cc
link_key (Some t) e = key_by_link t.kind e

arguments_by_link : (k : TokenKind) → link_by k ≡ classes.arguments → k ≡ kinds.LeftParenthesis
arguments_by_link kinds.LeftParenthesis e = refl
arguments_by_link _ e = absurd cc

link_arguments : (o : Option Token) → link o ≡ classes.arguments → IsNext (fixed kinds.LeftParenthesis) o
link_arguments None e = absurd cc
link_arguments (Some t) e = arguments_by_link t.kind e

parameters_by : (k : TokenKind) → after_key_by k ≡ classes.parameters → k ≡ kinds.LeftParenthesis
parameters_by kinds.LeftParenthesis e = refl
parameters_by _ e = absurd cc

after_parameters : (o : Option Token) → after_key o ≡ classes.parameters → IsNext (fixed kinds.LeftParenthesis) o
after_parameters None e = absurd cc
after_parameters (Some t) e = parameters_by t.kind e

-- ---- object literals

key_by_lives : (n : ℕ) (b : Below)
    → SoundBelow n b
    → AliveBelow b
    → (c : KeyStart) (ts : List Token) (e : Fault)
    → key_by b c ts ≡ Err e
    → Lives Anything flat_key WellKey ts e
key_by_lives n b s a (classes.a_word_key w) ts e p = absurd cc
key_by_lives n b s a (classes.a_string_key w) ts e p = absurd cc
key_by_lives n b s a (classes.a_number_key w) ts e p = absurd cc
key_by_lives n b s a classes.a_computed_key ts e p =
    let is = tok kinds.LeftBracket ∷ an_assignment ∷ tok kinds.RightBracket ∷ [] in
    let l = anything (seq_lives n b s a is refl ts e (made_err {A = Key} b is (λ v. trees.computed_key v.1.0) ts e p))
    in
    renamed l (trees.computed_key l.tree.1.0) l.good.1.0 refl
key_by_lives n b s a classes.no_key ts e p =
    fills ts e (stuck_counts {A = Key} ts e p) (trees.word_key x_name) tt word_tokens (λ r. ((refl, refl), refl))
    (λ r. tt)

key_lives : (n : ℕ) (b : Below)
    → SoundBelow n b
    → AliveBelow b
    → (ts : List Token) (e : Fault)
    → key_at b ts ≡ Err e
    → Lives Anything flat_key WellKey ts e
unfolding key_at
key_lives n b s a ts e p = key_by_lives n b s a (key_start (head_of ts)) ts e p

abbrev zero_value : List FlatToken
zero_value = token (fixed kinds.Colon) ∷ token (numeric_literal 0) ∷ []

abbrev zero_value_tokens : List Added
zero_value_tokens = a_token kinds.Colon ∷ a_token kinds.Number ∷ []

-- ) { } behind the parenthesis of a method
abbrev empty_rest : List FlatToken
empty_rest = token (fixed kinds.RightParenthesis) ∷ token (fixed kinds.LeftBrace) ∷ token (fixed kinds.RightBrace) ∷ []

abbrev empty_rest_tokens : List Added
empty_rest_tokens = a_token kinds.RightParenthesis ∷ a_token kinds.LeftBrace ∷ a_token kinds.RightBrace ∷ []

method_lives : (n : ℕ) (s : List Token) (k : Key) (ts : List Token) (e : Fault)
    → TakesKey n s k ts
    → IsNext (fixed kinds.LeftParenthesis) (head_of ts)
    → Counts e (tail_of ts)
    → Lives Nothing flat_property WellProperty s e
method_lives n s k ts e t f c =
    stopped (flat_key k ++ (token (fixed kinds.LeftParenthesis) ∷ []))
    (firm_append (flat_key k) (token (fixed kinds.LeftParenthesis) ∷ []) refl) s (tail_of ts)
    (joins (flat_key k) (token (fixed kinds.LeftParenthesis) ∷ []) s ts (tail_of ts) t.marks (f, refl)) e c
    (trees.method k [] trees.no_statements) (t.well, (tt, tt), tt) empty_rest empty_rest_tokens
    (λ r. (refl, (refl, (refl, refl))))
    (append_assoc (flat_key k) (token (fixed kinds.LeftParenthesis) ∷ []) empty_rest)

member_by_lives : (n : ℕ) (b : Below)
    → SoundBelow n b
    → AliveBelow b
    → (s : List Token) (k : Key) (c : AfterKey) (ts : List Token) (e : Fault)
    → after_key (head_of ts) ≡ c
    → TakesKey n s k ts
    → member_by b n k c ts ≡ Err e
    → Lives Nothing flat_property WellProperty s e
member_by_lives n b snd a s k classes.colon ts e f t p =
    let is = tok kinds.Colon ∷ an_assignment ∷ [] in
    let l = anything (seq_lives n b snd a is refl ts e (made_err {A = PropertyDefinition} b is (λ v. trees.value k v.1.0) ts e p))
    in
    behind l (flat_key k) (key_firm k) s t.marks (trees.value k l.tree.1.0) (t.well, l.good.1.0.0, l.good.1.0.1) refl
member_by_lives n b snd a s k classes.parameters ts e f t p =
    elim (low_err (suc (height_of_key k)) n ts (b.function ts >>= λ f. Ok (trees.method k f.0.parameters f.0.body, f.1))
    e p) [
      | inl q ↦ elim (bind_err (b.function ts) (λ f. Ok (trees.method k f.0.parameters f.0.body, f.1)) e q.1) [
        | inl w ↦
            let l = a.function ts e w in
            behind l (flat_key k) (key_firm k) s t.marks (trees.method k l.tree.parameters l.tree.body)
            (t.well, l.good.0, l.good.1)
            (ap (λ (ms : List FlatToken). flat_key k ++ (flat_parameters l.tree.parameters ++ ms))
            (sym (append-nil (flats.in_braces (flat_statements l.tree.body)))))
        | inr w ↦ absurd cc
      ]
      | inr c ↦ method_lives n s k ts e t (after_parameters (head_of ts) f) c
    ]
member_by_lives n b snd a s k classes.no_member ts e f t p =
    stopped (flat_key k) (key_firm k) s ts t.marks e (stuck_counts {A = PropertyDefinition} ts e p)
    (trees.value k (trees.number 0)) (t.well, tt, omega arith) zero_value zero_value_tokens
    (λ r. (refl, ((refl, refl), refl))) refl

property_by_lives : (n : ℕ) (b : Below)
    → SoundBelow n b
    → AliveBelow b
    → (c : Bool) (ts : List Token) (e : Fault)
    → property_by b n c ts ≡ Err e
    → Lives Anything flat_property WellProperty ts e
property_by_lives n b s a true ts e p = elim (bind_err (name_at ts) (λ x. Ok (trees.shorthand x.0, x.1)) e p) [
  | inl q ↦
      let l = name_lives ts e q in
      renamed l (trees.shorthand l.tree) tt refl
  | inr q ↦ absurd cc
]
property_by_lives n b s a false ts e p =
    elim (bind_err (key_at b ts) (λ k. member_by b n k.0 (after_key (head_of k.1)) k.1) e p) [
      | inl q ↦
          let l = key_lives n b s a ts e q in
          ends_in l (trees.value l.tree (trees.number 0)) (l.good, tt, omega arith) zero_value zero_value_tokens
          (λ r. (refl, ((refl, refl), refl))) refl
      | inr q ↦ from_nothing
          (member_by_lives n b s a ts q.0.0 (after_key (head_of q.0.1)) q.0.1 e refl
          (key_sound seq_sound n b s ts q.0 q.1)
          q.2)
    ]

property_lives : (n : ℕ) (b : Below)
    → SoundBelow n b
    → AliveBelow b
    → (ts : List Token) (e : Fault)
    → property_at b n ts ≡ Err e
    → Lives Anything flat_property WellProperty ts e
unfolding property_at
property_lives n b s a ts e p = property_by_lives n b s a (is_shorthand ts) ts e p

abbrev IsProperty : Unit {0} → PropertyDefinition → Type 0
IsProperty u p = WellProperty p

all_properties : (u : Unit {0}) (ps : List PropertyDefinition) → AllGood no_state IsProperty u ps → WellProperties (properties ps)
all_properties u [] g = tt
all_properties u (p ∷ ps) g = (g.0, all_properties tt ps g.1)

-- members and the brace that ends them
abbrev flat_members : PropertyDefinitions → List FlatToken
flat_members ps = flat_properties ps ++ (trailing_property ps ++ (token (fixed kinds.RightBrace) ∷ []))

properties_lives : (n : ℕ) (b : Below)
    → SoundBelow n b
    → AliveBelow b
    → (ts : List Token) (e : Fault)
    → properties_at b n ts ≡ Err e
    → Lives Anything flat_members WellProperties ts e
unfolding properties_at
properties_lives n b s a ts e p =
    let one = one_of (λ r. property_at b n r) in
    elim (bind_err (elements one no_state kinds.RightBrace (suc (length ts)) tt ts) (λ x. Ok (properties x.0, x.1)) e p) [
      | inl q ↦
          let reads : Reads one flat_property IsProperty = λ u ts x e. let t = property_sound seq_sound n b s ts x e in
          (t.marks, t.well) in
          let l = elements_lives Anything one no_state flat_property IsProperty reads (λ u p g. property_firm p g)
          (λ u ts e p. property_lives n b s a ts e p) kinds.RightBrace (suc (length ts)) tt ts e q in
          renamed l (properties l.tree) (all_properties tt l.tree l.good) (properties_marks l.tree)
      | inr q ↦ absurd cc
    ]

-- ---- function expressions

abbrev pub IsFunctionOf : ℕ → Expression → Type 0
IsFunctionOf low e = Fits low e × (is_function e ≡ true)

function_marks : (ms : List FlatToken) (f : ParametersAndBody)
    → ms ++ (flat_code f ++ []) ≡ ms ++
    (flat_parameters f.parameters ++ (flats.in_braces (flat_statements f.body) ++ []))
function_marks ms f =
    ap (λ (l : List FlatToken). ms ++ l)
    (append_assoc (flat_parameters f.parameters) (flats.in_braces (flat_statements f.body)) [])

function_by_lives : (n : ℕ) (b : Below)
    → SoundBelow n b
    → AliveBelow b
    → (c : Bool) (ts : List Token) (e : Fault)
    → IsNext (fixed kinds.Function) (head_of ts)
    → function_by b c (tail_of ts) ≡ Err e
    → Lives Nothing flat (IsFunctionOf 15) ts e
function_by_lives n b s a true ts e f p =
    let is = a_name ∷ code ∷ [] in
    let l = anything
    (seq_lives n b s a is refl (tail_of ts) e
    (made_err {A = Expression} b is (λ v. trees.function (Some v.0) v.1.0.parameters v.1.0.body) (tail_of ts)
    e p))
    in
    behind l (token (fixed kinds.Function) ∷ []) refl ts (f, refl)
    (trees.function (Some l.tree.0) l.tree.1.0.parameters l.tree.1.0.body)
    (((l.good.1.0.0, l.good.1.0.1), omega arith), refl)
    (function_marks (token (fixed kinds.Function) ∷ token (identifier l.tree.0) ∷ []) l.tree.1.0)
function_by_lives n b s a false ts e f p =
    let is = code ∷ [] in
    let l = anything
    (seq_lives n b s a is refl (tail_of ts) e
    (made_err {A = Expression} b is (λ v. trees.function None v.0.parameters v.0.body) (tail_of ts) e p))
    in
    behind l (token (fixed kinds.Function) ∷ []) refl ts (f, refl)
    (trees.function None l.tree.0.parameters l.tree.0.body) (((l.good.0.0, l.good.0.1), omega arith), refl)
    (function_marks (token (fixed kinds.Function) ∷ []) l.tree.0)

pub function_lives : (n : ℕ) (b : Below)
    → SoundBelow n b
    → AliveBelow b
    → (ts : List Token) (e : Fault)
    → IsNext (fixed kinds.Function) (head_of ts)
    → function_at b (tail_of ts) ≡ Err e
    → Lives Nothing flat (IsFunctionOf 15) ts e
unfolding function_at
function_lives n b s a ts e f p = function_by_lives n b s a (is_name_next (head_of (tail_of ts))) ts e f p

-- ---- primary expressions

primary_by_lives : (n : ℕ) (b : Below)
    → SoundBelow n b
    → AliveBelow b
    → (c : PrimaryStart) (ts : List Token) (e : Fault)
    → start (head_of ts) ≡ c
    → primary_by b n c ts ≡ Err e
    → Lives IsZero flat (Fits 15) ts e
primary_by_lives n b s a classes.this_word ts e f p = absurd cc
primary_by_lives n b s a (classes.a_name w) ts e f p = absurd cc
primary_by_lives n b s a (classes.a_number w) ts e f p = absurd cc
primary_by_lives n b s a (classes.a_string w) ts e f p = absurd cc
primary_by_lives n b s a (classes.a_boolean w) ts e f p = absurd cc
primary_by_lives n b s a classes.null_word ts e f p = absurd cc
primary_by_lives n b s a classes.bracket ts e f p =
    let is = arguments kinds.RightBracket ∷ [] in
    let l = known_lives n b s a kinds.LeftBracket is refl ts e (start_bracket (head_of ts) f)
    (made_err {A = Expression} b (tok kinds.LeftBracket ∷ is) (λ v. trees.array v.1.0) ts e p) in
    from_nothing
    (renamed l (trees.array l.tree.1.0) (l.good.1.0, omega arith)
    (ap (λ (ms : List FlatToken). token (fixed kinds.LeftBracket) ∷ ms) (append-nil _)))
primary_by_lives n b s a classes.brace ts e f p =
    elim (bind_err (properties_at b n (tail_of ts)) (λ ps. Ok (trees.object ps.0, ps.1)) e p) [
      | inl q ↦
          let l = properties_lives n b s a (tail_of ts) e q in
          from_nothing
          (behind l (token (fixed kinds.LeftBrace) ∷ []) refl ts (start_brace (head_of ts) f, refl)
          (trees.object l.tree) (l.good, omega arith) refl)
      | inr q ↦ absurd cc
    ]
primary_by_lives n b s a classes.parenthesis ts e f p =
    let is = an_expression ∷ tok kinds.RightParenthesis ∷ [] in
    let l = known_lives n b s a kinds.LeftParenthesis is refl ts e (start_paren (head_of ts) f)
    (made_err {A = Expression} b (tok kinds.LeftParenthesis ∷ is) (λ v. trees.parenthesized v.1.0) ts e p) in
    from_nothing (renamed l (trees.parenthesized l.tree.1.0) (l.good.1.0, omega arith) refl)
primary_by_lives n b s a classes.function_word ts e f p =
    let l = function_lives n b s a ts e (start_function (head_of ts) f) p in
    from_nothing (renamed l l.tree l.good.0 refl)
primary_by_lives n b s a classes.no_start ts e f p =
    zero_expression 15 (omega arith) ts e (stuck_counts {A = Expression} ts e p)

primary_lives : (n : ℕ) (b : Below)
    → SoundBelow n b
    → AliveBelow b
    → (ts : List Token) (e : Fault)
    → primary b n ts ≡ Err e
    → Lives IsZero flat (Fits 15) ts e
unfolding primary
primary_lives n b s a ts e p = primary_by_lives n b s a (start (head_of ts)) ts e refl p

-- ---- members and calls

linked_by_lives : (n : ℕ) (b : Below)
    → SoundBelow n b
    → AliveBelow b
    → (s : List Token) (f : Expression) (l : CallTail) (ts : List Token) (e : Fault)
    → link (head_of ts) ≡ l
    → TakesExpression 15 (suc n) s f ts
    → linked_by b f l ts ≡ Err e
    → Lives Nothing flat (Fits 15) s e
linked_by_lives n b snd a s f dot ts e g t p =
    elim (bind_err (word_at (tail_of ts)) (λ x. Ok (trees.member f x.0, x.1)) e p) [
      | inl q ↦ token_lives 15 (suc n) s f ts e t kinds.Dot (link_dot (head_of ts) g) (word_err (tail_of ts) e q)
          (trees.member f x_name) ((t.well, t.level), omega arith) word_marks word_tokens (λ r. ((refl, refl), refl))
          refl
      | inr q ↦ absurd cc
    ]
linked_by_lives n b snd a s f key ts e g t p =
    let is = tok kinds.LeftBracket ∷ an_expression ∷ tok kinds.RightBracket ∷ [] in
    let l = anything
    (seq_lives n b snd a is refl ts e (made_err {A = Expression} b is (λ v. trees.index f v.1.0) ts e p)) in
    behind l (flat f) (expression_firm f t.well) s t.marks (trees.index f l.tree.1.0)
    ((t.well, t.level, l.good.1.0), omega arith) refl
linked_by_lives n b snd a s f classes.arguments ts e g t p =
    let is = tok kinds.LeftParenthesis ∷ arguments kinds.RightParenthesis ∷ [] in
    let l = anything
    (seq_lives n b snd a is refl ts e (made_err {A = Expression} b is (λ v. trees.call f v.1.0) ts e p)) in
    behind l (flat f) (expression_firm f t.well) s t.marks (trees.call f l.tree.1.0)
    ((t.well, t.level, l.good.1.0), omega arith)
    (ap (λ (ms : List FlatToken). flat f ++ (token (fixed kinds.LeftParenthesis) ∷ ms)) (append-nil _))
linked_by_lives n b snd a s f no_link ts e g t p =
    whole_lives 15 (suc n) s f ts e t (stuck_counts {A = Expression} ts e p)

-- something goes on with a call or a member
abbrev is_link : CallTail → Bool
is_link no_link = false
is_link _ = true

-- no room for what the link makes
deep_link : (n : ℕ) (s : List Token) (f : Expression) (l : CallTail) (ts : List Token) (e : Fault)
    → link (head_of ts) ≡ l
    → TakesExpression 15 (suc n) s f ts
    → is_link l ≡ true
    → Counts e (tail_of ts)
    → Lives Nothing flat (Fits 15) s e
deep_link n s f dot ts e g t i c =
    token_lives 15 (suc n) s f ts e t kinds.Dot (link_dot (head_of ts) g) c (trees.member f x_name)
    ((t.well, t.level), omega arith) word_marks word_tokens (λ r. ((refl, refl), refl)) refl
deep_link n s f key ts e g t i c =
    token_lives 15 (suc n) s f ts e t kinds.LeftBracket (link_key (head_of ts) g) c (trees.index f (trees.number 0))
    ((t.well, t.level, tt), omega arith) (token (numeric_literal 0) ∷ token (fixed kinds.RightBracket) ∷ [])
    (a_token kinds.Number ∷ a_token kinds.RightBracket ∷ []) (λ r. ((refl, refl), (refl, refl))) refl
deep_link n s f classes.arguments ts e g t i c =
    token_lives 15 (suc n) s f ts e t kinds.LeftParenthesis (link_arguments (head_of ts) g) c
    (trees.call f trees.no_expressions) ((t.well, t.level, tt), omega arith)
    (token (fixed kinds.RightParenthesis) ∷ []) (a_token kinds.RightParenthesis ∷ []) (λ r. (refl, refl)) refl
deep_link n s f no_link ts e g t i c = absurd cc

-- what a link makes is higher than what it goes on with
higher : (is : List Piece) (b : Below) (f : Expression) (make : PieceValues is → Expression)
    → ((v : PieceValues is) → suc (height f) ≤ height (make v))
    → (ts : List Token) (x : Expression × List Token)
    → made b is make ts ≡ Ok x
    → suc (height f) ≤ height x.0
higher is b f make h ts x p =
    let q = bind_ok (seq b is ts) (λ x. Ok (make x.0, x.1)) x p in
    subst (λ (x : Expression × List Token). suc (height f) ≤ height x.0) (ok_is (make q.0.0, q.0.1) x q.2) (h q.0.0)

linked_higher : (b : Below) (f : Expression) (l : CallTail) (ts : List Token) (x : Expression × List Token)
    → linked_by b f l ts ≡ Ok x
    → suc (height f) ≤ height x.0
linked_higher b f dot ts x p =
    let q = bind_ok (word_at (tail_of ts)) (λ x. Ok (trees.member f x.0, x.1)) x p in
    subst (λ (x : Expression × List Token). suc (height f) ≤ height x.0) (ok_is (trees.member f q.0.0, q.0.1) x q.2)
    (omega arith)
linked_higher b f key ts x p =
    higher (tok kinds.LeftBracket ∷ an_expression ∷ tok kinds.RightBracket ∷ []) b f (λ v. trees.index f v.1.0)
    (λ v. omega arith) ts x p
linked_higher b f classes.arguments ts x p =
    higher (tok kinds.LeftParenthesis ∷ arguments kinds.RightParenthesis ∷ []) b f (λ v. trees.call f v.1.0)
    (λ v. omega arith) ts x p
linked_higher b f no_link ts x p = absurd cc

-- Where what goes on with links stops, the tokens before begin an expression. There are turns enough for all that is
-- low enough.
abbrev GoesAlive : ℕ → ℕ → List Token → (Expression → Reader Expression) → Type 0
GoesAlive n k s go =
    (f : Expression) (ts : List Token) (e : Fault)
    → TakesExpression 15 (suc n) s f ts
    → suc (suc n) ≤ height f + k
    → go f ts ≡ Err e
    → Lives Nothing flat (Fits 15) s e

one_link_lives : (n : ℕ) (b : Below)
    → SoundBelow n b
    → AliveBelow b
    → (s : List Token) (k : ℕ) (go : Expression → Reader Expression)
    → GoesAlive n k s go
    → (f : Expression) (l : CallTail) (ts : List Token) (e : Fault)
    → link (head_of ts) ≡ l
    → TakesExpression 15 (suc n) s f ts
    → is_link l ≡ true
    → suc (suc n) ≤ height f + suc k
    → if_low (height f) n ts (linked_by b f l ts >>= λ x. go x.0 x.1) ≡ Err e
    → Lives Nothing flat (Fits 15) s e
one_link_lives n b snd a s k go h f l ts e g t i turns p =
    elim (low_err (height f) n ts (linked_by b f l ts >>= λ x. go x.0 x.1) e p) [
      | inl q ↦ elim (bind_err (linked_by b f l ts) (λ x. go x.0 x.1) e q.1) [
        | inl w ↦ linked_by_lives n b snd a s f l ts e g t w
        | inr w ↦ h w.0.0 w.0.1 e (linked_by_sound seq_sound n b snd s f l ts w.0 g t q.0 w.1)
            (omega (arith, turns, linked_higher b f l ts w.0 w.1)) w.2
      ]
      | inr c ↦ deep_link n s f l ts e g t i c
    ]

links_by_lives : (n : ℕ) (b : Below)
    → SoundBelow n b
    → AliveBelow b
    → (s : List Token) (k : ℕ) (go : Expression → Reader Expression)
    → GoesAlive n k s go
    → (f : Expression) (l : CallTail) (ts : List Token) (e : Fault)
    → link (head_of ts) ≡ l
    → TakesExpression 15 (suc n) s f ts
    → suc (suc n) ≤ height f + suc k
    → links_by b n go f l ts ≡ Err e
    → Lives Nothing flat (Fits 15) s e
links_by_lives n b snd a s k go h f no_link ts e g t turns p = absurd cc
links_by_lives n b snd a s k go h f dot ts e g t turns p = one_link_lives n b snd a s k go h f dot ts e g t refl turns p
links_by_lives n b snd a s k go h f key ts e g t turns p = one_link_lives n b snd a s k go h f key ts e g t refl turns p
links_by_lives n b snd a s k go h f classes.arguments ts e g t turns p =
    one_link_lives n b snd a s k go h f classes.arguments ts e g t refl turns p

links_lives : (n : ℕ) (b : Below)
    → SoundBelow n b
    → AliveBelow b
    → (s : List Token) (k : ℕ) (f : Expression) (ts : List Token) (e : Fault)
    → TakesExpression 15 (suc n) s f ts
    → suc (suc n) ≤ height f + k
    → links b n k f ts ≡ Err e
    → Lives Nothing flat (Fits 15) s e
unfolding links
links_lives n b snd a s zero f ts e t turns p = absurd (omega (arith, turns, t.height))
links_lives n b snd a s (suc k) f ts e t turns p =
    links_by_lives n b snd a s k (λ f r. links b n k f r) (λ f r d u v g. links_lives n b snd a s k f r d u v g) f
    (link (head_of ts)) ts e refl t turns p

pub call_lives : (n : ℕ) (b : Below)
    → SoundBelow n b
    → AliveBelow b
    → (ts : List Token) (e : Fault)
    → call b n ts ≡ Err e
    → Lives IsZero flat (Fits 15) ts e
unfolding call
call_lives n b s a ts e p = elim (bind_err (primary b n ts) (λ x. links b n (suc n) x.0 x.1) e p) [
  | inl q ↦ primary_lives n b s a ts e q
  | inr q ↦ from_nothing
      (links_lives n b s a ts (suc n) q.0.0 q.0.1 e (primary_sound seq_sound n b s ts q.0 q.1)
      (omega (arith, height_positive q.0.0)) q.2)
]

-- ---- updates

updated_by_lives : (n : ℕ) (s : List Token) (f : Expression) (o : Option UpdateOperator) (ts : List Token) (e : Fault)
    → update_near (head_of ts) ≡ o
    → TakesExpression 15 (suc n) s f ts
    → updated_by n f o ts ≡ Err e
    → Lives Nothing flat (Fits 14) s e
updated_by_lives n s f None ts e g t p = absurd cc
updated_by_lives n s f (Some o) ts e g t p =
    elim (cond_err (is_target f) (if_low (height f) n ts (Ok (trees.postfix o f, tail_of ts))) (Err (stuck (length ts)))
    e p) [
      | inl q ↦ elim (low_err (height f) n ts (Ok (trees.postfix o f, tail_of ts)) e q.1) [
        | inl w ↦ absurd cc
        | inr c ↦
            let next = update_next o (head_of ts) g in
            stopped (flat f ++ (beside (fixed (update_kind o)) ∷ []))
            (firm_append (flat f) (beside (fixed (update_kind o)) ∷ []) refl) s (tail_of ts)
            (joins (flat f) (beside (fixed (update_kind o)) ∷ []) s ts (tail_of ts) t.marks (next.0, next.1, refl)) e c
            (trees.postfix o f) ((t.well, q.0), omega arith) [] [] (λ r. refl)
            (append-nil (flat f ++ (beside (fixed (update_kind o)) ∷ [])))
      ]
      | inr q ↦ looser 15 14 (omega arith) (whole_lives 15 (suc n) s f ts e t (stuck_counts {A = Expression} ts e q.1))
    ]

postfix_lives : (n : ℕ) (b : Below)
    → SoundBelow n b
    → AliveBelow b
    → (ts : List Token) (e : Fault)
    → postfix b n ts ≡ Err e
    → Lives IsZero flat (Fits 14) ts e
unfolding postfix
postfix_lives n b s a ts e p =
    elim (bind_err (call b n ts) (λ x. updated_by n x.0 (update_near (head_of x.1)) x.1) e p) [
      | inl q ↦ looser 15 14 (omega arith) (call_lives n b s a ts e q)
      | inr q ↦ from_nothing
          (updated_by_lives n ts q.0.0 (update_near (head_of q.0.1)) q.0.1 e refl
          (call_sound seq_sound n b s ts q.0 q.1)
          q.2)
    ]

-- ---- unary expressions

-- .x behind an operand
abbrev x_marks : List FlatToken
x_marks = token (fixed kinds.Dot) ∷ word_marks

abbrev x_tokens : List Added
x_tokens = a_token kinds.Dot ∷ word_tokens

x_spelled : (r : List Token) → Matches x_marks (added x_tokens ++ r) r
x_spelled r = (refl, ((refl, refl), refl))

-- an operand that has to be a property or a target is made one
operand_lives : (b : Below)
    → AliveBelow b
    → (k : TokenKind) (make : Expression → Expression)
    → ((f : Expression) → flat (make f) ≡ token (fixed k) ∷ (flat f ++ []))
    → ((f : Expression) → Fits 15 f → Fits 13 (make (trees.member f x_name)))
    → (ts : List Token) (e : Fault)
    → IsNext (fixed k) (head_of ts)
    → b.call (tail_of ts) ≡ Err e
    → Lives Nothing flat (Fits 13) ts e
operand_lives b a k make marks fits ts e f p =
    let l = a.call (tail_of ts) e p in
    around l (token (fixed k) ∷ []) refl ts (f, refl) (make (trees.member l.tree x_name)) (fits l.tree l.good)
    x_marks x_tokens x_spelled
    (sym (marks (trees.member l.tree x_name)
    ∙ ap (λ (ms : List FlatToken). token (fixed k) ∷ ms) (append-nil (flat l.tree ++ x_marks))))

-- the same where it was read, and is none
refused_lives : (n : ℕ) (k : TokenKind) (make : Expression → Expression)
    → ((f : Expression) → flat (make f) ≡ token (fixed k) ∷ (flat f ++ []))
    → ((f : Expression) → Fits 15 f → Fits 13 (make (trees.member f x_name)))
    → (ts : List Token) (e : Fault)
    → IsNext (fixed k) (head_of ts)
    → (f : Expression) (r : List Token)
    → TakesExpression 15 n (tail_of ts) f r
    → Counts e r
    → Lives Nothing flat (Fits 13) ts e
refused_lives n k make marks fits ts e f g r t c =
    stopped (token (fixed k) ∷ flat g) (firm_behind (token (fixed k)) (flat g) (expression_firm g t.well)) ts r
    (f, t.marks) e c (make (trees.member g x_name)) (fits g (t.well, t.level)) x_marks x_tokens x_spelled
    (sym (marks (trees.member g x_name)
    ∙ ap (λ (ms : List FlatToken). token (fixed k) ∷ ms) (append-nil (flat g ++ x_marks))))

unary_by_lives : (n : ℕ) (b : Below)
    → SoundBelow n b
    → AliveBelow b
    → (c : Prefix) (ts : List Token) (e : Fault)
    → prefix (head_of ts) ≡ c
    → unary_by b n c ts ≡ Err e
    → Lives IsZero flat (Fits 13) ts e
unary_by_lives n b s a deletes ts e f p =
    let fits : (f : Expression)
    → Fits 15 f
    → Fits 13 (trees.unary unaries.Delete (trees.member f x_name)) = λ f g. ((g, omega arith, refl), omega arith) in
    let next = prefix_delete (head_of ts) f in
    elim (bind_err (b.call (tail_of ts))
    (λ x. cond (is_property x.0) (Ok (trees.unary unaries.Delete x.0, x.1)) (Err (stuck (length x.1)))) e p) [
      | inl q ↦ from_nothing
          (operand_lives b a kinds.Delete (λ f. trees.unary unaries.Delete f) (λ f. refl) fits ts e next q)
      | inr q ↦ elim
          (cond_err (is_property q.0.0) (Ok (trees.unary unaries.Delete q.0.0, q.0.1)) (Err (stuck (length q.0.1)))
          e q.2) [
            | inl k ↦ absurd cc
            | inr k ↦ from_nothing
                (refused_lives n kinds.Delete (λ f. trees.unary unaries.Delete f) (λ f. refl) fits ts e next q.0.0 q.0.1
                (s.call (tail_of ts) q.0 q.1) (stuck_counts {A = Expression} q.0.1 e k.1))
          ]
    ]
unary_by_lives n b s a (a_unary o) ts e f p =
    elim (bind_err (b.unary (tail_of ts)) (λ x. Ok (trees.unary o x.0, x.1)) e p) [
      | inl q ↦
          let u = prefix_unary o (head_of ts) f in
          let l = a.unary (tail_of ts) e q in
          from_nothing
          (around l (token (fixed (unary_kind o)) ∷ []) refl ts (u.0, refl) (trees.unary o l.tree)
          ((l.good.0, l.good.1, u.1 l.tree), omega arith) [] [] (λ r. refl) refl)
      | inr q ↦ absurd cc
    ]
unary_by_lives n b s a (an_update o) ts e f p =
    let fits : (f : Expression)
    → Fits 15 f
    → Fits 13 (trees.prefix o (trees.member f x_name)) = λ f g. ((g, refl), omega arith) in
    let next = prefix_update o (head_of ts) f in
    elim (bind_err (b.call (tail_of ts))
    (λ x. cond (is_target x.0) (Ok (trees.prefix o x.0, x.1)) (Err (stuck (length x.1)))) e p) [
      | inl q ↦ from_nothing (operand_lives b a (update_kind o) (λ f. trees.prefix o f) (λ f. refl) fits ts e next q)
      | inr q ↦ elim (cond_err (is_target q.0.0) (Ok (trees.prefix o q.0.0, q.0.1)) (Err (stuck (length q.0.1))) e q.2) [
        | inl k ↦ absurd cc
        | inr k ↦ from_nothing
            (refused_lives n (update_kind o) (λ f. trees.prefix o f) (λ f. refl) fits ts e next q.0.0 q.0.1
            (s.call (tail_of ts) q.0 q.1) (stuck_counts {A = Expression} q.0.1 e k.1))
      ]
    ]
unary_by_lives n b s a no_prefix ts e f p = looser 14 13 (omega arith) (postfix_lives n b s a ts e p)

pub unary_lives : (n : ℕ) (b : Below)
    → SoundBelow n b
    → AliveBelow b
    → (ts : List Token) (e : Fault)
    → unary b n ts ≡ Err e
    → Lives IsZero flat (Fits 13) ts e
unfolding unary
unary_lives n b s a ts e p = unary_by_lives n b s a (prefix (head_of ts)) ts e refl p

-- ---- operations

-- the right operand is not whole
right_lives : (n : ℕ) (b : Below)
    → AliveBelow b
    → (s : List Token) (m : ℕ) (f : Expression) (o : BinaryOperator) (ts : List Token) (e : Fault)
    → operator (head_of ts) ≡ Some o
    → m ≤ strength o
    → strength o ≤ level f
    → TakesExpression m (suc n) s f ts
    → b.operation (suc (strength o)) (tail_of ts) ≡ Err e
    → Lives Nothing flat (Fits m) s e
right_lives n b a s m f o ts e next low tight t p =
    let l = a.operation (suc (strength o)) (omega (arith, strength_low o)) (tail_of ts) e p in
    around l (flat f ++ (token (fixed (binary_kind o)) ∷ []))
    (firm_append (flat f) (token (fixed (binary_kind o)) ∷ []) refl) s
    (joins (flat f) (token (fixed (binary_kind o)) ∷ []) s ts (tail_of ts) t.marks
    (operator_next o (head_of ts) next, refl))
    (trees.binary o f l.tree) ((t.well, tight, l.good.0, l.good.1), low) [] [] (λ r. refl)
    (append_assoc (flat f) (token (fixed (binary_kind o)) ∷ []) (flat l.tree ++ []))

chain_by_lives : (n : ℕ) (b : Below)
    → SoundBelow n b
    → AliveBelow b
    → (s : List Token) (m k : ℕ) (go : Expression → Reader Expression)
    → ((l : Expression) (ts : List Token) (e : Fault)
    → TakesExpression m (suc n) s l ts
    → Ended (suc (level l)) ts
    → suc (suc n) ≤ height l + k
    → go l ts ≡ Err e
    → Lives Nothing flat (Fits m) s e)
    → (l : Expression) (o : Option BinaryOperator) (ts : List Token) (e : Fault)
    → operator_from m (operator (head_of ts)) ≡ o
    → TakesExpression m (suc n) s l ts
    → Ended (suc (level l)) ts
    → suc (suc n) ≤ height l + suc k
    → chain_by b n go l o ts ≡ Err e
    → Lives Nothing flat (Fits m) s e
chain_by_lives n b snd a s m turns go h l None ts e f t g less p = absurd cc
chain_by_lives n b snd a s m turns go h l (Some o) ts e f t g less p =
    let is = from_is m (operator (head_of ts)) o f in
    let tight : strength o < suc (level l) = from_none (suc (level l)) o
    (subst (λ (p : Option BinaryOperator). operator_from (suc (level l)) p ≡ None) is.0 g) in
    elim (low_err (height l) n ts (b.operation (suc (strength o)) (tail_of ts) >>= λ x. go (trees.binary o l x.0) x.1)
    e p) [
      | inl q ↦ elim (bind_err (b.operation (suc (strength o)) (tail_of ts)) (λ x. go (trees.binary o l x.0) x.1) e q.1) [
        | inl k ↦ right_lives n b a s m l o ts e is.0 is.1 (omega (arith, tight)) t k
        | inr k ↦
            let w = binary_takes n b snd s m l o ts f t g q.0 k.0 k.1 in
            h (trees.binary o l k.0.0) k.0.1 e w.0 w.1 (omega (arith, less)) k.2
      ]
      | inr c ↦ token_lives m (suc n) s l ts e t (binary_kind o) (operator_next o (head_of ts) is.0) c
          (trees.binary o l (trees.number 0)) ((t.well, omega (arith, tight), tt, omega (arith, strength_low o)), is.1)
          zero_marks zero_token (λ r. ((refl, refl), refl)) refl
    ]

chain_lives : (n : ℕ) (b : Below)
    → SoundBelow n b
    → AliveBelow b
    → (s : List Token) (m k : ℕ) (l : Expression) (ts : List Token) (e : Fault)
    → TakesExpression m (suc n) s l ts
    → Ended (suc (level l)) ts
    → suc (suc n) ≤ height l + k
    → chain b n m k l ts ≡ Err e
    → Lives Nothing flat (Fits m) s e
unfolding chain
chain_lives n b snd a s m zero l ts e t g turns p = absurd (omega (arith, turns, t.height))
chain_lives n b snd a s m (suc k) l ts e t g turns p =
    chain_by_lives n b snd a s m k (λ l r. chain b n m k l r)
    (λ l r d v w u i. chain_lives n b snd a s m k l r d v w u i) l (operator_from m (operator (head_of ts)))
    ts e refl t g turns p

pub operation_lives : (n : ℕ) (b : Below)
    → SoundBelow n b
    → AliveBelow b
    → (m : ℕ)
    → m ≤ 13
    → (ts : List Token) (e : Fault)
    → operation b n m ts ≡ Err e
    → Lives IsZero flat (Fits m) ts e
unfolding operation
operation_lives n b s a m le ts e p = elim (bind_err (unary b n ts) (λ x. chain b n m (suc n) x.0 x.1) e p) [
  | inl q ↦ looser 13 m le (unary_lives n b s a ts e q)
  | inr q ↦
      let u = unary_sound n b s (call_sound seq_sound n b s) ts q.0 q.1 in
      from_nothing
      (chain_lives n b s a ts m (suc n) q.0.0 q.0.1 e (weaker 13 m (suc n) ts q.0.0 q.0.1 le u)
      (from_past (suc (level q.0.0)) (operator (head_of q.0.1)) (omega (arith, u.level)))
      (omega (arith, height_positive q.0.0)) q.2)
]
