-- What is read of object literals, primary expressions, members and calls is a well-formed expression's.
use Rattle.std.proofs.Common.{◌≡◌, ℕ, zero, suc, ◌≤◌, Bool, true, false, List, [], ◌∷◌, ◌++◌, length, Option, Some, None, Ok, refl, sym, ap, subst, ◌∙◌, append_assoc, arith}
use Rattle.std.proofs.lemmas.List.{append-nil}
use Rattle.js_lexer.specs.declared.token.TokenKind.{TokenKind}
use Rattle.js_lexer.specs.declared.token.TokenKind.TheVariants as kinds
use Rattle.js_tree.specs.Trees as trees
use Rattle.js_tree.specs.Trees.{Expression, Expressions, Key, PropertyDefinition, Statements}
use Rattle.js_parser_language.specs.Tokens.{Token, fixed, identifier_name, FlatToken, token, trailing_comma, head_of, tail_of, IsNext, Matches}
use Rattle.js_parser_language.specs.Flat as flats
use Rattle.js_parser_language.specs.Flat.{flat, flat_expressions, trailing, flat_parameters, flat_statements, flat_key, flat_property, flat_properties, more_properties, trailing_property}
use Rattle.js_parser_language.specs.Well.{WellKey, WellProperty, WellProperties, WellStatements, DifferIn, function_body, is_function}
use Rattle.js_tree.specs.Height.{height, height_of_key, height_of_property, height_of_properties, height_of_statements}
use Rattle.js_tree.specs.Views.{properties}
use Rattle.js_parser_readers.specs.Reading.{Reader, ◌>>=◌, name_at, word_at, elements, no_state}
use Rattle.js_parser_readers.specs.Classes as classes
use Rattle.js_parser_readers.specs.Classes.{PrimaryStart, start, CallTail, dot, key, no_link, link, KeyStart, key_start, AfterKey, after_key, is_shorthand}
use Rattle.js_parser_readers.specs.Productions.{ParametersAndBody, Below, one_of, tok, a_name, an_assignment, an_expression, arguments, code}
use Rattle.js_parser_readers.specs.Parsing.{if_low, key_by, key_at, member_by, property_by, property_at, properties_at, function_by, function_at, is_name_next, primary_by, primary, linked_by, links_by, links, call}
use Rattle.js_parser_laws.proofs.Claims.{TakesExpression, SoundBelow, TakesCode, SeqSound}
use Rattle.js_parser_laws.proofs.MarkLemmas.{joins}
use Rattle.js_parser_laws.proofs.TokenLemmas.{ok_is, name_sound, word_sound}
use Rattle.js_parser_laws.proofs.Sound.List.{behind_commas, up_to, AllGood, elements_sound}
use Rattle.js_parser_laws.proofs.HeadLemmas.{start_boolean}
use Rattle.js_parser_laws.proofs.Sound.Operator.{made_takes, low_ok, takes_ok, CallSound}
use Rattle.js_parser_readers.proofs.ClassLemmas.{start_this, start_null, start_brace, start_function, start_name, start_number, start_string, link_dot, key_word, key_string, key_number}
use Rattle.js_parser_readers.proofs.ShorterLemmas.{bind_ok, read_is}

-- ---- keys

pub record TakesKey (n : ℕ) (ts : List Token) (k : Key) (r : List Token) : Type 0 where
  pub marks : Matches (flat_key k) ts r
  pub well : WellKey k
  pub height : height_of_key k ≤ n

key_ok : (n : ℕ) (ts : List Token) (x y : Key × List Token)
    → read_is x ≡ Ok y
    → TakesKey n ts x.0 x.1
    → TakesKey n ts y.0 y.1
key_ok n ts x y e t = subst (λ (y : Key × List Token). TakesKey n ts y.0 y.1) (ok_is x y e) t

key_by_sound : (q : SeqSound) (n : ℕ) (b : Below)
    → SoundBelow n b
    → (c : KeyStart) (ts : List Token) (x : Key × List Token)
    → key_start (head_of ts) ≡ c
    → key_by b c ts ≡ Ok x
    → TakesKey n ts x.0 x.1
key_by_sound q n b s (classes.a_word_key w) ts x f e =
    key_ok n ts (trees.word_key w, tail_of ts) x e
    (record { marks = (key_word w (head_of ts) f, refl); well = tt; height = omega arith })
key_by_sound q n b s (classes.a_string_key w) ts x f e =
    key_ok n ts (trees.string_key w, tail_of ts) x e
    (record { marks = (key_string w (head_of ts) f, refl); well = tt; height = omega arith })
key_by_sound q n b s (classes.a_number_key w) ts x f e =
    key_ok n ts (trees.number_key w, tail_of ts) x e
    (record { marks = (key_number w (head_of ts) f, refl); well = tt; height = omega arith })
key_by_sound q n b s classes.a_computed_key ts x f e =
    made_takes q n b s (tok kinds.LeftBracket ∷ an_assignment ∷ tok kinds.RightBracket ∷ [])
    (λ v. trees.computed_key v.1.0) ts x (λ k r. TakesKey n ts k r)
    (λ v r t. record { marks = t.marks; well = t.sane.1.0; height = omega (arith, t.height) }) e
key_by_sound q n b s classes.no_key ts x f e = absurd cc

pub key_sound : (q : SeqSound) (n : ℕ) (b : Below)
    → SoundBelow n b
    → (ts : List Token) (x : Key × List Token)
    → key_at b ts ≡ Ok x
    → TakesKey n ts x.0 x.1
unfolding key_at
key_sound q n b s ts x e = key_by_sound q n b s (key_start (head_of ts)) ts x refl e

-- ---- members of object literals

pub record TakesProperty (n : ℕ) (ts : List Token) (p : PropertyDefinition) (r : List Token) : Type 0 where
  pub marks : Matches (flat_property p) ts r
  pub well : WellProperty p
  pub height : height_of_property p ≤ n

-- the parameters of a function and its body, with nothing behind them
pub code_marks : (ps : List (List ℕ)) (body : Statements) (ts r : List Token)
    → Matches (flat_parameters ps ++ flats.in_braces (flat_statements body)) ts r
    → Matches (flat_parameters ps ++ (flats.in_braces (flat_statements body) ++ [])) ts r
code_marks ps body ts r m =
    subst (λ (ms : List FlatToken). Matches (flat_parameters ps ++ ms) ts r)
    (sym (append-nil (flats.in_braces (flat_statements body)))) m

method_takes : (n : ℕ) (s : List Token) (k : Key) (ts : List Token) (f : ParametersAndBody) (r : List Token)
    → TakesKey n s k ts
    → suc (height_of_key k) ≤ n
    → TakesCode n ts f r
    → suc (height_of_statements f.body) ≤ n
    → TakesProperty n s (trees.method k f.parameters f.body) r
method_takes n s k ts f r t low c high = record {
  marks =
      joins (flat_key k) (flat_parameters f.parameters ++ (flats.in_braces (flat_statements f.body) ++ []))
      s ts r t.marks (code_marks f.parameters f.body ts r c.marks);
  well = (t.well, c.differ, c.well);
  height = omega arith;
}

member_by_sound : (q : SeqSound) (n : ℕ) (b : Below)
    → SoundBelow n b
    → (s : List Token) (k : Key) (a : AfterKey) (ts : List Token) (x : PropertyDefinition × List Token)
    → TakesKey n s k ts
    → member_by b n k a ts ≡ Ok x
    → TakesProperty n s x.0 x.1
member_by_sound q n b snd s k classes.colon ts x t e =
    made_takes q n b snd (tok kinds.Colon ∷ an_assignment ∷ []) (λ v. trees.value k v.1.0) ts x
    (λ p r. TakesProperty n s p r) (λ v r a. record {
      marks = joins (flat_key k) (token (fixed kinds.Colon) ∷ (flat v.1.0 ++ [])) s ts r t.marks a.marks;
      well = (t.well, a.sane.1.0.0, a.sane.1.0.1);
      height = omega (arith, t.height, a.height);
    }) e
member_by_sound q n b snd s k classes.parameters ts x t e =
    let l = low_ok (suc (height_of_key k)) n ts
    (b.function ts >>= λ f. Ok (trees.method k f.0.parameters f.0.body, f.1)) x e in
    let p = bind_ok (b.function ts) (λ f. Ok (trees.method k f.0.parameters f.0.body, f.1)) x l.1 in
    let f = snd.function ts p.0 p.1 in
    subst (λ (x : PropertyDefinition × List Token). TakesProperty n s x.0 x.1)
    (ok_is (trees.method k p.0.0.parameters p.0.0.body, p.0.1) x p.2)
    (method_takes n s k ts p.0.0 p.0.1 t l.0 f.0 f.1)
member_by_sound q n b snd s k classes.no_member ts x t e = absurd cc

property_by_sound : (q : SeqSound) (n : ℕ) (b : Below)
    → SoundBelow n b
    → (c : Bool) (ts : List Token) (x : PropertyDefinition × List Token)
    → property_by b n c ts ≡ Ok x
    → TakesProperty n ts x.0 x.1
property_by_sound q n b s true ts x e =
    let p = bind_ok (name_at ts) (λ x. Ok (trees.shorthand x.0, x.1)) x e in
    subst (λ (x : PropertyDefinition × List Token). TakesProperty n ts x.0 x.1) (ok_is (trees.shorthand p.0.0, p.0.1) x p.2)
    (record { marks = name_sound ts p.0 p.1; well = tt; height = omega arith })
property_by_sound q n b s false ts x e =
    let p = bind_ok (key_at b ts) (λ k. member_by b n k.0 (after_key (head_of k.1)) k.1) x e in
    member_by_sound q n b s ts p.0.0 (after_key (head_of p.0.1)) p.0.1 x (key_sound q n b s ts p.0 p.1) p.2

pub property_sound : (q : SeqSound) (n : ℕ) (b : Below)
    → SoundBelow n b
    → (ts : List Token) (x : PropertyDefinition × List Token)
    → property_at b n ts ≡ Ok x
    → TakesProperty n ts x.0 x.1
unfolding property_at
property_sound q n b s ts x e = property_by_sound q n b s (is_shorthand ts) ts x e

-- the marks of a list of members
pub properties_behind : (ps : List PropertyDefinition) → behind_commas flat_property ps ≡ more_properties (properties ps)
properties_behind [] = refl
properties_behind (p ∷ ps) =
    ap (λ (ms : List FlatToken). token (fixed kinds.Comma) ∷ (flat_property p ++ ms))
    (properties_behind ps ∙ sym (append-nil (more_properties (properties ps))))

pub properties_marks : (ps : List PropertyDefinition)
    → up_to flat_property kinds.RightBrace ps ≡ flat_properties (properties ps) ++
    (trailing_property (properties ps) ++ (token (fixed kinds.RightBrace) ∷ []))
properties_marks [] = refl
properties_marks (p ∷ ps) =
    ap (λ (ms : List FlatToken). (flat_property p ++ ms) ++ (trailing_comma ∷ token (fixed kinds.RightBrace) ∷ []))
    (properties_behind ps)

abbrev pub GoodProperty : ℕ → Unit {0} → PropertyDefinition → Type 0
GoodProperty n s p = WellProperty p × (height_of_property p ≤ n)

properties_good : (n : ℕ) (ps : List PropertyDefinition)
    → AllGood no_state (GoodProperty n) tt ps
    → WellProperties (properties ps) × (height_of_properties (properties ps) ≤ n)
properties_good n [] g = (tt, omega arith)
properties_good n (p ∷ ps) g = let h = properties_good n ps g.1 in ((g.0.0, h.0), omega (arith, g.0.1, h.1))

-- what an object literal's braces hold
pub record TakesProperties (n : ℕ) (ts : List Token) (ps : trees.PropertyDefinitions) (r : List Token) : Type 0 where
  pub marks : Matches (flat_properties ps ++ (trailing_property ps ++ (token (fixed kinds.RightBrace) ∷ []))) ts r
  pub well : WellProperties ps
  pub height : height_of_properties ps ≤ n

pub properties_sound : (q : SeqSound) (n : ℕ) (b : Below)
    → SoundBelow n b
    → (ts : List Token) (x : trees.PropertyDefinitions × List Token)
    → properties_at b n ts ≡ Ok x
    → TakesProperties n ts x.0 x.1
unfolding properties_at
properties_sound q n b s ts x e =
    let one = one_of (λ r. property_at b n r) in
    let p = bind_ok (elements one no_state kinds.RightBrace (suc (length ts)) tt ts) (λ x. Ok (properties x.0, x.1))
    x e in
    let l = elements_sound one no_state flat_property (GoodProperty n)
    (λ u ts x e. let t = property_sound q n b s ts x e in (t.marks, (t.well, t.height))) kinds.RightBrace
    (suc (length ts)) tt ts p.0 p.1 in
    let g = properties_good n p.0.0 l.1 in
    subst (λ (x : trees.PropertyDefinitions × List Token). TakesProperties n ts x.0 x.1) (ok_is (properties p.0.0, p.0.1) x p.2)
    (record {
      marks = subst (λ (ms : List FlatToken). Matches ms ts p.0.1) (properties_marks p.0.0) l.0;
      well = g.0;
      height = g.1;
    })

-- ---- function expressions

-- what a function needs of its parameters and its body
abbrev TakesCodeOf : ℕ → ParametersAndBody → Type 0
TakesCodeOf n f = DifferIn f.parameters f.body × WellStatements function_body f.body × (height_of_statements f.body ≤ n)

-- the marks of a production that ends in a function's parameters and body
code_last : (f : ParametersAndBody) (ts r : List Token)
    → Matches ((flat_parameters f.parameters ++ flats.in_braces (flat_statements f.body)) ++ []) ts r
    → Matches (flat_parameters f.parameters ++ (flats.in_braces (flat_statements f.body) ++ [])) ts r
code_last f ts r m =
    subst (λ (ms : List FlatToken). Matches ms ts r)
    (append_assoc (flat_parameters f.parameters) (flats.in_braces (flat_statements f.body)) []) m

-- a function expression, at its keyword
function_takes : (n : ℕ) (ts : List Token) (name : Option (List ℕ)) (f : ParametersAndBody) (r : List Token)
    → Matches (flat (trees.function name f.parameters f.body)) ts r
    → TakesCodeOf n f
    → TakesExpression 15 (suc n) ts (trees.function name f.parameters f.body) r
    × (is_function (trees.function name f.parameters f.body) ≡ true)
function_takes n ts name f r m c =
    (record { marks = m; well = (c.0, c.1); level = omega arith; height = omega (arith, c.2) }, refl)

pub function_by_sound : (q : SeqSound) (n : ℕ) (b : Below)
    → SoundBelow n b
    → (c : Bool) (ts : List Token) (x : Expression × List Token)
    → IsNext (fixed kinds.Function) (head_of ts)
    → function_by b c (tail_of ts) ≡ Ok x
    → TakesExpression 15 (suc n) ts x.0 x.1 × (is_function x.0 ≡ true)
function_by_sound q n b s true ts x f e =
    made_takes q n b s (a_name ∷ code ∷ []) (λ v. trees.function (Some v.0) v.1.0.parameters v.1.0.body) (tail_of ts) x
    (λ e r. TakesExpression 15 (suc n) ts e r × (is_function e ≡ true)) (λ v r t.
    function_takes n ts (Some v.0) v.1.0 r (f, (t.marks.0, code_last v.1.0 (tail_of (tail_of ts)) r t.marks.1))
    (t.sane.1.0.0, t.sane.1.0.1, omega (arith, t.height))) e
function_by_sound q n b s false ts x f e =
    made_takes q n b s (code ∷ []) (λ v. trees.function None v.0.parameters v.0.body) (tail_of ts) x
    (λ e r. TakesExpression 15 (suc n) ts e r × (is_function e ≡ true)) (λ v r t.
    function_takes n ts None v.0 r (f, code_last v.0 (tail_of ts) r t.marks)
    (t.sane.0.0, t.sane.0.1, omega (arith, t.height))) e

pub function_sound : (q : SeqSound) (n : ℕ) (b : Below)
    → SoundBelow n b
    → (ts : List Token) (x : Expression × List Token)
    → IsNext (fixed kinds.Function) (head_of ts)
    → function_at b (tail_of ts) ≡ Ok x
    → TakesExpression 15 (suc n) ts x.0 x.1 × (is_function x.0 ≡ true)
unfolding function_at
function_sound q n b s ts x f e = function_by_sound q n b s (is_name_next (head_of (tail_of ts))) ts x f e

-- ---- primary expressions

-- a list and the token that ends it, with nothing behind them
list_last : (es : Expressions) (k : TokenKind) (ts r : List Token)
    → Matches ((flat_expressions es ++ (trailing es ++ (token (fixed k) ∷ []))) ++ []) ts r
    → Matches (flat_expressions es ++ (trailing es ++ (token (fixed k) ∷ []))) ts r
list_last es k ts r m =
    subst (λ (ms : List FlatToken). Matches ms ts r)
    (append-nil (flat_expressions es ++ (trailing es ++ (token (fixed k) ∷ [])))) m

primary_by_sound : (q : SeqSound) (n : ℕ) (b : Below)
    → SoundBelow n b
    → (c : PrimaryStart) (ts : List Token) (x : Expression × List Token)
    → start (head_of ts) ≡ c
    → primary_by b n c ts ≡ Ok x
    → TakesExpression 15 (suc n) ts x.0 x.1
primary_by_sound q n b s classes.this_word ts x f e =
    takes_ok 15 (suc n) ts trees.this (tail_of ts) x e
    (record { marks = (start_this (head_of ts) f, refl); well = tt; level = omega arith; height = omega arith })
primary_by_sound q n b s (classes.a_name w) ts x f e =
    takes_ok 15 (suc n) ts (trees.name w) (tail_of ts) x e
    (record { marks = (start_name w (head_of ts) f, refl); well = tt; level = omega arith; height = omega arith })
primary_by_sound q n b s (classes.a_number w) ts x f e =
    takes_ok 15 (suc n) ts (trees.number w) (tail_of ts) x e
    (record { marks = (start_number w (head_of ts) f, refl); well = tt; level = omega arith; height = omega arith })
primary_by_sound q n b s (classes.a_string w) ts x f e =
    takes_ok 15 (suc n) ts (trees.string w) (tail_of ts) x e
    (record { marks = (start_string w (head_of ts) f, refl); well = tt; level = omega arith; height = omega arith })
primary_by_sound q n b s (classes.a_boolean w) ts x f e =
    takes_ok 15 (suc n) ts (trees.boolean w) (tail_of ts) x e
    (record { marks = start_boolean w ts f; well = tt; level = omega arith; height = omega arith })
primary_by_sound q n b s classes.null_word ts x f e =
    takes_ok 15 (suc n) ts trees.null (tail_of ts) x e
    (record { marks = (start_null (head_of ts) f, refl); well = tt; level = omega arith; height = omega arith })
primary_by_sound q n b s classes.bracket ts x f e =
    made_takes q n b s (tok kinds.LeftBracket ∷ arguments kinds.RightBracket ∷ []) (λ v. trees.array v.1.0) ts x
    (λ e r. TakesExpression 15 (suc n) ts e r) (λ v r t. record {
      marks = (t.marks.0, list_last v.1.0 kinds.RightBracket (tail_of ts) r t.marks.1);
      well = t.sane.1.0;
      level = omega arith;
      height = omega (arith, t.height);
    }) e
primary_by_sound q n b s classes.brace ts x f e =
    let p = bind_ok (properties_at b n (tail_of ts)) (λ ps. Ok (trees.object ps.0, ps.1)) x e in
    let t = properties_sound q n b s (tail_of ts) p.0 p.1 in
    takes_ok 15 (suc n) ts (trees.object p.0.0) p.0.1 x p.2
    (record {
      marks = (start_brace (head_of ts) f, t.marks);
      well = t.well;
      level = omega arith;
      height = omega
          (arith, t.height);
    })
primary_by_sound q n b s classes.parenthesis ts x f e =
    made_takes q n b s (tok kinds.LeftParenthesis ∷ an_expression ∷ tok kinds.RightParenthesis ∷ [])
    (λ v. trees.parenthesized v.1.0) ts x (λ e r. TakesExpression 15 (suc n) ts e r) (λ v r t. record {
      marks = t.marks;
      well = t.sane.1.0;
      level = omega arith;
      height = omega (arith, t.height);
    }) e
primary_by_sound q n b s classes.function_word ts x f e =
    (function_sound q n b s ts x (start_function (head_of ts) f) e).0
primary_by_sound q n b s classes.no_start ts x f e = absurd cc

pub primary_sound : (q : SeqSound) (n : ℕ) (b : Below)
    → SoundBelow n b
    → (ts : List Token) (x : Expression × List Token)
    → primary b n ts ≡ Ok x
    → TakesExpression 15 (suc n) ts x.0 x.1
unfolding primary
primary_sound q n b s ts x e = primary_by_sound q n b s (start (head_of ts)) ts x refl e

-- ---- members and calls

pub linked_by_sound : (q : SeqSound) (n : ℕ) (b : Below)
    → SoundBelow n b
    → (s : List Token) (f : Expression) (l : CallTail) (ts : List Token) (x : Expression × List Token)
    → link (head_of ts) ≡ l
    → TakesExpression 15 (suc n) s f ts
    → height f ≤ n
    → linked_by b f l ts ≡ Ok x
    → TakesExpression 15 (suc n) s x.0 x.1
linked_by_sound q n b snd s f dot ts x g t low e =
    let p = bind_ok (word_at (tail_of ts)) (λ x. Ok (trees.member f x.0, x.1)) x e in
    takes_ok 15 (suc n) s (trees.member f p.0.0) p.0.1 x p.2 (record {
      marks =
          joins (flat f) (token (fixed kinds.Dot) ∷ token (identifier_name p.0.0) ∷ []) s ts p.0.1 t.marks
          (link_dot (head_of ts) g, word_sound (tail_of ts) p.0 p.1);
      well = (t.well, t.level);
      level = omega arith;
      height = omega arith;
    })
linked_by_sound q n b snd s f key ts x g t low e =
    made_takes q n b snd (tok kinds.LeftBracket ∷ an_expression ∷ tok kinds.RightBracket ∷ [])
    (λ v. trees.index f v.1.0) ts x (λ e r. TakesExpression 15 (suc n) s e r) (λ v r a. record {
      marks =
          joins (flat f) (token (fixed kinds.LeftBracket) ∷ (flat v.1.0 ++ (token (fixed kinds.RightBracket) ∷ [])))
          s ts r t.marks a.marks;
      well = (t.well, t.level, a.sane.1.0);
      level = omega arith;
      height = omega (arith, a.height);
    }) e
linked_by_sound q n b snd s f classes.arguments ts x g t low e =
    made_takes q n b snd (tok kinds.LeftParenthesis ∷ arguments kinds.RightParenthesis ∷ []) (λ v. trees.call f v.1.0)
    ts x (λ e r. TakesExpression 15 (suc n) s e r) (λ v r a. record {
      marks =
          joins (flat f)
          (token (fixed kinds.LeftParenthesis) ∷
          (flat_expressions v.1.0 ++ (trailing v.1.0 ++ (token (fixed kinds.RightParenthesis) ∷ []))))
          s ts r t.marks (a.marks.0, list_last v.1.0 kinds.RightParenthesis (tail_of ts) r a.marks.1);
      well = (t.well, t.level, a.sane.1.0);
      level = omega arith;
      height = omega (arith, a.height);
    }) e
linked_by_sound q n b snd s f no_link ts x g t low e = absurd cc

-- what goes on with links reads on from what was read
abbrev GoesOn : ℕ → List Token → (Expression → Reader Expression) → Type 0
GoesOn n s go =
    (f : Expression) (ts : List Token) (x : Expression × List Token)
    → TakesExpression 15 (suc n) s f ts
    → go f ts ≡ Ok x
    → TakesExpression 15 (suc n) s x.0 x.1

-- one link and those behind it
one_link : (q : SeqSound) (n : ℕ) (b : Below)
    → SoundBelow n b
    → (s : List Token) (go : Expression → Reader Expression)
    → GoesOn n s go
    → (f : Expression) (l : CallTail) (ts : List Token) (x : Expression × List Token)
    → link (head_of ts) ≡ l
    → TakesExpression 15 (suc n) s f ts
    → if_low (height f) n ts (linked_by b f l ts >>= λ x. go x.0 x.1) ≡ Ok x → TakesExpression 15 (suc n) s x.0 x.1
one_link q n b snd s go h f l ts x g t e =
    let p = low_ok (height f) n ts (linked_by b f l ts >>= λ x. go x.0 x.1) x e in
    let a = bind_ok (linked_by b f l ts) (λ x. go x.0 x.1) x p.1 in
    h a.0.0 a.0.1 x (linked_by_sound q n b snd s f l ts a.0 g t p.0 a.1) a.2

links_by_sound : (q : SeqSound) (n : ℕ) (b : Below)
    → SoundBelow n b
    → (s : List Token) (go : Expression → Reader Expression)
    → GoesOn n s go
    → (f : Expression) (l : CallTail) (ts : List Token) (x : Expression × List Token)
    → link (head_of ts) ≡ l
    → TakesExpression 15 (suc n) s f ts
    → links_by b n go f l ts ≡ Ok x
    → TakesExpression 15 (suc n) s x.0 x.1
links_by_sound q n b snd s go h f no_link ts x g t e = takes_ok 15 (suc n) s f ts x e t
links_by_sound q n b snd s go h f dot ts x g t e = one_link q n b snd s go h f dot ts x g t e
links_by_sound q n b snd s go h f key ts x g t e = one_link q n b snd s go h f key ts x g t e
links_by_sound q n b snd s go h f classes.arguments ts x g t e =
    one_link q n b snd s go h f classes.arguments ts x g t e

pub links_sound : (q : SeqSound) (n : ℕ) (b : Below)
    → SoundBelow n b
    → (s : List Token) (k : ℕ) (f : Expression) (ts : List Token) (x : Expression × List Token)
    → TakesExpression 15 (suc n) s f ts
    → links b n k f ts ≡ Ok x
    → TakesExpression 15 (suc n) s x.0 x.1
unfolding links
links_sound q n b snd s zero f ts x t e = absurd cc
links_sound q n b snd s (suc k) f ts x t e =
    links_by_sound q n b snd s (λ f r. links b n k f r) (λ f r y u g. links_sound q n b snd s k f r y u g) f
    (link (head_of ts)) ts x refl t e

pub call_sound : (q : SeqSound) (n : ℕ) (b : Below) → SoundBelow n b → CallSound n b
unfolding call
call_sound q n b s ts x e =
    let p = bind_ok (primary b n ts) (λ x. links b n (suc n) x.0 x.1) x e in
    links_sound q n b s ts (suc n) p.0.0 p.0.1 x (primary_sound q n b s ts p.0 p.1) p.2
