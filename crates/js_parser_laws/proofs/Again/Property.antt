-- Object literals are read again.
use Rattle.std.proofs.Common.{◌≡◌, ℕ, suc, ◌≤◌, Bool, true, false, cond, List, [], ◌∷◌, ◌++◌, length, Option, Some, None, Ok, refl, ap, subst, ◌∙◌, inl, inr, arith}
use Rattle.std.specs.Prelude.{nat_le}
use Rattle.std.proofs.lemmas.Bool.{le-leb}
use Rattle.std.proofs.lemmas.List.{append-nil}
use Rattle.js_lexer.specs.declared.token.TokenKind.{TokenKind}
use Rattle.js_lexer.specs.declared.token.TokenKind.TheVariants as kinds
use Rattle.js_tree.specs.Trees as trees
use Rattle.js_tree.specs.Trees.{Identifier, Expression, Key, PropertyDefinition, PropertyDefinitions, Statements}
use Rattle.js_parser_language.specs.Tokens.{Token, fixed, identifier_name, string_literal, numeric_literal, ExpressionEnd, FlatToken, token, head_of, tail_of, IsNext, is_word, Matches}
use Rattle.js_parser_language.specs.Flat as flats
use Rattle.js_parser_language.specs.Flat.{edge, flat, flat_key, flat_property, flat_properties, more_properties, trailing_property, flat_parameters, flat_statements}
use Rattle.js_parser_language.specs.Well.{WellKey, WellProperty, WellProperties}
use Rattle.js_tree.specs.Height.{height_of_key, height_of_property, height_of_properties}
use Rattle.js_tree.specs.Views.{properties}
use Rattle.js_parser_language.specs.Kinds.{is_kind, is_same_kind}
use Rattle.js_parser_readers.specs.Reading.{elements, no_state}
use Rattle.js_parser_readers.specs.Classes as classes
use Rattle.js_parser_readers.specs.Classes.{a_word_key, a_string_key, a_number_key, a_computed_key, no_key, key_start, key_start_by, AfterKey, after_key, after_key_by, is_shorthand, is_shorthand_by}
use Rattle.js_parser_readers.specs.Productions.{Below, one_of, tok, an_assignment}
use Rattle.js_parser_readers.specs.Parsing.{key_at, property_at, properties_at}
use Rattle.js_parser_language.proofs.KindLemmas.{kind_is}
use Rattle.js_parser_laws.proofs.Claims.{AgainBelow, SeqAgain, Stops}
use Rattle.js_parser_laws.proofs.MarkLemmas.{parts}
use Rattle.js_parser_laws.proofs.TokenLemmas.{name_again, text_is}
use Rattle.js_parser_laws.proofs.Sound.List.{behind_commas, with_commas, behind_last, AllGood}
use Rattle.js_parser_laws.proofs.Again.List.{EndsElement, elements_again}
use Rattle.js_parser_laws.proofs.Again.Front.{closes_stops, comma_stops}
use Rattle.js_parser_laws.proofs.Again.Head.{other_kind, kind_of_identifier, kind_of_number, kind_of_string}
use Rattle.js_parser_laws.proofs.Again.Primary.{ObjectsAgain}
use Rattle.js_parser_laws.proofs.Sound.Primary.{GoodProperty}

-- ---- keys

word_start_by : (k : TokenKind) (s : List ℕ) (v : ℕ)
    → is_word k ≡ true
    → key_start_by k s v ≡ cond (is_word k) (a_word_key s) no_key
word_start_by kinds.String s v e = absurd cc
word_start_by kinds.Number s v e = absurd cc
word_start_by kinds.LeftBracket s v e = absurd cc
word_start_by _ s v e = refl

word_start : (a : List ℕ) (o : Option Token) → IsNext (identifier_name a) o → key_start o ≡ a_word_key a
word_start a None m = absurd m
word_start a (Some t) m = word_start_by t.kind t.string_value t.numeric_value m.0 ∙ rw m.0 (ap (λ s. a_word_key s) m.1)

string_start : (v : List ℕ) (o : Option Token) → IsNext (string_literal v) o → key_start o ≡ a_string_key v
string_start v None m = absurd m
string_start v (Some t) m = rw m.0 (ap (λ s. a_string_key s) m.1)

number_start : (v : ℕ) (o : Option Token) → IsNext (numeric_literal v) o → key_start o ≡ a_number_key v
number_start v None m = absurd m
number_start v (Some t) m = rw m.0 (ap (λ s. a_number_key s) m.1)

computed_start : (o : Option Token) → IsNext (fixed kinds.LeftBracket) o → key_start o ≡ a_computed_key
computed_start None m = absurd m
computed_start (Some t) m = rw m refl

key_again : (q : SeqAgain) (n : ℕ) (b : Below)
    → AgainBelow n b
    → (k : Key)
    → WellKey k
    → height_of_key k ≤ n
    → (ts r : List Token)
    → Matches (flat_key k) ts r
    → key_at b ts ≡ Ok (k, r)
unfolding key_at
key_again q n b h (trees.word_key a) w l ts r m =
    rw (word_start a (head_of ts) m.0) (ap (λ (l : List Token). Ok (trees.word_key a, l)) m.1)
key_again q n b h (trees.string_key v) w l ts r m =
    rw (string_start v (head_of ts) m.0) (ap (λ (l : List Token). Ok (trees.string_key v, l)) m.1)
key_again q n b h (trees.number_key v) w l ts r m =
    rw (number_start v (head_of ts) m.0) (ap (λ (l : List Token). Ok (trees.number_key v, l)) m.1)
key_again q n b h (trees.computed_key e) w l ts r m =
    rw (
      computed_start (head_of ts) m.0,
      q n b h (tok kinds.LeftBracket ∷ an_assignment ∷ tok kinds.RightBracket ∷ []) (tt, (e, (tt, tt))) ts r
          (tt, ((w.0, w.1), (tt, tt))) (omega arith) refl tt m,
    )
    refl

-- ---- a key alone and a key with something behind it

after_fixed : (k : TokenKind) (o : Option Token) → IsNext (fixed k) o → after_key o ≡ after_key_by k
after_fixed k None m = absurd m
after_fixed k (Some t) m = rw m refl

no_shorthand : (c : AfterKey) → is_shorthand_by false c ≡ false
no_shorthand classes.colon = refl
no_shorthand classes.parameters = refl
no_shorthand classes.no_member = refl

long_key : (k : Key) (c : AfterKey)
    → ((x : Bool) → is_shorthand_by x c ≡ false)
    → (ts r : List Token)
    → Matches (flat_key k) ts r
    → after_key (head_of r) ≡ c
    → is_shorthand ts ≡ false
long_key (trees.word_key a) c long ts r m e = rw (m.1, e) (long (is_kind kinds.Name (head_of ts)))
long_key (trees.string_key v) c long ts r m e =
    rw (other_kind kinds.String kinds.Name (head_of ts) (kind_of_string v (head_of ts) m.0) refl)
    (no_shorthand (after_key (head_of (tail_of ts))))
long_key (trees.number_key v) c long ts r m e =
    rw (other_kind kinds.Number kinds.Name (head_of ts) (kind_of_number v (head_of ts) m.0) refl)
    (no_shorthand (after_key (head_of (tail_of ts))))
long_key (trees.computed_key x) c long ts r m e =
    rw (other_kind kinds.LeftBracket kinds.Name (head_of ts) m.0 refl) (no_shorthand (after_key (head_of (tail_of ts))))

colon_long : (x : Bool) → is_shorthand_by x classes.colon ≡ false
colon_long true = refl
colon_long false = refl

parameters_long : (x : Bool) → is_shorthand_by x classes.parameters ≡ false
parameters_long true = refl
parameters_long false = refl

after_no_member : (k : TokenKind) (o : Option Token)
    → after_key_by k ≡ classes.no_member
    → is_kind k o ≡ true
    → after_key o ≡ classes.no_member
after_no_member k None e i = refl
after_no_member k (Some t) e i = rw (kind_is k t i) e

-- ---- members

-- what may follow a member of an object literal
abbrev EndsMember : List Token → Type 0
EndsMember r = EndsElement kinds.RightBrace r

member_stops : (d : ExpressionEnd) (r : List Token) → EndsMember r → Stops d r
member_stops d r (inl close) = (closes_stops kinds.RightBrace refl r close d).0
member_stops d r (inr comma) = comma_stops r comma d

member_alone : (r : List Token) → EndsMember r → after_key (head_of r) ≡ classes.no_member
member_alone r (inl close) = after_no_member kinds.RightBrace (head_of r) refl close
member_alone r (inr comma) = after_no_member kinds.Comma (head_of r) refl comma

shorthand_again : (n : ℕ) (b : Below) (a : Identifier) (ts r : List Token)
    → Matches (flat_property (trees.shorthand a)) ts r
    → EndsMember r
    → property_at b n ts ≡ Ok (trees.shorthand a, r)
unfolding property_at
shorthand_again n b a ts r m s =
    let short : is_shorthand ts ≡ true = rw ((text_is a (head_of ts) m.0).0, m.1, member_alone r s) refl in
    rw (short, name_again a ts r m) refl

value_again : (q : SeqAgain) (n : ℕ) (b : Below)
    → AgainBelow n b
    → (k : Key) (e : Expression)
    → WellProperty (trees.value k e)
    → height_of_property (trees.value k e) ≤ n
    → (ts r : List Token)
    → Matches (flat_property (trees.value k e)) ts r
    → EndsMember r
    → property_at b n ts ≡ Ok (trees.value k e, r)
unfolding property_at
value_again q n b h k e w l ts r m s =
    let p = parts (flat_key k) (token (fixed kinds.Colon) ∷ (flat e ++ [])) ts r m in
    let colon : after_key (head_of p.0) ≡ classes.colon = after_fixed kinds.Colon (head_of p.0) p.2.0 in
    rw (
      long_key k classes.colon colon_long ts p.0 p.1 colon,
      key_again q n b h k w.0 (omega arith) ts p.0 p.1,
      colon,
      q n b h (tok kinds.Colon ∷ an_assignment ∷ []) (tt, (e, tt)) p.0 r (tt, ((w.1, w.2), tt)) (omega arith) refl
          (member_stops (edge e) r s) p.2,
    )
    refl

method_again : (q : SeqAgain) (n : ℕ) (b : Below)
    → AgainBelow n b
    → (k : Key) (ps : List Identifier) (body : Statements)
    → WellProperty (trees.method k ps body)
    → height_of_property (trees.method k ps body) ≤ n
    → (ts r : List Token)
    → Matches (flat_property (trees.method k ps body)) ts r
    → property_at b n ts ≡ Ok (trees.method k ps body, r)
unfolding property_at
method_again q n b h k ps body w l ts r m =
    let p = parts (flat_key k) (flat_parameters ps ++ (flats.in_braces (flat_statements body) ++ [])) ts r m in
    let parameters : after_key (head_of p.0) ≡ classes.parameters = after_fixed kinds.LeftParenthesis (head_of p.0)
    p.2.0 in
    let low : nat_le (suc (height_of_key k)) n ≡ true = le-leb (suc (height_of_key k)) n (omega arith) in
    let inner : Matches (flat_parameters ps ++ flats.in_braces (flat_statements body)) p.0 r = subst
    (λ (l : List FlatToken). Matches (flat_parameters ps ++ l) p.0 r)
    (append-nil (flats.in_braces (flat_statements body))) p.2 in
    rw (
      long_key k classes.parameters parameters_long ts p.0 p.1 parameters,
      key_again q n b h k w.0 (omega arith) ts p.0 p.1,
      parameters,
      low,
      h.function (record { parameters = ps; body = body }) w.1 w.2 (omega arith) p.0 r inner,
    )
    refl

property_again : (q : SeqAgain) (n : ℕ) (b : Below)
    → AgainBelow n b
    → (x : PropertyDefinition)
    → WellProperty x
    → height_of_property x ≤ n
    → (ts r : List Token)
    → Matches (flat_property x) ts r
    → EndsMember r
    → property_at b n ts ≡ Ok (x, r)
property_again q n b h (trees.shorthand a) w l ts r m s = shorthand_again n b a ts r m s
property_again q n b h (trees.value k e) w l ts r m s = value_again q n b h k e w l ts r m s
property_again q n b h (trees.method k ps body) w l ts r m s = method_again q n b h k ps body w l ts r m

-- ---- a member doesn't begin with what ends the literal

word_no_brace : (k : TokenKind) → is_word k ≡ true → is_same_kind k kinds.RightBrace ≡ false
word_no_brace kinds.RightBrace e = absurd cc
word_no_brace _ e = refl

name_no_brace : (a : List ℕ) (o : Option Token) → IsNext (identifier_name a) o → is_kind kinds.RightBrace o ≡ false
name_no_brace a None m = refl
name_no_brace a (Some t) m = word_no_brace t.kind m.0

key_no_brace : (k : Key) (ms : List FlatToken) (ts r : List Token)
    → Matches (flat_key k ++ ms) ts r
    → is_kind kinds.RightBrace (head_of ts) ≡ false
key_no_brace (trees.word_key a) ms ts r m = name_no_brace a (head_of ts) m.0
key_no_brace (trees.string_key v) ms ts r m =
    other_kind kinds.String kinds.RightBrace (head_of ts) (kind_of_string v (head_of ts) m.0) refl
key_no_brace (trees.number_key v) ms ts r m =
    other_kind kinds.Number kinds.RightBrace (head_of ts) (kind_of_number v (head_of ts) m.0) refl
key_no_brace (trees.computed_key e) ms ts r m = other_kind kinds.LeftBracket kinds.RightBrace (head_of ts) m.0 refl

property_no_brace : (x : PropertyDefinition) (ts r : List Token)
    → Matches (flat_property x) ts r
    → is_kind kinds.RightBrace (head_of ts) ≡ false
property_no_brace (trees.shorthand a) ts r m =
    other_kind kinds.Name kinds.RightBrace (head_of ts) (kind_of_identifier a (head_of ts) m.0) refl
property_no_brace (trees.value k e) ts r m = key_no_brace k (token (fixed kinds.Colon) ∷ (flat e ++ [])) ts r m
property_no_brace (trees.method k ps body) ts r m =
    key_no_brace k (flat_parameters ps ++ (flats.in_braces (flat_statements body) ++ [])) ts r m

-- ---- lists of members

abbrev members_of : PropertyDefinitions → List PropertyDefinition
members_of trees.no_properties = []
members_of (trees.a_property x xs) = x ∷ members_of xs

members_are : (xs : PropertyDefinitions) → properties (members_of xs) ≡ xs
members_are trees.no_properties = refl
members_are (trees.a_property x xs) = ap (λ (l : PropertyDefinitions). trees.a_property x l) (members_are xs)

more_marks : (xs : PropertyDefinitions) → more_properties xs ≡ behind_commas flat_property (members_of xs)
more_marks trees.no_properties = refl
more_marks (trees.a_property x xs) =
    ap (λ (l : List FlatToken). token (fixed kinds.Comma) ∷ (flat_property x ++ l))
    (append-nil (more_properties xs) ∙ more_marks xs)

members_marks : (xs : PropertyDefinitions) → flat_properties xs ≡ with_commas flat_property (members_of xs)
members_marks trees.no_properties = refl
members_marks (trees.a_property x xs) = ap (λ (l : List FlatToken). flat_property x ++ l) (more_marks xs)

trailing_marks : (xs : PropertyDefinitions) → trailing_property xs ≡ behind_last (members_of xs)
trailing_marks trees.no_properties = refl
trailing_marks (trees.a_property x xs) = refl

good_members : (n : ℕ) (xs : PropertyDefinitions)
    → WellProperties xs
    → height_of_properties xs ≤ n
    → AllGood no_state (GoodProperty n) tt (members_of xs)
good_members n trees.no_properties w h = tt
good_members n (trees.a_property x xs) w h = ((w.0, omega (arith, h)), good_members n xs w.1 (omega (arith, h)))

pub objects_again : (q : SeqAgain) (n : ℕ) (b : Below) → AgainBelow n b → ObjectsAgain n b
unfolding properties_at
objects_again q n b h xs w l ts r m =
    let behind : List FlatToken = token (fixed kinds.RightBrace) ∷ [] in
    let same : flat_properties xs ++ (trailing_property xs ++ behind) ≡ with_commas flat_property (members_of xs) ++
    (behind_last (members_of xs) ++ behind) = rw (members_marks xs, trailing_marks xs) refl in
    let read : elements (one_of (λ r. property_at b n r)) no_state kinds.RightBrace (suc (length (tail_of ts))) tt
    (tail_of ts) ≡ Ok (members_of xs, r) =
    elements_again (one_of (λ r. property_at b n r)) no_state flat_property (GoodProperty n) kinds.RightBrace refl
    (λ s x g us v p. property_no_brace x us v p)
    (λ s x g us v p e. property_again q n b h x g.0 g.1 us v p e)
    (members_of xs) (suc (length (tail_of ts))) tt (tail_of ts) r (good_members n xs w (omega arith)) (omega arith)
    (subst (λ (l : List FlatToken). Matches l (tail_of ts) r) same m.1) in
    rw (read, members_are xs) refl
