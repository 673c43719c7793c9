-- Lists that are read one by one: what is behind those that were read decides what all come to.
use Rattle.std.proofs.Common.{◌≡◌, ℕ, ◌+◌, ◌<◌, ◌≤◌, List, [], ◌∷◌, ◌++◌, length, drop, get_or, map, Option, Some, None, option_map, string_bytes, String, Global, refl, sym, ap, ◌∙◌}
use Rattle.std.proofs.lemmas.List.{map-append, drop_all, drop_more}
use Rattle.cdp_text.specs.Units.{utf16_of}
use Rattle.serde_json.specs.View.{view, items_view, members_view}
use Rattle.serde_json.specs.declared.value.Value.{Value}
use Rattle.cdp_json.specs.ArgumentViews.{argument_view}
use Rattle.cdp_json.specs.Arguments as arguments
use Rattle.cdp_json.specs.Arguments.{argument_of, arguments_from}
use Rattle.cdp_json.specs.Json as json
use Rattle.cdp_json.specs.Json.{items_of, members_of}
use Rattle.cdp_json.specs.Parts.{Pair}
use Rattle.cdp_json.specs.SafeValues.{both, safe_value_of, safe_items_of, safe_members_of}
use Rattle.cdp_json.specs.Views.{json_view, member_view}
use Rattle.cdp_json.specs.declared.arguments.Argument.{Argument}
use Rattle.cdp_json.specs.declared.value.Json.{Json}
use Rattle.cdp_json.specs.declared.value.Member.{Member}

-- ---- parts put in front of what is behind them

module _ {A B : Type 0} (put : A → B → B) where
  abbrev pub onto : List A → B → B
  onto [] b = b
  onto (a ∷ rest) b = put a (onto rest b)

  pub one_more : (done : List A) (a : A) (b : B) → onto done (put a b) ≡ onto (done ++ a ∷ []) b
  one_more [] a b = refl
  one_more (x ∷ xs) a b = ap (put x) (one_more xs a b)

  -- one part more, where what is behind it may be refused
  pub more : (done : List A) (a : A) (o : Option B)
      → option_map (onto done) (both put (Some a) o) ≡ option_map (onto (done ++ a ∷ [])) o
  more done a None = refl
  more done a (Some b) = ap Some (one_more done a b)

-- ---- the values of a list

abbrev pub with_items : List json.Json → json.Items → json.Items
with_items = onto json.item

all_items : (done : List json.Json) → with_items done json.no_items ≡ items_of done
all_items [] = refl
all_items (j ∷ js) = ap (json.item j) (all_items js)

-- what a list comes to whose first values were read
abbrev pub items_behind : List Json → List Value → Option json.Items
items_behind done left = option_map (with_items (map json_view done)) (safe_items_of (items_view left))

pub items_more : (vs : List Value) (i : ℕ) (v : Value) (old new : List Json) (j : Json)
    → i < length vs
    → Some (json_view j) ≡ safe_value_of (view (get_or vs i v))
    → new ≡ old ++ j ∷ []
    → items_behind new (drop (i + 1) vs) ≡ items_behind old (drop i vs)
items_more vs i v old new j lt is pushed =
    sym (ap (items_behind old) (drop_more vs i v lt)
    ∙ ap (λ o. option_map (with_items (map json_view old))
    (both json.item o (safe_items_of (items_view (drop (i + 1) vs)))))
    (sym is)
    ∙ more json.item (map json_view old) (json_view j) (safe_items_of (items_view (drop (i + 1) vs)))
    ∙ ap (λ js. option_map (with_items js) (safe_items_of (items_view (drop (i + 1) vs))))
    (sym (ap (map json_view) pushed ∙ map-append json_view old (j ∷ []))))

pub items_all : (vs : List Value) (i : ℕ) (done : List Json)
    → length vs ≤ i
    → Some (items_of (map json_view done)) ≡ items_behind done (drop i vs)
items_all vs i done le = sym (ap (items_behind done) (drop_all i vs le) ∙ ap Some (all_items (map json_view done)))

-- ---- the members of an object

abbrev Entry : Type 0
Entry = String Global × Value

abbrev put_pair : Pair → json.Members → json.Members
put_pair m ms = json.member m.0 m.1 ms

abbrev pub with_members : List Pair → json.Members → json.Members
with_members = onto put_pair

all_members : (done : List Pair) → with_members done json.no_members ≡ members_of done
all_members [] = refl
all_members (m ∷ ms) = ap (put_pair m) (all_members ms)

member_more : (done : List Pair) (k : List ℕ) (j : json.Json) (o : Option json.Members)
    → option_map (with_members done) (both (json.member k) (Some j) o) ≡ option_map (with_members (done ++ (k, j) ∷ []))
    o
member_more done k j None = refl
member_more done k j (Some ms) = more put_pair done (k, j) (Some ms)

-- what an object comes to whose first members were read
abbrev pub members_behind : List Member → List Entry → Option json.Members
members_behind done left = option_map (with_members (map member_view done)) (safe_members_of (members_view left))

pub members_more : (e : Entry) (left : List Entry) (old new : List Member) (j : Json)
    → Some (json_view j) ≡ safe_value_of (view e.1)
    → map member_view new ≡ map member_view old ++ (utf16_of (string_bytes e.0), json_view j) ∷ []
    → members_behind new left ≡ members_behind old (e ∷ left)
members_more e left old new j is pushed =
    sym (ap (λ o. option_map (with_members (map member_view old))
    (both (json.member (utf16_of (string_bytes e.0))) o (safe_members_of (members_view left))))
    (sym is)
    ∙ member_more (map member_view old) (utf16_of (string_bytes e.0)) (json_view j)
    (safe_members_of (members_view left))
    ∙ ap (λ ps. option_map (with_members ps) (safe_members_of (members_view left))) (sym pushed))

pub members_all : (done : List Member) → Some (members_of (map member_view done)) ≡ members_behind done []
members_all done = sym (ap Some (all_members (map member_view done)))

-- ---- arguments

abbrev pub with_arguments : List arguments.Argument → List arguments.Argument → List arguments.Argument
with_arguments = onto ◌∷◌

all_arguments : (done : List arguments.Argument) → with_arguments done [] ≡ done
all_arguments [] = refl
all_arguments (a ∷ rest) = ap (λ xs. a ∷ xs) (all_arguments rest)

-- what a list of arguments comes to whose first ones were read
abbrev pub arguments_behind : List Argument → List Value → Option (List arguments.Argument)
arguments_behind done left = option_map (with_arguments (map argument_view done)) (arguments_from (items_view left))

pub arguments_more : (vs : List Value) (i : ℕ) (v : Value) (old new : List Argument) (a : Argument)
    → i < length vs
    → Some (argument_view a) ≡ argument_of (view (get_or vs i v))
    → new ≡ old ++ a ∷ []
    → arguments_behind new (drop (i + 1) vs) ≡ arguments_behind old (drop i vs)
arguments_more vs i v old new a lt is pushed =
    sym (ap (arguments_behind old) (drop_more vs i v lt)
    ∙ ap (λ o. option_map (with_arguments (map argument_view old))
    (both ◌∷◌ o (arguments_from (items_view (drop (i + 1) vs)))))
    (sym is)
    ∙ more ◌∷◌ (map argument_view old) (argument_view a) (arguments_from (items_view (drop (i + 1) vs)))
    ∙ ap (λ xs. option_map (with_arguments xs) (arguments_from (items_view (drop (i + 1) vs))))
    (sym (ap (map argument_view) pushed ∙ map-append argument_view old (a ∷ []))))

pub arguments_all : (vs : List Value) (i : ℕ) (done : List Argument)
    → length vs ≤ i
    → Some (map argument_view done) ≡ arguments_behind done (drop i vs)
arguments_all vs i done le =
    sym (ap (arguments_behind done) (drop_all i vs le) ∙ ap Some (all_arguments (map argument_view done)))
