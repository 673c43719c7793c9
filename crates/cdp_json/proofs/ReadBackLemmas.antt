-- What is written is read back.
use Rattle.std.proofs.Common.{◌≡◌, ℕ, ℤ, pos, negsuc, suc, max, ◌^◌, ◌<◌, ◌≤◌, List, [], ◌∷◌, ◌++◌, true, false, map, Some, option_map, option_and_then, refl, sym, ap, ap₂, ◌∙◌, arith, append_assoc, append-nil, Ordering, Less, Equal, Greater}
use Rattle.std.proofs.lemmas.Int.{ints}
use Rattle.std.specs.Prelude.{fold}
use Rattle.std.specs.List.{AllByRecursion}
use Rattle.std.specs.Ordering.{nat_cmp, match_ordering}
use Rattle.std.specs.Cmp.Lexicographic.{slice_cmp}
use Rattle.std.specs.Fmt.{signed_decimal}
use Rattle.json.specs.Json as json
use Rattle.json.specs.Print.{IsNumber}
use Rattle.json.specs.Lex.{tokens}
use Rattle.json.specs.Tree as tree
use Rattle.json.specs.Tree.{json_tokens}
use Rattle.json.proofs.Printed.Tokens.{tokens-print}
use Rattle.json.proofs.Printed.Trees.{value-json_tokens, ArePrintable-json_tokens}
use Rattle.json.proofs.Printed.Decimals.{IsNumber-decimal, IsNumber-signed_decimal}
use Rattle.serde_json.specs.Data as values
use Rattle.serde_json.specs.Data.{Data, put}
use Rattle.serde_json.specs.Find.{of_integer}
use Rattle.serde_json.specs.Read.{number_of, of_json, of_items, of_members, max_depth}
use Rattle.serde_json.specs.Written as written
use Rattle.serde_json.specs.Written.{number_text, outline, items_outline, members_outline}
use Rattle.serde_json.proofs.Numbers.{number_of-decimal, number_of-negative}
use Rattle.serde_json.proofs.Texts.{print-outline}
use Rattle.cdp_text.specs.Units.{utf8_of}
use Rattle.cdp_json.specs.Json.{Json, null, boolean, number, text, list, object, Items, no_items, item, Members, no_members, member, members_of}
use Rattle.cdp_json.specs.Parts.{Pair}
use Rattle.cdp_json.specs.KeyOrder.{insert_by, in_order}
use Rattle.cdp_json.specs.Compact.{compact_text, string_text, with_commas, behind_commas, member_text, item_texts, member_texts}
use Rattle.cdp_json.specs.ReadBack.{data_of, items_data, members_data, ordered, ordered_items, ordered_members, depth, items_depth, members_depth, FitsSixtyFourBits, NumbersFit, ItemsFit, MembersFit, WrittenIsReadBack}
use Rattle.cdp_json.proofs.OrderLemmas.{in_order-map}

-- ---- members as pairs, in any order

abbrev pairs : Members → List Pair
pairs no_members = []
pairs (member k j ms) = (k, j) ∷ pairs ms

-- what a claim says of the value of each
abbrev Each : (Json → Type 0) → List Pair → Type 0
Each P = AllByRecursion (λ m. P m.1)

each_match : {A : Type 0} (P : A → Type 0) (o : Ordering) (x y : A) (ys zs : List A)
    → P x
    → P y
    → AllByRecursion P ys
    → AllByRecursion P zs
    → AllByRecursion P (match_ordering o (x ∷ y ∷ ys) (y ∷ zs) (y ∷ zs))
each_match P Less x y ys zs px py pys pzs = (px, (py, pys))
each_match P Equal x y ys zs px py pys pzs = (py, pzs)
each_match P Greater x y ys zs px py pys pzs = (py, pzs)

pub each_insert : {A : Type 0} (P : A → Type 0) (key : A → List ℕ) (x : A) (ys : List A)
    → P x
    → AllByRecursion P ys
    → AllByRecursion P (insert_by key x ys)
each_insert P key x [] px h = (px, tt)
each_insert P key x (y ∷ ys) px h =
    each_match P (slice_cmp nat_cmp (key x) (key y)) x y ys (insert_by key x ys) px h.0 h.1
    (each_insert P key x ys px h.1)

each_onto : {A : Type 0} (P : A → Type 0) (key : A → List ℕ) (done xs : List A)
    → AllByRecursion P done
    → AllByRecursion P xs
    → AllByRecursion P (fold (λ ys y. insert_by key y ys) done xs)
each_onto P key done [] d h = d
each_onto P key done (x ∷ xs) d h = each_onto P key (insert_by key x done) xs (each_insert P key x done h.0 d) h.1

each_in_order : {A : Type 0} (P : A → Type 0) (key : A → List ℕ) (xs : List A)
    → AllByRecursion P xs
    → AllByRecursion P (in_order key xs)
each_in_order P key xs h = each_onto P key [] xs tt h

-- ---- a value with its members as they are listed

abbrev mutual
  listed : Json → Data
  listed null = values.null
  listed (boolean b) = values.boolean b
  listed (number z) = values.number (of_integer z)
  listed (text s) = values.string (utf8_of s)
  listed (list js) = values.array (listed_items js)
  listed (object ms) = values.object (listed_members ms)

  listed_items : Items → values.Items
  listed_items no_items = values.no_items
  listed_items (item j js) = values.item (listed j) (listed_items js)

  listed_members : Members → values.Members
  listed_members no_members = values.no_members
  listed_members (member k j ms) = values.member (utf8_of k) (listed j) (listed_members ms)

-- ---- its text is the one that serde_json would write

abbrev Writes : Json → Type 0
Writes j = compact_text j ≡ written.compact_text (listed (ordered j))

abbrev with_text : Pair → List ℕ × List ℕ
with_text m = (m.0, compact_text m.1)

abbrev with_order : Pair → Pair
with_order m = (m.0, ordered m.1)

texts_of : (ms : Members) → member_texts ms ≡ map with_text (pairs ms)
texts_of no_members = refl
texts_of (member k j ms) = ap (λ ts. (k, compact_text j) ∷ ts) (texts_of ms)

ordered_of : (ms : Members) → ordered_members ms ≡ map with_order (pairs ms)
ordered_of no_members = refl
ordered_of (member k j ms) = ap (λ ts. (k, ordered j) ∷ ts) (ordered_of ms)

one_member : (s t u b r : List ℕ) → t ≡ u → b ++ 125 ∷ [] ≡ r → ((s ++ 58 ∷ t) ++ b) ++ 125 ∷ [] ≡ s ++ 58 ∷ (u ++ r)
one_member s t u b r is rest =
    append_assoc (s ++ 58 ∷ t) b (125 ∷ []) ∙ append_assoc s (58 ∷ t) (b ++ 125 ∷ [])
    ∙ ap₂ (λ a c. s ++ 58 ∷ (a ++ c)) is rest

members_behind : (qs : List Pair) → Each Writes qs
    → behind_commas (map member_text (map with_text qs)) ++ 125 ∷ [] ≡ written.members_text true
    (listed_members (members_of (map with_order qs)))
members_behind [] h = refl
members_behind (q ∷ qs) h = ap (λ s. 44 ∷ s) (one_member (string_text q.0) _ _ _ _ h.0 (members_behind qs h.1))

members_first : (qs : List Pair) → Each Writes qs
    → with_commas (map member_text (map with_text qs)) ++ 125 ∷ [] ≡ written.members_text false
    (listed_members (members_of (map with_order qs)))
members_first [] h = refl
members_first (q ∷ qs) h = one_member (string_text q.0) _ _ _ _ h.0 (members_behind qs h.1)

members_written : (ms : Members)
    → Each Writes (pairs ms)
    → compact_text (object ms) ≡ written.compact_text (listed (ordered (object ms)))
members_written ms h =
    let key : Pair → List ℕ = λ m. m.0 in
    let texts = ap (in_order (λ m. m.0)) (texts_of ms) ∙ in_order-map with_text (λ m. m.0) (pairs ms) in
    let values = ap (in_order (λ m. m.0)) (ordered_of ms) ∙ in_order-map with_order (λ m. m.0) (pairs ms) in
    ap (λ s. 123 ∷ s)
    (ap (λ ts. with_commas (map member_text ts) ++ 125 ∷ []) texts
    ∙ members_first (in_order key (pairs ms)) (each_in_order (λ m. Writes m.1) key (pairs ms) h)
    ∙ ap (λ qs. written.members_text false (listed_members (members_of qs))) (sym values))

one_item : (t u b r : List ℕ) → t ≡ u → b ++ 93 ∷ [] ≡ r → (t ++ b) ++ 93 ∷ [] ≡ u ++ r
one_item t u b r is rest = append_assoc t b (93 ∷ []) ∙ ap₂ (λ a c. a ++ c) is rest

number_written : (z : ℤ) → signed_decimal z ≡ number_text (of_integer z)
number_written (pos n) = refl
number_written (negsuc n) = refl

mutual
  value_written : (j : Json) → Writes j
  value_written null = refl
  value_written (boolean true) = refl
  value_written (boolean false) = refl
  value_written (number z) = number_written z
  value_written (text s) = refl
  value_written (list js) = ap (λ s. 91 ∷ s) (items_first js)
  value_written (object ms) = members_written ms (each_written ms)

  items_first : (js : Items)
      → with_commas (item_texts js) ++ 93 ∷ [] ≡ written.items_text false (listed_items (ordered_items js))
  items_first no_items = refl
  items_first (item j js) = one_item _ _ _ _ (value_written j) (items_behind js)

  items_behind : (js : Items)
      → behind_commas (item_texts js) ++ 93 ∷ [] ≡ written.items_text true (listed_items (ordered_items js))
  items_behind no_items = refl
  items_behind (item j js) = ap (λ s. 44 ∷ s) (one_item _ _ _ _ (value_written j) (items_behind js))

  each_written : (ms : Members) → Each Writes (pairs ms)
  each_written no_members = tt
  each_written (member k j ms) = (value_written j, each_written ms)

-- ---- its numbers and its depth

pos_fits : (n : ℕ) → FitsSixtyFourBits (pos n) → n < 2 ^ 64
pos_fits n h = let below = h.1 in omega (arith, ints)

negsuc_fits : (n : ℕ) → FitsSixtyFourBits (negsuc n) → n < 2 ^ 63
negsuc_fits n h = let above = h.0 in omega (arith, ints)

is_number : (z : ℤ) → FitsSixtyFourBits z → IsNumber (number_text (of_integer z))
is_number (pos n) h = IsNumber-decimal n (pos_fits n h)
is_number (negsuc n) h = IsNumber-signed_decimal (negsuc n) (negsuc_fits n h)

mutual
  has_numbers : (j : Json) → NumbersFit j → tree.HasNumbers (outline (listed j))
  has_numbers null h = tt
  has_numbers (boolean b) h = tt
  has_numbers (number z) h = is_number z h
  has_numbers (text s) h = tt
  has_numbers (list js) h = items_have_numbers js h
  has_numbers (object ms) h = members_have_numbers ms h

  items_have_numbers : (js : Items) → ItemsFit js → tree.ItemsHaveNumbers (items_outline (listed_items js))
  items_have_numbers no_items h = tt
  items_have_numbers (item j js) h = (has_numbers j h.0, items_have_numbers js h.1)

  members_have_numbers : (ms : Members) → MembersFit ms → tree.MembersHaveNumbers (members_outline (listed_members ms))
  members_have_numbers no_members h = tt
  members_have_numbers (member k j ms) h = (has_numbers j h.0, members_have_numbers ms h.1)

mutual
  same_depth : (j : Json) → tree.depth (outline (listed j)) ≡ depth j
  same_depth null = refl
  same_depth (boolean b) = refl
  same_depth (number z) = refl
  same_depth (text s) = refl
  same_depth (list js) = ap suc (same_items_depth js)
  same_depth (object ms) = ap suc (same_members_depth ms)

  same_items_depth : (js : Items) → tree.items_depth (items_outline (listed_items js)) ≡ items_depth js
  same_items_depth no_items = refl
  same_items_depth (item j js) = ap₂ max (same_depth j) (same_items_depth js)

  same_members_depth : (ms : Members) → tree.members_depth (members_outline (listed_members ms)) ≡ members_depth ms
  same_members_depth no_members = refl
  same_members_depth (member k j ms) = ap₂ max (same_depth j) (same_members_depth ms)

-- ---- it is read as its data

number_read : (z : ℤ) → FitsSixtyFourBits z → number_of (number_text (of_integer z)) ≡ Some (of_integer z)
number_read (pos n) h = number_of-decimal n (pos_fits n h)
number_read (negsuc n) h = number_of-negative n (negsuc_fits n h)

mutual
  value_read : (j : Json) → NumbersFit j → of_json (outline (listed j)) ≡ Some (data_of j)
  value_read null h = refl
  value_read (boolean b) h = refl
  value_read (number z) h = ap (option_map values.number) (number_read z h)
  value_read (text s) h = refl
  value_read (list js) h = ap (option_map values.array) (items_read js h)
  value_read (object ms) h = ap (option_map values.object) (members_read ms values.no_members h)

  items_read : (js : Items) → ItemsFit js → of_items (items_outline (listed_items js)) ≡ Some (items_data js)
  items_read no_items h = refl
  items_read (item j js) h =
      ap (option_and_then (λ d. option_map (values.item d) (of_items (items_outline (listed_items js)))))
      (value_read j h.0)
      ∙ ap (option_map (values.item (data_of j))) (items_read js h.1)

  members_read : (ms : Members) (found : values.Members)
      → MembersFit ms
      → of_members (members_outline (listed_members ms)) found ≡ Some (members_data ms found)
  members_read no_members found h = refl
  members_read (member k j ms) found h =
      ap (option_and_then (λ d. of_members (members_outline (listed_members ms)) (put (utf8_of k) d found)))
      (value_read j h.0)
      ∙ members_read ms (put (utf8_of k) (data_of j) found) h.1

-- ---- the order of members changes neither

members_fit : (qs : List Pair) → Each NumbersFit qs → MembersFit (members_of qs)
members_fit [] h = tt
members_fit (q ∷ qs) h = (h.0, members_fit qs h.1)

mutual
  ordered_fits : (j : Json) → NumbersFit j → NumbersFit (ordered j)
  ordered_fits null h = tt
  ordered_fits (boolean b) h = tt
  ordered_fits (number z) h = h
  ordered_fits (text s) h = tt
  ordered_fits (list js) h = ordered_items_fit js h
  ordered_fits (object ms) h =
      members_fit _ (each_in_order (λ m. NumbersFit m.1) (λ m. m.0) (ordered_members ms) (ordered_members_fit ms h))

  ordered_items_fit : (js : Items) → ItemsFit js → ItemsFit (ordered_items js)
  ordered_items_fit no_items h = tt
  ordered_items_fit (item j js) h = (ordered_fits j h.0, ordered_items_fit js h.1)

  ordered_members_fit : (ms : Members) → MembersFit ms → Each NumbersFit (ordered_members ms)
  ordered_members_fit no_members h = tt
  ordered_members_fit (member k j ms) h = (ordered_fits j h.0, ordered_members_fit ms h.1)

members_within : (n : ℕ) (qs : List Pair) → Each (λ j. depth j ≤ n) qs → members_depth (members_of qs) ≤ n
members_within n [] h = omega arith
members_within n (q ∷ qs) h = let first : depth q.1 ≤ n = h.0 in omega (arith, first, members_within n qs h.1)

mutual
  ordered_within : (j : Json) (n : ℕ) → depth j ≤ n → depth (ordered j) ≤ n
  ordered_within null n h = h
  ordered_within (boolean b) n h = h
  ordered_within (number z) n h = h
  ordered_within (text s) n h = h
  ordered_within (list js) n h = omega (arith, h, ordered_items_within js (items_depth js) (omega arith))
  ordered_within (object ms) n h =
      let each = each_in_order (λ m. depth m.1 ≤ members_depth ms) (λ m. m.0) (ordered_members ms)
      (ordered_members_within ms (members_depth ms) (omega arith)) in
      omega (arith, h, members_within (members_depth ms) _ each)

  ordered_items_within : (js : Items) (n : ℕ) → items_depth js ≤ n → items_depth (ordered_items js) ≤ n
  ordered_items_within no_items n h = h
  ordered_items_within (item j js) n h =
      omega (arith, ordered_within j n (omega arith), ordered_items_within js n (omega arith))

  ordered_members_within : (ms : Members) (n : ℕ) → members_depth ms ≤ n → Each (λ j. depth j ≤ n) (ordered_members ms)
  ordered_members_within no_members n h = tt
  ordered_members_within (member k j ms) n h =
      (ordered_within j n (omega arith), ordered_members_within ms n (omega arith))

-- ---- the law

pub written_is_read_back : WrittenIsReadBack
written_is_read_back j h =
    let o = outline (listed (ordered j)) in
    let numbers = ordered_fits j h.numbers_fit in
    let shallow = ordered_within j 127 h.is_shallow in
    let text = value_written j ∙ sym (print-outline (listed (ordered j))) in
    let read_tokens = ap tokens text
    ∙ tokens-print (json_tokens o) (ArePrintable-json_tokens o (has_numbers (ordered j) numbers))
    ∙ sym (append-nil (json_tokens o)) in
    ap (λ ts. option_and_then of_json (option_and_then (λ p. json.if_last p.0 p.1) (json.value max_depth ts)))
    read_tokens
    ∙ ap (λ r. option_and_then of_json (option_and_then (λ p. json.if_last p.0 p.1) r))
    (value-json_tokens o max_depth [] (omega (arith, shallow, same_depth (ordered j))))
    ∙ value_read (ordered j) numbers
