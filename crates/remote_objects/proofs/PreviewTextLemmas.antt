-- The texts of previews, piece by piece.
use Rattle.std.proofs.Common.{◌≡◌, ℕ, ℤ, zero, suc, ◌+◌, ◌-◌, ◌<◌, ◌≤◌, ◌^◌, Bool, true, false, if◌then◌else◌, List, [], ◌∷◌, ◌++◌, length, take, map, codes, decimal, Option, Some, None, refl, sym, ap, ◌∙◌, arith, append_assoc, append-nil}
use Rattle.std.specs.Prelude.{nat_lt}
use Rattle.std.specs.Fmt.{signed_decimal}
use Rattle.std.specs.Char.{encode_utf8}
use Rattle.std.specs.Char.Utf16.{utf16_chars}
use lib.Signed.{mag}
use Rattle.std.proofs.lemmas.Bool.{le-leb, lt-ltb}
use Rattle.std.proofs.lemmas.Fmt.{length-decimal-le, length_signed_le}
use Rattle.std.proofs.lemmas.List.{length-append, length-map}
use Rattle.json.specs.Print.{escape_byte}
use Rattle.cdp_text.specs.Units.{utf8_of}
use Rattle.js_heap.specs.declared.cell.Cell.{Cell}
use Rattle.js_heap.specs.declared.cell.Cell.TheVariants as cells
use Rattle.js_heap.specs.declared.value.Value.{Value}
use Rattle.js_heap.specs.declared.value.Value.TheVariants as values
use Rattle.js_heap.specs.Values.{cell_text, class_text, object_type, type_text}
use Rattle.js_heap.specs.World.{World, read_cell}
use Rattle.js_heap_parts.specs.Parts.{CellPart, enumerable, elements_from as element_parts, length_part, object_parts, property_part, property_parts}
use Rattle.cdp_json.specs.Json as json
use Rattle.cdp_json.specs.Compact.{compact_text, string_text, with_commas}
use Rattle.cdp_json.specs.Parts.{Pair, list_of, object_of}
use Rattle.cdp_json.specs.Pieces.{Wrote, comma_if, commas_after, object_in_order}
use Rattle.cdp_json.proofs.PieceLemmas.{list-behind, object-is, text_all, text_more, written-as}
use Rattle.js_heap.specs.declared.cell.Property.{Property}
use Rattle.remote_objects.specs.Ids.{object_id}
use Rattle.remote_objects.specs.Making.{id_pairs}
use Rattle.remote_objects.specs.Previews.{PreviewList, PreviewedProperty, cell_description, cell_subtype, entries, entry, enumerable as enumerable_entries, has_preview, indexed, listed, most_listed, preview, preview_of, preview_pairs, property_preview, shortened, subtype_pairs, value_subtype, value_text}
use Rattle.remote_objects.specs.Sights.{Sight}
use Rattle.remote_objects.specs.Slots.{part_entry}
use Rattle.remote_objects.specs.Values.{array_text, cell_pairs, object_pairs, subtyped}
use Rattle.remote_objects.specs.Written.{cell_back, cell_front, cell_kind, front_of, id_text, listed_entries, preview_pieces, preview_text, truth_text, value_kind}
use Rattle.remote_objects.proofs.RemoteTextLemmas.{array_back, cell-written, error_back, front_behind, object_back, quoted_array, subtype_back, type_back}

-- ---- short texts

-- a text of at most 100 units stays as it is
pub short-whole : (us : List ℕ) → length us ≤ 100 → us ≡ shortened us
short-whole us few = sym (ap (λ b. if b then us else take 99 us ++ 8230 ∷ []) (le-leb (length us) 100 few))

pub short-decimal : (n : ℕ) → n < 2 ^ 64 → string_text (decimal n) ≡ string_text (shortened (decimal n))
short-decimal n small =
    let below : n < 10 ^ 20 = omega (arith, small) in
    let few : length (decimal n) ≤ 20 = length-decimal-le 20 n (omega arith) below small in
    ap string_text (short-whole (decimal n) (omega (arith, few)))

pub short-signed : (z : ℤ) → mag z < 2 ^ 63
    → string_text (signed_decimal z) ≡ string_text (shortened (signed_decimal z))
short-signed z small =
    let below : mag z + 1 < 10 ^ 20 = omega (arith, small) in
    let few : length (signed_decimal z) ≤ 20 + 1 = length_signed_le 20 z below small in
    ap string_text (short-whole (signed_decimal z) (omega (arith, few)))

pub short-array : (n : ℕ) → n < 2 ^ 64
    → codes "\"Array(" ++ (decimal n ++ codes ")\"") ≡ string_text (shortened (array_text n))
short-array n small =
    let below : n < 10 ^ 20 = omega (arith, small) in
    let few : length (decimal n) ≤ 20 = length-decimal-le 20 n (omega arith) below small in
    let more : length (decimal n ++ codes ")") ≡ length (decimal n) + 1 = length-append (decimal n) (codes ")") in
    let size : length (array_text n) ≡ 6 + length (decimal n ++ codes ")") =
    length-append (codes "Array(") (decimal n ++ codes ")") in
    sym (quoted_array n small) ∙ ap string_text (short-whole (array_text n) (omega (arith, few, more, size)))

pub short-nothing : codes "\"\"" ≡ string_text (shortened [])
unfolding utf8_of utf16_chars encode_utf8 escape_byte
short-nothing = refl

pub short-object : codes "\"Object\"" ≡ string_text (shortened (codes "Object"))
unfolding utf8_of utf16_chars encode_utf8 escape_byte
short-object = refl

pub short-undefined : codes "\"undefined\"" ≡ string_text (shortened (codes "undefined"))
unfolding utf8_of utf16_chars encode_utf8 escape_byte
short-undefined = refl

pub short-null : codes "\"null\"" ≡ string_text (shortened (codes "null"))
unfolding utf8_of utf16_chars encode_utf8 escape_byte
short-null = refl

pub short-true : codes "\"true\"" ≡ string_text (shortened (codes "true"))
unfolding utf8_of utf16_chars encode_utf8 escape_byte
short-true = refl

pub short-false : codes "\"false\"" ≡ string_text (shortened (codes "false"))
unfolding utf8_of utf16_chars encode_utf8 escape_byte
short-false = refl

-- what is shown of a value in other words
pub shown-as : (w : World) (v x : Value) {old new : List ℕ}
    → v ≡ x
    → Wrote old (string_text (shortened (value_text w x))) new
    → Wrote old (string_text (shortened (value_text w v))) new
shown-as w v x same e = written-as (ap (λ y. string_text (shortened (value_text w y))) (sym same)) e

-- ---- entries

entry_pieces : (n t v : List ℕ)
    → object_in_order ((codes "name", n) ∷ (codes "type", t) ∷ (codes "value", v) ∷ [])
    ≡ codes "{\"name\":" ++ (n ++ (codes ",\"type\":" ++ (t ++ (codes ",\"value\":" ++ (v ++ codes "}")))))
unfolding utf8_of utf16_chars encode_utf8 escape_byte
entry_pieces n t v = refl

subtyped_entry_pieces : (n s t v : List ℕ)
    → object_in_order ((codes "name", n) ∷ (codes "subtype", s) ∷ (codes "type", t) ∷ (codes "value", v) ∷ [])
    ≡ codes "{\"name\":" ++
    (n ++ (codes ",\"subtype\":" ++ (s ++ (codes ",\"type\":" ++ (t ++ (codes ",\"value\":" ++ (v ++ codes "}")))))))
unfolding utf8_of utf16_chars encode_utf8 escape_byte
subtyped_entry_pieces n s t v = refl

-- the members of an entry without a subtype
abbrev entry_pairs : List ℕ → List ℕ → List ℕ → List Pair
entry_pairs name type shown =
    (codes "name", json.text name) ∷ (codes "type", json.text type) ∷ (codes "value", json.text shown) ∷ []

-- a type, and the key of the value behind it
abbrev typed : List ℕ → List ℕ → List ℕ
typed type rest = codes ",\"type\":" ++ (string_text type ++ (codes ",\"value\":" ++ rest))

-- a subtype before them
abbrev subtyped_as : List ℕ → List ℕ → List ℕ → List ℕ
subtyped_as subtype type rest = codes ",\"subtype\":" ++ (string_text subtype ++ typed type rest)

plain_entry : (name type shown kind : List ℕ)
    → ((rest : List ℕ) → kind ++ rest ≡ typed type rest)
    → codes "{\"name\":" ++ (string_text name ++ (kind ++ (string_text shown ++ codes "}")))
    ≡ compact_text (object_of (entry_pairs name type shown))
plain_entry name type shown kind is =
    ap (λ s. codes "{\"name\":" ++ (string_text name ++ s)) (is (string_text shown ++ codes "}"))
    ∙ (sym (entry_pieces (string_text name) (string_text type) (string_text shown))
    ∙ sym (object-is (entry_pairs name type shown)
    ((codes "name", string_text name) ∷ (codes "type", string_text type) ∷ (codes "value", string_text shown) ∷ [])
    refl))

subtyped_entry : (name subtype type shown kind : List ℕ)
    → ((rest : List ℕ) → kind ++ rest ≡ subtyped_as subtype type rest)
    → codes "{\"name\":" ++ (string_text name ++ (kind ++ (string_text shown ++ codes "}")))
    ≡ compact_text (object_of (entry_pairs name type shown ++ subtyped subtype))
subtyped_entry name subtype type shown kind is =
    ap (λ s. codes "{\"name\":" ++ (string_text name ++ s)) (is (string_text shown ++ codes "}"))
    ∙ (sym (subtyped_entry_pieces (string_text name) (string_text subtype) (string_text type) (string_text shown))
    ∙ sym (object-is (entry_pairs name type shown ++ subtyped subtype)
    ((codes "name", string_text name) ∷ (codes "subtype", string_text subtype) ∷ (codes "type", string_text type)
    ∷ (codes "value", string_text shown) ∷ []) refl))

undefined_kind : (rest : List ℕ) → codes ",\"type\":\"undefined\",\"value\":" ++ rest ≡ typed (codes "undefined") rest
unfolding utf8_of utf16_chars encode_utf8 escape_byte
undefined_kind rest = refl

boolean_kind : (rest : List ℕ) → codes ",\"type\":\"boolean\",\"value\":" ++ rest ≡ typed (codes "boolean") rest
unfolding utf8_of utf16_chars encode_utf8 escape_byte
boolean_kind rest = refl

number_kind : (rest : List ℕ) → codes ",\"type\":\"number\",\"value\":" ++ rest ≡ typed (codes "number") rest
unfolding utf8_of utf16_chars encode_utf8 escape_byte
number_kind rest = refl

string_kind : (rest : List ℕ) → codes ",\"type\":\"string\",\"value\":" ++ rest ≡ typed (codes "string") rest
unfolding utf8_of utf16_chars encode_utf8 escape_byte
string_kind rest = refl

object_kind : (rest : List ℕ) → codes ",\"type\":\"object\",\"value\":" ++ rest ≡ typed (codes "object") rest
unfolding utf8_of utf16_chars encode_utf8 escape_byte
object_kind rest = refl

function_kind : (rest : List ℕ) → codes ",\"type\":\"function\",\"value\":" ++ rest ≡ typed (codes "function") rest
unfolding utf8_of utf16_chars encode_utf8 escape_byte
function_kind rest = refl

null_kind : (rest : List ℕ)
    → codes ",\"subtype\":\"null\",\"type\":\"object\",\"value\":" ++ rest
    ≡ subtyped_as (codes "null") (codes "object") rest
unfolding utf8_of utf16_chars encode_utf8 escape_byte
null_kind rest = refl

error_kind : (rest : List ℕ)
    → codes ",\"subtype\":\"error\",\"type\":\"object\",\"value\":" ++ rest
    ≡ subtyped_as (codes "error") (codes "object") rest
unfolding utf8_of utf16_chars encode_utf8 escape_byte
error_kind rest = refl

array_kind : (rest : List ℕ)
    → codes ",\"subtype\":\"array\",\"type\":\"object\",\"value\":" ++ rest
    ≡ subtyped_as (codes "array") (codes "object") rest
unfolding utf8_of utf16_chars encode_utf8 escape_byte
array_kind rest = refl

cell_entry : (cell : Option Cell) (name shown : List ℕ)
    → codes "{\"name\":" ++ (string_text name ++ (cell_kind cell ++ (string_text shown ++ codes "}")))
    ≡ compact_text (object_of (entry_pairs name (object_type cell) shown ++ subtype_pairs (cell_subtype cell)))
cell_entry (Some (cells.Error class ps)) name shown =
    subtyped_entry name (codes "error") (codes "object") shown
    (codes ",\"subtype\":\"error\",\"type\":\"object\",\"value\":") error_kind
cell_entry (Some (cells.Array vs)) name shown =
    subtyped_entry name (codes "array") (codes "object") shown
    (codes ",\"subtype\":\"array\",\"type\":\"object\",\"value\":") array_kind
cell_entry (Some (cells.Function code n len scope receiver)) name shown =
    plain_entry name (codes "function") shown (codes ",\"type\":\"function\",\"value\":") function_kind
cell_entry (Some (cells.Object ps)) name shown =
    plain_entry name (codes "object") shown (codes ",\"type\":\"object\",\"value\":") object_kind
cell_entry (Some (cells.Text us)) name shown =
    plain_entry name (codes "object") shown (codes ",\"type\":\"object\",\"value\":") object_kind
cell_entry (Some (cells.Bindings kind n outer names)) name shown =
    plain_entry name (codes "object") shown (codes ",\"type\":\"object\",\"value\":") object_kind
cell_entry None name shown =
    plain_entry name (codes "object") shown (codes ",\"type\":\"object\",\"value\":") object_kind

value_entry : (w : World) (v : Value) (name shown : List ℕ)
    → codes "{\"name\":" ++ (string_text name ++ (value_kind w v ++ (string_text shown ++ codes "}")))
    ≡ compact_text (object_of (entry_pairs name (type_text w v) shown ++ subtype_pairs (value_subtype w v)))
value_entry w values.Undefined name shown =
    plain_entry name (codes "undefined") shown (codes ",\"type\":\"undefined\",\"value\":") undefined_kind
value_entry w values.Null name shown =
    subtyped_entry name (codes "null") (codes "object") shown
    (codes ",\"subtype\":\"null\",\"type\":\"object\",\"value\":") null_kind
value_entry w (values.Bool b) name shown =
    plain_entry name (codes "boolean") shown (codes ",\"type\":\"boolean\",\"value\":") boolean_kind
value_entry w (values.Number z) name shown =
    plain_entry name (codes "number") shown (codes ",\"type\":\"number\",\"value\":") number_kind
value_entry w (values.Text a) name shown =
    plain_entry name (codes "string") shown (codes ",\"type\":\"string\",\"value\":") string_kind
value_entry w (values.Object a) name shown = cell_entry (read_cell w a) name shown

-- the name, the kind and the value are the whole entry
pub entry-written : (w : World) (e : PreviewedProperty)
    → codes "{\"name\":" ++
    (string_text (shortened e.name) ++
    (value_kind w e.value ++ (string_text (shortened (value_text w e.value)) ++ codes "}")))
    ≡ compact_text (property_preview w e)
entry-written w e = value_entry w e.value (shortened e.name) (shortened (value_text w e.value))

-- ---- the first entries

-- the texts of the first so many parts
abbrev pub first_texts : (PreviewedProperty → json.Json) → ℕ → List CellPart → List (List ℕ)
first_texts f n ps = map compact_text (take n (map f (map part_entry ps)))

-- one entry more
pub entry-more : (f : PreviewedProperty → json.Json) (ps qs : List CellPart) (p : CellPart) (turn most : ℕ)
    (now new all : List ℕ)
    → ps ≡ p ∷ qs → turn < most → Wrote now (comma_if (nat_lt 0 turn) ++ compact_text (f (part_entry p))) new
    → now ++ commas_after (nat_lt 0 turn) (first_texts f (most - turn) ps) ≡ all
    → new ++ commas_after (nat_lt 0 (turn + 1)) (first_texts f (most - (turn + 1)) qs) ≡ all
entry-more f ps qs p turn most now new all is less put inv =
    let left : most - turn ≡ suc (most - (turn + 1)) = omega (arith, less) in
    let here : first_texts f (most - turn) ps ≡ compact_text (f (part_entry p)) ∷ first_texts f (most - (turn + 1)) qs =
    ap (first_texts f (most - turn)) is ∙ ap (λ n. first_texts f n (p ∷ qs)) left in
    text_more (nat_lt 0 turn) (nat_lt 0 (turn + 1)) now new (compact_text (f (part_entry p))) all
    (first_texts f (most - (turn + 1)) qs) (lt-ltb 0 (turn + 1) (omega arith)) put
    (ap (λ ts. now ++ commas_after (nat_lt 0 turn) ts) (sym here) ∙ inv)

take_none : (n : ℕ) → take {A = json.Json} n [] ≡ []
take_none zero = refl
take_none (suc n) = refl

-- no part is left
pub entries-over : (f : PreviewedProperty → json.Json) (ps : List CellPart) (behind : Bool) (n : ℕ) (now all : List ℕ)
    → ps ≡ []
    → now ++ commas_after behind (first_texts f n ps) ≡ all
    → now ≡ all
entries-over f ps behind n now all none inv =
    text_all behind now all (first_texts f n ps)
    (ap (first_texts f n) none ∙ ap (map compact_text) (take_none n)) inv

take_zero : (js : List json.Json) → take 0 js ≡ []
take_zero [] = refl
take_zero (j ∷ js) = refl

-- so many are written
pub entries-full : (f : PreviewedProperty → json.Json) (ps : List CellPart) (behind : Bool) (turn most : ℕ)
    (now all : List ℕ)
    → most ≤ turn
    → now ++ commas_after behind (first_texts f (most - turn) ps) ≡ all
    → now ≡ all
entries-full f ps behind turn most now all full inv =
    let none : most - turn ≡ 0 = omega (arith, full) in
    text_all behind now all (first_texts f (most - turn) ps)
    (ap (λ n. first_texts f n ps) none ∙ ap (map compact_text) (take_zero (map f (map part_entry ps)))) inv

-- ---- entries of cells

chosen : (p : Property) (b : Bool) (rest : List CellPart) (es : List PreviewedProperty) → map part_entry rest ≡ es
    → map part_entry (if b then property_part p ∷ rest else rest) ≡ (if b then entry p.key p.value ∷ [] else []) ++ es
chosen p true rest es e = ap (λ xs. entry p.key p.value ∷ xs) e
chosen p false rest es e = e

property_entries : (ps : List Property) → map part_entry (enumerable (property_parts ps)) ≡ enumerable_entries ps
property_entries [] = refl
property_entries (p ∷ ps) =
    chosen p p.enumerable (enumerable (property_parts ps)) (enumerable_entries ps) (property_entries ps)

element_entries : (i n : ℕ) (vs : List Value)
    → map part_entry (enumerable (element_parts i vs ++ length_part n ∷ [])) ≡ indexed i vs
element_entries i n [] = refl
element_entries i n (v ∷ vs) = ap (λ es. entry (decimal i) v ∷ es) (element_entries (i + 1) n vs)

-- the enumerable parts of an object are the entries of its preview
pub cell-entries : (cell : Option Cell) → map part_entry (enumerable (object_parts cell)) ≡ entries cell
cell-entries (Some (cells.Object ps)) = property_entries ps
cell-entries (Some (cells.Error class ps)) = property_entries ps
cell-entries (Some (cells.Array vs)) = element_entries 0 (length vs) vs
cell-entries (Some (cells.Function code name len scope receiver)) = refl
cell-entries (Some (cells.Text us)) = refl
cell-entries (Some (cells.Bindings kind name outer names)) = refl
cell-entries None = refl

-- the first of them, and whether there are more
pub listed-written : (w : World) (cell : Option Cell) (most : ℕ) (es fs : List CellPart)
    → most ≡ most_listed cell → map part_entry es ≡ entries cell → map part_entry fs ≡ entries cell
    → codes ",\"overflow\":" ++
    (truth_text (nat_lt most (length es)) ++
    (codes ",\"properties\":[" ++
    (with_commas (map compact_text (take most (map (property_preview w) (map part_entry fs)))) ++ codes "]")))
    ≡ listed_entries (listed w cell)
listed-written w cell most es fs many first second =
    let text : ℕ → ℕ → List json.Json → List ℕ = λ n count js.
    codes ",\"overflow\":" ++
    (truth_text (nat_lt n count) ++
    (codes ",\"properties\":[" ++ (with_commas (map compact_text (take n js)) ++ codes "]"))) in
    let shorts = map (property_preview w) (entries cell) in
    let count : length es ≡ length shorts =
    sym (length-map es part_entry) ∙ (ap length first ∙ sym (length-map (entries cell) (property_preview w))) in
    ap (λ n. text n (length es) (map (property_preview w) (map part_entry fs))) many
    ∙ (ap (λ k. text (most_listed cell) k (map (property_preview w) (map part_entry fs))) count
    ∙ ap (λ xs. text (most_listed cell) (length shorts) (map (property_preview w) xs)) second)

-- ---- previews

preview_in_order : (d o p t : List ℕ)
    → object_in_order
    ((codes "description", d) ∷ (codes "overflow", o) ∷ (codes "properties", p) ∷ (codes "type", t) ∷ [])
    ≡ codes "{\"description\":" ++
    (d ++ (codes ",\"overflow\":" ++
    (o ++ (codes ",\"properties\":" ++ (p ++ (codes ",\"type\":" ++ (t ++ codes "}")))))))
unfolding utf8_of utf16_chars encode_utf8 escape_byte
preview_in_order d o p t = refl

subtyped_in_order : (d o p s t : List ℕ)
    → object_in_order
    ((codes "description", d) ∷ (codes "overflow", o) ∷ (codes "properties", p) ∷ (codes "subtype", s)
    ∷ (codes "type", t) ∷ [])
    ≡ codes "{\"description\":" ++
    (d ++ (codes ",\"overflow\":" ++
    (o ++ (codes ",\"properties\":" ++
    (p ++ (codes ",\"subtype\":" ++ (s ++ (codes ",\"type\":" ++ (t ++ codes "}")))))))))
unfolding utf8_of utf16_chars encode_utf8 escape_byte
subtyped_in_order d o p s t = refl

-- the members of a preview without a subtype
abbrev preview_members : List ℕ → PreviewList → List Pair
preview_members description l =
    (codes "description", json.text (shortened description)) ∷ (codes "overflow", json.boolean l.more)
    ∷ (codes "properties", list_of l.first) ∷ (codes "type", json.text (codes "object")) ∷ []

-- the entries and the end of a preview, in one piece
entries_behind : (l : PreviewList) (back : List ℕ)
    → listed_entries l ++ back
    ≡ codes ",\"overflow\":" ++
    (truth_text l.more ++ (codes ",\"properties\":" ++ (compact_text (list_of l.first) ++ back)))
entries_behind l back =
    ap (λ s. codes ",\"overflow\":" ++ s)
    (append_assoc (truth_text l.more)
    (codes ",\"properties\":[" ++ (with_commas (map compact_text l.first) ++ codes "]")) back
    ∙ ap (λ s. truth_text l.more ++ (codes ",\"properties\":[" ++ s))
    (append_assoc (with_commas (map compact_text l.first)) (codes "]") back)
    ∙ ap (λ s. truth_text l.more ++ (codes ",\"properties\":" ++ s)) (list-behind l.first back))

plain_preview : (description : List ℕ) (l : PreviewList)
    → codes "{\"description\":" ++
    (string_text (shortened description) ++ (listed_entries l ++ type_back (codes "object")))
    ≡ compact_text (object_of (preview_members description l))
plain_preview description l =
    let d = string_text (shortened description) in
    ap (λ s. codes "{\"description\":" ++ (d ++ s)) (entries_behind l (type_back (codes "object")))
    ∙ (sym (preview_in_order d (truth_text l.more) (compact_text (list_of l.first)) (string_text (codes "object")))
    ∙ sym (object-is (preview_members description l)
    ((codes "description", d) ∷ (codes "overflow", truth_text l.more)
    ∷ (codes "properties", compact_text (list_of l.first)) ∷ (codes "type", string_text (codes "object")) ∷ []) refl))

subtyped_preview : (description subtype : List ℕ) (l : PreviewList)
    → codes "{\"description\":" ++
    (string_text (shortened description) ++ (listed_entries l ++ subtype_back subtype (codes "object")))
    ≡ compact_text (object_of (preview_members description l ++ subtyped subtype))
subtyped_preview description subtype l =
    let d = string_text (shortened description) in
    ap (λ s. codes "{\"description\":" ++ (d ++ s)) (entries_behind l (subtype_back subtype (codes "object")))
    ∙ (sym (subtyped_in_order d (truth_text l.more) (compact_text (list_of l.first)) (string_text subtype)
    (string_text (codes "object")))
    ∙ sym (object-is (preview_members description l ++ subtyped subtype)
    ((codes "description", d) ∷ (codes "overflow", truth_text l.more)
    ∷ (codes "properties", compact_text (list_of l.first)) ∷ (codes "subtype", string_text subtype)
    ∷ (codes "type", string_text (codes "object")) ∷ []) refl))

-- the end of a preview in other words
ended : (description : List ℕ) (l : PreviewList) (back b : List ℕ) (text : List ℕ)
    → back ≡ b
    → codes "{\"description\":" ++ (string_text (shortened description) ++ (listed_entries l ++ back)) ≡ text
    → codes ",\"preview\":{\"description\":" ++ (string_text (shortened description) ++ (listed_entries l ++ b))
    ≡ codes ",\"preview\":" ++ text
ended description l back b text is e =
    ap (λ x. codes ",\"preview\":{\"description\":" ++ (string_text (shortened description) ++ (listed_entries l ++ x)))
    (sym is)
    ∙ ap (λ s. codes ",\"preview\":" ++ s) e

plain_ended : (description : List ℕ) (l : PreviewList)
    → codes ",\"preview\":{\"description\":" ++
    (string_text (shortened description) ++ (listed_entries l ++ codes ",\"type\":\"object\"}"))
    ≡ codes ",\"preview\":" ++ compact_text (preview_of description l [])
plain_ended description l =
    ended description l (type_back (codes "object")) (codes ",\"type\":\"object\"}") _ object_back
    (plain_preview description l)

-- its description, its entries and its end are the whole preview
pub preview-written : (w : World) (cell : Option Cell) → has_preview cell ≡ true
    → preview_pieces w cell ≡ preview_text w cell
preview-written w (Some (cells.Error class ps)) has =
    let cell = Some (cells.Error class ps) in
    ended (cell_description w cell) (listed w cell) (subtype_back (codes "error") (codes "object"))
    (codes ",\"subtype\":\"error\",\"type\":\"object\"}") _ error_back
    (subtyped_preview (cell_description w cell) (codes "error") (listed w cell))
preview-written w (Some (cells.Array vs)) has =
    let cell = Some (cells.Array vs) in
    ended (cell_description w cell) (listed w cell) (subtype_back (codes "array") (codes "object"))
    (codes ",\"subtype\":\"array\",\"type\":\"object\"}") _ array_back
    (subtyped_preview (cell_description w cell) (codes "array") (listed w cell))
preview-written w (Some (cells.Function code name len scope receiver)) has = cc
preview-written w (Some (cells.Object ps)) has =
    plain_ended (codes "Object") (listed w (Some (cells.Object ps)))
preview-written w (Some (cells.Text us)) has = plain_ended (codes "Object") (listed w (Some (cells.Text us)))
preview-written w (Some (cells.Bindings kind name outer names)) has =
    plain_ended (codes "Object") (listed w (Some (cells.Bindings kind name outer names)))
preview-written w None has = plain_ended (codes "Object") (listed w None)

-- ---- whole objects

untyped_pieces : (a b p t : List ℕ)
    → object_in_order
    ((codes "className", a) ∷ (codes "description", b) ∷ (codes "preview", p) ∷ (codes "type", t) ∷ [])
    ≡ codes "{\"className\":" ++
    (a ++ (codes ",\"description\":" ++
    (b ++ (codes ",\"preview\":" ++ (p ++ (codes ",\"type\":" ++ (t ++ codes "}")))))))
unfolding utf8_of utf16_chars encode_utf8 escape_byte
untyped_pieces a b p t = refl

untyped_id_pieces : (a b i p t : List ℕ)
    → object_in_order
    ((codes "className", a) ∷ (codes "description", b) ∷ (codes "objectId", i) ∷ (codes "preview", p)
    ∷ (codes "type", t) ∷ [])
    ≡ codes "{\"className\":" ++
    (a ++ (codes ",\"description\":" ++
    (b ++ (codes ",\"objectId\":" ++
    (i ++ (codes ",\"preview\":" ++ (p ++ (codes ",\"type\":" ++ (t ++ codes "}")))))))))
unfolding utf8_of utf16_chars encode_utf8 escape_byte
untyped_id_pieces a b i p t = refl

subtyped_pieces : (a b p s t : List ℕ)
    → object_in_order
    ((codes "className", a) ∷ (codes "description", b) ∷ (codes "preview", p) ∷ (codes "subtype", s)
    ∷ (codes "type", t) ∷ [])
    ≡ codes "{\"className\":" ++
    (a ++ (codes ",\"description\":" ++
    (b ++ (codes ",\"preview\":" ++
    (p ++ (codes ",\"subtype\":" ++ (s ++ (codes ",\"type\":" ++ (t ++ codes "}")))))))))
unfolding utf8_of utf16_chars encode_utf8 escape_byte
subtyped_pieces a b p s t = refl

subtyped_id_pieces : (a b i p s t : List ℕ)
    → object_in_order
    ((codes "className", a) ∷ (codes "description", b) ∷ (codes "objectId", i) ∷ (codes "preview", p)
    ∷ (codes "subtype", s) ∷ (codes "type", t) ∷ [])
    ≡ codes "{\"className\":" ++
    (a ++ (codes ",\"description\":" ++
    (b ++ (codes ",\"objectId\":" ++
    (i ++ (codes ",\"preview\":" ++
    (p ++ (codes ",\"subtype\":" ++ (s ++ (codes ",\"type\":" ++ (t ++ codes "}")))))))))))
unfolding utf8_of utf16_chars encode_utf8 escape_byte
subtyped_id_pieces a b i p s t = refl

-- the member that has a preview
abbrev member_of : json.Json → List Pair
member_of p = (codes "preview", p) ∷ []

untyped_object : (class shown type : List ℕ) (session : ℕ) (number : Option ℕ) (p : json.Json)
    → front_of class shown ++ (id_text session number ++ (codes ",\"preview\":" ++ (compact_text p ++ type_back type)))
    ≡ compact_text (object_of (object_pairs class shown [] type ++ id_pairs session number ++ member_of p))
untyped_object class shown type session None p =
    sym (object-is (object_pairs class shown [] type ++ id_pairs session None ++ member_of p)
    ((codes "className", string_text class) ∷ (codes "description", string_text shown)
    ∷ (codes "preview", compact_text p) ∷ (codes "type", string_text type) ∷ []) refl
    ∙ (untyped_pieces (string_text class) (string_text shown) (compact_text p) (string_text type)
    ∙ front_behind class shown (codes ",\"preview\":" ++ (compact_text p ++ type_back type))))
untyped_object class shown type session (Some n) p =
    sym (object-is (object_pairs class shown [] type ++ id_pairs session (Some n) ++ member_of p)
    ((codes "className", string_text class) ∷ (codes "description", string_text shown)
    ∷ (codes "objectId", string_text (object_id session n)) ∷ (codes "preview", compact_text p)
    ∷ (codes "type", string_text type) ∷ []) refl
    ∙ (untyped_id_pieces (string_text class) (string_text shown) (string_text (object_id session n)) (compact_text p)
    (string_text type)
    ∙ front_behind class shown
    (id_text session (Some n) ++ (codes ",\"preview\":" ++ (compact_text p ++ type_back type)))))

subtyped_object : (class shown subtype type : List ℕ) (session : ℕ) (number : Option ℕ) (p : json.Json)
    → front_of class shown ++
    (id_text session number ++ (codes ",\"preview\":" ++ (compact_text p ++ subtype_back subtype type)))
    ≡ compact_text (object_of
    (object_pairs class shown (subtyped subtype) type ++ id_pairs session number ++ member_of p))
subtyped_object class shown subtype type session None p =
    sym (object-is (object_pairs class shown (subtyped subtype) type ++ id_pairs session None ++ member_of p)
    ((codes "className", string_text class) ∷ (codes "description", string_text shown)
    ∷ (codes "preview", compact_text p) ∷ (codes "subtype", string_text subtype)
    ∷ (codes "type", string_text type) ∷ []) refl
    ∙ (subtyped_pieces (string_text class) (string_text shown) (compact_text p) (string_text subtype) (string_text type)
    ∙ front_behind class shown (codes ",\"preview\":" ++ (compact_text p ++ subtype_back subtype type))))
subtyped_object class shown subtype type session (Some n) p =
    sym (object-is (object_pairs class shown (subtyped subtype) type ++ id_pairs session (Some n) ++ member_of p)
    ((codes "className", string_text class) ∷ (codes "description", string_text shown)
    ∷ (codes "objectId", string_text (object_id session n)) ∷ (codes "preview", compact_text p)
    ∷ (codes "subtype", string_text subtype) ∷ (codes "type", string_text type) ∷ []) refl
    ∙ (subtyped_id_pieces (string_text class) (string_text shown) (string_text (object_id session n)) (compact_text p)
    (string_text subtype) (string_text type)
    ∙ front_behind class shown
    (id_text session (Some n) ++ (codes ",\"preview\":" ++ (compact_text p ++ subtype_back subtype type)))))

-- ---- cells

plain_cell : (session : ℕ) (number : Option ℕ) (p : json.Json)
    → front_of (codes "Object") (codes "Object") ++
    (id_text session number ++ (codes ",\"preview\":" ++ (compact_text p ++ codes ",\"type\":\"object\"}")))
    ≡ compact_text (object_of
    (object_pairs (codes "Object") (codes "Object") [] (codes "object") ++ id_pairs session number ++ member_of p))
plain_cell session number p =
    ap (λ b. front_of (codes "Object") (codes "Object") ++
    (id_text session number ++ (codes ",\"preview\":" ++ (compact_text p ++ b)))) (sym object_back)
    ∙ untyped_object (codes "Object") (codes "Object") (codes "object") session number p

-- the beginning of a cell, the id of its handle, its preview and its end are the whole object
pub cell-previewed : (s : Sight) (cell : Option Cell) (session : ℕ) (number : Option ℕ)
    → cell_front s cell ++ (id_text session number ++ (preview_text s.world cell ++ cell_back cell))
    ≡ compact_text (object_of (cell_pairs s cell ++ id_pairs session number ++ preview_pairs s.world cell))
cell-previewed s (Some (cells.Error class ps)) session number =
    let shown = cell_text s.world (Some (cells.Error class ps)) in
    let p = preview s.world (Some (cells.Error class ps)) in
    ap (λ b. front_of (class_text class) shown ++
    (id_text session number ++ (codes ",\"preview\":" ++ (compact_text p ++ b)))) (sym error_back)
    ∙ subtyped_object (class_text class) shown (codes "error") (codes "object") session number p
cell-previewed s (Some (cells.Array vs)) session number =
    let p = preview s.world (Some (cells.Array vs)) in
    ap (λ b. front_of (codes "Array") (array_text (length vs)) ++
    (id_text session number ++ (codes ",\"preview\":" ++ (compact_text p ++ b)))) (sym array_back)
    ∙ subtyped_object (codes "Array") (array_text (length vs)) (codes "array") (codes "object") session number p
cell-previewed s (Some (cells.Function code name len scope receiver)) session number =
    let cell = Some (cells.Function code name len scope receiver) in
    cell-written s cell session number
    ∙ ap (λ ps. compact_text (object_of ps)) (sym (append-nil (cell_pairs s cell ++ id_pairs session number)))
cell-previewed s (Some (cells.Object ps)) session number =
    plain_cell session number (preview s.world (Some (cells.Object ps)))
cell-previewed s (Some (cells.Text us)) session number =
    plain_cell session number (preview s.world (Some (cells.Text us)))
cell-previewed s (Some (cells.Bindings kind name outer names)) session number =
    plain_cell session number (preview s.world (Some (cells.Bindings kind name outer names)))
cell-previewed s None session number = plain_cell session number (preview s.world None)
