-- The texts of values, piece by piece.
use Rattle.std.proofs.Common.{◌≡◌, ℕ, ℤ, ◌<◌, ◌^◌, Bool, List, [], ◌∷◌, ◌++◌, length, codes, decimal, Option, Some, None, refl, sym, ap, ◌∙◌, append_assoc}
use Rattle.std.specs.Fmt.{signed_decimal}
use Rattle.std.specs.Char.{encode_utf8}
use Rattle.std.specs.Char.Utf16.{utf16_chars}
use Rattle.json.specs.Print.{escape_byte}
use Rattle.cdp_text.specs.Units.{utf8_of}
use Rattle.js_heap.specs.declared.cell.Cell.{Cell}
use Rattle.js_heap.specs.declared.cell.Cell.TheVariants as cells
use Rattle.js_heap.specs.declared.value.Value.{Value}
use Rattle.js_heap.specs.Values.{class_text, cell_text}
use Rattle.object_groups.specs.Handles.{HeldHandles}
use Rattle.cdp_json.specs.Compact.{compact_text, string_text}
use Rattle.cdp_json.specs.Parts.{object_of}
use Rattle.cdp_json.specs.Pieces.{Wrote, object_in_order}
use Rattle.cdp_json.proofs.PieceLemmas.{object-is, written-as}
use Rattle.cdp_json.proofs.PlainLemmas.{plain-append, plain-decimal, plain_text, quoted_two}
use Rattle.remote_objects.specs.Ids.{object_id}
use Rattle.remote_objects.specs.Making.{id_pairs}
use Rattle.remote_objects.specs.Remote.{previewed, remote, remote_with}
use Rattle.remote_objects.specs.Sights.{Sight}
use Rattle.remote_objects.specs.Values.{array_text, cell_pairs, function_text, null_pairs, number_pairs, object_pairs, subtyped, text_pairs, truth_pairs, undefined_pairs}
use Rattle.remote_objects.specs.Written.{cell_back, cell_front, front_of, id_text, truth_text}
use Rattle.remote_objects.specs.declared.detail.Detail.{Detail}
use Rattle.remote_objects.specs.declared.detail.Detail.TheVariants as details

-- ---- types and classes

array_class : string_text (codes "Array") ≡ codes "\"Array\""
unfolding utf8_of utf16_chars encode_utf8 escape_byte
array_class = refl

function_class : string_text (codes "Function") ≡ codes "\"Function\""
unfolding utf8_of utf16_chars encode_utf8 escape_byte
function_class = refl

object_type : string_text (codes "object") ≡ codes "\"object\""
unfolding utf8_of utf16_chars encode_utf8 escape_byte
object_type = refl

function_type : string_text (codes "function") ≡ codes "\"function\""
unfolding utf8_of utf16_chars encode_utf8 escape_byte
function_type = refl

boolean_type : string_text (codes "boolean") ≡ codes "\"boolean\""
unfolding utf8_of utf16_chars encode_utf8 escape_byte
boolean_type = refl

number_type : string_text (codes "number") ≡ codes "\"number\""
unfolding utf8_of utf16_chars encode_utf8 escape_byte
number_type = refl

string_type : string_text (codes "string") ≡ codes "\"string\""
unfolding utf8_of utf16_chars encode_utf8 escape_byte
string_type = refl

error_subtype : string_text (codes "error") ≡ codes "\"error\""
unfolding utf8_of utf16_chars encode_utf8 escape_byte
error_subtype = refl

array_subtype : string_text (codes "array") ≡ codes "\"array\""
unfolding utf8_of utf16_chars encode_utf8 escape_byte
array_subtype = refl

-- ---- primitive values

pub undefined-text : codes "{\"type\":\"undefined\"}" ≡ compact_text (object_of undefined_pairs)
unfolding utf8_of utf16_chars encode_utf8 escape_byte
undefined-text = refl

pub null-text : codes "{\"subtype\":\"null\",\"type\":\"object\",\"value\":null}" ≡ compact_text (object_of null_pairs)
unfolding utf8_of utf16_chars encode_utf8 escape_byte
null-text = refl

typed_pieces : (t v : List ℕ) → object_in_order ((codes "type", t) ∷ (codes "value", v) ∷ [])
    ≡ codes "{\"type\":" ++ (t ++ (codes ",\"value\":" ++ (v ++ codes "}")))
unfolding utf8_of utf16_chars encode_utf8 escape_byte
typed_pieces t v = refl

number_pieces : (d t v : List ℕ)
    → object_in_order ((codes "description", d) ∷ (codes "type", t) ∷ (codes "value", v) ∷ [])
    ≡ codes "{\"description\":" ++ (d ++ (codes ",\"type\":" ++ (t ++ (codes ",\"value\":" ++ (v ++ codes "}")))))
unfolding utf8_of utf16_chars encode_utf8 escape_byte
number_pieces d t v = refl

pub truth-text : (b : Bool)
    → codes "{\"type\":\"boolean\",\"value\":" ++ (truth_text b ++ codes "}") ≡ compact_text (object_of (truth_pairs b))
truth-text b =
    sym (object-is (truth_pairs b)
    ((codes "type", string_text (codes "boolean")) ∷ (codes "value", truth_text b) ∷ []) refl
    ∙ (typed_pieces (string_text (codes "boolean")) (truth_text b)
    ∙ ap (λ t. codes "{\"type\":" ++ (t ++ (codes ",\"value\":" ++ (truth_text b ++ codes "}")))) boolean_type))

pub text-text : (units : List ℕ)
    → codes "{\"type\":\"string\",\"value\":" ++ (string_text units ++ codes "}")
    ≡ compact_text (object_of (text_pairs units))
text-text units =
    sym (object-is (text_pairs units)
    ((codes "type", string_text (codes "string")) ∷ (codes "value", string_text units) ∷ []) refl
    ∙ (typed_pieces (string_text (codes "string")) (string_text units)
    ∙ ap (λ t. codes "{\"type\":" ++ (t ++ (codes ",\"value\":" ++ (string_text units ++ codes "}")))) string_type))

pub number-text : (z : ℤ)
    → codes "{\"description\":" ++
    (string_text (signed_decimal z) ++
    (codes ",\"type\":\"number\",\"value\":" ++ (signed_decimal z ++ codes "}")))
    ≡ compact_text (object_of (number_pairs z))
number-text z =
    let shown = string_text (signed_decimal z) in
    sym (object-is (number_pairs z)
    ((codes "description", shown) ∷ (codes "type", string_text (codes "number"))
    ∷ (codes "value", signed_decimal z) ∷ []) refl
    ∙ (number_pieces shown (string_text (codes "number")) (signed_decimal z)
    ∙ ap (λ t. codes "{\"description\":" ++
    (shown ++ (codes ",\"type\":" ++ (t ++ (codes ",\"value\":" ++ (signed_decimal z ++ codes "}")))))) number_type))

-- a primitive value has no preview, and makes no handle
pub primitive-written : (s : Sight) (detail : Detail) (group : Option (List ℕ)) (v x : Value) (h : HeldHandles)
    {old new : List ℕ}
    → v ≡ x → previewed s group x h ≡ remote s group x h → Wrote old (compact_text (remote s group x h).made) new
    → Wrote old (compact_text (remote_with s detail group v h).made) new
primitive-written s details.Plain group v x h is same e =
    written-as (ap (λ y. compact_text (remote s group y h).made) (sym is)) e
primitive-written s details.Previewed group v x h is same e =
    written-as
    (ap (λ m. compact_text m.made) (sym same) ∙ ap (λ y. compact_text (previewed s group y h).made) (sym is)) e

pub primitive-kept : (s : Sight) (detail : Detail) (group : Option (List ℕ)) (v x : Value) (h : HeldHandles)
    → v ≡ x
    → previewed s group x h ≡ remote s group x h
    → h ≡ (remote s group x h).handles
    → h ≡ (remote_with s detail group v h).handles
primitive-kept s details.Plain group v x h is same e = e ∙ ap (λ y. (remote s group y h).handles) (sym is)
primitive-kept s details.Previewed group v x h is same e =
    e ∙ (ap (λ m. m.handles) (sym same) ∙ ap (λ y. (previewed s group y h).handles) (sym is))

-- ---- the beginnings of objects

pub plain-front : codes "{\"className\":\"Object\",\"description\":\"Object\""
    ≡ front_of (codes "Object") (codes "Object")
unfolding front_of utf8_of utf16_chars encode_utf8 escape_byte
plain-front = refl

pub function-front : (shown : List ℕ)
    → codes "{\"className\":\"Function\",\"description\":" ++ string_text shown ≡ front_of (codes "Function") shown
unfolding front_of
function-front shown =
    ap (λ c. codes "{\"className\":" ++ (c ++ (codes ",\"description\":" ++ string_text shown))) (sym function_class)

pub quoted_array : (n : ℕ) → n < 2 ^ 64
    → string_text (array_text n) ≡ codes "\"Array(" ++ (decimal n ++ codes ")\"")
quoted_array n small =
    plain_text (array_text n)
    (plain-append (codes "Array(") (decimal n ++ codes ")") refl
    (plain-append (decimal n) (codes ")") (plain-decimal n small) refl))
    ∙ ap (λ s. codes "\"Array(" ++ s) (append_assoc (decimal n) (codes ")") (codes "\""))

pub array-front : (n : ℕ) → n < 2 ^ 64
    → codes "{\"className\":\"Array\",\"description\":\"Array(" ++ (decimal n ++ codes ")\"")
    ≡ front_of (codes "Array") (array_text n)
unfolding front_of
array-front n small =
    ap (λ t. codes "{\"className\":\"Array\",\"description\":" ++ t) (sym (quoted_array n small))
    ∙ ap (λ c. codes "{\"className\":" ++ (c ++ (codes ",\"description\":" ++ string_text (array_text n))))
    (sym array_class)

-- a class, and what is shown
pub front-written : (class shown : List ℕ)
    → codes "{\"className\":" ++ (string_text class ++ (codes ",\"description\":" ++ string_text shown))
    ≡ front_of class shown
unfolding front_of
front-written class shown = refl

pub id-written : (session n : ℕ) → session < 2 ^ 64 → n < 2 ^ 64
    → codes ",\"objectId\":\"" ++ (decimal session ++ (codes "." ++ (decimal n ++ codes "\"")))
    ≡ id_text session (Some n)
id-written session n first second =
    ap (λ t. codes ",\"objectId\":" ++ t) (sym (quoted_two session n 46 first second refl))

-- ---- whole objects

pub front_behind : (class shown rest : List ℕ)
    → codes "{\"className\":" ++ (string_text class ++ (codes ",\"description\":" ++ (string_text shown ++ rest)))
    ≡ front_of class shown ++ rest
unfolding front_of
front_behind class shown rest =
    ap (λ s. codes "{\"className\":" ++ s)
    (sym (append_assoc (string_text class) (codes ",\"description\":" ++ string_text shown) rest))

untyped_pieces : (a b t : List ℕ)
    → object_in_order ((codes "className", a) ∷ (codes "description", b) ∷ (codes "type", t) ∷ [])
    ≡ codes "{\"className\":" ++ (a ++ (codes ",\"description\":" ++ (b ++ (codes ",\"type\":" ++ (t ++ codes "}")))))
unfolding utf8_of utf16_chars encode_utf8 escape_byte
untyped_pieces a b t = refl

untyped_id_pieces : (a b i t : List ℕ)
    → object_in_order
    ((codes "className", a) ∷ (codes "description", b) ∷ (codes "objectId", i) ∷ (codes "type", t) ∷ [])
    ≡ codes "{\"className\":" ++
    (a ++ (codes ",\"description\":" ++
    (b ++ (codes ",\"objectId\":" ++ (i ++ (codes ",\"type\":" ++ (t ++ codes "}")))))))
unfolding utf8_of utf16_chars encode_utf8 escape_byte
untyped_id_pieces a b i t = refl

subtyped_pieces : (a b s t : List ℕ)
    → object_in_order
    ((codes "className", a) ∷ (codes "description", b) ∷ (codes "subtype", s) ∷ (codes "type", t) ∷ [])
    ≡ codes "{\"className\":" ++
    (a ++ (codes ",\"description\":" ++
    (b ++ (codes ",\"subtype\":" ++ (s ++ (codes ",\"type\":" ++ (t ++ codes "}")))))))
unfolding utf8_of utf16_chars encode_utf8 escape_byte
subtyped_pieces a b s t = refl

subtyped_id_pieces : (a b i s t : List ℕ)
    → object_in_order
    ((codes "className", a) ∷ (codes "description", b) ∷ (codes "objectId", i) ∷ (codes "subtype", s)
    ∷ (codes "type", t) ∷ [])
    ≡ codes "{\"className\":" ++
    (a ++ (codes ",\"description\":" ++
    (b ++ (codes ",\"objectId\":" ++
    (i ++ (codes ",\"subtype\":" ++ (s ++ (codes ",\"type\":" ++ (t ++ codes "}")))))))))
unfolding utf8_of utf16_chars encode_utf8 escape_byte
subtyped_id_pieces a b i s t = refl

-- what stands behind the id: the type
abbrev pub type_back : List ℕ → List ℕ
type_back type = codes ",\"type\":" ++ (string_text type ++ codes "}")

-- and before that a subtype
abbrev pub subtype_back : List ℕ → List ℕ → List ℕ
subtype_back subtype type = codes ",\"subtype\":" ++ (string_text subtype ++ type_back type)

pub untyped-object : (class shown type : List ℕ) (session : ℕ) (number : Option ℕ)
    → front_of class shown ++ (id_text session number ++ type_back type)
    ≡ compact_text (object_of (object_pairs class shown [] type ++ id_pairs session number))
untyped-object class shown type session None =
    sym (object-is (object_pairs class shown [] type ++ id_pairs session None)
    ((codes "className", string_text class) ∷ (codes "description", string_text shown)
    ∷ (codes "type", string_text type) ∷ []) refl
    ∙ (untyped_pieces (string_text class) (string_text shown) (string_text type)
    ∙ front_behind class shown (type_back type)))
untyped-object class shown type session (Some n) =
    sym (object-is (object_pairs class shown [] type ++ id_pairs session (Some n))
    ((codes "className", string_text class) ∷ (codes "description", string_text shown)
    ∷ (codes "objectId", string_text (object_id session n)) ∷ (codes "type", string_text type) ∷ []) refl
    ∙ (untyped_id_pieces (string_text class) (string_text shown) (string_text (object_id session n)) (string_text type)
    ∙ front_behind class shown (id_text session (Some n) ++ type_back type)))

subtyped_object : (class shown subtype type : List ℕ) (session : ℕ) (number : Option ℕ)
    → front_of class shown ++ (id_text session number ++ subtype_back subtype type)
    ≡ compact_text (object_of (object_pairs class shown (subtyped subtype) type ++ id_pairs session number))
subtyped_object class shown subtype type session None =
    sym (object-is (object_pairs class shown (subtyped subtype) type ++ id_pairs session None)
    ((codes "className", string_text class) ∷ (codes "description", string_text shown)
    ∷ (codes "subtype", string_text subtype) ∷ (codes "type", string_text type) ∷ []) refl
    ∙ (subtyped_pieces (string_text class) (string_text shown) (string_text subtype) (string_text type)
    ∙ front_behind class shown (subtype_back subtype type)))
subtyped_object class shown subtype type session (Some n) =
    sym (object-is (object_pairs class shown (subtyped subtype) type ++ id_pairs session (Some n))
    ((codes "className", string_text class) ∷ (codes "description", string_text shown)
    ∷ (codes "objectId", string_text (object_id session n)) ∷ (codes "subtype", string_text subtype)
    ∷ (codes "type", string_text type) ∷ []) refl
    ∙ (subtyped_id_pieces (string_text class) (string_text shown) (string_text (object_id session n))
    (string_text subtype) (string_text type)
    ∙ front_behind class shown (id_text session (Some n) ++ subtype_back subtype type)))

-- ---- cells

pub object_back : type_back (codes "object") ≡ codes ",\"type\":\"object\"}"
object_back = ap (λ t. codes ",\"type\":" ++ (t ++ codes "}")) object_type

function_back : type_back (codes "function") ≡ codes ",\"type\":\"function\"}"
function_back = ap (λ t. codes ",\"type\":" ++ (t ++ codes "}")) function_type

pub error_back : subtype_back (codes "error") (codes "object") ≡ codes ",\"subtype\":\"error\",\"type\":\"object\"}"
error_back =
    ap (λ s. codes ",\"subtype\":" ++ (s ++ type_back (codes "object"))) error_subtype
    ∙ ap (λ b. codes ",\"subtype\":\"error\"" ++ b) object_back

pub array_back : subtype_back (codes "array") (codes "object") ≡ codes ",\"subtype\":\"array\",\"type\":\"object\"}"
array_back =
    ap (λ s. codes ",\"subtype\":" ++ (s ++ type_back (codes "object"))) array_subtype
    ∙ ap (λ b. codes ",\"subtype\":\"array\"" ++ b) object_back

with_back : (front id back b : List ℕ) (t : List ℕ)
    → back ≡ b
    → front ++ (id ++ back) ≡ t
    → front ++ (id ++ b) ≡ t
with_back front id back b t is e = ap (λ x. front ++ (id ++ x)) (sym is) ∙ e

pub plain-cell : (session : ℕ) (number : Option ℕ)
    → front_of (codes "Object") (codes "Object") ++ (id_text session number ++ codes ",\"type\":\"object\"}")
    ≡ compact_text (object_of
    (object_pairs (codes "Object") (codes "Object") [] (codes "object") ++ id_pairs session number))
plain-cell session number =
    with_back (front_of (codes "Object") (codes "Object")) (id_text session number) (type_back (codes "object"))
    (codes ",\"type\":\"object\"}") _ object_back
    (untyped-object (codes "Object") (codes "Object") (codes "object") session number)

-- the beginning of a cell, the id of its handle, and its end are the whole object
pub cell-written : (s : Sight) (cell : Option Cell) (session : ℕ) (number : Option ℕ)
    → cell_front s cell ++ (id_text session number ++ cell_back cell)
    ≡ compact_text (object_of (cell_pairs s cell ++ id_pairs session number))
cell-written s (Some (cells.Error class ps)) session number =
    let shown = cell_text s.world (Some (cells.Error class ps)) in
    with_back (front_of (class_text class) shown) (id_text session number)
    (subtype_back (codes "error") (codes "object")) (codes ",\"subtype\":\"error\",\"type\":\"object\"}") _ error_back
    (subtyped_object (class_text class) shown (codes "error") (codes "object") session number)
cell-written s (Some (cells.Array vs)) session number =
    with_back (front_of (codes "Array") (array_text (length vs))) (id_text session number)
    (subtype_back (codes "array") (codes "object")) (codes ",\"subtype\":\"array\",\"type\":\"object\"}") _ array_back
    (subtyped_object (codes "Array") (array_text (length vs)) (codes "array") (codes "object") session number)
cell-written s (Some (cells.Function code name len scope receiver)) session number =
    with_back (front_of (codes "Function") (function_text s code name)) (id_text session number)
    (type_back (codes "function")) (codes ",\"type\":\"function\"}") _ function_back
    (untyped-object (codes "Function") (function_text s code name) (codes "function") session number)
cell-written s (Some (cells.Object ps)) session number = plain-cell session number
cell-written s (Some (cells.Text us)) session number = plain-cell session number
cell-written s (Some (cells.Bindings kind name outer names)) session number = plain-cell session number
cell-written s None session number = plain-cell session number
