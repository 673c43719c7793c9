-- The texts of properties, piece by piece, and of lists that are written one after another.
use Rattle.std.proofs.Common.{◌≡◌, ℕ, ◌+◌, Bool, true, false, Option, Some, None, List, [], ◌∷◌, ◌++◌, length, map, pos, codes, refl, sym, ap, ◌∙◌, subst, append_assoc, append-nil, arith}
use Rattle.std.specs.Char.{encode_utf8}
use Rattle.std.specs.Char.Utf16.{utf16_chars}
use Rattle.json.specs.Print.{escape_byte}
use Rattle.cdp_text.specs.Units.{utf8_of}
use Rattle.js_heap.specs.declared.cell.Binding.{Binding}
use Rattle.js_heap.specs.declared.cell.Cell.{Cell}
use Rattle.js_heap.specs.declared.cell.Cell.TheVariants as cells
use Rattle.js_heap.specs.declared.cell.Property.{Property}
use Rattle.js_heap.specs.declared.value.Value.{Value}
use Rattle.js_heap.specs.declared.value.Value.TheVariants as values
use Rattle.js_heap_parts.specs.Parts as parts
use Rattle.js_heap_parts.specs.Parts.{CellPart, bound_part, length_part, name_parts, names_parts, object_parts, property_parts, scope_parts}
use Rattle.object_groups.specs.Handles.{HeldHandles}
use Rattle.cdp_json.specs.Json as json
use Rattle.cdp_json.specs.Compact.{compact_text, string_text, with_commas}
use Rattle.cdp_json.specs.Parts.{list_of, object_of}
use Rattle.cdp_json.specs.Pieces.{Wrote, comma_if, commas_after, object_in_order}
use Rattle.cdp_json.proofs.PieceLemmas.{further, list-is, object-is, text_all, text_more, written-as}
use Rattle.remote_objects.specs.Descriptors.{FlaggedProperty, a_value, array_length, binding_slots, descriptor, descriptor_of, element_slot, elements_from, fixed_slot, function_slots, names_slots, object_slots, property_slot, scope_slots}
use Rattle.remote_objects.specs.Making.{Made, made_all}
use Rattle.remote_objects.specs.Previews.{has_preview}
use Rattle.remote_objects.specs.Sights.{Sight}
use Rattle.remote_objects.specs.Slots.{part_slot, text_slot}
use Rattle.remote_objects.specs.Values.{text_pairs}
use Rattle.remote_objects.specs.Written.{flags_front, listed_text, truth_text, value_back}
use Rattle.remote_objects.specs.declared.detail.Detail.{Detail}
use Rattle.remote_objects.specs.declared.slots.Flags.{Flags}

-- ---- one property

slot_pieces : (c e n v w : List ℕ)
    → object_in_order
    ((codes "configurable", c) ∷ (codes "enumerable", e) ∷ (codes "isOwn", codes "true") ∷ (codes "name", n)
    ∷ (codes "value", v) ∷ (codes "writable", w) ∷ [])
    ≡ codes "{\"configurable\":" ++
    (c ++ (codes ",\"enumerable\":" ++
    (e ++ (codes ",\"isOwn\":true,\"name\":" ++
    (n ++ (codes ",\"value\":" ++ (v ++ (codes ",\"writable\":" ++ (w ++ codes "}")))))))))
unfolding utf8_of utf16_chars encode_utf8 escape_byte
slot_pieces c e n v w = refl

flags_behind : (c e rest : List ℕ)
    → (codes "{\"configurable\":" ++
    (c ++ (codes ",\"enumerable\":" ++ (e ++ codes ",\"isOwn\":true,\"name\":")))) ++ rest
    ≡ codes "{\"configurable\":" ++
    (c ++ (codes ",\"enumerable\":" ++ (e ++ (codes ",\"isOwn\":true,\"name\":" ++ rest))))
flags_behind c e rest =
    ap (λ s. codes "{\"configurable\":" ++ s)
    (append_assoc c (codes ",\"enumerable\":" ++ (e ++ codes ",\"isOwn\":true,\"name\":")) rest
    ∙ ap (λ s. c ++ (codes ",\"enumerable\":" ++ s)) (append_assoc e (codes ",\"isOwn\":true,\"name\":") rest))

-- the flags, the name, the value and the end are the whole property
pub property-written : (p : FlaggedProperty) (value : json.Json)
    → flags_front p.configurable p.enumerable ++ (string_text p.name ++ value_back p.writable (compact_text value))
    ≡ compact_text (descriptor_of p value)
property-written p value =
    let c = truth_text p.configurable in
    let e = truth_text p.enumerable in
    let n = string_text p.name in
    let v = compact_text value in
    let w = truth_text p.writable in
    flags_behind c e (n ++ value_back p.writable v)
    ∙ (sym (slot_pieces c e n v w)
    ∙ sym (object-is
    ((codes "configurable", json.boolean p.configurable) ∷ (codes "enumerable", json.boolean p.enumerable)
    ∷ (codes "isOwn", json.boolean true) ∷ (codes "name", json.text p.name) ∷ (codes "value", value)
    ∷ (codes "writable", json.boolean p.writable) ∷ [])
    ((codes "configurable", c) ∷ (codes "enumerable", e) ∷ (codes "isOwn", codes "true") ∷ (codes "name", n)
    ∷ (codes "value", v) ∷ (codes "writable", w) ∷ []) refl))

-- ---- lists

-- what was written, with what is left, is the whole
pub record Continues (now all : List ℕ) (behind : Bool) (left whole : Made (List json.Json)) : Type 0 where
  pub text : now ++ commas_after behind (map compact_text left.made) ≡ all
  pub handles : left.handles ≡ whole.handles

-- one more is written
pub text-on : {Y : Type 0} (f : Y → HeldHandles → Made json.Json) (ys : List Y) (y : Y) (rest : List Y)
    (behind next : Bool) (now new all : List ℕ) (h g : HeldHandles) (whole : Made (List json.Json))
    → ys ≡ y ∷ rest → next ≡ true → Wrote now (comma_if behind ++ compact_text (f y h).made) new → g ≡ (f y h).handles
    → Continues now all behind (made_all f ys h) whole → Continues new all next (made_all f rest g) whole
text-on {Y} f ys y rest behind next now new all h g whole e more put d inv =
    let P : List Y → Type 0 = λ zs. Continues now all behind (made_all f zs h) whole in
    let here = subst P e inv in
    record {
      text =
          ap (λ k. new ++ commas_after next (map compact_text (made_all f rest k).made)) d
          ∙ text_more behind next now new (compact_text (f y h).made) all
          (map compact_text (made_all f rest (f y h).handles).made) more put here.text;
      handles = ap (λ k. (made_all f rest k).handles) d ∙ here.handles;
    }

-- nothing is left
pub all-written : {Y : Type 0} (f : Y → HeldHandles → Made json.Json) (ys : List Y) (behind : Bool) (now all : List ℕ)
    (h : HeldHandles) (whole : Made (List json.Json))
    → ys ≡ []
    → Continues now all behind (made_all f ys h) whole
    → (now ≡ all) × (h ≡ whole.handles)
all-written {Y} f ys behind now all h whole e inv =
    let P : List Y → Type 0 = λ zs. Continues now all behind (made_all f zs h) whole in
    let here = subst P e inv in
    (text_all behind now all [] refl here.text, here.handles)

-- ---- parts of cells

-- what is listed, of properties in other words
pub listed-as : (f : FlaggedProperty → HeldHandles → Made json.Json) (ps qs : List FlaggedProperty) (h : HeldHandles)
    {old new : List ℕ}
    → ps ≡ qs → Wrote old (listed_text (made_all f ps h)) new → Wrote old (listed_text (made_all f qs h)) new
listed-as f ps qs h same e = written-as (ap (λ xs. listed_text (made_all f xs h)) same) e

-- and the handles
pub kept-as : (f : FlaggedProperty → HeldHandles → Made json.Json) (ps qs : List FlaggedProperty) (h g : HeldHandles)
    → ps ≡ qs → g ≡ (made_all f ps h).handles → g ≡ (made_all f qs h).handles
kept-as f ps qs h g same e = e ∙ ap (λ xs. (made_all f xs h).handles) same

property_slots : (ps : List Property) → map part_slot (property_parts ps) ≡ map property_slot ps
property_slots [] = refl
property_slots (p ∷ ps) = ap (λ xs. property_slot p ∷ xs) (property_slots ps)

element_slots : (i n : ℕ) (vs : List Value) → i + length vs ≡ n
    → map part_slot (parts.elements_from i vs ++ length_part n ∷ []) ≡ elements_from i vs
element_slots i n [] size =
    let same : n ≡ i = omega (arith, size) in
    ap (λ m. array_length m ∷ []) same
element_slots i n (v ∷ vs) size =
    let more : (i + 1) + length vs ≡ n = omega (arith, size) in
    ap (λ xs. element_slot i v ∷ xs) (element_slots (i + 1) n vs more)

-- the parts of an object that is no function, as a function has no preview, are its properties
pub object-slots : (cell : Option Cell) → has_preview cell ≡ true
    → map part_slot (object_parts cell) ≡ object_slots cell
object-slots (Some (cells.Object ps)) has = property_slots ps
object-slots (Some (cells.Error class ps)) has = property_slots ps
object-slots (Some (cells.Array vs)) has =
    let size : 0 + length vs ≡ length vs = omega arith in
    element_slots 0 (length vs) vs size
object-slots (Some (cells.Function code name len scope receiver)) has = cc
object-slots (Some (cells.Text us)) has = refl
object-slots (Some (cells.Bindings kind name outer names)) has = refl
object-slots None has = refl

name_slots : (name : List ℕ) (constant : Bool) (value : Option Value) (ps : List CellPart) (qs : List FlaggedProperty)
    → map part_slot ps ≡ qs
    → map part_slot (name_parts name constant value ++ ps) ≡ binding_slots name constant value ++ qs
name_slots name constant None ps qs e = e
name_slots name constant (Some v) ps qs e = ap (λ xs. part_slot (bound_part name constant v) ∷ xs) e

names_slots_are : (bs : List Binding) → map part_slot (names_parts bs) ≡ names_slots bs
names_slots_are [] = refl
names_slots_are (b ∷ bs) =
    name_slots b.name b.constant b.value (names_parts bs) (names_slots bs) (names_slots_are bs)

-- the parts of a scope are its names that have a value
pub scope-slots : (cell : Option Cell) → map part_slot (scope_parts cell) ≡ scope_slots cell
scope-slots (Some (cells.Object ps)) = refl
scope-slots (Some (cells.Error class ps)) = refl
scope-slots (Some (cells.Array vs)) = refl
scope-slots (Some (cells.Function code name len scope receiver)) = refl
scope-slots (Some (cells.Text us)) = refl
scope-slots (Some (cells.Bindings kind name outer names)) = names_slots_are names
scope-slots None = refl

-- ---- functions

-- the flags of a function's length and name
abbrev pub function_flags : Flags
function_flags = record { writable = false; enumerable = false; configurable = true }

pub function-written : (s : Sight) (detail : Detail) (group : Option (List ℕ)) (l name : List ℕ) (len : ℕ)
    (h : HeldHandles) {old one comma new : List ℕ}
    → l ≡ codes "name"
    → Wrote old
    (compact_text (descriptor s detail group (fixed_slot (codes "length") (a_value (values.Number (pos len)))) h).made)
    one
    → Wrote one (codes ",") comma
    → Wrote comma (compact_text (descriptor_of (text_slot l name function_flags) (object_of (text_pairs name)))) new
    → Wrote old (listed_text (made_all (descriptor s detail group) (function_slots len name) h)) new
function-written s detail group l name len h is put between last =
    let t = compact_text
    (descriptor s detail group (fixed_slot (codes "length") (a_value (values.Number (pos len)))) h).made in
    let u : List ℕ → List ℕ = λ key.
    compact_text (descriptor_of (text_slot key name function_flags) (object_of (text_pairs name))) in
    written-as
    (ap (λ key. t ++ (codes "," ++ u key)) is ∙ ap (λ s. t ++ 44 ∷ s) (sym (append-nil (u (codes "name")))))
    (further put (further between last))

-- ---- the list

pub list-written : (js : List json.Json)
    → codes "[" ++ (with_commas (map compact_text js) ++ codes "]") ≡ compact_text (list_of js)
list-written js = sym (list-is js)
