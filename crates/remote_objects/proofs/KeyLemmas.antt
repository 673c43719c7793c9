-- What a preview lists is named by the keys of its object.
use Rattle.std.proofs.Common.{◌≡◌, ℕ, zero, suc, ◌+◌, List, [], ◌∷◌, ◌++◌, length, take, decimal, Bool, true, false, if◌then◌else◌, Option, Some, None, refl, sym, ap, ◌∙◌}
use Rattle.std.specs.Prelude.{map, nat_lt}
use Rattle.std.proofs.lemmas.List.{length-map}
use Rattle.js_heap.specs.declared.cell.Cell.{Cell}
use Rattle.js_heap.specs.declared.cell.Cell.TheVariants as cells
use Rattle.js_heap.specs.declared.cell.Property.{Property}
use Rattle.js_heap.specs.declared.value.Value.{Value}
use Rattle.js_heap.specs.World.{World}
use Rattle.js_semantics.specs.BuiltIns.{keys_of_cell, enumerable_keys, indices_from}
use Rattle.remote_objects.specs.Previews.{PreviewedProperty, entry, enumerable, indexed, entries, property_preview, most_listed}
use Rattle.remote_objects.specs.Laws.{ArePreviews, ListsFirstKeys, SaysWhetherMore}

abbrev pub entry_name : PreviewedProperty → List ℕ
entry_name e = e.name

named-if : (b : Bool) (p : Property) (es : List PreviewedProperty) (ks : List (List ℕ)) → map entry_name es ≡ ks
    → map entry_name ((if b then entry p.key p.value ∷ [] else []) ++ es) ≡ (if b then p.key ∷ ks else ks)
named-if true p es ks e = ap (λ names. p.key ∷ names) e
named-if false p es ks e = e

named-properties : (ps : List Property) → map entry_name (enumerable ps) ≡ enumerable_keys ps
named-properties [] = refl
named-properties (p ∷ ps) = named-if p.enumerable p (enumerable ps) (enumerable_keys ps) (named-properties ps)

named-elements : (i : ℕ) (vs : List Value) → map entry_name (indexed i vs) ≡ indices_from i vs
named-elements i [] = refl
named-elements i (v ∷ vs) = ap (λ names. decimal i ∷ names) (named-elements (i + 1) vs)

named-entries : (cell : Option Cell) → map entry_name (entries cell) ≡ keys_of_cell cell
named-entries (Some (cells.Object ps)) = named-properties ps
named-entries (Some (cells.Error class ps)) = named-properties ps
named-entries (Some (cells.Array vs)) = named-elements 0 vs
named-entries (Some (cells.Text us)) = refl
named-entries (Some (cells.Function code n l s t)) = refl
named-entries (Some (cells.Bindings k n b o)) = refl
named-entries None = refl

are-previews : (w : World) (n : ℕ) (es : List PreviewedProperty)
    → ArePreviews w (take n (map entry_name es)) (take n (map (property_preview w) es))
are-previews w zero [] = tt
are-previews w zero (e ∷ es) = tt
are-previews w (suc n) [] = tt
are-previews w (suc n) (e ∷ es) = ((e.value, refl), are-previews w n es)

pub lists-first-keys : ListsFirstKeys
lists-first-keys w cell = rw (← named-entries cell) (are-previews w (most_listed cell) (entries cell))

pub says-whether-more : SaysWhetherMore
says-whether-more w cell = ap (nat_lt (most_listed cell))
    (length-map (entries cell) (property_preview w)
    ∙ (sym (length-map (entries cell) entry_name) ∙ ap length (named-entries cell)))
