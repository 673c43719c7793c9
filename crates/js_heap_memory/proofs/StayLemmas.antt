-- Cells with known names stay where the table goes on.
use Rattle.std.proofs.Common.{◌≡◌, ℕ, ◌≤◌, List, ◌++◌, [], ◌∷◌, None, length, refl, ap, subst}
use Rattle.js_heap.specs.World.{World}
use Rattle.js_heap_memory.specs.declared.stored.Slot.{Slot}
use Rattle.js_heap_memory.specs.declared.stored.FunctionName.{FunctionName}
use Rattle.js_heap_memory.specs.declared.stored.FunctionName.TheVariants as function_names
use Rattle.js_heap_memory.specs.declared.stored.Stored.{Stored}
use Rattle.js_heap_memory.specs.declared.stored.Stored.TheVariants as stored
use Rattle.js_heap_memory.specs.Cells.{name_text, bindings, cell_of, cells_of, SlotsWithin, NameWithin, Within, AllWithin}
use Rattle.js_heap_memory.specs.Heaps.{Heap, Fit, heap_world}
use Rattle.js_heap_memory.proofs.GrowLemmas.{name-stays}
use Rattle.js_heap_memory.proofs.WithinLemmas.{cells-more}

pub bindings-stay : (ts us : List (List ℕ)) (ss : List Slot)
    → SlotsWithin (length ts) ss
    → bindings (ts ++ us) ss ≡ bindings ts ss
bindings-stay ts us [] h = refl
bindings-stay ts us (s ∷ ss) h = rw (name-stays ts us s.name.number h.0, bindings-stay ts us ss h.1) refl

text_stays : (ts us : List (List ℕ)) (n : FunctionName)
    → NameWithin (length ts) n
    → name_text (ts ++ us) n ≡ name_text ts n
text_stays ts us function_names.Empty h = refl
text_stays ts us (function_names.Known n) h = name-stays ts us n.number h
text_stays ts us (function_names.Made t) h = refl

pub cell-stays : (ts us : List (List ℕ)) (c : Stored) → Within (length ts) c → cell_of (ts ++ us) c ≡ cell_of ts c
cell-stays ts us (stored.Scope k n o ss) h = rw (text_stays ts us n h.0, bindings-stay ts us ss h.1) refl
cell-stays ts us (stored.Function f) h = rw (text_stays ts us f.value.name h) refl
cell-stays ts us (stored.Object ps) h = refl
cell-stays ts us (stored.Error class ps) h = refl
cell-stays ts us (stored.Array vs) h = refl
cell-stays ts us (stored.Text t) h = refl

pub cells-stay : (ts us : List (List ℕ)) (cs : List Stored)
    → AllWithin (length ts) cs
    → cells_of (ts ++ us) cs ≡ cells_of ts cs
cells-stay ts us [] h = refl
cells-stay ts us (c ∷ cs) h = rw (cell-stays ts us c h.0, cells-stay ts us cs h.1) refl

pub goes-on : (h g : Heap)
    → h ≡ g
    → Fit h.cells h.ends h.cells_left
    → (ts us : List (List ℕ))
    → g.ends ≤ length ts
    → heap_world (ts ++ us) g ≡ heap_world ts g
goes-on h g e f ts us l =
    let P : Heap → Type 0 = λ x. x.ends ≤ length ts → heap_world (ts ++ us) x ≡ heap_world ts x in
    let base : h.ends ≤ length ts
    → heap_world (ts ++ us) h ≡ heap_world ts h = λ k. ap
    (λ xs. let w : World = record {
      base = xs;
      scratch = [];
      start = None;
      room = record {
        cells = h.cells_left;
        units = h.units_left;
      };
    } in
    w)
    (cells-stay ts us h.cells (cells-more h.ends (length ts) h.cells k f.within)) in
    subst P e base l
