-- The cells of evaluations on which a session holds handles.
use Rattle.std.proofs.Common.{◌≡◌, ℕ, zero, suc, Bool, true, false, cond, ◌||◌, List, [], ◌∷◌, ◌++◌, length, take, slice_get, refl, sym, ap, ◌∙◌, inl, inr}
use Rattle.std.specs.Prelude.{Option, Some}
use Rattle.std.specs.List.{find, list_any}
use Rattle.js_heap.specs.declared.cell.Cell.{Cell}
use Rattle.js_heap.specs.declared.value.Addr.{Addr}
use Rattle.js_heap.specs.declared.value.Addr.TheVariants.{Base, Scratch}
use Rattle.js_heap.specs.ScratchSpaces.{ScratchSpace}
use Rattle.object_groups.specs.Handles.{has_number, is_on_scratch}
use Rattle.object_groups.specs.declared.handle.Handle.{Handle}
use Rattle.object_groups.specs.declared.handle.Target.{Target}
use Rattle.object_groups.specs.declared.handle.Target.TheVariants.{Object, Scope}
use Rattle.pure_eval.specs.Workspaces.{Workspace}
use Rattle.cdp_session.specs.Objects.{handle_of, numbered}
use Rattle.cdp_session.specs.Sessions.{Session, fresh}
use Rattle.cdp_session_laws.specs.Cells.{address_of, cell_at, cell_of}
use Rattle.cdp_session_laws.specs.Events.{Event, after_all, after_event, lived}
use Rattle.cdp_session_laws.specs.Handles.{IsOrdered, NoneEnds, ends}
use Rattle.cdp_session_laws.proofs.RowLemmas.{CellsStay}
use Rattle.cdp_session_laws.proofs.EventLemmas.{event-leaves, ordered}
use Rattle.cdp_session_laws.proofs.LifeLemmas.{after-both, found-held, stays-by}

-- what is there in the first part of a list is there in the list
there-in : {A : Type 0} (k : ℕ) (xs : List A) (i : ℕ) (a : A)
    → slice_get (take k xs) i ≡ Some a
    → slice_get xs i ≡ Some a
there-in zero xs i a is = absurd cc
there-in (suc k) [] i a is = is
there-in (suc k) (x ∷ xs) zero a is = is
there-in (suc k) (x ∷ xs) (suc i) a is = there-in k xs i a is

-- a cell of before is there
still-there : (x y : ScratchSpace) (at : Addr) (c : Cell)
    → take (length x.cells) y.cells ≡ x.cells
    → cell_at x at ≡ Some c
    → cell_at y at ≡ Some c
still-there x y (Base i) c front is = absurd cc
still-there x y (Scratch i) c front is =
    there-in (length x.cells) y.cells i c (ap (λ cs. slice_get cs i) front ∙ is)

-- a handle that is found among some of which none is on a cell of an evaluation isn't
off-scratch : (n : ℕ) (hs : List Handle) (h : Handle)
    → list_any is_on_scratch hs ≡ false
    → numbered hs n ≡ Some h
    → is_on_scratch h ≡ false
off-scratch n [] h none is = absurd cc
off-scratch n (k ∷ hs) h none is = at (off-scratch n hs h) (has_number n k) (is_on_scratch k) refl none is
  where
    at : (list_any is_on_scratch hs ≡ false → numbered hs n ≡ Some h → is_on_scratch h ≡ false)
        → (b c : Bool)
        → is_on_scratch k ≡ c
        → (c || list_any is_on_scratch hs) ≡ false
        → cond b (Some k) (find (has_number n) hs) ≡ Some h
        → is_on_scratch h ≡ false
    at rest b true e none there = absurd cc
    at rest true false e none there =
        let same : k ≡ h = cc in
        ap is_on_scratch (sym same) ∙ e
    at rest false false e none there = rest none there

no-cell : (x : ScratchSpace) (t : Target) (n : ℕ) (g : Option (List ℕ)) (c : Cell)
    → is_on_scratch (record { number = n; target = t; group = g }) ≡ false
    → cell_at x (address_of t) ≡ Some c
    → ⊥
no-cell x (Object (Base i)) n g c off is = cc
no-cell x (Object (Scratch i)) n g c off is = cc
no-cell x (Scope (Base i)) n g c off is = cc
no-cell x (Scope (Scratch i)) n g c off is = cc

by-cells : (x y : Session) (h : Handle) (c : Cell)
    → numbered y.handles.held h.number ≡ Some h
    → CellsStay x y
    → cell_of x h ≡ Some c
    → cell_of y h ≡ Some c
by-cells x y h c found (inl front) is =
    still-there x.workspace.scratch y.workspace.scratch (address_of h.target) c front is
by-cells x y h c found (inr none) is =
    absurd (no-cell x.workspace.scratch h.target h.number h.group c
    (off-scratch h.number y.handles.held h none found) is)

cell-stays : (e : Event) (x : Session) (h : Handle) (c : Cell)
    → IsOrdered x.handles
    → numbered x.handles.held h.number ≡ Some h
    → ends e x h ≡ false
    → cell_of x h ≡ Some c
    → cell_of (after_event e x) h ≡ Some c
cell-stays e x h c o found spared is =
    by-cells x (after_event e x) h c (stays-by e x h o found spared) (event-leaves e x o).cells is

cells-stay : (es : List Event) (x : Session) (h : Handle) (c : Cell)
    → IsOrdered x.handles
    → numbered x.handles.held h.number ≡ Some h
    → NoneEnds es x h
    → cell_of x h ≡ Some c
    → cell_of (after_all es x) h ≡ Some c
cells-stay [] x h c o found none is = is
cells-stay (e ∷ es) x h c o found none is =
    cells-stay es (after_event e x) h c (event-leaves e x o).fate.ordered (stays-by e x h o found none.0) none.1
    (cell-stays e x h c o found none.0 is)

pub cell-of-id : (number : ℕ) (workspace : Workspace) (before after : List Event) (id : List ℕ) (h : Handle) (c : Cell)
    → handle_of (lived number workspace before) id ≡ Some h
    → NoneEnds after (lived number workspace before) h
    → cell_of (lived number workspace before) h ≡ Some c
    → cell_of (lived number workspace (before ++ after)) h ≡ Some c
cell-of-id number workspace before after id h c found none is =
    let x : Session = lived number workspace before in
    ap (λ y. cell_of y h) (after-both before after (fresh number workspace))
    ∙ cells-stay after x h c (ordered number workspace before) (found-held x id h found) none is
