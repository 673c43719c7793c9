-- One active frame of those that are shown.
use Rattle.std.proofs.Common.{◌≡◌, ℕ, zero, suc, ◌-◌, List, [], ◌∷◌, length, Option, Some, None, slice_get, refl, sym, ap, ◌∙◌, arith}
use Rattle.js_heap.specs.declared.value.Addr.{Addr}
use Rattle.js_heap.specs.declared.value.Value.{Value}
use Rattle.js_heap.specs.World.{World, base_room}
use Rattle.js_semantics.specs.declared.form.Form.{Form}
use Rattle.js_semantics.specs.declared.form.Form.TheVariants.{Script as script}
use Rattle.js_semantics.specs.Terms.{Term}
use Rattle.js_semantics.specs.State.{Frame}
use Rattle.js_semantics.specs.Frames.{Active, reduces, stands, nothing_left, active, in_bottom, shown_frames, with_scopes, scopes_at, reversed_onto, depth, frame_at}
use Rattle.js_machine_actions.specs.Contexts.{Context, state_of}
use Rattle.js_machine_inspection.specs.Kinds.{active_kind, kind_of, opened_by}
use Rattle.js_machine_inspection.specs.Shown.{in_scope, at_script}

-- ---- the bottom frame at a script

bottom_of : (f : Form) (vs : List Value) (g : Frame) → in_bottom (reduces f vs) g ≡ at_script (opened_by (kind_of f)) g
bottom_of (script number names) vs g = refl
bottom_of f vs g = refl

bottom_kind : (a : Active) (g : Frame) → in_bottom a g ≡ at_script (opened_by (active_kind a)) g
bottom_kind (reduces f vs) g = bottom_of f vs g
bottom_kind (stands v place) g = refl
bottom_kind nothing_left g = refl

pub bottom-shown : (a : Active) (fs : List Frame) (d : ℕ) (f : Frame)
    → d ≡ length fs - 1
    → slice_get fs d ≡ Some f
    → slice_get (shown_frames a fs) d ≡ Some (at_script (opened_by (active_kind a)) f)
bottom-shown a [] d f e h = cc
bottom-shown a (g ∷ []) zero f e h =
    let q : g ≡ f = cc in
    ap (λ (x : Frame). Some (in_bottom a x)) q ∙ ap (λ x. Some x) (bottom_kind a f)
bottom-shown a (g ∷ []) (suc d) f e h = absurd (omega arith)
bottom-shown a (g ∷ k ∷ fs) zero f e h = absurd (omega arith)
bottom-shown a (g ∷ k ∷ fs) (suc d) f e h = bottom-shown a (k ∷ fs) d f (omega arith) h

pub other-shown : (a : Active) (fs : List Frame) (d : ℕ) (f : Frame)
    → (d ≡ length fs - 1 → ⊥)
    → slice_get fs d ≡ Some f
    → slice_get (shown_frames a fs) d ≡ Some f
other-shown a [] d f e h = cc
other-shown a (g ∷ []) zero f e h = absurd (e (omega arith))
other-shown a (g ∷ []) (suc d) f e h = cc
other-shown a (g ∷ k ∷ fs) zero f e h = h
other-shown a (g ∷ k ∷ fs) (suc d) f e h = other-shown a (k ∷ fs) d f (λ q. e (omega arith)) h

pub none-shown : (a : Active) (fs : List Frame) (d : ℕ) → slice_get fs d ≡ None → slice_get (shown_frames a fs) d ≡ None
none-shown a [] d h = refl
none-shown a (g ∷ []) zero h = cc
none-shown a (g ∷ []) (suc d) h = refl
none-shown a (g ∷ k ∷ fs) zero h = cc
none-shown a (g ∷ k ∷ fs) (suc d) h = none-shown a (k ∷ fs) d h

-- ---- with its scope

scoped_at : (fs : List Frame) (xs : List Addr) (d : ℕ) (f : Frame)
    → slice_get fs d ≡ Some f
    → slice_get (with_scopes fs xs) d ≡ Some (in_scope (slice_get xs d) f)
scoped_at [] xs d f h = cc
scoped_at (g ∷ fs) [] d f h = h
scoped_at (g ∷ fs) (x ∷ xs) zero f h =
    let q : g ≡ f = cc in
    ap (λ (k : Frame). Some (in_scope (Some x) k)) q
scoped_at (g ∷ fs) (x ∷ xs) (suc d) f h = scoped_at fs xs d f h

none_scoped : (fs : List Frame) (xs : List Addr) (d : ℕ)
    → slice_get fs d ≡ None
    → slice_get (with_scopes fs xs) d ≡ None
none_scoped [] xs d h = refl
none_scoped (g ∷ fs) [] d h = h
none_scoped (g ∷ fs) (x ∷ xs) zero h = cc
none_scoped (g ∷ fs) (x ∷ xs) (suc d) h = none_scoped fs xs d h

-- ---- the frame at a depth

pub frame-none : (d : ℕ) (root : Addr) (x : Term) (w : World) (c : Context) (taken : List (List ℕ))
    → slice_get c.frames d ≡ None
    → None ≡ frame_at d root x (state_of w c taken)
frame-none d root x w c taken h =
    sym (none_scoped (shown_frames (active x) c.frames) (reversed_onto (scopes_at root x) []) d
    (none-shown (active x) c.frames d h))

pub frame-some : (d : ℕ) (root : Addr) (x : Term) (w : World) (c : Context) (taken : List (List ℕ)) (f g : Frame)
    (scopes : List Addr) (o : Option Addr)
    → slice_get (shown_frames (active x) c.frames) d ≡ Some f
    → reversed_onto (scopes_at root x) [] ≡ scopes
    → o ≡ slice_get scopes d
    → g ≡ in_scope o f
    → Some g ≡ frame_at d root x (state_of w c taken)
frame-some d root x w c taken f g scopes o h s e i =
    ap (λ k. Some k) (i ∙ ap (λ p. in_scope p f) e ∙ ap (λ xs. in_scope (slice_get xs d) f) (sym s))
    ∙ sym (scoped_at (shown_frames (active x) c.frames) (reversed_onto (scopes_at root x) []) d f h)

-- ---- the bottom frame is as far out as calls are active

pub depth-count : (n : ℕ) (c : Context)
    → ((w : World) (taken : List (List ℕ)) → n ≡ depth (state_of w c taken))
    → n ≡ length c.frames - 1
depth-count n c h = h (record { base = []; scratch = []; start = None; room = base_room }) []
