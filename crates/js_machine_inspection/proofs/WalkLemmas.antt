-- Walks over the active frames: so many tasks hold so many frames.
use Rattle.std.proofs.Common.{◌≡◌, ℕ, zero, suc, ◌+◌, ◌≤◌, Bool, true, false, List, [], ◌∷◌, length, drop, Option, Some, None, slice_get, if◌then◌else◌, refl, sym, ap, ◌∙◌}
use Rattle.std.proofs.lemmas.List.{drop_all, drop-drop}
use Rattle.js_heap.specs.declared.value.Addr.{Addr}
use Rattle.js_machine_engine.specs.Tasks.{Wide, scope_of}
use Rattle.js_machine_inspection.specs.Scopes.{is_frame_at, call_scopes, frame_scopes}
use Rattle.js_machine_inspection.specs.Walks.{scopes_behind, IsWalked}
use Rattle.js_machine_inspection.specs.declared.walks.Walked.{Walked}
use Rattle.js_machine_inspection.proofs.FrameLemmas.{calls_at}

-- ---- the next body of a call

-- a task is one
pub call-here : (root : Addr) (ws : List Wide) (i : ℕ) (b : Bool)
    → b ≡ is_frame_at (slice_get ws i)
    → b ≡ true
    → call_scopes root (drop i ws) ≡ frame_scopes root (drop (i + 1) ws)
call-here root ws i b e p =
    let P : Bool
    → List Addr = λ c. if c then frame_scopes root (drop (i + 1) ws) else call_scopes root (drop (i + 1) ws) in
    calls_at root ws i b e ∙ ap P p

-- it isn't
pub call-passed : (root : Addr) (ws : List Wide) (i : ℕ) (b : Bool)
    → b ≡ is_frame_at (slice_get ws i)
    → b ≡ false
    → call_scopes root (drop i ws) ≡ call_scopes root (drop (i + 1) ws)
call-passed root ws i b e p =
    let P : Bool
    → List Addr = λ c. if c then frame_scopes root (drop (i + 1) ws) else call_scopes root (drop (i + 1) ws) in
    calls_at root ws i b e ∙ ap P p

-- no task is left
pub call-none : (root : Addr) (ws : List Wide) (i : ℕ) → length ws ≤ i → call_scopes root (drop i ws) ≡ []
call-none root ws i l = ap (call_scopes root) (drop_all i ws l)

-- ---- a walk

-- the first of what is left is the next one
get-behind : {A : Type 0} (xs : List A) (n : ℕ) → slice_get xs n ≡ slice_get (drop n xs) 0
get-behind [] zero = refl
get-behind [] (suc n) = refl
get-behind (x ∷ xs) zero = refl
get-behind (x ∷ xs) (suc n) = get-behind xs n

-- its scope, where a task is left
pub scope-next : (root : Addr) (ws : List Wide) (w : Walked) (tasks : ℕ) (a : Addr)
    → IsWalked root ws w
    → w.tasks ≡ Some tasks
    → a ≡ scope_of root (drop tasks ws)
    → Some a ≡ slice_get (frame_scopes root ws) w.frames
scope-next root ws w tasks a h e s =
    ap (λ x. Some x) s
    ∙ sym (get-behind (frame_scopes root ws) w.frames
    ∙ ap (λ xs. slice_get xs 0) (h ∙ ap (scopes_behind root ws) e))

-- and where none is
pub scope-gone : (root : Addr) (ws : List Wide) (w : Walked)
    → IsWalked root ws w
    → w.tasks ≡ None
    → None ≡ slice_get (frame_scopes root ws) w.frames
scope-gone root ws w h e =
    sym (get-behind (frame_scopes root ws) w.frames
    ∙ ap (λ xs. slice_get xs 0) (h ∙ ap (scopes_behind root ws) e))

-- one frame further out
pub walked-outward : (root : Addr) (ws : List Wide) (frames : ℕ) (tasks more_tasks : Option ℕ)
    → drop frames (frame_scopes root ws) ≡ scopes_behind root ws tasks
    → drop 1 (scopes_behind root ws tasks) ≡ scopes_behind root ws more_tasks
    → drop (frames + 1) (frame_scopes root ws) ≡ scopes_behind root ws more_tasks
walked-outward root ws frames tasks more_tasks h e =
    sym (drop-drop 1 frames (frame_scopes root ws)) ∙ ap (drop 1) h ∙ e
