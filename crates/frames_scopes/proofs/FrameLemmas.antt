-- The walk over active frames, one after another.
use Rattle.std.proofs.Common.{◌≡◌, ℕ, zero, suc, ◌+◌, ◌<◌, ◌≤◌, List, [], ◌∷◌, length, drop, map, Option, None, Some, refl, sym, ap, ◌∙◌, arith, add-one}
use Rattle.std.specs.Prelude.{slice_get}
use Rattle.js_heap.specs.declared.value.Addr.{Addr}
use Rattle.js_heap.specs.World.{World}
use Rattle.js_tree.specs.declared.script.Script.{Script}
use Rattle.js_semantics.specs.declared.form.Mark.{Mark}
use Rattle.js_semantics.specs.Terms.{Term}
use Rattle.js_semantics.specs.State.{Frame, State, spot_of}
use Rattle.js_semantics.specs.Frames.{active, at, shown_frames, scopes_at, reversed_onto, frames, frame_at}
use Rattle.js_machine_inspection.specs.Sources.{spans_in}
use Rattle.std.specs.Iterator.{YieldsFirstBy}
use Rattle.frames_scopes.specs.declared.frames.FrameView.{FrameView}
use Rattle.frames_scopes.specs.FrameViews.{frame_shown}
use Rattle.frames_scopes_types.specs.Frames.{ShownFrame}
use Rattle.frames_scopes.specs.Frames.{arrived, here_at, shown_frame, listed_frames, walk}
use Rattle.js_semantics.proofs.DepthLaws.{shown-length, scopes-length}

-- ---- lists

map-at : {A B : Type 0} (g : A → B) (xs : List A) (d : ℕ) (x : A)
    → slice_get xs d ≡ Some x
    → drop d (map g xs) ≡ g x ∷ drop (suc d) (map g xs)
map-at g [] d x e = cc
map-at g (y ∷ ys) zero x e = let k : y ≡ x = cc in ap (λ z. g z ∷ map g ys) k
map-at g (y ∷ ys) (suc d) x e = map-at g ys d x e

map-none : {A B : Type 0} (g : A → B) (xs : List A) (d : ℕ) → slice_get xs d ≡ None → drop d (map g xs) ≡ []
map-none g [] zero e = refl
map-none g [] (suc d) e = refl
map-none g (y ∷ ys) zero e = cc
map-none g (y ∷ ys) (suc d) e = map-none g ys d e

get-past : {A : Type 0} (xs : List A) (d : ℕ) → length xs ≤ d → slice_get xs d ≡ None
get-past [] d h = refl
get-past (x ∷ xs) zero h = absurd (omega arith)
get-past (x ∷ xs) (suc d) h = get-past xs d (omega arith)

-- ---- listed frames

arrived-here : (m : Option Mark) (f : Frame) → arrived m f ≡ record f { here = here_at m zero f }
arrived-here None f = refl
arrived-here (Some k) f = refl

listed-some : (scripts : List Script) (w : World) (m : Option Mark) (fs : List Frame) (d : ℕ) (f : Frame)
    → slice_get fs d ≡ Some f
    → drop d (listed_frames scripts w m fs) ≡ shown_frame scripts w (record f { here = here_at m d f }) ∷ drop (suc d)
    (listed_frames scripts w m fs)
listed-some scripts w m [] d f e = cc
listed-some scripts w m (g ∷ fs) zero f e =
    let k : g ≡ f = cc in
    ap (λ x. shown_frame scripts w (arrived m x) ∷ map (shown_frame scripts w) fs) k
    ∙ ap (λ x. shown_frame scripts w x ∷ map (shown_frame scripts w) fs) (arrived-here m f)
listed-some scripts w m (g ∷ fs) (suc d) f e = map-at (shown_frame scripts w) fs d f e

listed-none : (scripts : List Script) (w : World) (m : Option Mark) (fs : List Frame) (d : ℕ)
    → slice_get fs d ≡ None
    → drop d (listed_frames scripts w m fs) ≡ []
listed-none scripts w m [] zero e = refl
listed-none scripts w m [] (suc d) e = refl
listed-none scripts w m (g ∷ fs) zero e = cc
listed-none scripts w m (g ∷ fs) (suc d) e = map-none (shown_frame scripts w) fs d e

-- ---- how many there are

frames-length : (root : Addr) (t : Term) (s : State) → length (frames root t s) ≡ length s.frames
frames-length root t s =
    scopes-length (shown_frames (active t) s.frames) (reversed_onto (scopes_at root t) [])
    ∙ shown-length (active t) s.frames

map-length : {A B : Type 0} (g : A → B) (xs : List A) → length (map g xs) ≡ length xs
map-length g [] = refl
map-length g (x ∷ xs) = ap suc (map-length g xs)

listed-length : (scripts : List Script) (w : World) (m : Option Mark) (fs : List Frame)
    → length (listed_frames scripts w m fs) ≡ length fs
listed-length scripts w m [] = refl
listed-length scripts w m (f ∷ fs) = ap suc (map-length (shown_frame scripts w) fs)

pub walk-length : (scripts : List Script) (root : Addr) (t : Term) (s : State)
    → length (walk scripts root t s) ≡ length s.frames
walk-length scripts root t s =
    listed-length scripts s.world (at (spans_in scripts (spot_of s).source) t) (frames root t s)
    ∙ frames-length root t s

-- ---- the walk

pub walk-some : (scripts : List Script) (root : Addr) (t : Term) (s : State) (d : ℕ) (f : Frame)
    → frame_at d root t s ≡ Some f
    → drop d (walk scripts root t s) ≡ shown_frame scripts s.world
    (record f { here = here_at (at (spans_in scripts (spot_of s).source) t) d f }) ∷ drop (d + 1)
    (walk scripts root t s)
walk-some scripts root t s d f e =
    rw add-one (listed-some scripts s.world (at (spans_in scripts (spot_of s).source) t) (frames root t s) d f e)

pub walk-none : (scripts : List Script) (root : Addr) (t : Term) (s : State) (d : ℕ)
    → frame_at d root t s ≡ None
    → drop d (walk scripts root t s) ≡ []
walk-none scripts root t s d e =
    listed-none scripts s.world (at (spans_in scripts (spot_of s).source) t) (frames root t s) d e

pub walk-past : (scripts : List Script) (root : Addr) (t : Term) (s : State) (d : ℕ)
    → length s.frames ≤ d
    → drop d (walk scripts root t s) ≡ []
walk-past scripts root t s d h =
    let l : length (frames root t s) ≡ length s.frames = frames-length root t s in
    walk-none scripts root t s d (get-past (frames root t s) d (omega arith))

-- the next one, at the place and as the code shows it
pub walk-next : (scripts : List Script) (root : Addr) (t : Term) (s : State) (d after : ℕ) (f : Frame) (h : Mark)
    (shown : ShownFrame)
    → after ≡ d + 1
    → frame_at d root t s ≡ Some f
    → h ≡ here_at (at (spans_in scripts (spot_of s).source) t) d f
    → shown ≡ shown_frame scripts s.world (record f { here = h })
    → drop d (walk scripts root t s) ≡ shown ∷ drop after (walk scripts root t s)
walk-next scripts root t s d after f h shown l e k q =
    walk-some scripts root t s d f e
    ∙ ap (λ m. shown_frame scripts s.world (record f { here = m }) ∷ drop (d + 1) (walk scripts root t s)) (sym k)
    ∙ ap (λ x. x ∷ drop (d + 1) (walk scripts root t s)) (sym q)
    ∙ ap (λ n. shown ∷ drop n (walk scripts root t s)) (sym l)

-- ---- one frame of the walk

get-behind : {A : Type 0} (xs : List A) (d : ℕ) (left : List A) → drop d xs ≡ left → slice_get xs d ≡ slice_get left 0
get-behind [] zero left e = ap (λ ys. slice_get ys 0) e
get-behind [] (suc d) left e = ap (λ ys. slice_get ys 0) e
get-behind (x ∷ xs) zero left e = ap (λ ys. slice_get ys 0) e
get-behind (x ∷ xs) (suc d) left e = get-behind xs d left e

-- the frame at a depth, as the code shows it
pub walk-at : (scripts : List Script) (root : Addr) (t : Term) (s : State) (d : ℕ) (f : Frame) (h : Mark)
    (shown : ShownFrame)
    → frame_at d root t s ≡ Some f
    → h ≡ here_at (at (spans_in scripts (spot_of s).source) t) d f
    → shown ≡ shown_frame scripts s.world (record f { here = h })
    → Some shown ≡ slice_get (walk scripts root t s) d
walk-at scripts root t s d f h shown e k q =
    sym (get-behind (walk scripts root t s) d _ (walk-next scripts root t s d (d + 1) f h shown refl e k q))

-- and where there is none
pub walk-gone : (scripts : List Script) (root : Addr) (t : Term) (s : State) (d : ℕ)
    → frame_at d root t s ≡ None
    → None ≡ slice_get (walk scripts root t s) d
walk-gone scripts root t s d e = sym (get-behind (walk scripts root t s) d [] (walk-none scripts root t s d e))

-- ---- what is given

-- nothing is given where nothing is left
pub none-left : (left : List ShownFrame) (r : Option FrameView)
    → left ≡ []
    → r ≡ None
    → YieldsFirstBy frame_shown (λ l. l) left r left
none-left left None e k = (e, e)
none-left left (Some v) e k = cc

pub one-less : {A : Type 0} (xs : List A) (x : A) (ys : List A) → xs ≡ x ∷ ys → length ys < length xs
one-less xs x ys e = let l : length xs ≡ suc (length ys) = ap length e in omega arith
