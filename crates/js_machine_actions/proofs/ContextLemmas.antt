-- Lemmas on performing actions in a context.
use Rattle.std.proofs.Common.{◌≡◌, ℕ, true, false, None, refl, ap, sym, ◌∙◌, subst, List, [], ◌∷◌, ◌++◌, Option, Some, length, drop, get_or, arith, ◌<◌, append_assoc}
use Rattle.std.specs.Prelude.{Ok, Err, option_to_list, slice_set}
use Rattle.js_heap.specs.World.{World, is_evaluation}
use Rattle.js_semantics.specs.declared.form.Mark.{Mark}
use Rattle.js_semantics.specs.State.{Frame, set_here, push_frame, pop_frame, moved_frames, rest_of, first_line, other_lines}
use Rattle.js_machine_actions.specs.declared.action_end.ActionEnd.TheVariants.{Effect}
use Rattle.js_machine_actions.specs.Flow.{performed}
use Rattle.js_machine_actions.specs.Contexts.{Context, Turns, Prints, Takes}

-- ---- the input

line_by : (xs : List (List ℕ)) (line : Option (List ℕ)) (rest : List (List ℕ))
    → xs ≡ option_to_list line ++ rest
    → rest ≡ drop 1 xs
    → (line ≡ first_line xs) × (rest ≡ other_lines xs)
line_by [] None rest e f = (refl, f)
line_by [] (Some l) rest e f = cc
line_by (x ∷ xs) None rest e f = absurd (omega (arith, ap length e, ap length f))
line_by (x ∷ xs) (Some l) rest e f = (cc, f)

takes_by : (w : World) (c : Context)
    → is_evaluation w ≡ false
    → Takes w c (Ok (first_line c.input)) (record c { input = other_lines c.input })
unfolding performed
takes_by w c p = λ taken k. rw p refl

pub takes-by : (w : World) (i c : Context)
    → i ≡ c
    → is_evaluation w ≡ false
    → (rest : List (List ℕ)) (line : Option (List ℕ))
    → i.input ≡ option_to_list line ++ rest
    → rest ≡ drop 1 i.input
    → Takes w c (Ok line) (record i { input = rest })
takes-by w i c e p rest line f g =
    let h = line_by i.input line rest f g in
    let P : Context → Type 0 = λ x. Takes w x (Ok line) (record i { input = rest }) in
    let Q : Option (List ℕ) → Type 0 = λ l. Takes w i (Ok l) (record i { input = rest }) in
    let R : List (List ℕ) → Type 0 = λ xs. Takes w i (Ok (first_line i.input)) (record i { input = xs }) in
    subst P e (subst Q (sym h.0) (subst R (sym h.1) (takes_by w i p)))

takes_none : (w : World) (c : Context) → is_evaluation w ≡ true → Takes w c (Err Effect) c
unfolding performed
takes_none w c p = λ taken k said. rw p refl

pub takes-none : (w : World) (c d : Context) → d ≡ c → is_evaluation w ≡ true → Takes w c (Err Effect) d
takes-none w c d e p = let P : Context → Type 0 = λ x. Takes w c (Err Effect) x in subst P (sym e) (takes_none w c p)

-- ---- printing

prints_by : (w : World) (c : Context)
    → is_evaluation w ≡ false
    → (text : List ℕ)
    → Prints text w c (Ok tt) (record c { printed = c.printed ++ text ∷ [] })
unfolding performed
prints_by w c p text = λ taken vs. rw (p, ← append_assoc taken c.printed (text ∷ [])) refl

pub prints-by : (w : World) (i c : Context)
    → i ≡ c
    → is_evaluation w ≡ false
    → (text : List ℕ) (all : List (List ℕ))
    → all ≡ i.printed ++ text ∷ []
    → Prints text w c (Ok tt) (record i { printed = all })
prints-by w i c e p text all f =
    let P : Context → Type 0 = λ x. Prints text w x (Ok tt) (record i { printed = all }) in
    let Q : List (List ℕ) → Type 0 = λ xs. Prints text w i (Ok tt) (record i { printed = xs }) in
    subst P e (subst Q (sym f) (prints_by w i p text))

prints_none : (w : World) (c : Context) (text : List ℕ) → is_evaluation w ≡ true → Prints text w c (Err Effect) c
unfolding performed
prints_none w c text p = λ taken vs said. rw p refl

pub prints-none : (w : World) (c d : Context) (text : List ℕ)
    → d ≡ c
    → is_evaluation w ≡ true
    → Prints text w c (Err Effect) d
prints-none w c d text e p =
    let P : Context → Type 0 = λ x. Prints text w c (Err Effect) x in subst P (sym e) (prints_none w c text p)

-- ---- frames

pushes_by : (c : Context) (f : Frame) → Turns (push_frame f) c (record c { frames = f ∷ c.frames })
unfolding performed
pushes_by c f = λ w taken k. refl

pub pushes-by : (i c : Context)
    → i ≡ c
    → (f : Frame) (fs : List Frame)
    → fs ≡ f ∷ i.frames
    → Turns (push_frame f) c (record i { frames = fs })
pushes-by i c e f fs g =
    let P : Context → Type 0 = λ x. Turns (push_frame f) x (record i { frames = fs }) in
    let Q : List Frame → Type 0 = λ xs. Turns (push_frame f) i (record i { frames = xs }) in
    subst P e (subst Q (sym g) (pushes_by i f))

rest_drop : (fs : List Frame) → drop 1 fs ≡ rest_of fs
rest_drop [] = refl
rest_drop (f ∷ fs) = refl

pops_by : (c : Context) → Turns pop_frame c (record c { frames = rest_of c.frames })
unfolding performed
pops_by c = λ w taken k. refl

pub pops-by : (i c : Context)
    → i ≡ c
    → (fs : List Frame)
    → fs ≡ drop 1 i.frames
    → Turns pop_frame c (record i { frames = fs })
pops-by i c e fs g =
    let P : Context → Type 0 = λ x. Turns pop_frame x (record i { frames = fs }) in
    let Q : List Frame → Type 0 = λ xs. Turns pop_frame i (record i { frames = xs }) in
    subst P e (subst Q (sym (g ∙ rest_drop i.frames)) (pops_by i))

sets_by : (c : Context) (m : Mark) → Turns (set_here m) c (record c { frames = moved_frames c.frames m })
unfolding performed
sets_by c m = λ w taken k. refl

pub sets-by : (i c : Context)
    → i ≡ c
    → (m : Mark) (fs : List Frame)
    → fs ≡ moved_frames i.frames m
    → Turns (set_here m) c (record i { frames = fs })
sets-by i c e m fs g =
    let P : Context → Type 0 = λ x. Turns (set_here m) x (record i { frames = fs }) in
    let Q : List Frame → Type 0 = λ xs. Turns (set_here m) i (record i { frames = xs }) in
    subst P e (subst Q (sym g) (sets_by i m))

-- the top frame's place
pub moved-top : (fs : List Frame) (f : Frame) (m : Mark)
    → 0 < length fs
    → f ≡ get_or fs 0 f
    → slice_set fs 0 (record f { here = m }) ≡ moved_frames fs m
moved-top [] f m h e = absurd (omega arith)
moved-top (g ∷ fs) f m h e = ap (λ (x : Frame). record x { here = m } ∷ fs) e

pub ruleset frame_rules = (moved-top)
