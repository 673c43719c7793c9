-- Where the first of the listed frames stands, and how many there are.
use Rattle.std.proofs.Common.{◌≡◌, ℕ, zero, suc, ◌+◌, ◌-◌, Bool, true, false, List, [], ◌∷◌, length, map, slice_get, refl, sym, ap, ◌∙◌, arith}
use Rattle.std.specs.Prelude.{nat_eq, if◌then◌else◌, Option, Some, None}
use Rattle.std.specs.Option.{option_map}
use Rattle.std.proofs.lemmas.Option.{same_Some}
use Rattle.cdp_text.specs.declared.position.Place.{Place}
use Rattle.js_heap.specs.BuiltIns.{script_scope}
use Rattle.js_heap.specs.declared.value.Addr.{Addr}
use Rattle.js_heap.specs.World.{World}
use Rattle.js_tree.specs.declared.node.Span.{Span}
use Rattle.js_tree.specs.declared.script.Script.{Script}
use Rattle.js_tree.specs.Scripts.{script_numbered}
use Rattle.js_semantics.specs.declared.form.Form.TheVariants.{Script as script}
use Rattle.js_semantics.specs.declared.form.Mark.{Mark}
use Rattle.js_semantics.specs.declared.form.Source.{Source}
use Rattle.js_semantics.specs.declared.form.Source.TheVariants.{Script as script_source, Kept as kept_source}
use Rattle.js_semantics.specs.Depths.{RunListsFrames}
use Rattle.js_semantics.specs.Frames.{Active, active, arrival, frames, in_bottom, nothing_left, reduces, reversed_onto, scopes_at, shown_frames, stands, with_scopes}
use Rattle.js_semantics.specs.Run as runs
use Rattle.js_semantics.specs.Run.{Run, over, running}
use Rattle.js_semantics.specs.Sources.{terms_of_scripts}
use Rattle.js_semantics.specs.State.{Frame, top_spot}
use Rattle.js_semantics.proofs.SourceLemmas.{scripts-listed}
use Rattle.js_machine_inspection.specs.Sources.{spans_in}
use Rattle.locations_arrivals.specs.Arrivals.{ScriptsAreNumbered}
use Rattle.frames_scopes.specs.Frames.{listed_frames, shown_frame}
use Rattle.frames_scopes.specs.Places.{pos_in, shown_place}
use Rattle.cdp_host.specs.Arrivals.{place_at, place_in, place_of}
use Rattle.cdp_host.specs.Programs.{arrival_of, plain}
use Rattle.cdp_host.specs.Standings.{standing_of}
use Rattle.cdp_host_laws.specs.Tops.{IsFirstAt, StandsAtTop}

-- ---- how many there are

mapped-length : {A B : Type 0} (f : A → B) (xs : List A) → length (map f xs) ≡ length xs
mapped-length f [] = refl
mapped-length f (x ∷ xs) = ap suc (mapped-length f xs)

listed-length : (scripts : List Script) (w : World) (o : Option Mark) (fs : List Frame)
    → length (listed_frames scripts w o fs) ≡ length fs
listed-length scripts w o [] = refl
listed-length scripts w o (f ∷ fs) = ap suc (mapped-length (shown_frame scripts w) fs)

-- ---- places

-- a script that is looked up by a number has that number
number-there : (n : ℕ) (ss : List Script) (i : ℕ) (s : Script)
    → ScriptsAreNumbered n ss
    → slice_get ss i ≡ Some s
    → s.number ≡ n + i
number-there n [] i s h is = absurd cc
number-there n (x ∷ ss) zero s h is =
    let same : x ≡ s = same_Some x s is in
    let number : s.number ≡ x.number = ap (λ (y : Script). y.number) (sym same) in
    omega (arith, h.0, number)
number-there n (x ∷ ss) (suc i) s h is =
    let rest = number-there (n + 1) ss i s h.1 is in
    omega (arith, rest)

by-number : (scripts : List Script) (n : ℕ) (s : Script) (b : Bool)
    → nat_eq n 0 ≡ b
    → ScriptsAreNumbered 1 scripts
    → (if b then None else slice_get scripts (n - 1)) ≡ Some s
    → s.number ≡ n
by-number scripts n s true e h is = absurd cc
by-number scripts zero s false e h is = absurd cc
by-number scripts (suc k) s false e h is =
    let from = number-there 1 scripts (suc k - 1) s h is in
    omega (arith, from)

in-script : (scripts : List Script) (n : ℕ) (m : Mark) (place : Place) (o : Option Script)
    → script_numbered scripts n ≡ o
    → ScriptsAreNumbered 1 scripts
    → option_map (place_in m) o ≡ Some place
    → shown_place scripts (script_source n) m ≡ place
in-script scripts n m place None looks h is = absurd cc
in-script scripts n m place (Some s) looks h is =
    let number : s.number ≡ n = by-number scripts n s (nat_eq n 0) refl h looks in
    let P : ℕ → Place = λ i. record { script = i; pos = pos_in (Some s) m } in
    let Q : Option Script → Place = λ o. record { script = n; pos = pos_in o m } in
    ap Q looks
    ∙ ap P (sym number)
    ∙ same_Some (place_in m s) place is

-- the place of a mark is the one that is shown of it
shown-there : (scripts : List Script) (source : Source) (m : Mark) (place : Place)
    → ScriptsAreNumbered 1 scripts
    → place_of scripts source m ≡ Some place
    → shown_place scripts source m ≡ place
shown-there scripts (script_source n) m place h is =
    in-script scripts n m place (script_numbered scripts n) refl h is
shown-there scripts (kept_source a) m place h is = absurd cc

-- ---- the first frame

-- the first of some frames is of a source
abbrev IsFirstOf : Source → List Frame → Type 0
IsFirstOf source [] = ⊥
IsFirstOf source (f ∷ fs) = f.source ≡ source

-- where the program arrived, no script is about to be reduced
no-script : (spans : List Span) (a : Active) (m : Mark) (f : Frame)
    → arrival spans a ≡ Some m
    → in_bottom a f ≡ f
no-script spans (reduces (script number names) vs) m f is = absurd cc
no-script spans (reduces form vs) m f is = refl
no-script spans (stands v place) m f is = refl
no-script spans nothing_left m f is = refl

first-shown : (spans : List Span) (a : Active) (m : Mark) (f : Frame) (fs : List Frame)
    → arrival spans a ≡ Some m
    → IsFirstOf f.source (shown_frames a (f ∷ fs))
first-shown spans a m f [] is = ap (λ (g : Frame). g.source) (no-script spans a m f is)
first-shown spans a m f (g ∷ fs) is = refl

first-scoped : (source : Source) (fs : List Frame) (scopes : List Addr)
    → IsFirstOf source fs
    → IsFirstOf source (with_scopes fs scopes)
first-scoped source [] scopes h = absurd h
first-scoped source (f ∷ fs) [] h = h
first-scoped source (f ∷ fs) (a ∷ scopes) h = h

first-placed : (scripts : List Script) (w : World) (m : Mark) (source : Source) (fs : List Frame) (place : Place)
    → IsFirstOf source fs
    → shown_place scripts source m ≡ place
    → IsFirstAt place (listed_frames scripts w (Some m) fs)
first-placed scripts w m source [] place h is = absurd h
first-placed scripts w m source (f ∷ fs) place h is = ap (λ s. shown_place scripts s m) h ∙ is

first-listed : (scripts : List Script) (w : World) (spans : List Span) (a : Active) (fs : List Frame)
    (scopes : List Addr) (o : Option Mark) (place : Place)
    → ScriptsAreNumbered 1 scripts
    → arrival spans a ≡ o
    → place_at scripts (top_spot fs).source o ≡ Some place
    → IsFirstAt place (listed_frames scripts w o (with_scopes (shown_frames a fs) scopes))
first-listed scripts w spans a fs scopes None place h arrives is = absurd cc
first-listed scripts w spans a [] scopes (Some m) place h arrives is = absurd cc
first-listed scripts w spans a (f ∷ fs) scopes (Some m) place h arrives is =
    first-placed scripts w m f.source (with_scopes (shown_frames a (f ∷ fs)) scopes) place
    (first-scoped f.source (shown_frames a (f ∷ fs)) scopes (first-shown spans a m f fs arrives))
    (shown-there scripts f.source m place h is)

-- ---- runs

stands-so : (scripts : List Script) (r : Run) → ScriptsAreNumbered 1 scripts → RunListsFrames r → StandsAtTop scripts r
unfolding standing_of arrival_of
stands-so scripts (running t s) h lists = record {
  depths = λ goes_on.
      let listed : length (listed_frames scripts s.world
      (arrival (spans_in scripts (top_spot s.frames).source) (active t)) (frames script_scope t s))
      ≡ length (frames script_scope t s) =
      listed-length scripts s.world (arrival (spans_in scripts (top_spot s.frames).source) (active t))
      (frames script_scope t s) in
      let last : suc (length s.frames - 1) ≡ length s.frames - 1 + 1 = omega arith in
      listed ∙ lists.all_listed ∙ last;
  first = λ place is.
      first-listed scripts s.world (spans_in scripts (top_spot s.frames).source) (active t) s.frames
      (reversed_onto (scopes_at script_scope t) [])
      (arrival (spans_in scripts (top_spot s.frames).source) (active t)) place h refl is;
}
stands-so scripts (over f s) h lists = record { depths = λ goes_on. absurd cc; first = λ place is. absurd cc }

pub plain-stands : (k : ℕ) (scripts : List Script) (input : List (List ℕ))
    → ScriptsAreNumbered 1 scripts
    → StandsAtTop scripts (plain k scripts input)
unfolding plain
plain-stands k scripts input h = stands-so scripts (runs.plain k (terms_of_scripts scripts) input) h
    (scripts-listed k scripts input)
