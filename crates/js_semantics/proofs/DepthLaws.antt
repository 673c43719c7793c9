-- In each configuration of a run of scripts the frames are those of the term: each has its scope, and is found.
use Rattle.std.proofs.Common.{◌≡◌, ℕ, suc, ◌+◌, ◌≤◌, true, List, [], ◌∷◌, Some, length, refl, ap, arith, get_or}
use Rattle.std.proofs.lemmas.Option.{slice_get-get_or}
use Rattle.std.specs.Prelude.{slice_get}
use Rattle.js_tree.specs.declared.node.Span.{Span}
use Rattle.js_heap.specs.declared.value.Addr.{Addr}
use Rattle.js_heap.specs.declared.value.Addr.TheVariants.{Base}
use Rattle.js_heap.specs.BuiltIns.{script_scope, first_literal}
use Rattle.js_semantics.specs.Terms.{Mark, start, scripts, enter_debugger, frame, literal, Term, done, standing, part, Terms, end, more, settled}
use Rattle.js_semantics.specs.State.{Frame, State}
use Rattle.js_semantics.specs.Next.{scope_in}
use Rattle.js_semantics.specs.Run.{literals, literals_of, with_literals, all_with_literals, placed_scripts, program_from, program_of, first_state, start as start_of, plain, Run, running, over}
use Rattle.js_semantics.specs.Frames.{Active, reduces, stands, nothing_left, active, arrival, is_debugger, depth, shown_frames, scopes_at, scopes_in, with_scopes, reversed_onto, frames}
use Rattle.js_semantics.specs.Untouched.{IsUntouched, AreUntouched}
use Rattle.js_semantics.specs.Depths.{HasNoFrame, HaveNoFrame, calls, calls_of, ProgramHasNoFrame, Agrees, RunAgrees, ListsFrames, RunListsFrames}
use Rattle.js_semantics.proofs.DepthLemmas.{settled-quiet, steps-agree, start-agrees}

-- ---- lists of frames and scopes

pub shown-length : (a : Active) (fs : List Frame) → length (shown_frames a fs) ≡ length fs
shown-length a [] = refl
shown-length a (f ∷ []) = refl
shown-length a (f ∷ g ∷ fs) = ap (λ n. suc n) (shown-length a (g ∷ fs))

pub scopes-length : (fs : List Frame) (scopes : List Addr) → length (with_scopes fs scopes) ≡ length fs
scopes-length [] scopes = refl
scopes-length (f ∷ fs) [] = refl
scopes-length (f ∷ fs) (a ∷ scopes) = ap (λ n. suc n) (scopes-length fs scopes)

mutual
  scopes-counted : (scope : Addr) (t : Term) → length (scopes_at scope t) ≡ suc (calls t)
  scopes-counted scope (done v) = refl
  scopes-counted scope (standing v place) = refl
  scopes-counted scope (part (frame node a) now later) = ap (λ n. suc n) (scopes_in-counted a now)
  scopes-counted scope (part f now later) = scopes_in-counted (scope_in f scope) now

  scopes_in-counted : (scope : Addr) (ts : Terms) → length (scopes_in scope ts) ≡ suc (calls_of ts)
  scopes_in-counted scope end = refl
  scopes_in-counted scope (more (done v) ts) = scopes_in-counted scope ts
  scopes_in-counted scope (more (standing v place) ts) = refl
  scopes_in-counted scope (more (part f now later) ts) = scopes-counted scope (part f now later)

found-at : (fs : List Frame) (n d : ℕ) → length fs ≡ suc n → d ≤ n → (f : Frame) × (slice_get fs d ≡ Some f)
found-at [] n d e l = absurd (omega (arith, e))
found-at (f ∷ fs) n d e l = (get_or (f ∷ fs) d f, slice_get-get_or (f ∷ fs) d f (omega (arith, e, l)))

listed : (t : Term) (s : State) → Agrees 1 t s → ListsFrames t s
listed t s h =
    let all : length (frames script_scope t s) ≡ suc (depth s) =
    omega (
      arith,
      h.counted,
      shown-length (active t) s.frames,
      scopes-length (shown_frames (active t) s.frames) (reversed_onto (scopes_at script_scope t) []),
    )
    in
    record {
      one_scope_each = omega (arith, h.counted, scopes-counted script_scope t);
      all_listed = all;
      each_found = λ d l. found-at (frames script_scope t s) (depth s) d all l;
    }

run-listed : (r : Run) → RunAgrees 1 r → RunListsFrames r
run-listed (running t s) h = listed t s h
run-listed (over f s) h = tt

-- ---- scripts have no frame before the first step

mutual
  placed-quiet : (at : ℕ → Addr) (n : ℕ) (t : Term) → IsUntouched t → HasNoFrame (with_literals at n t)
  placed-quiet at n (done v) h = tt
  placed-quiet at n (standing v place) h = tt
  placed-quiet at n (part (literal us) now later) h = tt
  placed-quiet at n (part (frame node a) now later) h = absurd h.0
  placed-quiet at n (part f now later) h =
      (all-placed-quiet at n now h.1, all-placed-quiet at (n + length (literals_of now)) later h.2)

  all-placed-quiet : (at : ℕ → Addr) (n : ℕ) (ts : Terms) → AreUntouched ts → HaveNoFrame (all_with_literals at n ts)
  all-placed-quiet at n end h = tt
  all-placed-quiet at n (more t ts) h = (placed-quiet at n t h.0, all-placed-quiet at (n + length (literals t)) ts h.1)

program-quiet : (n : ℕ) (ts : Terms) → HaveNoFrame ts → ProgramHasNoFrame (program_from n ts)
program-quiet n end h = tt
program-quiet n (more t ts) h = (h.0, program-quiet (n + 1) ts h.1)

pub plain-listed : (k : ℕ) (ts : Terms) (input : List (List ℕ)) → AreUntouched ts → RunListsFrames (plain k ts input)
plain-listed k ts input h =
    let placed : HaveNoFrame (placed_scripts ts) = all-placed-quiet (λ n. Base n) first_literal ts h in
    run-listed (plain k ts input)
    (steps-agree 1 k (program_of ts) script_scope (start_of ts input) (omega arith)
    (program-quiet 1 (placed_scripts ts) placed)
    (start-agrees 1 (settled scripts (placed_scripts ts) end) (first_state ts input)
    (settled-quiet scripts (placed_scripts ts) end (placed, tt)) refl))

-- ---- a `debugger` statement about to be entered is an arrival

pub debugger-arrives : (spans : List Span) (a : Active) → is_debugger a ≡ true → (m : Mark) × (arrival spans a ≡ Some m)
debugger-arrives spans (reduces (enter_debugger node) vs) e = (start node, refl)
debugger-arrives spans (stands v place) e = cc
debugger-arrives spans nothing_left e = cc
debugger-arrives spans (reduces f vs) e = cc
