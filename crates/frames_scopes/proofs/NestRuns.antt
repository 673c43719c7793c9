-- In each configuration of a run, each frame's chain of scopes is whole.
use Rattle.std.proofs.Common.{◌≡◌, ℕ, zero, suc, List, [], ◌∷◌, subst, Some}
use Rattle.std.specs.Prelude.{slice_get}
use Rattle.js_tree.specs.declared.script.Script.{Script}
use Rattle.js_heap.specs.declared.value.Addr.{Addr}
use Rattle.js_heap.specs.BuiltIns.{script_scope}
use Rattle.js_heap.specs.World.{World}
use Rattle.js_heap.specs.Worlds.{SoundScope}
use Rattle.js_semantics.specs.declared.form.Form.{Form}
use Rattle.js_semantics.specs.declared.form.Form.TheVariants.{Script as script, Scripts as scripts, Frame as frame}
use Rattle.js_semantics.specs.Terms.{Term, done, standing, part, Terms, end, more, settled}
use Rattle.js_semantics.specs.State.{Frame, State}
use Rattle.js_semantics.specs.Functions.{Program}
use Rattle.js_semantics.specs.Next.{scope_in}
use Rattle.js_semantics.specs.Frames.{Active, reduces, active, in_bottom, shown_frames, scopes_at, scopes_in, with_scopes, reversed_onto, frames}
use Rattle.js_semantics.specs.Run.{Run, running, over, run_of, state_of, literals_of, placed_scripts, program_of, first_state, start, plain}
use Rattle.js_semantics.specs.Sources.{terms_of_scripts}
use Rattle.js_semantics.specs.Sound.{SoundTerm, SoundTerms, SoundForm, SoundFrame, SoundFrames, SoundState, HasBuiltIns, SoundRun}
use Rattle.js_semantics.proofs.SourceLemmas.{scripts-sound}
use Rattle.frames_scopes.specs.Chains.{IsNested, HasWholeChains, RunHasWholeChains}
use Rattle.frames_scopes.proofs.NestLemmas.{first-nested}
use Rattle.frames_scopes.proofs.NestSteps.{steps-nested}
use Rattle.frames_scopes.proofs.ChainLemmas.{whole-chain}
use Rattle.js_semantics.proofs.SoundSteps.{inner-sound}
use Rattle.js_semantics.proofs.StartLemmas.{start-scope}

-- ---- the innermost scopes of frames are live

abbrev AllLive : World → List Addr → Type 0
AllLive w [] = Unit {0}
AllLive w (a ∷ scopes) = SoundScope w (Some a) × AllLive w scopes

-- each frame's scope is live
abbrev FramesLive : World → List Frame → Type 0
FramesLive w [] = Unit {0}
FramesLive w (f ∷ fs) = SoundScope w (Some f.scope) × FramesLive w fs

part-live : (w : World) (scope : Addr) (f : Form) (now later : Terms)
    → SoundScope w (Some scope)
    → SoundForm w f
    → ((inner : Addr) → SoundScope w (Some inner) → AllLive w (scopes_in inner now))
    → AllLive w (scopes_at scope (part f now later))
part-live w scope (frame node a) now later o h rec = (o, rec a h)
part-live w scope f now later o h rec = rec (scope_in f scope) (inner-sound w f scope h o)

mutual
  at-live : (w : World) (scope : Addr) (t : Term)
      → SoundScope w (Some scope)
      → SoundTerm w t
      → AllLive w (scopes_at scope t)
  at-live w scope (done v) o h = (o, tt)
  at-live w scope (standing v place) o h = (o, tt)
  at-live w scope (part f now later) o h = part-live w scope f now later o h.0 (λ inner k. in-live w inner now k h.1)

  in-live : (w : World) (scope : Addr) (ts : Terms)
      → SoundScope w (Some scope)
      → SoundTerms w ts
      → AllLive w (scopes_in scope ts)
  in-live w scope end o h = (o, tt)
  in-live w scope (more (done v) ts) o h = in-live w scope ts o h.1
  in-live w scope (more (standing v place) ts) o h = (o, tt)
  in-live w scope (more (part f now later) ts) o h = at-live w scope (part f now later) o h.0

reversed-live : (w : World) (scopes behind : List Addr)
    → AllLive w scopes
    → AllLive w behind
    → AllLive w (reversed_onto scopes behind)
reversed-live w [] behind h k = k
reversed-live w (a ∷ scopes) behind h k = reversed-live w scopes (a ∷ behind) h.1 (h.0, k)

bottom-live : (w : World) (a : Active) (f : Frame)
    → SoundScope w (Some f.scope)
    → SoundScope w (Some (in_bottom a f).scope)
bottom-live w (reduces (script number names) vs) f h = h
bottom-live w a f h = h

shown-live : (w : World) (a : Active) (fs : List Frame) → SoundFrames w fs → FramesLive w (shown_frames a fs)
shown-live w a [] h = tt
shown-live w a (f ∷ []) h = let k : SoundFrame w f = h.0 in (bottom-live w a f k.1, tt)
shown-live w a (f ∷ g ∷ fs) h = let k : SoundFrame w f = h.0 in (k.1, shown-live w a (g ∷ fs) h.1)

with-live : (w : World) (fs : List Frame) (scopes : List Addr)
    → FramesLive w fs
    → AllLive w scopes
    → FramesLive w (with_scopes fs scopes)
with-live w [] [] h k = tt
with-live w [] (a ∷ scopes) h k = tt
with-live w (f ∷ fs) [] h k = h
with-live w (f ∷ fs) (a ∷ scopes) h k = (k.0, with-live w fs scopes h.1 k.1)

frame-live : (w : World) (fs : List Frame) (d : ℕ) (f : Frame)
    → FramesLive w fs
    → slice_get fs d ≡ Some f
    → SoundScope w (Some f.scope)
frame-live w [] d f h e = cc
frame-live w (g ∷ fs) zero f h e =
    let k : g ≡ f = cc in let P : Frame → Type 0 = λ x. SoundScope w (Some x.scope) in subst P k h.0
frame-live w (g ∷ fs) (suc d) f h e = frame-live w fs d f h.1 e

-- ---- configurations

pub whole-chains : (p : Program) (t : Term) (s : State)
    → SoundState p s
    → SoundTerm s.world t
    → IsNested s.world
    → HasWholeChains t s
whole-chains p t s h k n d f e =
    let b : HasBuiltIns s.world = h.built_ins in
    let scopes : AllLive s.world (reversed_onto (scopes_at script_scope t) []) = reversed-live s.world
    (scopes_at script_scope t) [] (at-live s.world script_scope t b.scripts k) tt in
    let live : FramesLive s.world (frames script_scope t s) = with-live s.world (shown_frames (active t) s.frames)
    (reversed_onto (scopes_at script_scope t) []) (shown-live s.world (active t) s.frames h.frames) scopes in
    whole-chain s.world f.scope h.world n (frame-live s.world (frames script_scope t s) d f live e)

run-whole : (p : Program) (r : Run) → SoundRun p r → IsNested (state_of r).world → RunHasWholeChains r
run-whole p (running t s) h n = whole-chains p t s h.0 h.1 n
run-whole p (over f s) h n = tt

-- ---- runs

start-nested : (ts : Terms) (input : List (List ℕ)) (t : Term)
    → IsNested (state_of (run_of t (first_state ts input))).world
start-nested ts input (done v) = first-nested (literals_of ts)
start-nested ts input (standing v place) = first-nested (literals_of ts)
start-nested ts input (part f now later) = first-nested (literals_of ts)

plain-nested : (k : ℕ) (ss : List Script) (input : List (List ℕ))
    → IsNested (state_of (plain k (terms_of_scripts ss) input)).world
plain-nested k ss input =
    let ts : Terms = terms_of_scripts ss in
    let t : Term = settled scripts (placed_scripts ts) end in
    steps-nested k (program_of ts) script_scope (start ts input) (start-scope ts input t) (scripts-sound zero ss input)
    (start-nested ts input t)

pub plain-whole : (k : ℕ) (ss : List Script) (input : List (List ℕ))
    → RunHasWholeChains (plain k (terms_of_scripts ss) input)
plain-whole k ss input =
    run-whole (program_of (terms_of_scripts ss)) (plain k (terms_of_scripts ss) input) (scripts-sound k ss input)
    (plain-nested k ss input)
