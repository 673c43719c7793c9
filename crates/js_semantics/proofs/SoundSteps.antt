-- Every step, and every run, keeps configurations sound.
use Rattle.std.proofs.Common.{ℕ, zero, suc, None, Some}
use Rattle.js_heap.specs.declared.value.Addr.{Addr}
use Rattle.js_heap.specs.declared.value.Value.{Value}
use Rattle.js_heap.specs.World.{World}
use Rattle.js_heap.specs.Worlds.{SoundValue, SoundScope, SoundValues, Later}
use Rattle.js_heap.proofs.SoundLemmas.{sound-value, sound-scope}
use Rattle.js_semantics.specs.Terms.{Completion, throws, returns, breaks, continues, Form, scoped, frame, loop, Term, done, standing, part, Terms, end, more}
use Rattle.js_semantics.specs.State.{State, Move, goes, travels, has_effect, is_full, inside}
use Rattle.js_semantics.specs.Functions.{Program}
use Rattle.js_semantics.specs.Rows.{row, taken}
use Rattle.js_semantics.specs.Next.{Walked, all_values, moved, with_value, scope_in, around, next, walk}
use Rattle.js_semantics.specs.Run.{Run, running, over, run_of, run_after, outermost, step_in, steps_in, state_of}
use Rattle.js_semantics.specs.Laws.{Follows, MoveFollows}
use Rattle.js_semantics.specs.Sound.{SoundCompletion, SoundForm, SoundTerm, SoundTerms, SoundState, SoundMove, SoundFinish, SoundRun}
use Rattle.js_semantics.proofs.SoundTerms.{sound-form, sound-terms, settled-sound, perform-sound}
use Rattle.js_semantics.proofs.SoundRows.{row-sound, taken-sound}
use Rattle.js_semantics.proofs.FollowLemmas.{WalkFollows, next-follows, walk-follows, step-follows}

abbrev pub SoundMoves : Program → Move Terms → Type 0
SoundMoves p (goes ts s told) = SoundState p s × SoundTerms s.world ts
SoundMoves p (travels c s) = SoundState p s × SoundCompletion s.world c
SoundMoves p (has_effect s) = SoundState p s
SoundMoves p (is_full what s) = SoundState p s

abbrev pub SoundWalked : Program → State → Walked → Type 0
SoundWalked p s (all_values vs) = SoundValues s.world vs
SoundWalked p s (moved m) = SoundMoves p m

pub later_of : (s t : State) → Follows s t → Later s.world t.world
later_of s t h = let k = h.cells in k.kinds

pub value-in : (p : Program) (s : State) (v : Value) (m : Move Terms)
    → SoundValue s.world v
    → MoveFollows s m
    → SoundMoves p m
    → SoundMoves p (inside (λ ts. more (done v) ts) m)
value-in p s v (goes ts t told) h f k = (k.0, (sound-value s.world t.world (later_of s t f) v h, k.1))
value-in p s v (travels c t) h f k = k
value-in p s v (has_effect t) h f k = k
value-in p s v (is_full what t) h f k = k

pub with_value-sound : (p : Program) (s : State) (v : Value) (x : Walked)
    → SoundValue s.world v
    → WalkFollows s x
    → SoundWalked p s x
    → SoundWalked p s (with_value v x)
with_value-sound p s v (all_values vs) h f k = (h, k)
with_value-sound p s v (moved m) h f k = value-in p s v m h f k

pub inside-sound : (p : Program) (s : State) (ts : Terms) (m : Move Term)
    → SoundTerms s.world ts
    → MoveFollows s m
    → SoundMove p m
    → SoundMoves p (inside (λ t. more t ts) m)
inside-sound p s ts (goes x t told) h f k = (k.0, (k.1, sound-terms s.world t.world (later_of s t f) ts h))
inside-sound p s ts (travels c t) h f k = k
inside-sound p s ts (has_effect t) h f k = k
inside-sound p s ts (is_full what t) h f k = k

around-sound : (p : Program) (scope : Addr) (f : Form) (later : Terms) (s : State) (x : Walked)
    → SoundState p s
    → SoundScope s.world (Some scope)
    → SoundForm s.world f
    → SoundTerms s.world later
    → WalkFollows s x
    → SoundWalked p s x
    → SoundMove p (around p scope f later s x)
around-sound p scope f later s (all_values vs) h o n k g q =
    perform-sound p (row p s scope f vs later) s h (row-sound p s scope f vs later h o n q k)
around-sound p scope f later s (moved (goes now t told)) h o n k g q =
    let l = later_of s t g in (
      q.0,
      settled-sound t.world f now later (sound-form s.world t.world l f n) q.1
          (sound-terms s.world t.world l later k),
    )
around-sound p scope f later s (moved (travels c t)) h o n k g q =
    let l = later_of s t g in
    perform-sound p (taken scope f c later) t q.0
    (taken-sound t.world scope f c later (sound-scope s.world t.world l (Some scope) o)
    (sound-form s.world t.world l f n) q.1 (sound-terms s.world t.world l later k))
around-sound p scope f later s (moved (has_effect t)) h o n k g q = q
around-sound p scope f later s (moved (is_full what t)) h o n k g q = q

-- the scope in which a form's parts are is live
pub inner-sound : (w : World) (f : Form) (scope : Addr)
    → SoundForm w f
    → SoundScope w (Some scope)
    → SoundScope w (Some (scope_in f scope))
inner-sound w (scoped a) scope h o = h
inner-sound w (frame node a) scope h o = h
inner-sound w (loop stage (Some a)) scope h o = h
inner-sound w (loop stage None) scope h o = o
inner-sound w f scope h o = o

mutual
  pub next-sound : (p : Program) (scope : Addr) (t : Term) (s : State)
      → SoundState p s
      → SoundScope s.world (Some scope)
      → SoundTerm s.world t
      → SoundMove p (next p scope t s)
  next-sound p scope (done v) s h o k = (h, k)
  next-sound p scope (standing v place) s h o k = (h, k)
  next-sound p scope (part f now later) s h o k =
      around-sound p scope f later s (walk p (scope_in f scope) now s) h o k.0 k.2
      (walk-follows p (scope_in f scope) now s)
      (walk-sound p (scope_in f scope) now s h (inner-sound s.world f scope k.0 o) k.1)

  pub walk-sound : (p : Program) (scope : Addr) (ts : Terms) (s : State)
      → SoundState p s
      → SoundScope s.world (Some scope)
      → SoundTerms s.world ts
      → SoundWalked p s (walk p scope ts s)
  walk-sound p scope end s h o k = tt
  walk-sound p scope (more (done v) ts) s h o k =
      with_value-sound p s v (walk p scope ts s) k.0 (walk-follows p scope ts s) (walk-sound p scope ts s h o k.1)
  walk-sound p scope (more (standing v place) ts) s h o k = (h, k.0)
  walk-sound p scope (more (part f now later) ts) s h o k =
      inside-sound p s ts (next p scope (part f now later) s) k.1 (next-follows p scope (part f now later) s)
      (next-sound p scope (part f now later) s h o k.0)

-- ---- runs

pub of-sound : (p : Program) (t : Term) (s : State) → SoundState p s → SoundTerm s.world t → SoundRun p (run_of t s)
of-sound p (done v) s h k = (h, k)
of-sound p (standing v place) s h k = (h, k)
of-sound p (part f now later) s h k = (h, k)

outermost-sound : (w : World) (c : Completion) → SoundCompletion w c → SoundFinish w (outermost c)
outermost-sound w (throws v place) h = h
outermost-sound w (returns v) h = h
outermost-sound w breaks h = tt
outermost-sound w continues h = tt

after-sound : (p : Program) (m : Move Term) → SoundMove p m → SoundRun p (run_after m)
after-sound p (goes t s told) h = of-sound p t s h.0 h.1
after-sound p (travels c s) h = (h.0, outermost-sound s.world c h.1)
after-sound p (has_effect s) h = (h, tt)
after-sound p (is_full what s) h = (h, tt)

pub step-sound : (p : Program) (scope : Addr) (r : Run)
    → SoundScope (state_of r).world (Some scope)
    → SoundRun p r
    → SoundRun p (step_in p scope r)
step-sound p scope (running t s) o h = after-sound p (next p scope t s) (next-sound p scope t s h.0 o h.1)
step-sound p scope (over f s) o h = h

pub steps-sound : (k : ℕ) (p : Program) (scope : Addr) (r : Run)
    → SoundScope (state_of r).world (Some scope)
    → SoundRun p r
    → SoundRun p (steps_in k p scope r)
steps-sound zero p scope r o h = h
steps-sound (suc k) p scope r o h =
    let q : Run = step_in p scope r in
    steps-sound k p scope q
    (sound-scope (state_of r).world (state_of q).world (later_of (state_of r) (state_of q) (step-follows p scope r))
    (Some scope) o)
    (step-sound p scope r o h)
