-- What is sound in a world is sound in each later one; what takes no step keeps terms sound; actions keep states sound.
use Rattle.std.proofs.Common.{◌≡◌, Bool, true, false, List, [], ◌∷◌, ◌++◌, Option, None, Some, if◌then◌else◌}
use Rattle.js_heap.specs.declared.value.Value.{Value}
use Rattle.js_heap.specs.declared.value.Value.TheVariants as values
use Rattle.js_heap.specs.declared.change.Counted.{Counted}
use Rattle.js_heap.specs.Cells.{kind_of}
use Rattle.js_heap.specs.World.{World, Tried, fine, effect, full, read_cell, make_cell, write_cell, is_evaluation}
use Rattle.js_heap.specs.Worlds.{Leads, Keeps, AfterFine, SoundValue, SoundScope, SoundValues, IsSound, Later}
use Rattle.js_heap.specs.BuiltIns.{function_value, heap_full_error, script_scope}
use Rattle.js_heap.proofs.KeepLemmas.{stays-same, stays-trans, making-keeps, writing-keeps}
use Rattle.js_heap.proofs.SoundLemmas.{sound-value, sound-scope, sound_if_some, sound_names, making-sound, writing-sound, making-leads}
use Rattle.js_semantics.specs.Terms.{Completion, throws, returns, breaks, continues, Form, script, enter_for, enter_for_of, block, scoped, frame, loop, list_of, turn_of, body_of, ending, function, method, Term, done, standing, part, Terms, end, more, joined, dones, settled, settle}
use Rattle.js_semantics.specs.State.{Frame, State, Move, goes, has_effect, is_full, Action, go, raise, leave, make, write, print, take_line, set_here, push_frame, pop_frame, with_world, with_here, moved_frames, rest_of, first_line, other_lines, after, raised_at, perform}
use Rattle.js_semantics.specs.Functions.{Program}
use Rattle.js_semantics.specs.Waiting.{uncovers}
use Rattle.js_semantics.specs.Sound.{SoundCompletion, SoundKept, SoundForm, SoundTerm, SoundTerms, SoundProgram, SoundFrames, HasBuiltIns, SoundState, SoundAction, SoundMove}
use Rattle.js_semantics.proofs.InvariantLemmas.{Invariant, Loops, IsKept, either-way, one-way, joined-kept, settled-kept, settle-kept}

pub later-same : (w : World) → Later w w
later-same w a = stays-same (read_cell w a)

pub later-trans : (u v w : World) → Later u v → Later v w → Later u w
later-trans u v w h k a = stays-trans (read_cell u a) (read_cell v a) (read_cell w a) (h a) (k a)

-- ---- later worlds

sound-completion : (w v : World) → Later w v → (c : Completion) → SoundCompletion w c → SoundCompletion v c
sound-completion w v l (throws u place) h = sound-value w v l u h
sound-completion w v l (returns u) h = sound-value w v l u h
sound-completion w v l breaks h = tt
sound-completion w v l continues h = tt

sound-kept : (w v : World) → Later w v → (c : Option Completion) → SoundKept w c → SoundKept v c
sound-kept w v l None h = tt
sound-kept w v l (Some c) h = sound-completion w v l c h

pub sound-form : (w v : World) → Later w v → (f : Form) → SoundForm w f → SoundForm v f
sound-form w v l (script number names) h = sound_names w v l names h
sound-form w v l (enter_for node constant names) h = sound_names w v l names h
sound-form w v l (enter_for_of node b) h = sound_if_some w v l b.value h
sound-form w v l (block names) h = sound_names w v l names h
sound-form w v l (scoped a) h = sound-scope w v l (Some a) h
sound-form w v l (frame node a) h = sound-scope w v l (Some a) h
sound-form w v l (loop stage scope) h = sound-scope w v l scope h
sound-form w v l (list_of b) h = sound_if_some w v l b.value h
sound-form w v l (turn_of b i) h = sound_if_some w v l b.value h
sound-form w v l (body_of b i) h = sound_if_some w v l b.value h
sound-form w v l (ending kept) h = sound-kept w v l kept h
sound-form w v l (function f) h = sound_names w v l f.names h
sound-form w v l (method f) h = sound_names w v l f.names h
sound-form w v l _ h = tt

mutual
  pub sound-term : (w v : World) → Later w v → (t : Term) → SoundTerm w t → SoundTerm v t
  sound-term w v l (done u) h = sound-value w v l u h
  sound-term w v l (standing u place) h = sound-value w v l u h
  sound-term w v l (part f now later) h =
      (sound-form w v l f h.0, sound-terms w v l now h.1, sound-terms w v l later h.2)

  pub sound-terms : (w v : World) → Later w v → (ts : Terms) → SoundTerms w ts → SoundTerms v ts
  sound-terms w v l end h = tt
  sound-terms w v l (more t ts) h = (sound-term w v l t h.0, sound-terms w v l ts h.1)

pub sound-program : (w v : World) → Later w v → (p : Program) → SoundProgram w p → SoundProgram v p
sound-program w v l [] h = tt
sound-program w v l (t ∷ ts) h = (sound-term w v l t.tree h.0, sound-program w v l ts h.1)

sound-frames : (w v : World) → Later w v → (fs : List Frame) → SoundFrames w fs → SoundFrames v fs
sound-frames w v l [] h = tt
sound-frames w v l (f ∷ fs) h =
    ((sound-value w v l f.receiver h.0.0, sound-scope w v l (Some f.scope) h.0.1), sound-frames w v l fs h.1)

pub sound-built_ins : (w v : World) → Later w v → HasBuiltIns w → HasBuiltIns v
sound-built_ins w v l h = record {
  functions = λ f. sound-value w v l (function_value f) (h.functions f);
  full_error = sound-value w v l (values.Object heap_full_error) h.full_error;
  scripts = sound-scope w v l (Some script_scope) h.scripts;
}

-- the state with a later sound world
state_later : (p : Program) (s : State) (v : World)
    → Later s.world v
    → IsSound v
    → SoundState p s
    → SoundState p (with_world s v)
state_later p s v l sound h = record {
  world = sound;
  built_ins = sound-built_ins s.world v l h.built_ins;
  program = sound-program s.world v l p h.program;
  frames = sound-frames s.world v l s.frames h.frames;
  outer = sound-value s.world v l s.outer_this h.outer;
}

-- ---- what steps make of parts

abbrev pub sound_in : World → Invariant
sound_in w = record {
  holds = λ t. SoundTerm w t;
  covered = λ t. SoundTerm w t;
  all = λ ts. SoundTerms w ts;
  rest = λ ts. SoundTerms w ts;
  form = λ f n later. SoundForm w f;
  value = λ v. SoundValue w v;
  scope = λ a. SoundScope w a;
  kept = λ c. SoundKept w c;
}

pub sound-kept-parts : (w : World) → IsKept (sound_in w)
sound-kept-parts w = record {
  no_value = tt;
  no_completion = tt;
  of_value = λ v h. h;
  no_parts = tt;
  a_part = λ t ts h k. (h, k);
  first_part = λ t ts h. h.0;
  other_parts = λ t ts h. h.1;
  uncovered = λ t ts h. h.0;
  behind = λ t ts h. h.1;
  covers = λ t h. h;
  of_done = λ v h. h;
  of_standing = λ v place h. h;
  opened = λ f now later h. (h.0, h.1, either-way (uncovers f) (SoundTerms w later) h.2);
  closed = λ f now later e h n k. (h, n, one-way (uncovers f) (SoundTerms w later) k);
  of_loop = λ stage a n later h. (h, λ s b m r l. l);
  of_for = λ node c names n t later h s b m r l. l;
  of_for_of = λ node b n t later h. h;
  of_list = λ b n v later h. h;
  of_turn = λ b i n m later h. h;
  of_again = λ b i n m later h. h;
  of_next = λ b i n later h. h;
  of_scope = λ a n l. l;
  of_ending = λ c n l. l;
  of_comma = λ n t u ts h. tt;
  of_binary = λ o. tt;
  of_compound = λ o r n later h. tt;
  of_callee = λ r place node n m later h. tt;
  of_method = λ ms n f now later ts h. tt;
}

-- a loop whose scope is live
pub sound-loop : (w : World) (later : Terms) → Loops (sound_in w) later
sound-loop w later = λ stage a n r l. l

pub joined-sound : (w : World) (ts us : Terms) → SoundTerms w ts → SoundTerms w us → SoundTerms w (joined ts us)
joined-sound w = joined-kept (sound_in w) (sound-kept-parts w)

pub dones-sound : (w : World) (vs : List Value) → SoundValues w vs → SoundTerms w (dones vs)
dones-sound w [] h = tt
dones-sound w (v ∷ vs) h = (h.0, dones-sound w vs h.1)

pub settled-sound : (w : World) (f : Form) (now later : Terms)
    → SoundForm w f
    → SoundTerms w now
    → SoundTerms w later
    → SoundTerm w (settled f now later)
settled-sound w f now later h n k =
    settled-kept (sound_in w) (sound-kept-parts w) f now later h n (either-way (uncovers f) (SoundTerms w later) k)

pub settle-sound : (w : World) (t : Term) → SoundTerm w t → SoundTerm w (settle t)
settle-sound w = settle-kept (sound_in w) (sound-kept-parts w)

-- ---- actions

abbrev pub SoundTried : {A : Type 0} → Program → State → Tried A → (A → World → Type 0) → Type 0
SoundTried p s (fine a w) P = SoundState p (with_world s w) × P a w
SoundTried p s effect P = Unit {0}
SoundTried p s (full what) P = Unit {0}

full_sound : (p : Program) (b : Bool) (what : Counted) (s : State)
    → SoundState p s
    → SoundMove p (if b then is_full what s else raised_at (values.Object heap_full_error) s)
full_sound p true what s h = h
full_sound p false what s h = let e = h.built_ins in (h, e.full_error)

after_sound : {A : Type 0} (p : Program) (s : State) (t : Tried A) (k : A → State → Move Term) (P : A → World → Type 0)
    → SoundState p s
    → SoundTried p s t P
    → ((a : A) (v : World) → P a v → SoundState p (with_world s v) → SoundMove p (k a (with_world s v)))
    → SoundMove p (after t s k)
after_sound p s (fine a v) k P h t rest = rest a v t.1 t.0
after_sound p s effect k P h t rest = h
after_sound p s (full what) k P h t rest = full_sound p (is_evaluation s.world) what s h

-- what a call on the world answers: a later sound world
tried : {A : Type 0} (p : Program) (s : State) (t : Tried A) (P : A → World → Type 0)
    → SoundState p s
    → AfterFine t (λ a v. Keeps s.world v)
    → AfterFine t (λ a v. IsSound v)
    → AfterFine t P
    → SoundTried p s t (λ a v. Later s.world v × P a v)
tried p s (fine a v) P h keeps sound extra = let l = keeps.kinds in (state_later p s v l sound h, (l, extra))
tried p s effect P h keeps sound extra = tt
tried p s (full what) P h keeps sound extra = tt

fine_unit : {A : Type 0} (t : Tried A) → AfterFine t (λ a v. Unit {0})
fine_unit (fine a v) = tt
fine_unit effect = tt
fine_unit (full what) = tt

frames-rest : (w : World) (fs : List Frame) → SoundFrames w fs → SoundFrames w (rest_of fs)
frames-rest w [] h = tt
frames-rest w (f ∷ fs) h = h.1

frames-moved : (w : World) (fs : List Frame) (m : _) → SoundFrames w fs → SoundFrames w (moved_frames fs m)
frames-moved w [] m h = tt
frames-moved w (f ∷ fs) m h = h

outside_sound : (p : Program) (b : Bool) (s : State) (m : Move Term)
    → SoundState p s
    → SoundMove p m
    → SoundMove p (if b then has_effect s else m)
outside_sound p true s m h k = h
outside_sound p false s m h k = k

pub perform-sound : (p : Program) (a : Action) (s : State)
    → SoundState p s
    → SoundAction s.world a
    → SoundMove p (perform a s)
perform-sound p (go t) s h k = (h, k)
perform-sound p (raise v) s h k = (h, k)
perform-sound p (leave c) s h k = (h, k)
perform-sound p (make c k) s h a =
    after_sound p s (make_cell s.world c) (λ x. perform (k x))
    (λ x v. Later s.world v × Leads (λ kind. kind ≡ kind_of c) (read_cell v x)) h
    (tried p s (make_cell s.world c) (λ x v. Leads (λ kind. kind ≡ kind_of c) (read_cell v x)) h
    (making-keeps s.world c) (making-sound s.world c h.world a.0) (making-leads s.world c))
    (λ x v q n. perform-sound p (k x) (with_world s v) n (a.1 v x q.0 q.1))
perform-sound p (write x c k) s h a =
    after_sound p s (write_cell s.world x c) (λ u. perform k) (λ u v. Later s.world v × Unit {0}) h
    (tried p s (write_cell s.world x c) (λ u v. Unit {0}) h (writing-keeps s.world x c)
    (writing-sound s.world x c h.world a.0) (fine_unit (write_cell s.world x c)))
    (λ u v q n. perform-sound p k (with_world s v) n (a.1 v q.0))
perform-sound p (print vs text) s h k =
    outside_sound p (is_evaluation s.world) s
    (goes (done values.Undefined) (record s { printed = s.printed ++ text ∷ [] }) _) h
    (record { world = h.world; built_ins = h.built_ins; program = h.program; frames = h.frames; outer = h.outer }, tt)
perform-sound p (take_line k) s h a =
    let u : State = record s { input = other_lines s.input } in
    outside_sound p (is_evaluation s.world) s (perform (k (first_line s.input)) u) h
    (perform-sound p (k (first_line s.input)) u
    (record { world = h.world; built_ins = h.built_ins; program = h.program; frames = h.frames; outer = h.outer })
    (a (first_line s.input)))
perform-sound p (set_here m k) s h a =
    perform-sound p k (with_here s m)
    (record {
      world = h.world;
      built_ins = h.built_ins;
      program = h.program;
      frames = frames-moved s.world s.frames m h.frames;
      outer = h.outer;
    })
    a
perform-sound p (push_frame f k) s h a =
    perform-sound p k (record s { frames = f ∷ s.frames })
    (record {
      world = h.world;
      built_ins = h.built_ins;
      program = h.program;
      frames = (
        a.0,
        h.frames,
      );
      outer = h.outer;
    })
    a.1
perform-sound p (pop_frame k) s h a =
    perform-sound p k (record s { frames = rest_of s.frames })
    (record {
      world = h.world;
      built_ins = h.built_ins;
      program = h.program;
      frames = frames-rest s.world s.frames h.frames;
      outer = h.outer;
    })
    a
