-- Every step keeps the state's frames those of the term.
use Rattle.std.proofs.Common.{◌≡◌, ℕ, zero, suc, ◌+◌, ◌≤◌, Bool, true, false, List, [], ◌∷◌, length, refl, sym, subst, arith, if◌then◌else◌}
use Rattle.js_heap.specs.declared.value.Addr.{Addr}
use Rattle.js_heap.specs.declared.value.Value.{Value}
use Rattle.js_heap.specs.declared.cell.Binding.{Binding}
use Rattle.js_heap.specs.BuiltIns.{script_scope}
use Rattle.js_semantics.specs.Terms.{Mark, Completion, throws, returns, breaks, continues, Form, script, frame, call, Term, done, standing, part, Terms, end, more, one, all_done, finished, settled, settle}
use Rattle.js_semantics.specs.State.{Frame, State, Move, goes, travels, has_effect, is_full, inside, go, moved_frames, rest_of, perform}
use Rattle.js_semantics.specs.Functions.{Program, with_functions, with_names}
use Rattle.js_semantics.specs.Rows.{script_row, row, taken}
use Rattle.js_semantics.specs.Next.{Walked, all_values, moved, with_value, scope_in, around, next, walk}
use Rattle.js_semantics.specs.Run.{Run, running, over, run_of, run_after, step_in, steps_in}
use Rattle.js_semantics.specs.Waiting.{uncovers, ByCase}
use Rattle.js_semantics.specs.Depths.{HasNoFrame, HaveNoFrame, calls, calls_of, IsFramed, AreFramed, ProgramHasNoFrame, Agrees, MoveAgrees, RunAgrees}
use Rattle.js_semantics.proofs.ActionLemmas.{functions-goes, names-goes}
use Rattle.js_semantics.proofs.InvariantLemmas.{Invariant, IsKept, either-way, one-way, finished-kept, settled-kept, settle-kept}
use Rattle.js_semantics.proofs.RowLemmas.{IsFree, finds-body, function_at-has, row-quiet, taken-quiet}
use Rattle.js_semantics.proofs.FrameLemmas.{Framing, IsFraming, ActionIn, MoveIn, quiet-in, perform-in, Enters, call-in}

-- ---- parts without a frame

mutual
  no-calls : (t : Term) → HasNoFrame t → calls t ≡ 0
  no-calls (done v) h = refl
  no-calls (standing v place) h = refl
  no-calls (part (frame node a) now later) h = absurd h
  no-calls (part f now later) h = no-calls_of now h.0

  no-calls_of : (ts : Terms) → HaveNoFrame ts → calls_of ts ≡ 0
  no-calls_of end h = refl
  no-calls_of (more (done v) ts) h = no-calls_of ts h.1
  no-calls_of (more (standing v place) ts) h = refl
  no-calls_of (more (part f now later) ts) h = no-calls (part f now later) h.0

mutual
  is-framed : (t : Term) → HasNoFrame t → IsFramed t
  is-framed (done v) h = tt
  is-framed (standing v place) h = tt
  is-framed (part (frame node a) now later) h = absurd h
  is-framed (part f now later) h = (are-framed now h.0, h.1)

  are-framed : (ts : Terms) → HaveNoFrame ts → AreFramed ts
  are-framed end h = tt
  are-framed (more (done v) ts) h = are-framed ts h.1
  are-framed (more (standing v place) ts) h = h.1
  are-framed (more (part f now later) ts) h = (is-framed (part f now later) h.0, h.1)

-- ---- having no frame is an invariant of the steps that touch none

abbrev IsNoFrame : Form → Type 0
IsNoFrame (frame node a) = ⊥
IsNoFrame f = Unit {0}

opened : (f : Form) (now later : Terms)
    → HasNoFrame (part f now later)
    → IsNoFrame f × HaveNoFrame now × HaveNoFrame later
opened (frame node a) now later h = absurd h
opened f now later h = (tt, h.0, h.1)

closed : (f : Form) (now later : Terms)
    → IsNoFrame f
    → HaveNoFrame now
    → HaveNoFrame later
    → HasNoFrame (part f now later)
closed (frame node a) now later h n q = absurd h
closed f now later h n q = (n, q)

opened-later : (f : Form) (now later : Terms)
    → HasNoFrame (part f now later)
    → IsNoFrame f × HaveNoFrame now × ByCase (uncovers f) (HaveNoFrame later) (HaveNoFrame later)
opened-later f now later h =
    let o = opened f now later h in (o.0, o.1, either-way (uncovers f) (HaveNoFrame later) o.2)

abbrev frameless : Invariant
frameless = record {
  holds = HasNoFrame;
  covered = HasNoFrame;
  all = HaveNoFrame;
  rest = HaveNoFrame;
  form = λ f n later. IsNoFrame f;
  value = λ v. Unit {0};
  scope = λ a. Unit {0};
  kept = λ c. Unit {0};
}

quiet-kept : IsKept frameless
quiet-kept = record {
  no_value = tt;
  no_completion = tt;
  of_value = λ v h. tt;
  no_parts = tt;
  a_part = λ t ts h q. (h, q);
  first_part = λ t ts h. h.0;
  other_parts = λ t ts h. h.1;
  uncovered = λ t ts h. h.0;
  behind = λ t ts h. h.1;
  covers = λ t h. h;
  of_done = λ v h. h;
  of_standing = λ v place h. h;
  opened = opened-later;
  closed = λ f now later e h n q. closed f now later h n (one-way (uncovers f) (HaveNoFrame later) q);
  of_loop = λ stage a n later h. (tt, λ s b m r l. tt);
  of_for = λ node c names n t later h s b m r l. tt;
  of_for_of = λ node b n t later h. tt;
  of_list = λ b n v later h. tt;
  of_turn = λ b i n m later h. tt;
  of_again = λ b i n m later h. tt;
  of_next = λ b i n later h. tt;
  of_scope = λ a n l. tt;
  of_ending = λ c n l. tt;
  of_comma = λ n t u ts h. tt;
  of_binary = λ o. tt;
  of_compound = λ o r n later h. tt;
  of_callee = λ r place node n m later h. tt;
  of_method = λ ms n f now later ts h. tt;
}

quiet-free : IsFree frameless
quiet-free = record { each_value = λ v. tt; each_scope = λ a. tt; each_completion = λ c. tt }

-- what takes no step has no frame
pub settled-quiet : (f : Form) (now later : Terms) → HasNoFrame (part f now later) → HasNoFrame (settled f now later)
settled-quiet f now later h =
    let o = opened-later f now later h in settled-kept frameless quiet-kept f now later o.0 o.1 o.2

-- ---- actions, by the frames before them

abbrev one_less : ℕ → ℕ
one_less zero = zero
one_less (suc n) = n

abbrev counted_frames : Framing
counted_frames = record {
  view = ℕ;
  seen = λ fs. length fs;
  push = λ f n. suc n;
  pop = λ n. one_less n;
  stands = λ told b t n. IsFramed t × (n ≡ b + calls t);
}

pub moved-length : (fs : List Frame) (m : Mark) → length (moved_frames fs m) ≡ length fs
moved-length [] m = refl
moved-length (f ∷ fs) m = refl

rest-length : (fs : List Frame) → length (rest_of fs) ≡ one_less (length fs)
rest-length [] = refl
rest-length (f ∷ fs) = refl

frames-counted : IsFraming counted_frames
frames-counted = record {
  moved = moved-length;
  pushed = λ f fs. refl;
  popped = rest-length;
  of_value = λ told b v. (tt, omega arith);
  of_throw = λ b v place. (tt, omega arith);
}

quiet-stands : (b : ℕ) (t : Term) → HasNoFrame t → IsFramed t × (b ≡ b + calls t)
quiet-stands b t h = (is-framed t h, omega (arith, no-calls t h))

enters : (b : ℕ) → Enters counted_frames b (λ source c. HasNoFrame c.body)
enters b = λ f c a h.
    let q = settle-kept frameless quiet-kept c.body h in
    ((are-framed (one (settle c.body)) (q, tt), tt), omega (arith, no-calls_of (one (settle c.body)) (q, tt)))

script-framed : (b : ℕ) (number : ℕ) (names : List Binding) (later : Terms)
    → 1 ≤ b
    → HaveNoFrame later
    → ActionIn counted_frames b b (script_row number names later)
script-framed zero number names later l h = absurd (omega (arith, l))
script-framed (suc b) number names end l h = (tt, omega arith)
script-framed (suc b) number names (more t fs) l h =
    quiet-in counted_frames frameless (suc b) (quiet-stands (suc b))
    (with_names script_scope names (with_functions script_scope fs (go (settle t))))
    (names-goes HasNoFrame ⊥ script_scope names (with_functions script_scope fs (go (settle t)))
    (functions-goes HasNoFrame ⊥ script_scope fs (go (settle t)) (settle-kept frameless quiet-kept t h.0)))

-- ---- THE TABLE OF STEPS, AND THAT OF COMPLETIONS

-- how many frames are outside a form's parts
abbrev inner : ℕ → Form → ℕ
inner b (frame node a) = suc b
inner b f = b

row-framed : (b : ℕ) (p : Program) (s : State) (scope : Addr) (f : Form) (vs : List Value) (later : Terms)
    → 1 ≤ b
    → ProgramHasNoFrame p
    → HaveNoFrame later
    → ActionIn counted_frames b (inner b f) (row p s scope f vs later)
row-framed b p s scope (script number names) vs later l g h = script-framed b number names later l h
row-framed b p s scope (frame node a) vs later l g h = (tt, omega arith)
row-framed b p s scope (call place node) vs later l g h =
    call-in counted_frames frames-counted b frameless quiet-kept quiet-free (quiet-stands b)
    (λ source c. HasNoFrame c.body) (enters b) p s place vs
    (λ source node. function_at-has frameless quiet-kept (λ c. HasNoFrame c.body) (finds-body frameless quiet-kept) p
    source node g)
row-framed b p s scope f vs later l g h =
    quiet-in counted_frames frameless b (quiet-stands b) (row p s scope f vs later)
    (row-quiet frameless quiet-kept quiet-free p s scope f vs later refl tt h)

taken-framed : (b : ℕ) (scope : Addr) (f : Form) (c : Completion) (later : Terms)
    → HaveNoFrame later
    → ActionIn counted_frames b (inner b f) (taken scope f c later)
taken-framed b scope (frame node a) (returns v) later h = (tt, omega arith)
taken-framed b scope (frame node a) (throws v place) later h = omega arith
taken-framed b scope (frame node a) breaks later h = omega arith
taken-framed b scope (frame node a) continues later h = omega arith
taken-framed b scope (script number names) c later h = refl
taken-framed b scope (call place node) c later h = refl
taken-framed b scope f c later h =
    quiet-in counted_frames frameless b (quiet-stands b) (taken scope f c later)
    (taken-quiet frameless quiet-kept quiet-free scope f c 0 later refl tt h)

moves-agree : (b : ℕ) (m : Move Term) → MoveIn counted_frames b m → MoveAgrees b m
moves-agree b (goes t s told) h = record { framed = h.0; counted = h.1 }
moves-agree b (travels c s) h = h
moves-agree b (has_effect s) h = tt
moves-agree b (is_full what s) h = tt

-- ---- steps

abbrev MovesAgree : ℕ → Move Terms → Type 0
MovesAgree b (goes ts s told) = AreFramed ts × (length s.frames ≡ b + calls_of ts)
MovesAgree b (travels c s) = length s.frames ≡ b
MovesAgree b (has_effect s) = Unit {0}
MovesAgree b (is_full what s) = Unit {0}

abbrev WalkAgrees : ℕ → State → Walked → Type 0
WalkAgrees b s (all_values vs) = length s.frames ≡ b
WalkAgrees b s (moved m) = MovesAgree b m

value_in : (b : ℕ) (v : Value) (m : Move Terms) → MovesAgree b m → MovesAgree b (inside (λ ts. more (done v) ts) m)
value_in b v (goes ts s told) h = h
value_in b v (travels c s) h = h
value_in b v (has_effect s) h = tt
value_in b v (is_full what s) h = tt

with_value-agrees : (b : ℕ) (s : State) (v : Value) (x : Walked) → WalkAgrees b s x → WalkAgrees b s (with_value v x)
with_value-agrees b s v (all_values vs) h = h
with_value-agrees b s v (moved m) h = value_in b v m h

inside-agrees : (b : ℕ) (ts : Terms) (m : Move Term)
    → HaveNoFrame ts
    → MoveAgrees b m
    → MovesAgree b (inside (λ t. more t ts) m)
inside-agrees b ts (goes (done v) s told) k h = (are-framed ts k, omega (arith, h.counted, no-calls_of ts k))
inside-agrees b ts (goes (standing v place) s told) k h = (k, h.counted)
inside-agrees b ts (goes (part f now later) s told) k h = ((h.framed, k), h.counted)
inside-agrees b ts (travels c s) k h = h
inside-agrees b ts (has_effect s) k h = tt
inside-agrees b ts (is_full what s) k h = tt

-- what is finished has no frame
values-quiet : (ts : Terms) → all_done ts ≡ true → HaveNoFrame ts
values-quiet end e = tt
values-quiet (more (done v) ts) e = (tt, values-quiet ts e)
values-quiet (more (standing v place) ts) e = cc
values-quiet (more (part f now later) ts) e = cc

finished-framed : (b : ℕ) (f : Form) (now later : Terms) (s : State)
    → HaveNoFrame now
    → HaveNoFrame later
    → length s.frames ≡ inner b f + calls_of now
    → Agrees b (finished f now later) s
finished-framed b (frame node a) now later s n k e =
    record { framed = (are-framed now n, k); counted = omega (arith, e) }
finished-framed b f now later s n k e =
    let q = finished-kept frameless quiet-kept f now later tt n (either-way (uncovers f) (HaveNoFrame later) k) in
    record {
      framed = is-framed (finished f now later) q;
      counted = omega
          (arith, e, no-calls (finished f now later) q, no-calls_of now n);
    }

part-framed : (b : ℕ) (f : Form) (now later : Terms) (s : State)
    → AreFramed now
    → HaveNoFrame later
    → length s.frames ≡ inner b f + calls_of now
    → Agrees b (part f now later) s
part-framed b (frame node a) now later s n k e = record { framed = (n, k); counted = omega (arith, e) }
part-framed b f now later s n k e = record { framed = (n, k); counted = e }

settled_if : (b : ℕ) (t : Bool) (f : Form) (now later : Terms) (s : State)
    → all_done now ≡ t
    → AreFramed now
    → HaveNoFrame later
    → length s.frames ≡ inner b f + calls_of now
    → Agrees b (if t then finished f now later else part f now later) s
settled_if b true f now later s d n k e = finished-framed b f now later s (values-quiet now d) k e
settled_if b false f now later s d n k e = part-framed b f now later s n k e

around-agrees : (b : ℕ) (p : Program) (scope : Addr) (f : Form) (later : Terms) (s : State) (x : Walked)
    → 1 ≤ b
    → ProgramHasNoFrame p
    → HaveNoFrame later
    → WalkAgrees (inner b f) s x
    → MoveAgrees b (around p scope f later s x)
around-agrees b p scope f later s (all_values vs) l g k h =
    let P : ℕ → Type 0 = λ n. ActionIn counted_frames b n (row p s scope f vs later) in
    moves-agree b (perform (row p s scope f vs later) s)
    (perform-in counted_frames frames-counted b (row p s scope f vs later) s
    (subst P (sym h) (row-framed b p s scope f vs later l g k)))
around-agrees b p scope f later s (moved (goes now t told)) l g k h =
    settled_if b (all_done now) f now later t refl h.0 k h.1
around-agrees b p scope f later s (moved (travels c t)) l g k h =
    let P : ℕ → Type 0 = λ n. ActionIn counted_frames b n (taken scope f c later) in
    moves-agree b (perform (taken scope f c later) t)
    (perform-in counted_frames frames-counted b (taken scope f c later) t
    (subst P (sym h) (taken-framed b scope f c later k)))
around-agrees b p scope f later s (moved (has_effect t)) l g k h = tt
around-agrees b p scope f later s (moved (is_full what t)) l g k h = tt

-- the frames outside a form's parts, and those within
inner-counts : (b : ℕ) (f : Form) (now later : Terms) (n : ℕ)
    → n ≡ b + calls (part f now later)
    → n ≡ inner b f + calls_of now
inner-counts b (frame node a) now later n e = omega (arith, e)
inner-counts b f now later n e = e

inner-low : (b : ℕ) (f : Form) → 1 ≤ b → 1 ≤ inner b f
inner-low b (frame node a) l = omega arith
inner-low b f l = l

mutual
  pub next-agrees : (b : ℕ) (p : Program) (scope : Addr) (t : Term) (s : State)
      → 1 ≤ b
      → ProgramHasNoFrame p
      → Agrees b t s
      → MoveAgrees b (next p scope t s)
  next-agrees b p scope (done v) s l g h = record { framed = tt; counted = h.counted }
  next-agrees b p scope (standing v place) s l g h = omega (arith, h.counted)
  next-agrees b p scope (part f now later) s l g h =
      let q = h.framed in
      around-agrees b p scope f later s (walk p (scope_in f scope) now s) l g q.1
      (walk-agrees (inner b f) p (scope_in f scope) now s (inner-low b f l) g q.0
      (inner-counts b f now later (length s.frames) h.counted))

  walk-agrees : (b : ℕ) (p : Program) (scope : Addr) (ts : Terms) (s : State)
      → 1 ≤ b
      → ProgramHasNoFrame p
      → AreFramed ts
      → length s.frames ≡ b + calls_of ts
      → WalkAgrees b s (walk p scope ts s)
  walk-agrees b p scope end s l g h e = omega (arith, e)
  walk-agrees b p scope (more (done v) ts) s l g h e =
      with_value-agrees b s v (walk p scope ts s) (walk-agrees b p scope ts s l g h e)
  walk-agrees b p scope (more (standing v place) ts) s l g h e = omega (arith, e)
  walk-agrees b p scope (more (part f now later) ts) s l g h e =
      inside-agrees b ts (next p scope (part f now later) s) h.1
      (next-agrees b p scope (part f now later) s l g (record { framed = h.0; counted = e }))

-- ---- runs

of-agrees : (b : ℕ) (t : Term) (s : State) → Agrees b t s → RunAgrees b (run_of t s)
of-agrees b (done v) s h = tt
of-agrees b (standing v place) s h = h
of-agrees b (part f now later) s h = h

after-agrees : (b : ℕ) (m : Move Term) → MoveAgrees b m → RunAgrees b (run_after m)
after-agrees b (goes t s told) h = of-agrees b t s h
after-agrees b (travels c s) h = tt
after-agrees b (has_effect s) h = tt
after-agrees b (is_full what s) h = tt

step-agrees : (b : ℕ) (p : Program) (scope : Addr) (r : Run)
    → 1 ≤ b
    → ProgramHasNoFrame p
    → RunAgrees b r
    → RunAgrees b (step_in p scope r)
step-agrees b p scope (running t s) l g h = after-agrees b (next p scope t s) (next-agrees b p scope t s l g h)
step-agrees b p scope (over f s) l g h = tt

pub steps-agree : (b k : ℕ) (p : Program) (scope : Addr) (r : Run)
    → 1 ≤ b
    → ProgramHasNoFrame p
    → RunAgrees b r
    → RunAgrees b (steps_in k p scope r)
steps-agree b zero p scope r l g h = h
steps-agree b (suc k) p scope r l g h = steps-agree b k p scope (step_in p scope r) l g (step-agrees b p scope r l g h)

pub start-agrees : (b : ℕ) (t : Term) (s : State) → HasNoFrame t → length s.frames ≡ b → RunAgrees b (run_of t s)
start-agrees b t s h e = of-agrees b t s (record { framed = is-framed t h; counted = omega (arith, e, no-calls t h) })
