-- The frames that actions touch, as far as an invariant sees them.
use Rattle.std.proofs.Common.{◌≡◌, ℕ, Bool, true, false, List, [], ◌∷◌, Option, None, Some, length, refl, sym, subst, if◌then◌else◌}
use Rattle.std.specs.Prelude.{nat_lt, codes}
use Rattle.js_heap.specs.declared.value.Addr.{Addr}
use Rattle.js_heap.specs.declared.value.Value.{Value}
use Rattle.js_heap.specs.declared.value.Value.TheVariants as values
use Rattle.js_heap.specs.declared.built_in.Code.TheVariants as code
use Rattle.js_heap.specs.declared.built_in.ErrorClass.{ErrorClass}
use Rattle.js_heap.specs.declared.built_in.ErrorClass.TheVariants as classes
use Rattle.js_heap.specs.declared.cell.Cell.{Cell}
use Rattle.js_heap.specs.declared.cell.Cell.TheVariants as cells
use Rattle.js_heap.specs.declared.change.Counted.{Counted}
use Rattle.js_heap.specs.World.{World, Tried, fine, effect, full, read_cell, make_cell, write_cell, is_evaluation}
use Rattle.js_semantics.specs.Terms.{Source, script_source, kept_source, Mark, SourceMark, frame, function, Term, done, standing, part, Terms, end, more, one, settle}
use Rattle.js_semantics.specs.State.{Frame, State, StepTold, went, raised, printed_values, Move, goes, travels, has_effect, is_full, Action, go, raise, leave, make, write, print, take_line, set_here, push_frame, pop_frame, fail, with_world, with_here, moved_frames, rest_of, first_line, other_lines, after, raised_at, perform}
use Rattle.js_semantics.specs.BuiltIns.{built_in_call}
use Rattle.js_semantics.specs.Functions.{Program, FunctionCode, function_at, with_functions, too_deep, called_this, frame_entered, entered, frame_limit, call_code, call_cell, call_value, call_row}
use Rattle.js_semantics.proofs.ActionLemmas.{fail-goes}
use Rattle.js_semantics.proofs.GiveLemmas.{built_in-gives}
use Rattle.js_semantics.proofs.InvariantLemmas.{Invariant, IsKept}
use Rattle.js_semantics.proofs.RowLemmas.{IsFree, IsQuiet, HasCode, gives-quiet}

-- What is seen of the frames, with one more and with one less; and how a term stands within the frames that are seen
-- so, where all frames are seen so, behind a step that told this.
pub record Framing : Type 1 where
  pub view : Type 0
  pub seen : List Frame → view
  pub push : Frame → view → view
  pub pop : view → view
  pub stands : StepTold → view → Term → view → Type 0

-- what actions need of it: a value and a throw stand within all frames
pub record IsFraming (V : Framing) : Type 0 where
  pub moved : (fs : List Frame) (place : Mark) → V.seen (moved_frames fs place) ≡ V.seen fs
  pub pushed : (f : Frame) (fs : List Frame) → V.seen (f ∷ fs) ≡ V.push f (V.seen fs)
  pub popped : (fs : List Frame) → V.seen (rest_of fs) ≡ V.pop (V.seen fs)
  pub of_value : (told : StepTold) (b : V.view) (v : Value) → V.stands told b (done v) b
  pub of_throw : (b : V.view) (v : Value) (place : SourceMark) → V.stands raised b (standing v place) b

-- an action goes on with a term that stands within its frames; where it may end in a throw or let a completion travel,
-- no frames are left but those outside
abbrev pub ActionIn : (V : Framing) → V.view → V.view → Action → Type 0
ActionIn V b n (go t) = V.stands went b t n
ActionIn V b n (raise v) = n ≡ b
ActionIn V b n (leave c) = n ≡ b
ActionIn V b n (make c k) = (n ≡ b) × ((a : Addr) → ActionIn V b n (k a))
ActionIn V b n (write a c k) = (n ≡ b) × ActionIn V b n k
ActionIn V b n (print vs text) = n ≡ b
ActionIn V b n (take_line k) = (line : Option (List ℕ)) → ActionIn V b n (k line)
ActionIn V b n (set_here place k) = ActionIn V b n k
ActionIn V b n (push_frame f k) = ActionIn V b (V.push f n) k
ActionIn V b n (pop_frame k) = ActionIn V b (V.pop n) k

-- so does a step
abbrev pub MoveIn : (V : Framing) → V.view → Move Term → Type 0
MoveIn V b (goes t s told) = V.stands told b t (V.seen s.frames)
MoveIn V b (travels c s) = V.seen s.frames ≡ b
MoveIn V b (has_effect s) = Unit {0}
MoveIn V b (is_full what s) = Unit {0}

-- an action that touches no frame
pub quiet-in : (V : Framing) (I : Invariant) (b : V.view)
    → ((t : Term) → I.holds t → V.stands went b t b)
    → (a : Action)
    → IsQuiet I a
    → ActionIn V b b a
quiet-in V I b f (go t) h = f t h
quiet-in V I b f (raise v) h = refl
quiet-in V I b f (leave c) h = refl
quiet-in V I b f (make c k) h = (refl, λ a. quiet-in V I b f (k a) (h a))
quiet-in V I b f (write a c k) h = (refl, quiet-in V I b f k h)
quiet-in V I b f (print vs text) h = refl
quiet-in V I b f (take_line k) h = λ line. quiet-in V I b f (k line) (h line)
quiet-in V I b f (set_here place k) h = quiet-in V I b f k h
quiet-in V I b f (push_frame e k) h = absurd h.0
quiet-in V I b f (pop_frame k) h = absurd h.0

-- ---- performing

module _ (V : Framing) (l : IsFraming V) (b : V.view) where
  value-in : (told : StepTold) (v : Value) (n : V.view) → n ≡ b → V.stands told b (done v) n
  value-in told v n e = subst (λ (m : V.view). V.stands told b (done v) m) (sym e) (l.of_value told b v)

  throw-in : (v : Value) (place : SourceMark) (n : V.view) → n ≡ b → V.stands raised b (standing v place) n
  throw-in v place n e = subst (λ (m : V.view). V.stands raised b (standing v place) m) (sym e) (l.of_throw b v place)

  full-in : (t : Bool) (what : Counted) (s : State) (v : Value)
      → V.seen s.frames ≡ b
      → MoveIn V b (if t then is_full what s else raised_at v s)
  full-in true what s v e = tt
  full-in false what s v e = throw-in v _ (V.seen s.frames) e

  outside-in : (t : Bool) (s : State) (m : Move Term) → MoveIn V b m → MoveIn V b (if t then has_effect s else m)
  outside-in true s m h = tt
  outside-in false s m h = h

  after-in : {A : Type 0} (s : State) (t : Tried A) (k : A → State → Move Term)
      → V.seen s.frames ≡ b
      → ((a : A) (w : World) → MoveIn V b (k a (with_world s w)))
      → MoveIn V b (after t s k)
  after-in s (fine a w) k e h = h a w
  after-in s effect k e h = tt
  after-in s (full what) k e h = full-in (is_evaluation s.world) what s _ e

  pub perform-in : (a : Action) (s : State) → ActionIn V b (V.seen s.frames) a → MoveIn V b (perform a s)
  perform-in (go t) s h = h
  perform-in (raise v) s h = throw-in v _ (V.seen s.frames) h
  perform-in (leave c) s h = h
  perform-in (make c k) s h =
      after-in s (make_cell s.world c) (λ a. perform (k a)) h.0 (λ a w. perform-in (k a) (with_world s w) (h.1 a))
  perform-in (write a c k) s h =
      after-in s (write_cell s.world a c) (λ x. perform k) h.0 (λ x w. perform-in k (with_world s w) h.1)
  perform-in (print vs text) s h =
      outside-in (is_evaluation s.world) s _
      (value-in (printed_values vs) values.Undefined (V.seen s.frames) h)
  perform-in (take_line k) s h =
      outside-in (is_evaluation s.world) s _
      (perform-in (k (first_line s.input)) (record s { input = other_lines s.input }) (h (first_line s.input)))
  perform-in (set_here place k) s h =
      perform-in k (with_here s place)
      (subst (λ (n : V.view). ActionIn V b n k) (sym (l.moved s.frames place)) h)
  perform-in (push_frame f k) s h =
      perform-in k (record s { frames = f ∷ s.frames })
      (subst (λ (n : V.view). ActionIn V b n k) (sym (l.pushed f s.frames)) h)
  perform-in (pop_frame k) s h =
      perform-in k (record s { frames = rest_of s.frames })
      (subst (λ (n : V.view). ActionIn V b n k) (sym (l.popped s.frames)) h)

-- ---- calls

-- a frame of a function, whose code is so, stands within one frame more
abbrev pub Enters : (V : Framing) → V.view → (Source → FunctionCode → Type 0) → Type 0
Enters V b Q =
    (f : Frame) (c : FunctionCode) (a : Addr)
    → Q f.source c
    → V.stands went b (part (frame c.form.node a) (one (settle c.body)) end) (V.push f b)

-- the code of each function of a program is so
abbrev pub KnowsCode : Program → (Source → FunctionCode → Type 0) → Type 0
KnowsCode p Q = (source : Source) (node : ℕ) → HasCode (Q source) (function_at p source node)

module _ (V : Framing) (l : IsFraming V) (b : V.view) (I : Invariant) (kept : IsKept I) (g : IsFree I) (quiet : (t : Term) → I.holds t → V.stands went b t b) (Q : Source → FunctionCode → Type 0) (enters : Enters V b Q) where
  entered-in : (scope : Addr) (ts : Terms) (c : FunctionCode) (source : Source) (a : Addr) (x : Value) (s : Addr)
      → Q source c
      → ActionIn V b b (with_functions scope ts (frame_entered c source a x s))
  entered-in scope end c source a x s h = enters _ c s h
  entered-in scope (more (part (function f) now later) ts) c source a x s h =
      (refl, λ d. (refl, entered-in scope ts c source a x s h))
  entered-in scope (more _ ts) c source a x s h = entered-in scope ts c source a x s h

  either-in : (t : Bool) (x y : Action) → ActionIn V b b x → ActionIn V b b y → ActionIn V b b (if t then x else y)
  either-in true x y h k = h
  either-in false x y h k = k

  fail-in : (class : ErrorClass) (message : List ℕ) → ActionIn V b b (fail class message)
  fail-in class message = quiet-in V I b quiet (fail class message) (fail-goes I.holds ⊥ class message)

  code-in : (s : State) (o : Option FunctionCode) (source : Source) (a : Addr) (name : List ℕ) (outer : Option Addr)
      (x y : Value) (args : List Value)
      → HasCode (Q source) o
      → ActionIn V b b (call_code s o source a name outer x y args)
  code-in s None source a name outer x y args h = fail-in classes.TypeError (codes "Value is not a function")
  code-in s (Some c) source a name None x y args h = fail-in classes.TypeError (codes "Value is not a function")
  code-in s (Some c) source a name (Some outer) x y args h =
      either-in (nat_lt (length s.frames) frame_limit)
      (entered c source a name outer (called_this c.form.is_arrow x y) args) too_deep
      (refl, λ d. entered-in d c.functions c source a (called_this c.form.is_arrow x y) d h)
      (fail-in classes.RangeError (codes "Maximum call stack size exceeded"))

  cell-in : (p : Program) (s : State) (a : Addr) (o : Option Cell) (y : Value) (args : List Value)
      → KnowsCode p Q
      → ActionIn V b b (call_cell p s a o y args)
  cell-in p s a (Some (cells.Function (code.BuiltIn f) n m outer x)) y args known =
      quiet-in V I b quiet (built_in_call s.world f y args)
      (gives-quiet I kept g (built_in_call s.world f y args) (built_in-gives s.world f y args))
  cell-in p s a (Some (cells.Function (code.Script number node) n m outer x)) y args known =
      code-in s (function_at p (script_source number) node) (script_source number) a n outer x y args
      (known (script_source number) node)
  cell-in p s a (Some (cells.Function (code.Kept at node) n m outer x)) y args known =
      code-in s (function_at p (kept_source at) node) (kept_source at) a n outer x y args
      (known (kept_source at) node)
  cell-in p s a _ y args known = fail-in classes.TypeError (codes "Value is not a function")

  value-in-call : (p : Program) (s : State) (f y : Value) (args : List Value)
      → KnowsCode p Q
      → ActionIn V b b (call_value p s f y args)
  value-in-call p s (values.Object a) y args known = cell-in p s a (read_cell s.world a) y args known
  value-in-call p s _ y args known = fail-in classes.TypeError (codes "Value is not a function")

  pub call-in : (p : Program) (s : State) (place : Mark) (vs : List Value)
      → KnowsCode p Q
      → ActionIn V b b (call_row p s place vs)
  call-in p s place [] known = l.of_value went b values.Undefined
  call-in p s place (x ∷ []) known = l.of_value went b values.Undefined
  call-in p s place (x ∷ f ∷ args) known = value-in-call p s f x args known
