-- No step makes more calls active than may be.
use Rattle.std.proofs.Common.{◌≡◌, ℕ, zero, suc, ◌+◌, ◌<◌, ◌≤◌, Bool, true, false, List, [], ◌∷◌, Option, None, Some, length, refl, sym, subst, arith, if◌then◌else◌}
use Rattle.std.specs.Prelude.{nat_lt, codes}
use Rattle.js_heap.specs.declared.value.Addr.{Addr}
use Rattle.js_heap.specs.declared.value.Value.{Value}
use Rattle.js_heap.specs.declared.value.Value.TheVariants as values
use Rattle.js_heap.specs.declared.built_in.Code.TheVariants as code
use Rattle.js_heap.specs.declared.built_in.ErrorClass.{ErrorClass}
use Rattle.js_heap.specs.declared.built_in.ErrorClass.TheVariants as classes
use Rattle.js_heap.specs.declared.cell.Binding.{Binding}
use Rattle.js_heap.specs.declared.cell.Cell.{Cell}
use Rattle.js_heap.specs.declared.cell.Cell.TheVariants as cells
use Rattle.js_heap.specs.declared.change.Counted.{Counted}
use Rattle.js_heap.specs.BuiltIns.{script_scope}
use Rattle.js_heap.specs.World.{World, Tried, fine, effect, full, read_cell, make_cell, write_cell, is_evaluation}
use Rattle.js_semantics.specs.Terms.{Term, done, standing, part, Terms, end, more, is_done, all_done, finished, settle}
use Rattle.js_semantics.specs.declared.form.Source.{Source}
use Rattle.js_semantics.specs.declared.form.Source.TheVariants.{Script as script_source, Kept as kept_source}
use Rattle.js_semantics.specs.declared.form.Mark.{Mark}
use Rattle.js_semantics.specs.declared.form.Completion.{Completion}
use Rattle.js_semantics.specs.declared.form.Completion.TheVariants.{Throws as throws, Returns as returns, Breaks as breaks, Continues as continues}
use Rattle.js_semantics.specs.declared.form.Form.{Form}
use Rattle.js_semantics.specs.declared.form.Form.TheVariants.{Script as script, Frame as frame, Call as call, Function as function}
use Rattle.js_semantics.specs.State.{Frame, State, Move, goes, travels, has_effect, is_full, inside, Action, go, raise, leave, make, write, print, take_line, set_here, push_frame, pop_frame, fail, with_world, with_here, rest_of, first_line, other_lines, after, raised_at, perform}
use Rattle.js_semantics.specs.BuiltIns.{built_in_call}
use Rattle.js_semantics.specs.Functions.{Program, FunctionCode, function_at, with_functions, with_names, too_deep, called_this, frame_entered, entered, frame_limit, call_code, call_cell, call_value, call_row}
use Rattle.js_semantics.specs.Rows.{script_row, row, taken}
use Rattle.js_semantics.specs.Next.{Walked, all_values, moved, with_value, scope_in, around, next, walk}
use Rattle.js_semantics.specs.Run.{Run, running, over, run_of, run_after, state_of, step_in, steps_in}
use Rattle.js_semantics.specs.Waiting.{uncovers, ByCase}
use Rattle.js_semantics.specs.Claims.{OfProgram}
use Rattle.js_semantics.proofs.ActionLemmas.{functions-goes, names-goes, fail-goes}
use Rattle.js_semantics.proofs.GiveLemmas.{built_in-gives}
use Rattle.js_semantics.proofs.DepthLemmas.{moved-length}
use Rattle.js_semantics.proofs.InvariantLemmas.{Invariant, IsKept, either-way, one-way, finished-kept, settle-kept}
use Rattle.js_semantics.proofs.RowLemmas.{IsFree, IsQuiet, HasCode, FindsCode, function_at-has, gives-quiet, row-quiet, taken-quiet}
use Rattle.js_semantics_limits.specs.ActiveCalls.{contexts_of, active_calls, active_calls_in, IsAtRest, ProgramIsAtRest, calls_in}
use Rattle.js_semantics_limits.proofs.CellLemmas.{more-than}

-- ---- that no call is active is an invariant of the steps that touch no frame

pub none-in-all : (a b c : ℕ) → a ≡ 0 → b ≡ 0 → c ≡ 0 → a + (b + c) ≡ 0
none-in-all a b c h n q = omega (arith, h, n, q)

pub none-in-both : (a b : ℕ) → a ≡ 0 → b ≡ 0 → a + b ≡ 0
none-in-both a b h n = omega (arith, h, n)

pub none-in-first : (a b : ℕ) → a + b ≡ 0 → a ≡ 0
none-in-first a b h = omega (arith, h)

pub none-in-second : (a b : ℕ) → a + b ≡ 0 → b ≡ 0
none-in-second a b h = omega (arith, h)

opened-rest : (f : Form) (now later : Terms)
    → active_calls (part f now later) ≡ 0
    → (contexts_of f ≡ 0) × (active_calls_in now ≡ 0) × (active_calls_in later ≡ 0)
opened-rest f now later h = (omega (arith, h), omega (arith, h), omega (arith, h))

-- under a premise: what is said of calls is said where it holds, what is said of frames always
abbrev pub resting : Type 0 → Invariant
resting R = record {
  holds = λ t. R → IsAtRest t;
  covered = λ t. R → IsAtRest t;
  all = λ ts. R → active_calls_in ts ≡ 0;
  rest = λ ts. R → active_calls_in ts ≡ 0;
  form = λ f n later. R → contexts_of f ≡ 0;
  value = λ v. Unit {0};
  scope = λ a. Unit {0};
  kept = λ c. Unit {0};
}

opened-given : (R : Type 0) (f : Form) (now later : Terms)
    → (R → active_calls (part f now later) ≡ 0)
    → (R → contexts_of f ≡ 0)
    × (R → active_calls_in now ≡ 0)
    × ByCase (uncovers f) (R → active_calls_in later ≡ 0) (R → active_calls_in later ≡ 0)
opened-given R f now later h =
    let o = λ (r : R). opened-rest f now later (h r) in (
      λ r. let q = o r in q.0,
      λ r. let q = o r in q.1,
      either-way (uncovers f) (R → active_calls_in later ≡ 0) (λ r. let q = o r in q.2),
    )

pub rest-kept : (R : Type 0) → IsKept (resting R)
rest-kept R = record {
  no_value = tt;
  no_completion = tt;
  of_value = λ v h r. refl;
  no_parts = λ r. refl;
  a_part = λ t ts h q r. none-in-both (active_calls t) (active_calls_in ts) (h r) (q r);
  first_part = λ t ts h r. none-in-first (active_calls t) (active_calls_in ts) (h r);
  other_parts = λ t ts h r. none-in-second (active_calls t) (active_calls_in ts) (h r);
  uncovered = λ t ts h r. none-in-first (active_calls t) (active_calls_in ts) (h r);
  behind = λ t ts h r. none-in-second (active_calls t) (active_calls_in ts) (h r);
  covers = λ t h. h;
  of_done = λ v h. h;
  of_standing = λ v place h. h;
  opened = opened-given R;
  closed =
      λ f now later e h n q r. none-in-all (contexts_of f) (active_calls_in now) (active_calls_in later) (h r) (n r)
      (one-way (uncovers f) (R → active_calls_in later ≡ 0) q r);
  of_loop = λ stage a n later h. (tt, λ s b m i l r. refl);
  of_for = λ node c names n t later h s b m i l r. refl;
  of_for_of = λ node b n t later h r. refl;
  of_list = λ b n v later h r. refl;
  of_turn = λ b i n m later h r. refl;
  of_again = λ b i n m later h r. refl;
  of_next = λ b i n later h r. refl;
  of_scope = λ a n l r. refl;
  of_ending = λ c n l r. refl;
  of_comma = λ n t u ts h r. refl;
  of_binary = λ o r. refl;
  of_compound = λ o x n later h r. refl;
  of_callee = λ x place node n m later h r. refl;
  of_method = λ ms n f now later ts h r. refl;
}

rest-free : (R : Type 0) → IsFree (resting R)
rest-free R = record { each_value = λ v. tt; each_scope = λ a. tt; each_completion = λ c. tt }

-- ---- the bodies of functions

-- a program whose sources are at rest, under a premise that holds
program-given : (p : Program) → ProgramIsAtRest p → OfProgram (λ t. Unit {0} → IsAtRest t) p
program-given [] h = tt
program-given (t ∷ ts) h = (λ r. h.0, program-given ts h.1)

body-found : FindsCode (resting (Unit {0})) (λ c. IsAtRest c.body)
body-found = record {
  of_function = λ f n b fs h q. none-in-first (active_calls b) (active_calls_in fs) (q tt);
  of_method = λ f n b fs h q. none-in-first (active_calls b) (active_calls_in fs) (q tt);
}

-- ---- where active calls stand

-- calls are active only around the part about to be reduced
abbrev mutual
  IsNested : Term → Type 0
  IsNested (done v) = Unit {0}
  IsNested (standing v place) = Unit {0}
  IsNested (part f now later) = AreNested now × (active_calls_in later ≡ 0)

  AreNested : Terms → Type 0
  AreNested end = Unit {0}
  AreNested (more t ts) = IsNested t × ByCase (is_done t) (AreNested ts) (active_calls_in ts ≡ 0)

by-both : (b : Bool) (A B : Type 0) → A → B → ByCase b A B
by-both true A B h q = h
by-both false A B h q = q

mutual
  rest-nested : (t : Term) → active_calls t ≡ 0 → IsNested t
  rest-nested (done v) h = tt
  rest-nested (standing v place) h = tt
  rest-nested (part f now later) h = let o = opened-rest f now later h in (all-rest-nested now o.1, o.2)

  all-rest-nested : (ts : Terms) → active_calls_in ts ≡ 0 → AreNested ts
  all-rest-nested end h = tt
  all-rest-nested (more t ts) h =
      let behind = none-in-second (active_calls t) (active_calls_in ts) h in (
        rest-nested t (none-in-first (active_calls t) (active_calls_in ts) h),
        by-both (is_done t) (AreNested ts) (active_calls_in ts ≡ 0) (all-rest-nested ts behind) behind,
      )

-- in what is finished no call is active
values-rest : (ts : Terms) → all_done ts ≡ true → active_calls_in ts ≡ 0
values-rest end e = refl
values-rest (more (done v) ts) e =
    let behind = values-rest ts e in
    omega (arith, behind)
values-rest (more (standing v place) ts) e = cc
values-rest (more (part f now later) ts) e = cc

-- ---- frames

abbrev one_less : ℕ → ℕ
one_less zero = zero
one_less (suc n) = n

rest-length : (fs : List Frame) → length (rest_of fs) ≡ one_less (length fs)
rest-length [] = refl
rest-length (f ∷ fs) = refl

-- the frames outside a form's parts
abbrev inner : ℕ → Form → ℕ
inner b (frame node a) = suc b
inner b f = b

inner-counts : (b : ℕ) (f : Form) → inner b f ≡ b + contexts_of f
inner-counts b (frame node a) = omega arith
inner-counts b f = omega arith

-- as many frames are counted as calls are active, and no more than may be
module _ (R : Type 0) where
  -- so many frames are counted, of which the first are outside
  abbrev AreFew : ℕ → ℕ → Type 0
  AreFew b n = (R → b ≤ n) × (n ≤ frame_limit)

  -- a term stands within so many frames: those outside it, and one for each call that is active in it
  record Fits (b : ℕ) (t : Term) (n : ℕ) : Type 0 where
    nested : R → IsNested t
    counted : R → b + active_calls t ≤ n
    few : n ≤ frame_limit

  -- an action, before which so many frames are counted
  abbrev ActionFits : ℕ → ℕ → Action → Type 0
  ActionFits b n (go t) = Fits b t n
  ActionFits b n (raise v) = AreFew b n
  ActionFits b n (leave c) = AreFew b n
  ActionFits b n (make c k) = AreFew b n × ((a : Addr) → ActionFits b n (k a))
  ActionFits b n (write a c k) = AreFew b n × ActionFits b n k
  ActionFits b n (print vs text) = AreFew b n
  ActionFits b n (take_line k) = AreFew b n × ((line : Option (List ℕ)) → ActionFits b n (k line))
  ActionFits b n (set_here place k) = ActionFits b n k
  ActionFits b n (push_frame f k) = ActionFits b (suc n) k
  ActionFits b n (pop_frame k) = ActionFits b (one_less n) k

  abbrev MoveFits : ℕ → Move Term → Type 0
  MoveFits b (goes t s told) = Fits b t (length s.frames)
  MoveFits b (travels c s) = AreFew b (length s.frames)
  MoveFits b (has_effect s) = length s.frames ≤ frame_limit
  MoveFits b (is_full what s) = length s.frames ≤ frame_limit

  rest-fits : (b n : ℕ) (t : Term) → AreFew b n → (R → IsAtRest t) → Fits b t n
  rest-fits b n t few h =
      record { nested = λ r. rest-nested t (h r); counted = λ r. omega (arith, few.0 r, h r); few = few.1 }

  -- an action that touches no frame
  quiet-fits : (b n : ℕ) (a : Action) → AreFew b n → IsQuiet (resting R) a → ActionFits b n a
  quiet-fits b n (go t) few h = rest-fits b n t few h
  quiet-fits b n (raise v) few h = few
  quiet-fits b n (leave c) few h = few
  quiet-fits b n (make c k) few h = (few, λ a. quiet-fits b n (k a) few (h a))
  quiet-fits b n (write a c k) few h = (few, quiet-fits b n k few h)
  quiet-fits b n (print vs text) few h = few
  quiet-fits b n (take_line k) few h = (few, λ line. quiet-fits b n (k line) few (h line))
  quiet-fits b n (set_here place k) few h = quiet-fits b n k few h
  quiet-fits b n (push_frame f k) few h = absurd h.0
  quiet-fits b n (pop_frame k) few h = absurd h.0

  -- ---- performing

  value-fits : (b n : ℕ) (v : Value) → AreFew b n → Fits b (done v) n
  value-fits b n v few = rest-fits b n (done v) few (λ r. refl)

  throw-fits : (b : ℕ) (v : Value) (s : State) → AreFew b (length s.frames) → MoveFits b (raised_at v s)
  throw-fits b v s few = rest-fits b (length s.frames) _ few (λ r. refl)

  full-fits : (b : ℕ) (t : Bool) (what : Counted) (s : State) (v : Value)
      → AreFew b (length s.frames)
      → MoveFits b (if t then is_full what s else raised_at v s)
  full-fits b true what s v few = few.1
  full-fits b false what s v few = throw-fits b v s few

  outside-fits : (b : ℕ) (t : Bool) (s : State) (m : Move Term)
      → AreFew b (length s.frames)
      → MoveFits b m
      → MoveFits b (if t then has_effect s else m)
  outside-fits b true s m few h = few.1
  outside-fits b false s m few h = h

  after-fits : {A : Type 0} (b : ℕ) (s : State) (t : Tried A) (k : A → State → Move Term)
      → AreFew b (length s.frames)
      → ((a : A) (w : World) → MoveFits b (k a (with_world s w)))
      → MoveFits b (after t s k)
  after-fits b s (fine a w) k few h = h a w
  after-fits b s effect k few h = few.1
  after-fits b s (full what) k few h = full-fits b (is_evaluation s.world) what s _ few

  perform-fits : (b : ℕ) (a : Action) (s : State) → ActionFits b (length s.frames) a → MoveFits b (perform a s)
  perform-fits b (go t) s h = h
  perform-fits b (raise v) s h = throw-fits b v s h
  perform-fits b (leave c) s h = h
  perform-fits b (make c k) s h =
      after-fits b s (make_cell s.world c) (λ a. perform (k a)) h.0
      (λ a w. perform-fits b (k a) (with_world s w) (h.1 a))
  perform-fits b (write a c k) s h =
      after-fits b s (write_cell s.world a c) (λ x. perform k) h.0 (λ x w. perform-fits b k (with_world s w) h.1)
  perform-fits b (print vs text) s h =
      outside-fits b (is_evaluation s.world) s _ h (value-fits b (length s.frames) values.Undefined h)
  perform-fits b (take_line k) s h =
      outside-fits b (is_evaluation s.world) s _ h.0
      (perform-fits b (k (first_line s.input)) (record s { input = other_lines s.input }) (h.1 (first_line s.input)))
  perform-fits b (set_here place k) s h =
      perform-fits b k (with_here s place)
      (subst (λ (n : ℕ). ActionFits b n k) (sym (moved-length s.frames place)) h)
  perform-fits b (push_frame f k) s h = perform-fits b k (record s { frames = f ∷ s.frames }) h
  perform-fits b (pop_frame k) s h =
      perform-fits b k (record s { frames = rest_of s.frames })
      (subst (λ (n : ℕ). ActionFits b n k) (sym (rest-length s.frames)) h)

  -- ---- calls

  -- the frame of a call fits where one more may be active
  entered-fits : (b n : ℕ) (scope : Addr) (ts : Terms) (c : FunctionCode) (source : Source) (a : Addr) (x : Value)
      (s : Addr)
      → (R → b ≤ n)
      → n < frame_limit
      → (R → IsAtRest c.body)
      → ActionFits b n (with_functions scope ts (frame_entered c source a x s))
  entered-fits b n scope end c source a x s low high h =
      let body = settle-kept (resting R) (rest-kept R) c.body h in
      record {
        nested =
            λ r. (
              (
                rest-nested (settle c.body) (body r),
                by-both (is_done (settle c.body)) (Unit {0}) (0 ≡ 0) tt refl,
              ),
              refl,
            );
        counted = λ r. omega (arith, low r, body r);
        few = omega (arith, high);
      }
  entered-fits b n scope (more (part (function f) now later) ts) c source a x s low high h =
      let few : AreFew b n = (low, omega (arith, high)) in
      (few, λ d. (few, entered-fits b n scope ts c source a x s low high h))
  entered-fits b n scope (more _ ts) c source a x s low high h = entered-fits b n scope ts c source a x s low high h

  fail-fits : (b n : ℕ) (class : ErrorClass) (message : List ℕ) → AreFew b n → ActionFits b n (fail class message)
  fail-fits b n class message few =
      quiet-fits b n (fail class message) few (fail-goes (λ t. R → IsAtRest t) ⊥ class message)

  -- a call is entered where fewer frames are counted than may be
  either-fits : (b n : ℕ) (t : Bool) (x y : Action)
      → (t ≡ true → ActionFits b n x)
      → ActionFits b n y
      → ActionFits b n (if t then x else y)
  either-fits b n true x y h k = h refl
  either-fits b n false x y h k = k

  code-fits : (b : ℕ) (s : State) (o : Option FunctionCode) (source : Source) (a : Addr) (name : List ℕ)
      (outer : Option Addr) (x y : Value) (args : List Value)
      → AreFew b (length s.frames)
      → (R → HasCode (λ c. IsAtRest c.body) o)
      → ActionFits b (length s.frames) (call_code s o source a name outer x y args)
  code-fits b s None source a name outer x y args few h =
      fail-fits b (length s.frames) classes.TypeError (codes "Value is not a function") few
  code-fits b s (Some c) source a name None x y args few h =
      fail-fits b (length s.frames) classes.TypeError (codes "Value is not a function") few
  code-fits b s (Some c) source a name (Some outer) x y args few h =
      either-fits b (length s.frames) (nat_lt (length s.frames) frame_limit)
      (entered c source a name outer (called_this c.form.is_arrow x y) args) too_deep
      (λ room. (
        few,
        λ d. entered-fits b (length s.frames) d c.functions c source a (called_this c.form.is_arrow x y) d
            few.0 (more-than (length s.frames) frame_limit room) h,
      ))
      (fail-fits b (length s.frames) classes.RangeError (codes "Maximum call stack size exceeded") few)

  -- the body of a function that is found
  body-rests : (p : Program) (source : Source) (node : ℕ)
      → (R → ProgramIsAtRest p)
      → R
      → HasCode (λ c. IsAtRest c.body) (function_at p source node)
  body-rests p source node h r =
      function_at-has (resting (Unit {0})) (rest-kept (Unit {0})) (λ c. IsAtRest c.body) body-found p source node
      (program-given p (h r))

  cell-fits : (b : ℕ) (p : Program) (s : State) (a : Addr) (o : Option Cell) (y : Value) (args : List Value)
      → AreFew b (length s.frames)
      → (R → ProgramIsAtRest p)
      → ActionFits b (length s.frames) (call_cell p s a o y args)
  cell-fits b p s a (Some (cells.Function (code.BuiltIn f) n m outer x)) y args few h =
      quiet-fits b (length s.frames) (built_in_call s.world f y args) few
      (gives-quiet (resting R) (rest-kept R) (rest-free R) (built_in_call s.world f y args)
      (built_in-gives s.world f y args))
  cell-fits b p s a (Some (cells.Function (code.Script number node) n m outer x)) y args few h =
      code-fits b s (function_at p (script_source number) node) (script_source number) a n outer x y args few
      (body-rests p (script_source number) node h)
  cell-fits b p s a (Some (cells.Function (code.Kept at node) n m outer x)) y args few h =
      code-fits b s (function_at p (kept_source at) node) (kept_source at) a n outer x y args few
      (body-rests p (kept_source at) node h)
  cell-fits b p s a _ y args few h =
      fail-fits b (length s.frames) classes.TypeError (codes "Value is not a function") few

  value_call-fits : (b : ℕ) (p : Program) (s : State) (f y : Value) (args : List Value)
      → AreFew b (length s.frames)
      → (R → ProgramIsAtRest p)
      → ActionFits b (length s.frames) (call_value p s f y args)
  value_call-fits b p s (values.Object a) y args few h = cell-fits b p s a (read_cell s.world a) y args few h
  value_call-fits b p s _ y args few h =
      fail-fits b (length s.frames) classes.TypeError (codes "Value is not a function") few

  call-fits : (b : ℕ) (p : Program) (s : State) (place : Mark) (vs : List Value)
      → AreFew b (length s.frames)
      → (R → ProgramIsAtRest p)
      → ActionFits b (length s.frames) (call_row p s place vs)
  call-fits b p s place [] few h = value-fits b (length s.frames) values.Undefined few
  call-fits b p s place (x ∷ []) few h = value-fits b (length s.frames) values.Undefined few
  call-fits b p s place (x ∷ f ∷ args) few h = value_call-fits b p s f x args few h

  -- ---- THE TABLE OF STEPS, AND THAT OF COMPLETIONS

  -- a script's frame takes the place of the bottom one
  script-few : (b n : ℕ) → AreFew b n → AreFew b (suc (one_less n))
  script-few b zero few = (λ r. omega (arith, few.0 r), omega arith)
  script-few b (suc n) few = few

  -- a frame less
  less-few : (b n : ℕ) → AreFew (suc b) n → AreFew b (one_less n)
  less-few b zero few = (λ r. absurd (omega (arith, few.0 r)), few.1)
  less-few b (suc n) few = (λ r. omega (arith, few.0 r), omega (arith, few.1))

  script-fits : (b n : ℕ) (number : ℕ) (names : List Binding) (later : Terms)
      → AreFew b n
      → (R → active_calls_in later ≡ 0)
      → ActionFits b n (script_row number names later)
  script-fits b n number names end few h = value-fits b n values.Undefined few
  script-fits b n number names (more t fs) few h =
      let P : Term → Type 0 = λ x. R → IsAtRest x in
      quiet-fits b (suc (one_less n)) (with_names script_scope names (with_functions script_scope fs (go (settle t))))
      (script-few b n few)
      (names-goes P ⊥ script_scope names (with_functions script_scope fs (go (settle t)))
      (functions-goes P ⊥ script_scope fs (go (settle t))
      (settle-kept (resting R) (rest-kept R) t (λ r. none-in-first (active_calls t) (active_calls_in fs) (h r)))))

  row-fits : (b : ℕ) (p : Program) (s : State) (scope : Addr) (f : Form) (vs : List Value) (later : Terms)
      → AreFew (inner b f) (length s.frames)
      → (R → ProgramIsAtRest p)
      → (R → active_calls_in later ≡ 0)
      → ActionFits b (length s.frames) (row p s scope f vs later)
  row-fits b p s scope (script number names) vs later few g h =
      script-fits b (length s.frames) number names later few h
  row-fits b p s scope (frame node a) vs later few g h =
      value-fits b (one_less (length s.frames)) values.Undefined (less-few b (length s.frames) few)
  row-fits b p s scope (call place node) vs later few g h = call-fits b p s place vs few g
  row-fits b p s scope f vs later few g h =
      quiet-fits b (length s.frames) (row p s scope f vs later) few
      (row-quiet (resting R) (rest-kept R) (rest-free R) p s scope f vs later refl (λ r. refl)
      (either-way (uncovers f) (R → active_calls_in later ≡ 0) h))

  taken-fits : (b n : ℕ) (scope : Addr) (f : Form) (c : Completion) (later : Terms)
      → AreFew (inner b f) n
      → (R → active_calls_in later ≡ 0)
      → ActionFits b n (taken scope f c later)
  taken-fits b n scope (frame node a) (returns v) later few h = value-fits b (one_less n) v (less-few b n few)
  taken-fits b n scope (frame node a) (throws v place) later few h = less-few b n few
  taken-fits b n scope (frame node a) breaks later few h = less-few b n few
  taken-fits b n scope (frame node a) continues later few h = less-few b n few
  taken-fits b n scope (script number names) c later few h = few
  taken-fits b n scope (call place node) c later few h = few
  taken-fits b n scope f c later few h =
      quiet-fits b n (taken scope f c later) few
      (taken-quiet (resting R) (rest-kept R) (rest-free R) scope f c 0 later refl (λ r. refl)
      (either-way (uncovers f) (R → active_calls_in later ≡ 0) h))

  -- ---- steps

  abbrev MovesFit : ℕ → Move Terms → Type 0
  MovesFit b (goes ts s told) =
      (R → AreNested ts × (b + active_calls_in ts ≤ length s.frames)) × (length s.frames ≤ frame_limit)
  MovesFit b (travels c s) = AreFew b (length s.frames)
  MovesFit b (has_effect s) = length s.frames ≤ frame_limit
  MovesFit b (is_full what s) = length s.frames ≤ frame_limit

  abbrev WalkFits : ℕ → State → Walked → Type 0
  WalkFits b s (all_values vs) = AreFew b (length s.frames)
  WalkFits b s (moved m) = MovesFit b m

  behind-value : (b n : ℕ) (v : Value) (ts : Terms)
      → AreNested ts × (b + active_calls_in ts ≤ n)
      → AreNested (more (done v) ts) × (b + active_calls_in (more (done v) ts) ≤ n)
  behind-value b n v ts h = ((tt, h.0), omega (arith, h.1))

  value_in : (b : ℕ) (v : Value) (m : Move Terms) → MovesFit b m → MovesFit b (inside (λ ts. more (done v) ts) m)
  value_in b v (goes ts s told) h = (λ r. behind-value b (length s.frames) v ts (h.0 r), h.1)
  value_in b v (travels c s) h = h
  value_in b v (has_effect s) h = h
  value_in b v (is_full what s) h = h

  with_value-fits : (b : ℕ) (s : State) (v : Value) (x : Walked) → WalkFits b s x → WalkFits b s (with_value v x)
  with_value-fits b s v (all_values vs) h = h
  with_value-fits b s v (moved m) h = value_in b v m h

  before-parts : (b n : ℕ) (t : Term) (ts : Terms)
      → active_calls_in ts ≡ 0
      → IsNested t
      → b + active_calls t ≤ n
      → AreNested (more t ts) × (b + active_calls_in (more t ts) ≤ n)
  before-parts b n t ts q nested counted = (
    (nested, by-both (is_done t) (AreNested ts) (active_calls_in ts ≡ 0) (all-rest-nested ts q) q),
    omega (arith, counted, q),
  )

  inside-fits : (b : ℕ) (ts : Terms) (m : Move Term)
      → (R → active_calls_in ts ≡ 0)
      → MoveFits b m
      → MovesFit b (inside (λ t. more t ts) m)
  inside-fits b ts (goes t s told) q h =
      (λ r. before-parts b (length s.frames) t ts (q r) (h.nested r) (h.counted r), h.few)
  inside-fits b ts (travels c s) q h = h
  inside-fits b ts (has_effect s) q h = h
  inside-fits b ts (is_full what s) q h = h

  part-counts : (b n : ℕ) (f : Form) (now later : Terms)
      → active_calls_in later ≡ 0
      → inner b f + active_calls_in now ≤ n
      → b + active_calls (part f now later) ≤ n
  part-counts b n f now later q counted =
      let outside = inner-counts b f in
      omega (arith, q, counted, outside)

  part-fits : (b n : ℕ) (f : Form) (now later : Terms)
      → (R → active_calls_in later ≡ 0)
      → (R → AreNested now × (inner b f + active_calls_in now ≤ n))
      → n ≤ frame_limit
      → Fits b (part f now later) n
  part-fits b n f now later q h few = record {
    nested = λ r. let i = h r in (i.0, q r);
    counted = λ r. let i = h r in part-counts b n f now later (q r) i.1;
    few = few;
  }

  finished-fits : (b n : ℕ) (f : Form) (now later : Terms)
      → active_calls_in now ≡ 0
      → (R → active_calls_in later ≡ 0)
      → AreFew (inner b f) n
      → Fits b (finished f now later) n
  finished-fits b n (frame node a) now later h q few =
      part-fits b n (frame node a) now later q (λ r. (all-rest-nested now h, omega (arith, few.0 r, h))) few.1
  finished-fits b n f now later h q few =
      rest-fits b n (finished f now later) few
      (finished-kept (resting R) (rest-kept R) f now later (λ r. refl) (λ r. h)
      (either-way (uncovers f) (R → active_calls_in later ≡ 0) q))

  at-least : (a b n : ℕ) → a + b ≤ n → a ≤ n
  at-least a b n h = omega (arith, h)

  settled_if : (b n : ℕ) (t : Bool) (f : Form) (now later : Terms)
      → all_done now ≡ t
      → (R → active_calls_in later ≡ 0)
      → (R → AreNested now × (inner b f + active_calls_in now ≤ n))
      → n ≤ frame_limit
      → Fits b (if t then finished f now later else part f now later) n
  settled_if b n true f now later d q h few =
      finished-fits b n f now later (values-rest now d) q
      (λ r. let i = h r in at-least (inner b f) (active_calls_in now) n i.1, few)
  settled_if b n false f now later d q h few = part-fits b n f now later q h few

  around-fits : (b : ℕ) (p : Program) (scope : Addr) (f : Form) (later : Terms) (s : State) (x : Walked)
      → (R → ProgramIsAtRest p)
      → (R → active_calls_in later ≡ 0)
      → WalkFits (inner b f) s x
      → MoveFits b (around p scope f later s x)
  around-fits b p scope f later s (all_values vs) g q h =
      perform-fits b (row p s scope f vs later) s (row-fits b p s scope f vs later h g q)
  around-fits b p scope f later s (moved (goes now t told)) g q h =
      settled_if b (length t.frames) (all_done now) f now later refl q h.0 h.1
  around-fits b p scope f later s (moved (travels c t)) g q h =
      perform-fits b (taken scope f c later) t (taken-fits b (length t.frames) scope f c later h q)
  around-fits b p scope f later s (moved (has_effect t)) g q h = h
  around-fits b p scope f later s (moved (is_full what t)) g q h = h

  opened-counts : (b n : ℕ) (f : Form) (now later : Terms)
      → IsNested (part f now later)
      → b + active_calls (part f now later) ≤ n
      → AreNested now × (inner b f + active_calls_in now ≤ n)
  opened-counts b n f now later nested counted =
      let outside = inner-counts b f in
      (nested.0, omega (arith, counted, outside))

  mutual
    next-fits : (b : ℕ) (p : Program) (scope : Addr) (t : Term) (s : State)
        → (R → ProgramIsAtRest p)
        → Fits b t (length s.frames)
        → MoveFits b (next p scope t s)
    next-fits b p scope (done v) s g h = h
    next-fits b p scope (standing v place) s g h =
        (λ r. at-least b 0 (length s.frames) (h.counted r), h.few)
    next-fits b p scope (part f now later) s g h =
        around-fits b p scope f later s (walk p (scope_in f scope) now s) g (λ r. let q = h.nested r in q.1)
        (walk-fits (inner b f) p (scope_in f scope) now s g
        (λ r. opened-counts b (length s.frames) f now later (h.nested r) (h.counted r)) h.few)

    walk-fits : (b : ℕ) (p : Program) (scope : Addr) (ts : Terms) (s : State)
        → (R → ProgramIsAtRest p)
        → (R → AreNested ts × (b + active_calls_in ts ≤ length s.frames))
        → length s.frames ≤ frame_limit
        → WalkFits b s (walk p scope ts s)
    walk-fits b p scope end s g h few = (λ r. let i = h r in at-least b 0 (length s.frames) i.1, few)
    walk-fits b p scope (more (done v) ts) s g h few =
        with_value-fits b s v (walk p scope ts s)
        (walk-fits b p scope ts s g (λ r. let i = h r in (i.0.1, omega (arith, i.1))) few)
    walk-fits b p scope (more (standing v place) ts) s g h few =
        (λ r. let i = h r in at-least b (active_calls_in (more (standing v place) ts)) (length s.frames) i.1, few)
    walk-fits b p scope (more (part f now later) ts) s g h few =
        inside-fits b ts (next p scope (part f now later) s) (λ r. let i = h r in i.0.1)
        (next-fits b p scope (part f now later) s g (record {
          nested = λ r. let i = h r in i.0.0;
          counted = λ r. let i = h r in omega (arith, i.1, i.0.1);
          few = few;
        }))

  -- ---- runs

  abbrev RunFits : ℕ → Run → Type 0
  RunFits b (running t s) = Fits b t (length s.frames)
  RunFits b (over f s) = length s.frames ≤ frame_limit

  of-fits : (b : ℕ) (t : Term) (s : State) → Fits b t (length s.frames) → RunFits b (run_of t s)
  of-fits b (done v) s h = h.few
  of-fits b (standing v place) s h = h
  of-fits b (part f now later) s h = h

  after-run-fits : (b : ℕ) (m : Move Term) → MoveFits b m → RunFits b (run_after m)
  after-run-fits b (goes t s told) h = of-fits b t s h
  after-run-fits b (travels c s) h = h.1
  after-run-fits b (has_effect s) h = h
  after-run-fits b (is_full what s) h = h

  step-fits : (b : ℕ) (p : Program) (scope : Addr) (r : Run)
      → (R → ProgramIsAtRest p)
      → RunFits b r
      → RunFits b (step_in p scope r)
  step-fits b p scope (running t s) g h = after-run-fits b (next p scope t s) (next-fits b p scope t s g h)
  step-fits b p scope (over f s) g h = h

  steps-fit : (b k : ℕ) (p : Program) (scope : Addr) (r : Run)
      → (R → ProgramIsAtRest p)
      → RunFits b r
      → RunFits b (steps_in k p scope r)
  steps-fit b zero p scope r g h = h
  steps-fit b (suc k) p scope r g h = steps-fit b k p scope (step_in p scope r) g (step-fits b p scope r g h)

-- ---- what it says of calls

few-calls : (b : ℕ) (r : Run) → b ≤ 1000 → RunFits (Unit {0}) b r → calls_in r + b ≤ 1000
few-calls b (running t s) low h =
    let counted = h.counted tt in
    omega (arith, counted, h.few)
few-calls b (over f s) low h = omega (arith, low)

-- a run that begins with a term in which no call is active, below so many frames
pub run-few : (b k : ℕ) (p : Program) (scope : Addr) (t : Term) (s : State)
    → ProgramIsAtRest p
    → IsAtRest t
    → b ≡ length s.frames
    → b ≤ 1000
    → calls_in (steps_in k p scope (run_of t s)) + b ≤ 1000
run-few b k p scope t s g h e low =
    few-calls b (steps_in k p scope (run_of t s)) low
    (steps-fit (Unit {0}) b k p scope (run_of t s) (λ r. g)
    (of-fits (Unit {0}) b t s
    (rest-fits (Unit {0}) b (length s.frames) t (λ r. omega (arith, e), omega (arith, e, low)) (λ r. h))))

-- ---- what it says of frames

begins-fit : (r : Run) → length (state_of r).frames ≤ 1000 → RunFits ⊥ 0 r
begins-fit (running t s) h =
    record { nested = λ r. absurd r; counted = λ r. absurd r; few = h }
begins-fit (over f s) h = h

has-few : (r : Run) → RunFits ⊥ 0 r → length (state_of r).frames ≤ 1000
has-few (running t s) h = h.few
has-few (over f s) h = h

pub frames-few : (k : ℕ) (p : Program) (scope : Addr) (r : Run)
    → length (state_of r).frames ≤ 1000
    → length (state_of (steps_in k p scope r)).frames ≤ 1000
frames-few k p scope r h =
    has-few (steps_in k p scope r) (steps-fit ⊥ 0 k p scope r (λ x. absurd x) (begins-fit r h))
