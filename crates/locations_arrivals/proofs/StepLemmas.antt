-- Every step keeps each part of a term with its source, and the frames of the state those of the term.
use Rattle.std.proofs.Common.{◌≡◌, ℕ, Bool, true, false, List, [], ◌∷◌, Option, None, Some, refl, sym, ap, subst, ◌∙◌, inl, inr, if◌then◌else◌}
use Rattle.js_heap.specs.declared.value.Addr.{Addr}
use Rattle.js_heap.specs.declared.value.Value.{Value}
use Rattle.js_semantics.specs.declared.form.Source.{Source}
use Rattle.js_semantics.specs.declared.form.Mark.{Mark}
use Rattle.js_semantics.specs.declared.form.Completion.{Completion}
use Rattle.js_semantics.specs.declared.form.Completion.TheVariants.{Throws as throws, Returns as returns, Breaks as breaks, Continues as continues}
use Rattle.js_semantics.specs.declared.form.Form.{Form}
use Rattle.js_semantics.specs.declared.form.Form.TheVariants.{Script as script, Frame as frame, Call as call}
use Rattle.js_semantics.specs.Terms.{Term, done, standing, part, Terms, end, more, one, all_done, finished, settle}
use Rattle.js_semantics.specs.State.{Frame, State, went, Move, goes, travels, has_effect, is_full, inside, Action, moved_frames, rest_of, perform}
use Rattle.js_semantics.specs.Functions.{Program, FunctionCode, first_code, function_in, function_in_all, same_source, function_at, call_row}
use Rattle.js_semantics.specs.Rows.{row, taken}
use Rattle.js_semantics.specs.Next.{Walked, all_values, moved, with_value, scope_in, around, next, walk}
use Rattle.js_semantics.proofs.InvariantLemmas.{either-way, finished-kept}
use Rattle.js_semantics.proofs.RowLemmas.{IsQuiet, HasCode, FindsCode, first-has, function_in_all-has, row-quiet, taken-quiet}
use Rattle.js_semantics.proofs.FrameLemmas.{Framing, IsFraming, ActionIn, MoveIn, quiet-in, perform-in, Enters, KnowsCode, call-in}
use Rattle.js_semantics.specs.Waiting.{uncovers}
use Rattle.locations.specs.declared.marks.Marked.{Marked}
use Rattle.locations_arrivals.specs.Belonging.{FirstReturns, Closes, FormBelongs, Belongs, AllBelong, MarkedSources, behind_step, top_marks, sources_of, TermStands, AllStand, MoveStands, TreeBelongs, ProgramBelongs}
use Rattle.locations_arrivals.proofs.PartLemmas.{belonging, belong-kept, belong-free, settle-belongs}
use Rattle.locations_arrivals.proofs.ReturnLemmas.{settle-returns, WalkKeeps, walk-keeps}
use Rattle.js_semantics.proofs.SameSources.{same_source-true}

-- ---- bodies

closes_first : (P : Marked → Type 0) (node : ℕ) (now ts : Terms)
    → Closes P node now
    → (FirstReturns now → FirstReturns ts)
    → Closes P node ts
closes_first P node now ts (inl r) h = inl (h r)
closes_first P node now ts (inr m) h = inr m

closes-settled : (P : Marked → Type 0) (node : ℕ) (t : Term) → Closes P node (one t) → Closes P node (one (settle t))
closes-settled P node t (inl r) = inl (settle-returns t r)
closes-settled P node t (inr m) = inr m

-- ---- the code of a function

-- a function's body belongs to a source
abbrev CodeBelongs : (Marked → Type 0) → FunctionCode → Type 0
CodeBelongs P c = Closes P c.form.node (one c.body) × Belongs P c.body

finds-code : (P : Marked → Type 0) → FindsCode (belonging P) (λ c. CodeBelongs P c)
finds-code P = record { of_function = λ f n b fs h q. (h, q.0); of_method = λ f n b fs h q. (h, q.0) }

-- the code is of a source that runs
abbrev IsKnown : MarkedSources → Source → FunctionCode → Type 0
IsKnown R source c = R.runs source × CodeBelongs (R.marks source) c

known-code : (R : MarkedSources) (source : Source) (o : Option FunctionCode)
    → R.runs source
    → HasCode (λ c. CodeBelongs (R.marks source) c) o
    → HasCode (λ c. IsKnown R source c) o
known-code R source None r h = tt
known-code R source (Some c) r h = (r, h)

parts-code : (P : Marked → Type 0) (node : ℕ) (ts : Terms)
    → AllBelong P ts
    → HasCode (λ c. CodeBelongs P c) (function_in_all node ts)
parts-code P = function_in_all-has (belonging P) (belong-kept P) (λ c. CodeBelongs P c) (finds-code P)

tree-code : (R : MarkedSources) (source : Source) (node : ℕ) (t : Term)
    → TreeBelongs R source t
    → HasCode (λ c. IsKnown R source c) (function_in node t)
tree-code R source node (done v) h = absurd h
tree-code R source node (standing v place) h = absurd h
tree-code R source node (part (script number names) now later) h =
    let P : Marked → Type 0 = R.marks source in
    known-code R source (first_code None (first_code (function_in_all node now) (function_in_all node later))) h.0
    (first-has (λ c. CodeBelongs P c) (function_in_all node now) (function_in_all node later)
    (parts-code P node now h.1) (parts-code P node later h.2))
tree-code R source node (part f now later) h = absurd h

at_if : (R : MarkedSources) (other source : Source) (b : Bool) (o q : Option FunctionCode)
    → same_source other source ≡ b
    → HasCode (λ c. IsKnown R other c) o
    → HasCode (λ c. IsKnown R source c) q
    → HasCode (λ c. IsKnown R source c) (if b then o else q)
at_if R other source true o q e h k =
    subst (λ (x : Source). HasCode (λ c. IsKnown R x c) o) (same_source-true other source e) h
at_if R other source false o q e h k = k

function_at-known : (R : MarkedSources) (p : Program)
    → ProgramBelongs R p
    → KnowsCode p (λ source c. IsKnown R source c)
function_at-known R [] h = λ source node. tt
function_at-known R (t ∷ ts) h = λ source node.
    at_if R t.source source (same_source t.source source) (function_in node t.tree) (function_at ts source node) refl
    (tree-code R t.source node t.tree h.0) (function_at-known R ts h.1 source node)

-- ---- a part that waits, in its frame

mutual
  belongs-stands : (R : MarkedSources) (outside : List Source) (t : Term)
      → Belongs (top_marks R outside) t
      → TermStands R outside t outside
  belongs-stands R outside (done v) h = refl
  belongs-stands R outside (standing v place) h = absurd h
  belongs-stands R outside (part (frame node a) now later) h = absurd h.0
  belongs-stands R outside (part f now later) h = (h.0, all-stand R outside now h.1, h.2)

  all-stand : (R : MarkedSources) (outside : List Source) (ts : Terms)
      → AllBelong (top_marks R outside) ts
      → AllStand R outside ts outside
  all-stand R outside end h = refl
  all-stand R outside (more (done v) ts) h = all-stand R outside ts h.1
  all-stand R outside (more (standing v place) ts) h = absurd h.0
  all-stand R outside (more (part f now later) ts) h = (belongs-stands R outside (part f now later) h.0, h.1)

-- ---- actions, by the frames before them

abbrev outer_of : List Source → List Source
outer_of [] = []
outer_of (source ∷ sources) = sources

-- the sources of the frames, within which a term stands
abbrev pub sourced : MarkedSources → Framing
sourced R = record {
  view = List Source;
  seen = λ fs. sources_of fs;
  push = λ f all. f.source ∷ all;
  pop = λ all. outer_of all;
  stands = λ told outside t all. TermStands (behind_step R (Some told)) outside t all;
}

moved-sources : (fs : List Frame) (m : Mark) → sources_of (moved_frames fs m) ≡ sources_of fs
moved-sources [] m = refl
moved-sources (f ∷ fs) m = refl

rest-sources : (fs : List Frame) → sources_of (rest_of fs) ≡ outer_of (sources_of fs)
rest-sources [] = refl
rest-sources (f ∷ fs) = refl

sources-framed : (R : MarkedSources) → IsFraming (sourced R)
sources-framed R = record {
  moved = moved-sources;
  pushed = λ f fs. refl;
  popped = rest-sources;
  of_value = λ told outside v. refl;
  of_throw = λ outside v place. (refl, refl);
}

abbrev pub ActionStands : MarkedSources → List Source → List Source → Action → Type 0
ActionStands R outside all a = ActionIn (sourced R) outside all a

quiet-stands : (R : MarkedSources) (outside : List Source) (t : Term)
    → Belongs (top_marks R outside) t
    → TermStands (behind_step R (Some went)) outside t outside
quiet-stands R outside t h = belongs-stands (behind_step R (Some went)) outside t h

pub action-stands : (R : MarkedSources) (outside : List Source) (a : Action)
    → IsQuiet (belonging (top_marks R outside)) a
    → ActionStands R outside outside a
action-stands R outside a h =
    quiet-in (sourced R) (belonging (top_marks R outside)) outside (quiet-stands R outside) a h

moves-stand : (R : MarkedSources) (outside : List Source) (m : Move Term)
    → MoveIn (sourced R) outside m
    → MoveStands R outside m
moves-stand R outside (goes t s told) h = h
moves-stand R outside (travels c s) h = h
moves-stand R outside (has_effect s) h = tt
moves-stand R outside (is_full what s) h = tt

pub perform-stands : (R : MarkedSources) (outside : List Source) (a : Action) (s : State)
    → ActionStands R outside (sources_of s.frames) a
    → MoveStands R outside (perform a s)
perform-stands R outside a s h =
    moves-stand R outside (perform a s) (perform-in (sourced R) (sources-framed R) outside a s h)

-- ---- calls

enters : (R : MarkedSources) (outside : List Source) → Enters (sourced R) outside (λ source c. IsKnown R source c)
enters R outside = λ f c a h. (
  f.source,
  h.0,
  closes-settled (R.marks f.source) c.form.node c.body h.1.0,
  all-stand (behind_step R (Some went)) (f.source ∷ outside) (one (settle c.body))
      (settle-belongs (R.marks f.source) c.body h.1.1, tt),
  tt,
)

call-stands : (R : MarkedSources) (outside : List Source) (p : Program) (s : State) (m : Mark) (vs : List Value)
    → ProgramBelongs R p
    → ActionStands R outside outside (call_row p s m vs)
call-stands R outside p s m vs g =
    let P : Marked → Type 0 = top_marks R outside in
    call-in (sourced R) (sources-framed R) outside (belonging P) (belong-kept P) (belong-free P)
    (quiet-stands R outside) (λ source c. IsKnown R source c) (enters R outside) p s m vs (function_at-known R p g)

-- ---- a form outside the part about to be reduced, and the frames outside its parts

abbrev pub Inside : MarkedSources → List Source → Form → Terms → Terms → List Source → Type 0
Inside R outside (frame node a) now later parts =
    (source : Source) × (parts ≡ source ∷ outside) × R.runs source × Closes (R.marks source) node now
Inside R outside f now later parts = (parts ≡ outside) × FormBelongs (top_marks R outside) f later

pub opened : (R : MarkedSources) (outside : List Source) (f : Form) (now later : Terms) (all : List Source)
    → TermStands R outside (part f now later) all
    → (parts : List Source)
    × Inside R outside f now later parts
    × AllStand R parts now all
    × AllBelong (top_marks R outside) later
opened R outside (frame node a) now later all h = (h.0 ∷ outside, (h.0, refl, h.1, h.2), h.3, h.4)
opened R outside f now later all h = (outside, (refl, h.0), h.1, h.2)

inside-keeps : (R : MarkedSources) (outside : List Source) (f : Form) (now ts later : Terms) (parts : List Source)
    → Inside R outside f now later parts
    → (FirstReturns now → FirstReturns ts)
    → Inside R outside f ts later parts
inside-keeps R outside (frame node a) now ts later parts i h =
    (i.0, i.1, i.2, closes_first (R.marks i.0) node now ts i.3 h)
inside-keeps R outside f now ts later parts i h = i

part-stands : (R : MarkedSources) (outside : List Source) (f : Form) (now later : Terms) (parts all : List Source)
    → Inside R outside f now later parts
    → AllStand R parts now all
    → AllBelong (top_marks R outside) later
    → TermStands R outside (part f now later) all
part-stands R outside (frame node a) now later parts all i h k =
    (i.0, i.2, i.3, subst (λ (x : List Source). AllStand R x now all) i.1 h, k)
part-stands R outside f now later parts all i h k = (i.1, subst (λ (x : List Source). AllStand R x now all) i.0 h, k)

values-belong : (P : Marked → Type 0) (ts : Terms) → all_done ts ≡ true → AllBelong P ts
values-belong P end e = tt
values-belong P (more (done v) ts) e = (tt, values-belong P ts e)
values-belong P (more (standing v place) ts) e = cc
values-belong P (more (part f now later) ts) e = cc

values-stand : (R : MarkedSources) (outside : List Source) (ts : Terms) (all : List Source)
    → all_done ts ≡ true
    → AllStand R outside ts all
    → all ≡ outside
values-stand R outside end all e h = h
values-stand R outside (more (done v) ts) all e h = values-stand R outside ts all e h
values-stand R outside (more (standing v place) ts) all e h = cc
values-stand R outside (more (part f now later) ts) all e h = cc

at-stands : (R : MarkedSources) (outside : List Source) (t : Term) (all : List Source)
    → all ≡ outside
    → Belongs (top_marks R outside) t
    → TermStands R outside t all
at-stands R outside t all e h =
    subst (λ (x : List Source). TermStands R outside t x) (sym e) (belongs-stands R outside t h)

finished-stands : (R : MarkedSources) (outside : List Source) (f : Form) (now later : Terms) (parts all : List Source)
    → Inside R outside f now later parts
    → all_done now ≡ true
    → AllStand R parts now all
    → AllBelong (top_marks R outside) later
    → TermStands R outside (finished f now later) all
finished-stands R outside (frame node a) now later parts all i e h k =
    part-stands R outside (frame node a) now later parts all i h k
finished-stands R outside f now later parts all i e h k =
    at-stands R outside (finished f now later) all (values-stand R parts now all e h ∙ i.0)
    (finished-kept (belonging (top_marks R outside)) (belong-kept (top_marks R outside)) f now later i.1
    (values-belong (top_marks R outside) now e) (either-way (uncovers f) (AllBelong (top_marks R outside) later) k))

settled_if : (R : MarkedSources) (outside : List Source) (b : Bool) (f : Form) (now later : Terms) (parts all : List Source)
    → all_done now ≡ b
    → Inside R outside f now later parts
    → AllStand R parts now all
    → AllBelong (top_marks R outside) later
    → TermStands R outside (if b then finished f now later else part f now later) all
settled_if R outside true f now later parts all e i h k = finished-stands R outside f now later parts all i e h k
settled_if R outside false f now later parts all e i h k = part-stands R outside f now later parts all i h k

-- ---- THE TABLE OF STEPS, AND THAT OF COMPLETIONS

row-belongs : (R : MarkedSources) (outside parts : List Source) (a : Action)
    → parts ≡ outside
    → IsQuiet (belonging (top_marks R outside)) a
    → ActionStands R outside parts a
row-belongs R outside parts a e h =
    subst (λ (x : List Source). ActionStands R outside x a) (sym e) (action-stands R outside a h)

row-stands : (R : MarkedSources) (outside : List Source) (p : Program) (s : State) (scope : Addr) (f : Form) (vs : List Value)
    (now later : Terms) (parts : List Source)
    → ProgramBelongs R p
    → Inside R outside f now later parts
    → AllBelong (top_marks R outside) later
    → ActionStands R outside parts (row p s scope f vs later)
row-stands R outside p s scope (script number names) vs now later parts g i k = absurd i.1
row-stands R outside p s scope (frame node a) vs now later parts g i k = ap outer_of i.1
row-stands R outside p s scope (call m node) vs now later parts g i k =
    subst (λ (x : List Source). ActionStands R outside x (call_row p s m vs)) (sym i.0)
    (call-stands R outside p s m vs g)
row-stands R outside p s scope f vs now later parts g i k =
    row-belongs R outside parts (row p s scope f vs later) i.0
    (row-quiet (belonging (top_marks R outside)) (belong-kept (top_marks R outside)) (belong-free (top_marks R outside)) p s
    scope f vs later refl i.1 (either-way (uncovers f) (AllBelong (top_marks R outside) later) k))

taken-stands : (R : MarkedSources) (outside : List Source) (scope : Addr) (f : Form) (c : Completion) (now later : Terms)
    (parts : List Source)
    → Inside R outside f now later parts
    → AllBelong (top_marks R outside) later
    → ActionStands R outside parts (taken scope f c later)
taken-stands R outside scope (frame node a) (returns v) now later parts i k = ap outer_of i.1
taken-stands R outside scope (frame node a) (throws v m) now later parts i k = ap outer_of i.1
taken-stands R outside scope (frame node a) breaks now later parts i k = ap outer_of i.1
taken-stands R outside scope (frame node a) continues now later parts i k = ap outer_of i.1
taken-stands R outside scope (script number names) c now later parts i k = i.0
taken-stands R outside scope (call m node) c now later parts i k = i.0
taken-stands R outside scope f c now later parts i k =
    row-belongs R outside parts (taken scope f c later) i.0
    (taken-quiet (belonging (top_marks R outside)) (belong-kept (top_marks R outside)) (belong-free (top_marks R outside)) scope
    f c 0 later refl i.1 (either-way (uncovers f) (AllBelong (top_marks R outside) later) k))

-- ---- steps

abbrev MovesStand : MarkedSources → List Source → Move Terms → Type 0
MovesStand R outside (goes ts s told) = AllStand (behind_step R (Some told)) outside ts (sources_of s.frames)
MovesStand R outside (travels c s) = sources_of s.frames ≡ outside
MovesStand R outside (has_effect s) = Unit {0}
MovesStand R outside (is_full what s) = Unit {0}

abbrev WalkStands : MarkedSources → List Source → State → Walked → Type 0
WalkStands R outside s (all_values vs) = sources_of s.frames ≡ outside
WalkStands R outside s (moved m) = MovesStand R outside m

value_in : (R : MarkedSources) (outside : List Source) (v : Value) (m : Move Terms)
    → MovesStand R outside m
    → MovesStand R outside (inside (λ ts. more (done v) ts) m)
value_in R outside v (goes ts s told) h = h
value_in R outside v (travels c s) h = h
value_in R outside v (has_effect s) h = tt
value_in R outside v (is_full what s) h = tt

with_value-stands : (R : MarkedSources) (outside : List Source) (s : State) (v : Value) (x : Walked)
    → WalkStands R outside s x
    → WalkStands R outside s (with_value v x)
with_value-stands R outside s v (all_values vs) h = h
with_value-stands R outside s v (moved m) h = value_in R outside v m h

values-before : (R : MarkedSources) (outside : List Source) (ts : Terms) (all : List Source)
    → all ≡ outside
    → AllBelong (top_marks R outside) ts
    → AllStand R outside ts all
values-before R outside ts all e h =
    subst (λ (x : List Source). AllStand R outside ts x) (sym e) (all-stand R outside ts h)

inside-stands : (R : MarkedSources) (outside : List Source) (ts : Terms) (m : Move Term)
    → AllBelong (top_marks R outside) ts
    → MoveStands R outside m
    → MovesStand R outside (inside (λ t. more t ts) m)
inside-stands R outside ts (goes (done v) s told) k h =
    values-before (behind_step R (Some told)) outside ts (sources_of s.frames) h k
inside-stands R outside ts (goes (standing v place) s told) k h = (h.0, h.1, k)
inside-stands R outside ts (goes (part f now later) s told) k h = (h, k)
inside-stands R outside ts (travels c s) k h = h
inside-stands R outside ts (has_effect s) k h = tt
inside-stands R outside ts (is_full what s) k h = tt

around-stands : (R : MarkedSources) (outside : List Source) (p : Program) (scope : Addr) (f : Form) (now later : Terms)
    (s : State) (x : Walked) (parts : List Source)
    → ProgramBelongs R p
    → Inside R outside f now later parts
    → AllBelong (top_marks R outside) later
    → WalkStands R parts s x
    → WalkKeeps now x
    → MoveStands R outside (around p scope f later s x)
around-stands R outside p scope f now later s (all_values vs) parts g i k h keep =
    perform-stands R outside (row p s scope f vs later) s
    (subst (λ (all : List Source). ActionStands R outside all (row p s scope f vs later)) (sym h)
    (row-stands R outside p s scope f vs now later parts g i k))
around-stands R outside p scope f now later s (moved (goes ts t told)) parts g i k h keep =
    settled_if (behind_step R (Some told)) outside (all_done ts) f ts later parts (sources_of t.frames) refl
    (inside-keeps R outside f now ts later parts i keep) h k
around-stands R outside p scope f now later s (moved (travels c t)) parts g i k h keep =
    perform-stands R outside (taken scope f c later) t
    (subst (λ (all : List Source). ActionStands R outside all (taken scope f c later)) (sym h)
    (taken-stands R outside scope f c now later parts i k))
around-stands R outside p scope f now later s (moved (has_effect t)) parts g i k h keep = tt
around-stands R outside p scope f now later s (moved (is_full what t)) parts g i k h keep = tt

mutual
  pub next-stands : (R : MarkedSources) (outside : List Source) (p : Program) (scope : Addr) (t : Term) (s : State)
      → ProgramBelongs R p
      → TermStands R outside t (sources_of s.frames)
      → MoveStands R outside (next p scope t s)
  next-stands R outside p scope (done v) s g h = h
  next-stands R outside p scope (standing v place) s g h = h.0
  next-stands R outside p scope (part f now later) s g h =
      let o = opened R outside f now later (sources_of s.frames) h in
      around-stands R outside p scope f now later s (walk p (scope_in f scope) now s) o.0 g o.1 o.3
      (walk-stands R o.0 p (scope_in f scope) now s g o.2) (walk-keeps p (scope_in f scope) now s)

  walk-stands : (R : MarkedSources) (outside : List Source) (p : Program) (scope : Addr) (ts : Terms) (s : State)
      → ProgramBelongs R p
      → AllStand R outside ts (sources_of s.frames)
      → WalkStands R outside s (walk p scope ts s)
  walk-stands R outside p scope end s g h = h
  walk-stands R outside p scope (more (done v) ts) s g h =
      with_value-stands R outside s v (walk p scope ts s) (walk-stands R outside p scope ts s g h)
  walk-stands R outside p scope (more (standing v place) ts) s g h = h.0
  walk-stands R outside p scope (more (part f now later) ts) s g h =
      inside-stands R outside ts (next p scope (part f now later) s) h.1
      (next-stands R outside p scope (part f now later) s g h.0)
