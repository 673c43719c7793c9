-- The part about to be reduced belongs to the source of the top frame, so its place is one of that source's marks.
use Rattle.std.proofs.Common.{◌≡◌, ℕ, zero, suc, Bool, true, false, List, [], ◌∷◌, None, Some, refl, sym, subst, ◌∙◌, inl, inr, if◌then◌else◌}
use Rattle.std.specs.Prelude.{nat_eq, slice_get}
use Rattle.js_tree.specs.declared.node.Span.{Span}
use Rattle.js_heap.specs.declared.value.Addr.{Addr}
use Rattle.js_heap.specs.declared.value.Value.{Value}
use Rattle.js_semantics.specs.declared.form.Source.{Source}
use Rattle.js_semantics.specs.declared.form.Source.TheVariants.{Script as script_source}
use Rattle.js_semantics.specs.declared.form.Mark.{Mark}
use Rattle.js_semantics.specs.declared.form.Mark.TheVariants.{Start as start, BeforeEnd as before_end}
use Rattle.js_semantics.specs.declared.form.Form.{Form}
use Rattle.js_semantics.specs.declared.form.Form.TheVariants.{Scripts as scripts, Script as script, Enter as enter, EnterDebugger as enter_debugger, EnterFor as enter_for, EnterForOf as enter_for_of, Frame as frame, Call as call}
use Rattle.js_semantics.specs.Terms.{Term, done, standing, part, Terms, end, more}
use Rattle.js_semantics.specs.State.{Frame, State, top_spot}
use Rattle.js_semantics.specs.Frames.{Active, reduces, stands, nothing_left, Leftmost, only_values, inner, behind, active_of, active, leftmost, offset_of, arrival, is_debugger, in_bottom, shown_frames, scopes_at, with_scopes, reversed_onto, frame_at}
use Rattle.locations.specs.declared.spot.SpotKind.TheVariants as kinds
use Rattle.locations.specs.declared.marks.Marked.{Marked}
use Rattle.locations_arrivals.specs.Belonging.{HasMark, FirstReturns, Closes, FormBelongs, MarkedSources, top, top_marks, sources_of, TermStands, AllStand, ScriptStands, ScriptsStand, RunningStands}
use Rattle.locations_arrivals.proofs.StepLemmas.{Inside, opened}

-- ---- what is about to be reduced

abbrev pub ActiveBelongs : (Marked → Type 0) → Active → Type 0
ActiveBelongs P (reduces (enter node) vs) = HasMark P (start node)
ActiveBelongs P (reduces (enter_debugger node) vs) = P (record { mark = start node; kind = kinds.Debugger })
ActiveBelongs P (reduces (enter_for node constant names) vs) = HasMark P (start node)
ActiveBelongs P (reduces (enter_for_of node b) vs) = HasMark P (start node)
ActiveBelongs P (reduces (frame node a) vs) = P (record { mark = before_end node 1; kind = kinds.Return })
ActiveBelongs P (reduces (call place node) vs) = P (record { mark = place; kind = kinds.Call })
ActiveBelongs P a = Unit {0}

form-active : (P : Marked → Type 0) (f : Form) (vs : List Value) (later : Terms)
    → FormBelongs P f later
    → ActiveBelongs P (reduces f vs)
form-active P (script number names) vs later h = absurd h
form-active P (frame node a) vs later h = absurd h
form-active P (enter node) vs later h = h
form-active P (enter_debugger node) vs later h = h
form-active P (enter_for node constant names) vs later h = h
form-active P (enter_for_of node b) vs later h = h
form-active P (call place node) vs later h = h
form-active P f vs later h = tt

-- the sources of frames run
abbrev pub EachRuns : MarkedSources → List Source → Type 0
EachRuns R [] = Unit {0}
EachRuns R (source ∷ sources) = R.runs source × EachRuns R sources

abbrev AllRun : MarkedSources → List Source → Type 0
AllRun R all = R.runs (top all) × EachRuns R all

-- so does a script that is about to begin
abbrev ScriptRuns : MarkedSources → Active → Type 0
ScriptRuns R (reduces (script number names) vs) = R.runs (script_source number)
ScriptRuns R a = Unit {0}

-- what is known where a throw stands
abbrev pub ThrowKnown : MarkedSources → Active → Type 0
ThrowKnown R (stands v place) = R.raises
ThrowKnown R a = Unit {0}

-- the sources of all frames run, and that of the top one has the place of what is about to be reduced
pub record ActiveStands (R : MarkedSources) (all : List Source) (a : Active) : Type 0 where
  pub all_run : AllRun R all
  pub script_runs : ScriptRuns R a
  pub throw_known : ThrowKnown R a
  pub belongs : ActiveBelongs (top_marks R all) a

abbrev LeftmostStands : MarkedSources → List Source → List Source → Leftmost → Type 0
LeftmostStands R outside all (only_values vs) = all ≡ outside
LeftmostStands R outside all (inner a) = ActiveStands R all a

behind-stands : (R : MarkedSources) (outside all : List Source) (v : Value) (l : Leftmost)
    → LeftmostStands R outside all l
    → LeftmostStands R outside all (behind v l)
behind-stands R outside all v (only_values vs) h = h
behind-stands R outside all v (inner a) h = h

runs-here : (R : MarkedSources) (outside all : List Source) → all ≡ outside → AllRun R outside → AllRun R all
runs-here R outside all e h = subst (λ (x : List Source). AllRun R x) (sym e) h

form-runs : (R : MarkedSources) (P : Marked → Type 0) (f : Form) (vs : List Value) (later : Terms)
    → FormBelongs P f later
    → ScriptRuns R (reduces f vs)
form-runs R P (script number names) vs later h = absurd h
form-runs R P f vs later h = tt

-- a body that returns is never all values
never-ends : (now : Terms) (vs : List Value) → FirstReturns now → leftmost now ≡ only_values vs → ⊥
never-ends end vs h e = absurd h
never-ends (more (done v) ts) vs h e = absurd h
never-ends (more (standing v place) ts) vs h e = absurd h
never-ends (more (part f now later) ts) vs h e = cc

closing-mark : (P : Marked → Type 0) (node : ℕ) (now : Terms) (vs : List Value)
    → Closes P node now
    → leftmost now ≡ only_values vs
    → P (record { mark = before_end node 1; kind = kinds.Return })
closing-mark P node now vs (inl r) e = absurd (never-ends now vs r e)
closing-mark P node now vs (inr m) e = m

reduced-stands : (R : MarkedSources) (outside : List Source) (f : Form) (now later : Terms) (parts all : List Source)
    (l : Leftmost)
    → leftmost now ≡ l
    → AllRun R parts
    → Inside R outside f now later parts
    → LeftmostStands R parts all l
    → ActiveStands R all (active_of f l)
reduced-stands R outside f now later parts all (inner a) e r i h = h
reduced-stands R outside (frame node a) now later parts all (only_values vs) e r i h =
    let here : all ≡ i.0 ∷ outside = h ∙ i.1 in
    record {
      all_run = runs-here R parts all h r;
      script_runs = tt;
      throw_known = tt;
      belongs = subst
          (λ (x : List Source). ActiveBelongs (top_marks R x) (reduces (frame node a) vs)) (sym here)
          (closing-mark (R.marks i.0) node now vs i.3 e);
    }
reduced-stands R outside f now later parts all (only_values vs) e r i h =
    record {
      all_run = runs-here R parts all h r;
      script_runs = form-runs R (top_marks R outside)
          f vs later i.1;
      throw_known = tt;
      belongs = subst
          (λ (x : List Source). ActiveBelongs (top_marks R x) (reduces f vs)) (sym (h ∙ i.0))
          (form-active (top_marks R outside) f vs later i.1);
    }

inside-runs : (R : MarkedSources) (outside : List Source) (f : Form) (now later : Terms) (parts : List Source)
    → AllRun R outside
    → Inside R outside f now later parts
    → AllRun R parts
inside-runs R outside (frame node a) now later parts r i = runs-here R (i.0 ∷ outside) parts i.1 (i.2, (i.2, r.1))
inside-runs R outside f now later parts r i = runs-here R outside parts i.0 r

mutual
  active-stands : (R : MarkedSources) (outside : List Source) (t : Term) (all : List Source)
      → AllRun R outside
      → TermStands R outside t all
      → ActiveStands R all (active t)
  active-stands R outside (done v) all r h =
      record { all_run = runs-here R outside all h r; script_runs = tt; throw_known = tt; belongs = tt }
  active-stands R outside (standing v place) all r h =
      record { all_run = runs-here R outside all h.0 r; script_runs = tt; throw_known = h.1; belongs = tt }
  active-stands R outside (part f now later) all r h =
      let o = opened R outside f now later all h in
      let within : AllRun R o.0 = inside-runs R outside f now later o.0 r o.1 in
      reduced-stands R outside f now later o.0 all (leftmost now) refl within o.1
      (leftmost-stands R o.0 now all within o.2)

  leftmost-stands : (R : MarkedSources) (outside : List Source) (ts : Terms) (all : List Source)
      → AllRun R outside
      → AllStand R outside ts all
      → LeftmostStands R outside all (leftmost ts)
  leftmost-stands R outside end all r h = h
  leftmost-stands R outside (more (done v) ts) all r h =
      behind-stands R outside all v (leftmost ts) (leftmost-stands R outside ts all r h)
  leftmost-stands R outside (more (standing v place) ts) all r h =
      record { all_run = runs-here R outside all h.0 r; script_runs = tt; throw_known = h.1; belongs = tt }
  leftmost-stands R outside (more (part f now later) ts) all r h = active-stands R outside (part f now later) all r h.0

-- ---- scripts

alone : (R : MarkedSources) (source : Source) → R.runs source → AllRun R (source ∷ [])
alone R source r = (r, (r, tt))

script-active : (R : MarkedSources) (source : Source) (f : Form) (now later : Terms) (all : List Source)
    → R.runs source
    → ScriptStands R source (part f now later) all
    → ActiveStands R all (active (part f now later))
script-active R source (script number names) end later all r h =
    record {
      all_run = runs-here R (source ∷ []) all h.0
          (alone R source r);
      script_runs = h.1.0;
      throw_known = tt;
      belongs = tt;
    }
script-active R source (script number names) (more t ts) later all r h = absurd h.1
script-active R source f now later all r h = active-stands R (source ∷ []) (part f now later) all (alone R source r) h

scripts-leftmost : (R : MarkedSources) (source : Source) (ts : Terms) (all : List Source)
    → R.runs source
    → ScriptsStand R source ts all
    → LeftmostStands R (source ∷ []) all (leftmost ts)
scripts-leftmost R source end all r h = h
scripts-leftmost R source (more (done v) ts) all r h =
    behind-stands R (source ∷ []) all v (leftmost ts) (scripts-leftmost R source ts all r h)
scripts-leftmost R source (more (standing v place) ts) all r h =
    record {
      all_run = runs-here R (source ∷ []) all h.0
          (alone R source r);
      script_runs = tt;
      throw_known = h.1;
      belongs = tt;
    }
scripts-leftmost R source (more (part f now later) ts) all r h = script-active R source f now later all r h.0

scripts-active : (R : MarkedSources) (source : Source) (all : List Source) (l : Leftmost)
    → R.runs source
    → LeftmostStands R (source ∷ []) all l
    → ActiveStands R all (active_of scripts l)
scripts-active R source all (only_values vs) r h =
    record {
      all_run = runs-here R (source ∷ []) all h
          (alone R source r);
      script_runs = tt;
      throw_known = tt;
      belongs = tt;
    }
scripts-active R source all (inner a) r h = h

pub running-active : (R : MarkedSources) (t : Term) (all : List Source)
    → RunningStands R t all
    → ActiveStands R all (active t)
running-active R (done v) all h = absurd h
running-active R (standing v place) all h = absurd h
running-active R (part scripts now later) all h =
    scripts-active R h.0 all (leftmost now) h.1 (scripts-leftmost R h.0 now all h.1 h.2)
running-active R (part f now later) all h = absurd h

-- ---- frames

-- the source of the top frame is that of the place
pub top-source : (fs : List Frame) → top (sources_of fs) ≡ (top_spot fs).source
top-source [] = refl
top-source (f ∷ fs) = refl

bottom-runs : (R : MarkedSources) (a : Active) (f : Frame) → ScriptRuns R a → R.runs f.source → R.runs (in_bottom a f).source
bottom-runs R (reduces (script number names) vs) f k h = k
bottom-runs R (reduces g vs) f k h = h
bottom-runs R (stands v place) f k h = h
bottom-runs R nothing_left f k h = h

shown-run : (R : MarkedSources) (a : Active) (fs : List Frame)
    → ScriptRuns R a
    → EachRuns R (sources_of fs)
    → EachRuns R (sources_of (shown_frames a fs))
shown-run R a [] k h = tt
shown-run R a (f ∷ []) k h = (bottom-runs R a f k h.0, tt)
shown-run R a (f ∷ g ∷ fs) k h = (h.0, shown-run R a (g ∷ fs) k h.1)

scoped-run : (R : MarkedSources) (fs : List Frame) (scopes : List Addr)
    → EachRuns R (sources_of fs)
    → EachRuns R (sources_of (with_scopes fs scopes))
scoped-run R [] scopes h = h
scoped-run R (f ∷ fs) [] h = h
scoped-run R (f ∷ fs) (a ∷ scopes) h = (h.0, scoped-run R fs scopes h.1)

same_frame : (f g : Frame) → Some f ≡ Some g → f ≡ g
same_frame f g e = cc

found-runs : (R : MarkedSources) (fs : List Frame) (d : ℕ) (f : Frame)
    → EachRuns R (sources_of fs)
    → slice_get fs d ≡ Some f
    → R.runs f.source
found-runs R [] d f h e = cc
found-runs R (g ∷ fs) zero f h e = subst (λ (x : Frame). R.runs x.source) (same_frame g f e) h.0
found-runs R (g ∷ fs) (suc d) f h e = found-runs R fs d f h.1 e

-- the source of each active frame runs
pub frame-runs : (R : MarkedSources) (scope : Addr) (t : Term) (s : State) (d : ℕ) (f : Frame)
    → ActiveStands R (sources_of s.frames) (active t)
    → frame_at d scope t s ≡ Some f
    → R.runs f.source
frame-runs R scope t s d f h e =
    let scopes : List Addr = reversed_onto (scopes_at scope t) [] in
    found-runs R (with_scopes (shown_frames (active t) s.frames) scopes) d f
    (scoped-run R (shown_frames (active t) s.frames) scopes
    (shown-run R (active t) s.frames h.script_runs h.all_run.1))
    e

-- ---- arrivals

same_mark : (m n : Mark) → Some m ≡ Some n → m ≡ n
same_mark m n e = cc

if-marked : (P : Marked → Type 0) (b : Bool) (place m : Mark)
    → P (record { mark = place; kind = kinds.Call })
    → (if b then None else Some place) ≡ Some m
    → HasMark P m
if-marked P true place m h e = cc
if-marked P false place m h e =
    (kinds.Call, subst (λ (x : Mark). P (record { mark = x; kind = kinds.Call })) (same_mark place m e) h)

marked : (P : Marked → Type 0) (place m : Mark) → HasMark P place → Some place ≡ Some m → HasMark P m
marked P place m h e = subst (HasMark P) (same_mark place m e) h

-- the place of an arrival is a mark
pub arrival-marked : (P : Marked → Type 0) (spans : List Span) (a : Active) (m : Mark)
    → ActiveBelongs P a
    → arrival spans a ≡ Some m
    → HasMark P m
arrival-marked P spans (reduces (enter node) vs) m h e = marked P (start node) m h e
arrival-marked P spans (reduces (enter_debugger node) vs) m h e = marked P (start node) m (kinds.Debugger, h) e
arrival-marked P spans (reduces (enter_for node constant names) vs) m h e = marked P (start node) m h e
arrival-marked P spans (reduces (enter_for_of node b) vs) m h e = marked P (start node) m h e
arrival-marked P spans (reduces (frame node a) vs) m h e = marked P (before_end node 1) m (kinds.Return, h) e
arrival-marked P spans (reduces (call place node) vs) m h e =
    if-marked P (nat_eq (offset_of spans place) (offset_of spans (start node))) place m h e
arrival-marked P spans (reduces f vs) m h e = cc
arrival-marked P spans (stands v place) m h e = cc
arrival-marked P spans nothing_left m h e = cc

-- that of an arrival at a `debugger` statement is a mark of that kind
pub debugger-marked : (P : Marked → Type 0) (spans : List Span) (a : Active) (m : Mark)
    → ActiveBelongs P a
    → is_debugger a ≡ true
    → arrival spans a ≡ Some m
    → P (record { mark = m; kind = kinds.Debugger })
debugger-marked P spans (reduces (enter_debugger node) vs) m h d e =
    subst (λ (x : Mark). P (record { mark = x; kind = kinds.Debugger })) (same_mark (start node) m e) h
debugger-marked P spans (reduces f vs) m h d e = cc
debugger-marked P spans (stands v place) m h d e = cc
debugger-marked P spans nothing_left m h d e = cc
