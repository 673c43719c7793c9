-- Which source each part of a term belongs to: the places at which the run can arrive in a part are marks of its
-- source. No throw stands in a part that waits; one that stands as the part about to be reduced was raised by the step
-- before.
use Rattle.std.specs.Prelude.{◌≡◌, ◌⊎◌, ℕ, List, [], ◌∷◌, Option, Some}
use Rattle.js_semantics.specs.declared.form.Source.{Source}
use Rattle.js_semantics.specs.declared.form.Source.TheVariants.{Script as script_source}
use Rattle.js_semantics.specs.declared.form.Mark.{Mark}
use Rattle.js_semantics.specs.declared.form.Mark.TheVariants.{Start as start, BeforeEnd as before_end}
use Rattle.js_semantics.specs.declared.form.Form.{Form}
use Rattle.js_semantics.specs.declared.form.Form.TheVariants.{Scripts as scripts, Script as script, Sequence as sequence, Enter as enter, EnterDebugger as enter_debugger, EnterFor as enter_for, EnterForOf as enter_for_of, Frame as frame, Return as return_, Function as function, Method as method, Call as call, CallOf as call_of}
use Rattle.js_semantics.specs.Terms.{Term, done, standing, part, Terms, end, more}
use Rattle.js_semantics.specs.State.{Frame, StepTold, raised, Move, goes, travels, has_effect, is_full}
use Rattle.js_semantics.specs.Functions.{Program}
use Rattle.js_semantics.specs.Run.{Run, running, over}
use Rattle.locations.specs.declared.spot.SpotKind.{SpotKind}
use Rattle.locations.specs.declared.spot.SpotKind.TheVariants as kinds
use Rattle.locations.specs.declared.marks.Marked.{Marked}

-- ---- parts that wait

-- a mark of some kind
abbrev pub HasMark : (Marked → Type 0) → Mark → Type 0
HasMark P m = (kind : SpotKind) × P (record { mark = m; kind = kind })

-- an arrow's expression body, before it is entered and after: it ends by its `return`, and never comes to its end
abbrev pub Returns : Term → Type 0
Returns (part return_ now later) = Unit {0}
Returns (part (enter node) now (more t ts)) = Returns t
Returns (part sequence (more t ts) later) = Returns t
Returns _ = ⊥

-- the first of a function's parts is such a body
abbrev pub FirstReturns : Terms → Type 0
FirstReturns (more t ts) = Returns t
FirstReturns end = ⊥

-- a body that may come to its end does so at the closing brace of its function
abbrev pub Closes : (Marked → Type 0) → ℕ → Terms → Type 0
Closes P node body = FirstReturns body ⊎ P (record { mark = before_end node 1; kind = kinds.Return })

-- the places at which a run can arrive in a form are marks of its source
abbrev pub FormBelongs : (Marked → Type 0) → Form → Terms → Type 0
FormBelongs P (script number names) later = ⊥
FormBelongs P (frame node a) later = ⊥
FormBelongs P (enter node) later = HasMark P (start node)
FormBelongs P (enter_debugger node) later = P (record { mark = start node; kind = kinds.Debugger })
FormBelongs P (enter_for node constant names) later = HasMark P (start node)
FormBelongs P (enter_for_of node b) later = HasMark P (start node)
FormBelongs P (function f) later = Closes P f.node later
FormBelongs P (method f) later = Closes P f.node later
FormBelongs P (call place node) later = P (record { mark = place; kind = kinds.Call })
FormBelongs P (call_of r place node) later = P (record { mark = place; kind = kinds.Call })
FormBelongs P f later = Unit {0}

-- a part of a source with these marks that has no `frame`, and in which no throw stands
abbrev mutual
  -- a part belongs to the source
  pub Belongs : (Marked → Type 0) → Term → Type 0
  Belongs P (done v) = Unit {0}
  Belongs P (standing v place) = ⊥
  Belongs P (part f now later) = FormBelongs P f later × AllBelong P now × AllBelong P later

  -- each of these parts belongs to the source
  pub AllBelong : (Marked → Type 0) → Terms → Type 0
  AllBelong P end = Unit {0}
  AllBelong P (more t ts) = Belongs P t × AllBelong P ts

-- ---- the part about to be reduced, and what is around it

-- the sources whose code runs, with their marks, and what is known where a throw stands
pub record MarkedSources : Type 1 where
  pub runs : Source → Type 0
  pub marks : Source → Marked → Type 0
  pub raises : Type 0

-- after a step that told this, a throw that stands was raised by it
abbrev pub behind_step : MarkedSources → Option StepTold → MarkedSources
behind_step R told = record R { raises = told ≡ Some raised }

-- the source of the top frame
abbrev pub top : List Source → Source
top [] = script_source 0
top (source ∷ sources) = source

-- the marks of the top frame's source
abbrev pub top_marks : MarkedSources → List Source → Marked → Type 0
top_marks R sources = R.marks (top sources)

-- the sources of some frames, from the top
abbrev pub sources_of : List Frame → List Source
sources_of [] = []
sources_of (f ∷ fs) = f.source ∷ sources_of fs

-- A term within the frames of these sources, where all active frames are of those: each `frame` around the part about
-- to be reduced is one frame more, and what is within it belongs to the source of that frame.
abbrev mutual
  -- a term stands within the frames of these sources
  pub TermStands : MarkedSources → List Source → Term → List Source → Type 0
  TermStands R around (done v) all = all ≡ around
  TermStands R around (standing v place) all = (all ≡ around) × R.raises
  TermStands R around (part (frame node a) now later) all =
      (source : Source)
      × R.runs source
      × Closes (R.marks source) node now
      × AllStand R (source ∷ around) now all
      × AllBelong (top_marks R around) later
  TermStands R around (part f now later) all =
      FormBelongs (top_marks R around) f later × AllStand R around now all × AllBelong (top_marks R around) later

  -- of these parts the first that isn't done stands so, and those after it belong to the source of the top frame
  pub AllStand : MarkedSources → List Source → Terms → List Source → Type 0
  AllStand R around end all = all ≡ around
  AllStand R around (more (done v) ts) all = AllStand R around ts all
  AllStand R around (more (standing v place) ts) all = (all ≡ around) × R.raises × AllBelong (top_marks R around) ts
  AllStand R around (more (part f now later) ts) all =
      TermStands R around (part f now later) all × AllBelong (top_marks R around) ts

-- what a completion leaves behind has no frame any more
abbrev pub MoveStands : MarkedSources → List Source → Move Term → Type 0
MoveStands R around (goes t s told) = TermStands (behind_step R (Some told)) around t (sources_of s.frames)
MoveStands R around (travels c s) = sources_of s.frames ≡ around
MoveStands R around (has_effect s) = Unit {0}
MoveStands R around (is_full what s) = Unit {0}

-- ---- programs

-- a script's tree, by which the code of its functions is found
abbrev pub TreeBelongs : MarkedSources → Source → Term → Type 0
TreeBelongs R source (part (script number names) now later) =
    R.runs source × AllBelong (R.marks source) now × AllBelong (R.marks source) later
TreeBelongs R source _ = ⊥

-- the trees of all sources of a program belong to them
abbrev pub ProgramBelongs : MarkedSources → Program → Type 0
ProgramBelongs R [] = Unit {0}
ProgramBelongs R (t ∷ ts) = TreeBelongs R t.source t.tree × ProgramBelongs R ts

-- ---- scripts

-- a script that hasn't begun
abbrev pub Waits : MarkedSources → Term → Type 0
Waits R (part (script number names) end later) =
    R.runs (script_source number) × AllBelong (R.marks (script_source number)) later
Waits R _ = ⊥

-- none of these scripts has begun
abbrev pub AllWait : MarkedSources → Terms → Type 0
AllWait R end = Unit {0}
AllWait R (more t ts) = Waits R t × AllWait R ts

-- a script that hasn't begun, or the one in the bottom frame
abbrev pub ScriptStands : MarkedSources → Source → Term → List Source → Type 0
ScriptStands R source (part (script number names) now later) all =
    (all ≡ source ∷ []) × Waits R (part (script number names) now later)
ScriptStands R source t all = TermStands R (source ∷ []) t all

-- scripts one after another: some are over, one runs in a bottom frame of its source, and others wait
abbrev pub ScriptsStand : MarkedSources → Source → Terms → List Source → Type 0
ScriptsStand R source end all = all ≡ source ∷ []
ScriptsStand R source (more (done v) ts) all = ScriptsStand R source ts all
ScriptsStand R source (more (standing v place) ts) all = (all ≡ source ∷ []) × R.raises × AllWait R ts
ScriptsStand R source (more (part f now later) ts) all = ScriptStands R source (part f now later) all × AllWait R ts

-- the term of a run of scripts
abbrev pub RunningStands : MarkedSources → Term → List Source → Type 0
RunningStands R (part scripts now later) all = (source : Source) × R.runs source × ScriptsStand R source now all
RunningStands R _ all = ⊥

-- the term of a run that isn't over stands so within its frames
abbrev pub RunStands : MarkedSources → Run → Type 0
RunStands R (running t s) = RunningStands R t (sources_of s.frames)
RunStands R (over f s) = Unit {0}
