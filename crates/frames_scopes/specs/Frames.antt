-- The active frames, as they are shown.
use Rattle.std.specs.Prelude.{ℕ, zero, suc, List, [], ◌∷◌, Option, Some, None, map}
use Rattle.cdp_text.specs.declared.position.Place.{Place}
use Rattle.js_heap.specs.declared.value.Addr.{Addr}
use Rattle.js_heap.specs.declared.built_in.Code.{Code}
use Rattle.js_heap.specs.declared.built_in.Code.TheVariants as code
use Rattle.js_heap.specs.declared.cell.Cell.{Cell}
use Rattle.js_heap.specs.declared.cell.Cell.TheVariants as cells
use Rattle.js_heap.specs.World.{World, read_cell}
use Rattle.js_tree.specs.declared.script.Script.{Script}
use Rattle.js_semantics.specs.declared.form.Source.TheVariants.{Script as script_source}
use Rattle.js_semantics.specs.declared.form.Mark.{Mark}
use Rattle.js_semantics.specs.declared.form.Mark.TheVariants.{Start as start}
use Rattle.js_semantics.specs.Terms.{Term}
use Rattle.js_semantics.specs.State.{Frame, State, spot_of}
use Rattle.js_semantics.specs.Frames.{at, frames}
use Rattle.js_machine_inspection.specs.Sources.{spans_in}
use Rattle.frames_scopes.specs.Places.{shown_place}
use Rattle.frames_scopes_types.specs.Frames.{ShownFrame}
use Rattle.frames_scopes.specs.Scopes.{shown_scopes}

-- ---- functions

-- a function's code and name
pub record FunctionParts : Type 0 where
  pub code : Code
  pub name : List ℕ

-- a cell as a function, if it is one
abbrev pub function_parts : Option Cell → Option FunctionParts
function_parts (Some (cells.Function code name len scope receiver)) = Some (record { code = code; name = name })
function_parts c = None

-- the function at an address, if there is one
abbrev pub function_of : World → Option Addr → Option FunctionParts
function_of w None = None
function_of w (Some a) = function_parts (read_cell w a)

-- the bottom frame has no function, and shows the empty name
abbrev pub function_name : Option FunctionParts → List ℕ
function_name None = []
function_name (Some f) = f.name

-- the first token of a function's code in a script
abbrev pub code_place : List Script → Code → Option Place
code_place scripts (code.Script number node) = Some (shown_place scripts (script_source number) (start node))
code_place scripts c = None

-- the first token of a function, if there is one
abbrev pub function_place : List Script → Option FunctionParts → Option Place
function_place scripts None = None
function_place scripts (Some f) = code_place scripts f.code

-- ---- frames

-- a frame at the place of an arrival, if there is one
abbrev pub arrived : Option Mark → Frame → Frame
arrived None f = f
arrived (Some m) f = record f { here = m }

-- a frame with what is shown of it
abbrev pub shown_frame : List Script → World → Frame → ShownFrame
shown_frame scripts w f = record {
  name = function_name (function_of w f.function);
  place = shown_place scripts f.source f.here;
  function_place = function_place scripts (function_of w f.function);
  receiver = f.receiver;
  scopes = shown_scopes w f.scope;
}

-- frames from the top, the top one at the arrival's place where there is one
abbrev pub listed_frames : List Script → World → Option Mark → List Frame → List ShownFrame
listed_frames scripts w m [] = []
listed_frames scripts w m (f ∷ fs) = shown_frame scripts w (arrived m f) ∷ map (shown_frame scripts w) fs

-- the active frames of a configuration from the top; around its term is the scope `root`
abbrev pub walk : List Script → Addr → Term → State → List ShownFrame
walk scripts root t s = listed_frames scripts s.world (at (spans_in scripts (spot_of s).source) t) (frames root t s)

-- where the frame behind so many stands: the top one at the arrival, if there is one
abbrev pub here_at : Option Mark → ℕ → Frame → Mark
here_at arrival zero f = (arrived arrival f).here
here_at arrival (suc n) f = f.here
