-- Where a configuration stands: arrivals, depth, active frames and their scopes.
use Rattle.std.specs.Prelude.{ℕ, zero, suc, ◌+◌, ◌-◌, Bool, true, false, not, List, [], ◌∷◌, length, Option, Some, None, nat_eq, slice_get, if◌then◌else◌}
use Rattle.js_tree.specs.declared.node.Span.{Span}
use Rattle.js_tree.specs.Spans.{span_of}
use Rattle.js_heap.specs.declared.value.Addr.{Addr}
use Rattle.js_heap.specs.declared.value.Value.{Value}
use Rattle.js_heap.specs.declared.cell.ScopeKind.{ScopeKind}
use Rattle.js_heap.specs.declared.cell.ScopeKind.TheVariants as kinds
use Rattle.js_heap.specs.declared.cell.Cell.{Cell}
use Rattle.js_heap.specs.declared.cell.Cell.TheVariants as cells
use Rattle.js_heap.specs.World.{World, read_cell}
use Rattle.js_semantics.specs.Terms.{script_source, Mark, beginning, start, before_end, SourceMark, Form, script, enter, enter_debugger, enter_for, enter_for_of, frame, catching, call, Term, done, standing, part, Terms, end, more}
use Rattle.js_semantics.specs.State.{Frame, State}
use Rattle.js_semantics.specs.Next.{scope_in}

-- ---- the part about to be reduced

-- a form whose parts are all values, or a throw that stands
pub data Active : Type 0 where
  reduces : Form → List Value → Active
  stands : Value → SourceMark → Active
  nothing_left : Active

-- the values of parts, or the first part that has none
pub data Leftmost : Type 0 where
  only_values : List Value → Leftmost
  inner : Active → Leftmost

-- what a value and the parts behind it are
abbrev pub behind : Value → Leftmost → Leftmost
behind v (only_values vs) = only_values (v ∷ vs)
behind v (inner a) = inner a

-- what is about to be reduced in a form: the form itself, where its parts are values, or what is in them
abbrev pub active_of : Form → Leftmost → Active
active_of f (only_values vs) = reduces f vs
active_of f (inner a) = a

-- the part about to be reduced, of a term, and of the parts of a form
abbrev mutual
  -- the part about to be reduced of a term
  pub active : Term → Active
  active (done v) = nothing_left
  active (standing v place) = stands v place
  active (part f now later) = active_of f (leftmost now)

  -- the first of these parts that isn't done, by what is about to be reduced in it; or the values of all
  pub leftmost : Terms → Leftmost
  leftmost end = only_values []
  leftmost (more (done v) ts) = behind v (leftmost ts)
  leftmost (more (standing v place) ts) = inner (stands v place)
  leftmost (more (part f now later) ts) = inner (active (part f now later))

-- ---- arrivals

-- where a mark is in a source with these spans
abbrev pub offset_of : List Span → Mark → ℕ
offset_of spans beginning = 0
offset_of spans (start node) = (span_of spans node).start
offset_of spans (before_end node back) = (span_of spans node).end - back

-- a call whose place isn't the start of the statement or body that it stands in
abbrev pub call_arrival : List Span → Mark → ℕ → Option Mark
call_arrival spans place node =
    if nat_eq (offset_of spans place) (offset_of spans (start node)) then None else Some place

-- The next step enters a statement, returns at a closing brace, or reduces such a call: its place. The script's own
-- first step is no arrival, and a throw that stands is none.
abbrev pub arrival : List Span → Active → Option Mark
arrival spans (reduces (enter node) vs) = Some (start node)
arrival spans (reduces (enter_debugger node) vs) = Some (start node)
arrival spans (reduces (enter_for node constant names) vs) = Some (start node)
arrival spans (reduces (enter_for_of node b) vs) = Some (start node)
arrival spans (reduces (frame node a) vs) = Some (before_end node 1)
arrival spans (reduces (call place node) vs) = call_arrival spans place node
arrival spans a = None

-- the arrival's place, if the configuration is an arrival
abbrev pub at : List Span → Term → Option Mark
at spans t = arrival spans (active t)

-- the arrival is at a `debugger` statement
abbrev pub is_debugger : Active → Bool
is_debugger (reduces (enter_debugger node) vs) = true
is_debugger a = false

-- ---- throws

-- a form is a `try` whose `catch` is still to come
abbrev pub is_catching : Form → Bool
is_catching (catching n) = true
is_catching f = false

-- whether a `catch` will take a throw at the part about to be reduced, in a term and in parts
abbrev mutual
  -- an enclosing `try` with a `catch`, in any frame, has the part about to be reduced within its block
  pub is_caught : Term → Bool
  is_caught (done v) = false
  is_caught (standing v place) = false
  is_caught (part f now later) = if is_catching f then true else is_caught_in now

  -- of parts, the first one that isn't done has the part about to be reduced within the block of such a `try`
  pub is_caught_in : Terms → Bool
  is_caught_in end = false
  is_caught_in (more (done v) ts) = is_caught_in ts
  is_caught_in (more (standing v place) ts) = false
  is_caught_in (more (part f now later) ts) = is_caught (part f now later)

-- a throw that stands: its value, and whether no catch will take it
pub record StandingThrow : Type 0 where
  pub value : Value
  pub uncaught : Bool

-- a throw that stands, with whether a catch will take it
abbrev pub standing_of : Active → Bool → Option StandingThrow
standing_of (stands v place) caught = Some (record { value = v; uncaught = not caught })
standing_of a caught = None

-- the throw that stands in a term, if one does
abbrev pub thrown : Term → Option StandingThrow
thrown t = standing_of (active t) (is_caught t)

-- ---- frames

-- how many calls are active; the script is at depth 0
abbrev pub depth : State → ℕ
depth s = length s.frames - 1

-- where a script is about to be reduced, that script is the one in the bottom frame, at its beginning
abbrev pub in_bottom : Active → Frame → Frame
in_bottom (reduces (script number names) vs) f = record f { source = script_source number; here = beginning }
in_bottom a f = f

-- the frames, of which the bottom one is that of the script about to be reduced, where one is
abbrev pub shown_frames : Active → List Frame → List Frame
shown_frames a [] = []
shown_frames a (f ∷ []) = in_bottom a f ∷ []
shown_frames a (f ∷ g ∷ fs) = f ∷ shown_frames a (g ∷ fs)

-- the innermost scope of each active frame, in a term and in parts
abbrev mutual
  -- the innermost scope of each active frame, from the bottom to the top, behind the scope around the term
  pub scopes_at : Addr → Term → List Addr
  scopes_at scope (done v) = scope ∷ []
  scopes_at scope (standing v place) = scope ∷ []
  scopes_at scope (part (frame node a) now later) = scope ∷ scopes_in a now
  scopes_at scope (part f now later) = scopes_in (scope_in f scope) now

  -- the innermost scopes in parts: those of the first one that isn't done, in the scope around them
  pub scopes_in : Addr → Terms → List Addr
  scopes_in scope end = scope ∷ []
  scopes_in scope (more (done v) ts) = scopes_in scope ts
  scopes_in scope (more (standing v place) ts) = scope ∷ []
  scopes_in scope (more (part f now later) ts) = scopes_at scope (part f now later)

-- an active frame with the innermost scope of its active part in place of its body's
abbrev pub with_scopes : List Frame → List Addr → List Frame
with_scopes (f ∷ fs) (a ∷ more_scopes) = record f { scope = a } ∷ with_scopes fs more_scopes
with_scopes fs scopes = fs

-- scopes from the last to the first, in front of others
abbrev pub reversed_onto : List Addr → List Addr → List Addr
reversed_onto [] done_ = done_
reversed_onto (a ∷ scopes) done_ = reversed_onto scopes (a ∷ done_)

-- the active frames from the top, each with its function, the place `here`, `this`, and its innermost scope
abbrev pub frames : Addr → Term → State → List Frame
frames scope t s = with_scopes (shown_frames (active t) s.frames) (reversed_onto (scopes_at scope t) [])

-- the frame at a depth from the top
abbrev pub frame_at : ℕ → Addr → Term → State → Option Frame
frame_at d scope t s = slice_get (frames scope t s) d

-- ---- scopes

-- how a scope is listed
pub data Listed : Type 0 where
  as_block as_catch as_local as_closure as_script as_global : Listed

-- a scope with the way in which it is listed
pub record ListedScope : Type 0 where
  pub kind : Listed
  pub scope : Addr

-- the innermost scope of a function is the frame's own; those beyond it are outer functions'
abbrev pub listed_as : ScopeKind → Bool → Listed
listed_as kinds.Block inside = as_block
listed_as kinds.Catch inside = as_catch
listed_as kinds.Function inside = if inside then as_local else as_closure
listed_as kinds.Named inside = as_closure
listed_as kinds.Script inside = as_script
listed_as kinds.Global inside = as_global

-- beyond a scope are still the frame's own ones: beyond that of its function are those of outer functions
abbrev pub still_inside : ScopeKind → Bool → Bool
still_inside kinds.Function inside = false
still_inside kind inside = inside

-- the scopes from an outer scope on; none around the outermost
abbrev pub outward : Option Addr → (Addr → List ListedScope) → List ListedScope
outward None further = []
outward (Some a) further = further a

-- the scope of a cell, and those beyond it
abbrev pub scope_listed : Bool → Addr → Option Cell → (Bool → Addr → List ListedScope) → List ListedScope
scope_listed inside a (Some (cells.Bindings kind name outer names)) further =
    record { kind = listed_as kind inside; scope = a } ∷ outward outer (further (still_inside kind inside))
scope_listed inside a _ further = []

-- the scopes from one outward, at most so many
abbrev pub listed_within : ℕ → World → Bool → Addr → List ListedScope
listed_within zero w inside a = []
listed_within (suc n) w inside a = scope_listed inside a (read_cell w a) (listed_within n w)

-- the scopes of a frame from its innermost one outward
abbrev pub scope_chain : World → Addr → List ListedScope
scope_chain w a = listed_within (length w.base + length w.scratch) w true a
