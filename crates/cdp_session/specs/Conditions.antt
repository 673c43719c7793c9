-- Conditions of breakpoints, and which breakpoints are hit (Chrome DevTools Protocol 1.3, `Debugger.setBreakpoint`).
use Rattle.std.specs.Prelude.{◌≡◌, ℕ, Bool, true, false, List, [], ◌∷◌, filter, length, Option, Some, None}
use Rattle.std.specs.List.{range_with_len}
use Rattle.cdp_text.specs.declared.position.Place.{Place}
use Rattle.js_heap.specs.BuiltIns.{script_scope}
use Rattle.js_heap.specs.ScratchSpaces.{copied_world}
use Rattle.js_heap.specs.Values.{is_truthy}
use Rattle.js_heap.specs.World.{World}
use Rattle.js_heap.specs.declared.value.Addr.{Addr}
use Rattle.js_heap.specs.declared.value.Value.{Value}
use Rattle.js_heap.specs.declared.value.Value.TheVariants as values
use Rattle.js_parser_language.specs.Places.{expression_places, numbers_of}
use Rattle.js_parser_numbering.specs.Numbered.{numbered_made}
use Rattle.js_parser.specs.Expressions.{expression_of}
use Rattle.js_semantics.specs.Evaluation.{Answer, a_result, evaluate, evaluate_expression, kept_tree}
use Rattle.js_semantics.specs.Literals.{expression_literals}
use Rattle.js_tree.specs.Trees as trees
use Rattle.js_tree.specs.Views.{expression_view}
use Rattle.js_tree.specs.declared.script.Expression.{Expression}
use Rattle.js_heap_memory.specs.Overlays.{space_after}
use Rattle.breakpoints.specs.Breakpoints as breakpoints
use Rattle.breakpoints.specs.Breakpoints.{hits_at}
use Rattle.breakpoints.specs.declared.breakpoint.Breakpoint.{Breakpoint}
use Rattle.frames_scopes_types.specs.Frames.{ShownFrame}
use Rattle.js_machine_terms.specs.Views.{term_view}
use Rattle.pure_eval.specs.declared.prepared.PreparedSource.{PreparedSource}
use Rattle.pure_eval.specs.Holding.{HeldSource}
use Rattle.pure_eval.specs.Preparing.{IsPrepared}
use Rattle.pure_eval.specs.Workspaces.{Workspace}
use Rattle.cdp_session.specs.Evaluations.{innermost}
use Rattle.cdp_session.specs.Situations.{Standing}
use Rattle.cdp_session.specs.declared.evaluations.Making.{Making}
use Rattle.cdp_session.specs.declared.evaluations.Making.TheVariants as makings
use Rattle.cdp_session.specs.declared.ready.Ready.{Ready}
use Rattle.cdp_session.specs.declared.top.Top.{Top}

-- ---- where a condition is evaluated

-- in the innermost scope of the top frame, with its `this`; a program that is over has none, and there it is the scope
-- of the scripts
abbrev pub top_scope : List ShownFrame → Addr
top_scope [] = script_scope
top_scope (f ∷ fs) = innermost f.scopes

-- the `this` of the top frame
abbrev pub top_this : List ShownFrame → Value
top_this [] = values.Undefined
top_this (f ∷ fs) = f.receiver

-- both
abbrev pub top_of : List ShownFrame → Top
top_of frames = record { scope = top_scope frames; this = top_this frames }

-- ---- what it comes to

-- an evaluation over a program's cells came to a value that counts as true; an effect, a throw, a spent budget and a
-- full scratch are no such value
abbrev pub comes_true : World → Answer → Bool
comes_true base (a_result v w) = is_truthy (copied_world base (space_after w)) v
comes_true base answer = false

-- the answer of a text's evaluation in the top frame, which is an expression of this tree
abbrev pub answer_at_top : Standing → Workspace → List ℕ → trees.Expression → Answer
answer_at_top s w source e =
    evaluate w.program s.world w.scratch (top_scope s.frames) (top_this s.frames) source (expression_literals e)
    (numbered_made e)

-- an expression that was parsed comes to a value that counts as true in the top frame
abbrev pub expression_holds : Standing → Workspace → Expression → Bool
expression_holds s w e =
    comes_true s.world (evaluate_expression w.program s.world w.scratch (top_scope s.frames) (top_this s.frames) e)

-- a text that was parsed to this does; one that is no expression doesn't
abbrev pub parsed_holds : Standing → Workspace → Option Expression → Bool
parsed_holds s w None = false
parsed_holds s w (Some e) = expression_holds s w e

-- by the tree of its text: a text that is no expression never holds
abbrev pub tree_holds : Standing → Workspace → List ℕ → Option trees.Expression → Bool
tree_holds s w source None = false
tree_holds s w source (Some e) = comes_true s.world (answer_at_top s w source e)

-- a condition holds where the program stands so
unfoldable pub holds : Standing → Workspace → List ℕ → Bool
holds s w source = tree_holds s w source (expression_of source)

-- a breakpoint has no condition, or its condition holds
abbrev pub condition_holds : Standing → Workspace → Option (List ℕ) → Bool
condition_holds s w None = true
condition_holds s w (Some source) = holds s w source

-- a breakpoint without a condition, or with one that holds
abbrev pub is_met : Standing → Workspace → Breakpoint → Bool
is_met s w b = condition_holds s w b.condition

-- ---- hits

-- the breakpoints that are hit where the program arrived, if it did, in order of setting: the active ones there that
-- are met
abbrev pub hits : Standing → Workspace → breakpoints.HeldBreakpoints → Option Place → List Breakpoint
hits s w b None = []
hits s w b (Some place) = filter (is_met s w) (hits_at place b)

-- there is at least one
abbrev pub is_some_hit : List Breakpoint → Bool
is_some_hit [] = false
is_some_hit (b ∷ bs) = true

-- ---- conditions that were parsed

-- an expression is what a text was parsed to
pub record IsParsedTo (source : List ℕ) (e : Expression) : Type 0 where
  pub tree : expression_of source ≡ Some (expression_view e.tree)
  pub kept : e.source ≡ source
  pub numbered : numbers_of (expression_places e.tree) ≡ range_with_len 0 (length e.spans)

-- a text was parsed to this, or is no expression
abbrev pub IsParsed : List ℕ → Option Expression → Type 0
IsParsed source None = expression_of source ≡ None
IsParsed source (Some e) = IsParsedTo source e

-- ---- expressions that were made ready

-- what is kept of an expression, if anything is, is that expression, ready at the address for which it is kept
abbrev pub IsKeptReady : Expression → Option Ready → Type 0
IsKeptReady e None = Unit {0}
IsKeptReady e (Some r) = IsPrepared r.at e r.source

-- an expression that its text was parsed to, and what is kept of it
pub record IsReadyFor (e : Expression) (o : Option Ready) : Type 0 where
  pub parsed : IsParsedTo e.source e
  pub kept : IsKeptReady e o

-- a source that is ready at an address has the term of the expression that its text is
pub record IsReadyText (at : Addr) (p : PreparedSource) : Type 0 where
  pub tree : trees.Expression
  pub is : expression_of p.source ≡ Some tree
  pub term : term_view p.term ≡ kept_tree at (numbered_made tree)

-- ---- code that is held

-- a source of which the code is held has the term of the expression that its text is, if it is one
abbrev pub IsRead : HeldSource → Type 0
IsRead h = (e : trees.Expression) → expression_of h.source ≡ Some e → h.term ≡ kept_tree h.at (numbered_made e)

-- all such sources have
abbrev pub AreRead : List HeldSource → Type 0
AreRead [] = Unit {0}
AreRead (h ∷ hs) = IsRead h × AreRead hs

-- those of a workspace have, if there is one
abbrev pub HoldsRead : Making → Type 0
HoldsRead (makings.Made w) = AreRead w.held
HoldsRead making = Unit {0}
