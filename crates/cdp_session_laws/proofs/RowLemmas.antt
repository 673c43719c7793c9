-- What each command leaves of the handles of its session.
use Rattle.std.proofs.Common.{◌≡◌, ℕ, Bool, true, false, not, List, [], ◌∷◌, length, take, inl, inr, refl, sym, ap, subst, ◌∙◌}
use Rattle.std.specs.Prelude.{◌⊎◌, filter, is_some, if◌then◌else◌, Option, Some, None, option_and_then}
use Rattle.std.specs.List.{list_any}
use Rattle.std.specs.Option.{option_map_or}
use lib.Seq.{take-length}
use Rattle.cdp_text.specs.declared.position.Place.{Place}
use Rattle.js_heap.specs.declared.value.Value.TheVariants as values
use Rattle.js_heap.specs.BuiltIns.{script_scope}
use Rattle.js_tree.specs.declared.script.Script.{Script}
use Rattle.breakpoints.specs.Breakpoints.{fault_of}
use Rattle.breakpoints.specs.Ids.{place_id, url_id}
use Rattle.breakpoints.specs.Resolving.{resolved_at, resolved_by_url, resolved_in}
use Rattle.breakpoints.specs.declared.fault.AddFault.{AddFault}
use Rattle.object_groups.specs.declared.handle.Handle.{Handle}
use Rattle.object_groups.specs.Handles.{HeldHandles, has_another_number, is_on_scratch, is_outside}
use Rattle.object_groups.proofs.NumberLemmas.{find-any, without-unused}
use Rattle.pure_eval.specs.Workspaces.{Workspace, emptied_workspace}
use Rattle.cdp_json.specs.Json.{Json}
use Rattle.cdp_json.specs.declared.params.Params.{Params}
use Rattle.cdp_json.specs.declared.params.Params.TheVariants as params
use Rattle.cdp_json.specs.declared.refusal.Refusal.{Refusal}
use Rattle.stepping.specs.declared.rules.StepKind.{StepKind}
use Rattle.stepping.specs.declared.rules.StepKind.TheVariants as kinds
use Rattle.remote_objects.specs.CallFrames.{backtrace}
use Rattle.remote_objects.specs.Ids.{number_in_id}
use Rattle.cdp_session_messages.specs.Results.{set_at, set_by_url}
use Rattle.cdp_session.specs.Calls.{arguments_of, receiver_of}
use Rattle.cdp_session.specs.Evaluations.{detail_of, frame_of, sight_with}
use Rattle.cdp_session.specs.Objects.{handle_of, numbered}
use Rattle.cdp_session.specs.Replies.{comes_to, refusal_of}
use Rattle.cdp_session.specs.Rows.{Does, Refuses, Row, add_in, adds as adds_breakpoint, adds_at, continue_at, end_of, in_script, placed_in, possible_in, properties_of, releases as releases_row, row, source_in, step_from}
use Rattle.cdp_session.specs.Sessions.{Session, holding}
use Rattle.cdp_session.specs.Situations.{Situation, script_of}
use Rattle.cdp_session.specs.declared.situation.Pause.{Pause}
use Rattle.cdp_session_laws.specs.Handles.{IsOrdered, is_of, releases}
use Rattle.cdp_session_laws.proofs.GrowLemmas.{Fate, Grows, all_stay, fate-filter, fate-grows, found-number, grows-same}
use Rattle.cdp_session_laws.proofs.DescriptionLemmas.{grows-descriptors, grows-enabling}
use Rattle.cdp_session_laws.proofs.EvaluatingLemmas.{Evaluation, a-call, an-evaluation, in-frame}
use Rattle.cdp_session_laws.proofs.ScratchLemmas.{IsBalanced, chosen-balanced}

-- ---- sessions

-- the cells of before are there as they were, unless no handle stands on one
abbrev pub CellsStay : Session → Session → Type 0
CellsStay x y =
    (take (length x.workspace.scratch.cells) y.workspace.scratch.cells ≡ x.workspace.scratch.cells)
    ⊎ (list_any is_on_scratch y.handles.held ≡ false)

-- a session has the number of another and what is left of its handles, and what its evaluations keep fits as before
pub record Leaves (stays : Handle → Bool) (x y : Session) : Type 0 where
  pub number : y.number ≡ x.number
  pub fate : Fate stays x.handles y.handles
  pub cells : CellsStay x y
  pub fits : IsBalanced x.workspace → IsBalanced y.workspace

-- a session has the number of another and more handles, and the cells of its evaluations and more
pub record Adds (x y : Session) : Type 0 where
  pub number : y.number ≡ x.number
  pub grows : Grows x.handles y.handles
  pub cells : take (length x.workspace.scratch.cells) y.workspace.scratch.cells ≡ x.workspace.scratch.cells
  pub fits : IsBalanced x.workspace → IsBalanced y.workspace

-- a session that has more handles and is the same else
pub adds : (x y : Session)
    → y.number ≡ x.number
    → Grows x.handles y.handles
    → y.workspace ≡ x.workspace
    → Adds x y
adds x y number grows same = record {
  number = number;
  grows = grows;
  cells = ap (λ (w : Workspace). take (length x.workspace.scratch.cells) w.scratch.cells) same
      ∙ take-length x.workspace.scratch.cells;
  fits = λ h. subst IsBalanced (sym same) h;
}

pub adds-none : (x : Session) → Adds x x
adds-none x = adds x x refl (grows-same x.handles) refl

pub leaves-adds : (x y : Session) → IsOrdered x.handles → Adds x y → Leaves all_stay x y
leaves-adds x y o a =
    record {
      number = a.number;
      fate = fate-grows x.handles y.handles o a.grows;
      cells = inl a.cells;
      fits = a.fits;
    }

-- where no handle is left on a cell of an evaluation, the cells are given up
holding-cells : (x : Session) (h : HeldHandles) (b : Bool)
    → list_any is_on_scratch h.held ≡ b
    → CellsStay x (holding h x)
holding-cells x h true is =
    inl (ap (λ c. take (length x.workspace.scratch.cells)
    (if c then x.workspace else emptied_workspace x.workspace).scratch.cells) is
    ∙ take-length x.workspace.scratch.cells)
holding-cells x h false is = inr is

-- a session that holds on to the handles that pass a test
pub leaves-holding : (stays : Handle → Bool) (x : Session)
    → IsOrdered x.handles
    → Leaves stays x (holding (record x.handles { held = filter stays x.handles.held }) x)
leaves-holding stays x o = record {
  number = refl;
  fate = fate-filter stays x.handles o;
  cells = holding-cells x (record x.handles { held = filter stays x.handles.held })
      (list_any is_on_scratch (filter stays x.handles.held)) refl;
  fits = chosen-balanced (list_any is_on_scratch (filter stays x.handles.held)) x.workspace;
}

-- ---- rows

-- the session that a row leaves
abbrev pub session_by : Session → Row → Session
session_by x (Refuses why) = x
session_by x (Does done) = done.session

-- the same session, but for what isn't its number or a handle
abbrev Same : Session → Row → Type 0
Same x r = Adds x (session_by x r)

-- a row that is refused before it acts
or-refused : (x : Session) (o : Option Refusal) (r : Row) → Same x r → Same x (option_map_or Refuses o r)
or-refused x None r s = s
or-refused x (Some why) r s = adds-none x

-- of a script, if there is one
of-script : (x : Session) (o : Option Script) (id : List ℕ) (f : Script → Row)
    → ((script : Script) → Same x (f script))
    → Same x (in_script o id f)
of-script x None id f each = adds-none x
of-script x (Some script) id f each = each script

to-place : (x : Session) (o : Option Place) → Same x (continue_at x o)
to-place x None = adds-none x
to-place x (Some place) = adds x _ refl (grows-same x.handles) refl

a-step : (x : Session) (kind : StepKind) (o : Option Pause) → Same x (step_from kind o x)
a-step x kind None = adds-none x
a-step x kind (Some p) = adds x _ refl (grows-same x.handles) refl

a-breakpoint : (x : Session) (o : Option AddFault) (id : List ℕ) (condition : Option (List ℕ)) (places : List Place)
    (result : Json)
    → Same x (adds_breakpoint o x id condition places result)
a-breakpoint x None id condition places result = adds x _ refl (grows-same x.handles) refl
a-breakpoint x (Some fault) id condition places result = adds-none x

breakpoint-at : (x : Session) (place : Place) (condition : Option (List ℕ)) (o : Option Place)
    → Same x (adds_at x place condition o)
breakpoint-at x place condition None = adds-none x
breakpoint-at x place condition (Some resolved) =
    a-breakpoint x (fault_of (place_id place) x.breakpoints) (place_id place) condition (resolved ∷ [])
    (set_at (place_id place) resolved)

asks-pause : (s : Situation) (x : Session) (b : Bool)
    → Adds x (if b then x else record x { rules = record x.rules { pause = true } })
asks-pause s x true = adds-none x
asks-pause s x false = adds x _ refl (grows-same x.handles) refl

properties-made : (s : Situation) (x : Session) (preview : Bool) (o : Option Handle)
    → Same x (properties_of s x preview o)
properties-made s x preview None = adds-none x
properties-made s x preview (Some h) =
    adds x _ refl
    (grows-descriptors (sight_with s x x.workspace.scratch) (detail_of preview) h.group h.target x.handles) refl

-- ---- evaluations

-- what only evaluates adds handles
same-only : (x : Session) (r : Row) → Evaluation x r → Same x r
same-only x (Refuses why) e = adds-none x
same-only x (Does done) e =
    record { number = e.0.only.number; grows = e.0.grows; cells = e.0.only.cells; fits = e.0.fits }

-- ---- releases

-- taking out a number that isn't there takes out nothing
nothing-out : (n : ℕ) (h : HeldHandles)
    → numbered h.held n ≡ None
    → filter (has_another_number n) h.held ≡ h.held
nothing-out n h none = without-unused n h.held (sym (find-any n h.held) ∙ ap is_some none)

-- a handle is found by its number or isn't
releases-found : (x : Session) (n : ℕ) (o : Option Handle)
    → IsOrdered x.handles
    → numbered x.handles.held n ≡ o
    → Leaves (has_another_number n) x (session_by x (releases_row x o))
releases-found x n None ordered is = record {
  number = refl;
  fate = subst (λ hs. Fate (has_another_number n) x.handles (record x.handles { held = hs }))
      (nothing-out n x.handles is) (fate-filter (has_another_number n) x.handles ordered);
  cells = inl (take-length x.workspace.scratch.cells);
  fits = λ h. h;
}
releases-found x n (Some h) ordered is =
    subst (λ m. Leaves (has_another_number n) x
    (holding (record x.handles { held = filter (has_another_number m) x.handles.held }) x))
    (sym (found-number n x.handles.held h is)) (leaves-holding (has_another_number n) x ordered)

releases-id : (x : Session) (o : Option ℕ)
    → IsOrdered x.handles
    → Leaves (λ h. not (is_of o h)) x (session_by x (releases_row x (option_and_then (numbered x.handles.held) o)))
releases-id x None ordered = leaves-adds x x ordered (adds-none x)
releases-id x (Some n) ordered = releases-found x n (numbered x.handles.held n) ordered refl

-- ---- all commands

-- a command that releases nothing
quiet : (s : Situation) (x : Session) (p : Params)
    → IsOrdered x.handles
    → Same x (row s x p)
    → Leaves all_stay x (session_by x (comes_to s x p))
quiet s x p o same =
    leaves-adds x (session_by x (comes_to s x p)) o (or-refused x (refusal_of s x p) (row s x p) same)

pub comes : (s : Situation) (x : Session) (p : Params)
    → IsOrdered x.handles
    → Leaves (λ h. not (releases p x h)) x (session_by x (comes_to s x p))
comes s x params.DebuggerEnable o =
    quiet s x params.DebuggerEnable o
    (adds x _ refl (grows-enabling s s.paused x.rules.enabled x) refl)
comes s x params.DebuggerDisable o =
    let l = leaves-holding (is_outside backtrace) x o in
    record { number = l.number; fate = l.fate; cells = l.cells; fits = l.fits }
comes s x params.Pause o = quiet s x params.Pause o (asks-pause s x (is_some s.paused))
comes s x params.Resume o = quiet s x params.Resume o (adds x _ refl (grows-same x.handles) refl)
comes s x params.StepInto o = quiet s x params.StepInto o (a-step x kinds.Into s.paused)
comes s x params.StepOver o = quiet s x params.StepOver o (a-step x kinds.Over s.paused)
comes s x params.StepOut o = quiet s x params.StepOut o (a-step x kinds.Out s.paused)
comes s x (params.ContinueToLocation at) o =
    quiet s x (params.ContinueToLocation at) o
    (of-script x (script_of at.script_id s.scripts) at.script_id
    (λ script. continue_at x (resolved_in at.position script))
    (λ script. to-place x (resolved_in at.position script)))
comes s x (params.SetBreakpointByUrl url p condition) o =
    quiet s x (params.SetBreakpointByUrl url p condition) o
    (a-breakpoint x (fault_of (url_id p url) x.breakpoints) (url_id p url) condition
    (resolved_by_url url p s.scripts) (set_by_url (url_id p url) (resolved_by_url url p s.scripts)))
comes s x (params.SetBreakpoint at condition) o =
    quiet s x (params.SetBreakpoint at condition) o
    (of-script x (script_of at.script_id s.scripts) at.script_id (add_in s x at.position condition)
    (λ script. breakpoint-at x (placed_in at.position script) condition
    (resolved_at (placed_in at.position script) s.scripts)))
comes s x (params.RemoveBreakpoint id) o =
    quiet s x (params.RemoveBreakpoint id) o (adds x _ refl (grows-same x.handles) refl)
comes s x (params.SetBreakpointsActive active) o =
    quiet s x (params.SetBreakpointsActive active) o (adds x _ refl (grows-same x.handles) refl)
comes s x (params.SetSkipAllPauses skip) o =
    quiet s x (params.SetSkipAllPauses skip) o (adds x _ refl (grows-same x.handles) refl)
comes s x (params.SetPauseOnExceptions state) o =
    quiet s x (params.SetPauseOnExceptions state) o (adds x _ refl (grows-same x.handles) refl)
comes s x params.SetAsyncCallStackDepth o = quiet s x params.SetAsyncCallStackDepth o (adds-none x)
comes s x (params.GetPossibleBreakpoints start end) o =
    quiet s x (params.GetPossibleBreakpoints start end) o
    (of-script x (script_of start.script_id s.scripts) start.script_id
    (possible_in x start.position (end_of end)) (λ script. adds-none x))
comes s x (params.GetScriptSource id) o =
    quiet s x (params.GetScriptSource id) o
    (of-script x (script_of id s.scripts) id (source_in x) (λ script. adds-none x))
comes s x (params.GetProperties id own preview) o =
    quiet s x (params.GetProperties id own preview) o (properties-made s x preview (handle_of x id))
comes s x (params.ReleaseObject id) o = releases-id x (number_in_id x.number id) o
comes s x (params.ReleaseObjectGroup group) o = leaves-holding (is_outside group) x o
comes s x (params.Evaluate ev) o =
    quiet s x (params.Evaluate ev) o
    (same-only x (row s x (params.Evaluate ev)) (an-evaluation s x script_scope values.Undefined ev))
comes s x (params.EvaluateOnCallFrame id ev) o =
    quiet s x (params.EvaluateOnCallFrame id ev) o
    (same-only x (row s x (params.EvaluateOnCallFrame id ev)) (in-frame s x (frame_of s x s.paused id) ev))
comes s x (params.CallFunctionOn call) o =
    quiet s x (params.CallFunctionOn call) o
    (same-only x (row s x (params.CallFunctionOn call))
    (a-call s x call (receiver_of x call.object_id) (arguments_of x call.arguments)))
comes s x params.RuntimeEnable o =
    quiet s x params.RuntimeEnable o (adds x _ refl (grows-same x.handles) refl)
comes s x params.RuntimeDisable o =
    quiet s x params.RuntimeDisable o (adds x _ refl (grows-same x.handles) refl)
comes s x params.GlobalLexicalScopeNames o = quiet s x params.GlobalLexicalScopeNames o (adds-none x)
comes s x params.RunIfWaitingForDebugger o = quiet s x params.RunIfWaitingForDebugger o (adds-none x)
