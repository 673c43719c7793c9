-- What a stop names is in the group that ends with it.
use Rattle.std.proofs.Common.{◌≡◌, ℕ, ◌+◌, ◌<◌, Bool, true, false, cond, List, [], ◌∷◌, ◌++◌, refl, subst, arith}
use Rattle.std.specs.Prelude.{if◌then◌else◌, Option, Some, None}
use Rattle.std.specs.List.{find}
use Rattle.std.proofs.lemmas.Slice.Eq.{bytes_eq-Decides}
use Rattle.js_heap.specs.declared.value.Value.{Value}
use Rattle.js_heap.specs.declared.value.Value.TheVariants as values
use Rattle.stepping.specs.declared.arrival.Arrival.{Arrival}
use Rattle.stepping.specs.declared.cause.Cause.{Cause}
use Rattle.object_groups.specs.declared.fault.HandleFault.{HandleFault}
use Rattle.object_groups.specs.declared.handle.Handle.{Handle}
use Rattle.object_groups.specs.declared.handle.Target.{Target}
use Rattle.object_groups.specs.declared.handle.Target.TheVariants as targets
use Rattle.object_groups.specs.Handles.{HeldHandles, fault_of, has_number}
use Rattle.object_groups.specs.Numbers.{AllBelow}
use Rattle.frames_scopes_types.specs.Frames.{ShownFrame, ShownScope}
use Rattle.pure_eval.specs.Workspaces.{Workspace}
use Rattle.remote_objects.specs.CallFrames.{frame_made, frames_from, scope_made, scopes_made}
use Rattle.remote_objects.specs.Making.{handle_on, handles_by, made_all}
use Rattle.remote_objects.specs.Remote.{remote}
use Rattle.remote_objects.specs.Sights.{Sight}
use Rattle.cdp_session.specs.Objects.{handle_of, numbered}
use Rattle.cdp_session.specs.Pauses.{data_made, frames_told, pause_told, sight_of, value_told}
use Rattle.cdp_session.specs.Sessions.{Session}
use Rattle.cdp_session.specs.Situations.{Situation}
use Rattle.cdp_session.specs.Stops.{cause_of, hit_ids, stop_told}
use Rattle.cdp_session_laws.specs.Events.{Event, Resumed, Stopped, after_event, lived}
use Rattle.cdp_session_laws.specs.Handles.{ends, is_in_group, of_a_stop}
use Rattle.cdp_session_laws.proofs.EventLemmas.{ordered}
use Rattle.cdp_session_laws.proofs.LifeLemmas.{found-held}

-- those of some handles with greater numbers than one are in the group of a stop
abbrev NewOnes : ℕ → List Handle → Type 0
NewOnes m [] = Unit {0}
NewOnes m (h ∷ hs) = (m < h.number → is_in_group of_a_stop h.group ≡ true) × NewOnes m hs

-- there are none among those of before
none-new : (m : ℕ) (hs : List Handle) → AllBelow (m + 1) hs → NewOnes m hs
none-new m [] below = tt
none-new m (h ∷ hs) below =
    let low = below.0 in
    ((λ above. absurd (omega (arith, above, low))), none-new m hs below.1)

new-push : (m : ℕ) (hs : List Handle) (h : Handle)
    → is_in_group of_a_stop h.group ≡ true
    → NewOnes m hs
    → NewOnes m (hs ++ h ∷ [])
new-push m [] h is all = ((λ above. is), tt)
new-push m (k ∷ hs) h is all = (all.0, new-push m hs h is all.1)

in-itself : is_in_group of_a_stop (Some of_a_stop) ≡ true
in-itself = (bytes_eq-Decides of_a_stop of_a_stop).1 refl

-- ---- descriptions in that group

by-fault : (m : ℕ) (o : Option HandleFault) (t : Target) (h : HeldHandles)
    → NewOnes m h.held
    → NewOnes m (handles_by o t (Some of_a_stop) h).held
by-fault m None t h all = new-push m h.held _ in-itself all
by-fault m (Some fault) t h all = all

handle-in : (m : ℕ) (t : Target) (h : HeldHandles)
    → NewOnes m h.held
    → NewOnes m (handle_on t (Some of_a_stop) h).handles.held
handle-in m t h all = by-fault m (fault_of h) t h all

value-in : (m : ℕ) (s : Sight) (v : Value) (h : HeldHandles)
    → NewOnes m h.held
    → NewOnes m (remote s (Some of_a_stop) v h).handles.held
value-in m s values.Undefined h all = all
value-in m s values.Null h all = all
value-in m s (values.Bool b) h all = all
value-in m s (values.Number z) h all = all
value-in m s (values.Text a) h all = all
value-in m s (values.Object a) h all = handle-in m (targets.Object a) h all

scopes-in : (m : ℕ) (s : Sight) (scopes : List ShownScope) (h : HeldHandles)
    → NewOnes m h.held
    → NewOnes m (made_all (scope_made s) scopes h).handles.held
scopes-in m s [] h all = all
scopes-in m s (scope ∷ scopes) h all =
    scopes-in m s scopes (scope_made s scope h).handles (handle-in m (targets.Scope scope.bindings) h all)

frame-in : (m : ℕ) (s : Sight) (stop depth : ℕ) (f : ShownFrame) (h : HeldHandles)
    → NewOnes m h.held
    → NewOnes m (frame_made s stop depth f h).handles.held
frame-in m s stop depth f h all =
    value-in m s f.receiver (scopes_made s f.scopes h).handles (scopes-in m s f.scopes h all)

frames-in : (m : ℕ) (s : Sight) (stop depth : ℕ) (fs : List ShownFrame) (h : HeldHandles)
    → NewOnes m h.held
    → NewOnes m (frames_from s stop depth fs h).handles.held
frames-in m s stop depth [] h all = all
frames-in m s stop depth (f ∷ fs) h all =
    frames-in m s stop (depth + 1) fs (frame_made s stop depth f h).handles (frame-in m s stop depth f h all)

data-in : (m : ℕ) (s : Sight) (o : Option Value) (h : HeldHandles)
    → NewOnes m h.held
    → NewOnes m (data_made s o h).handles.held
data-in m s None h all = all
data-in m s (Some v) h all = value-in m s v h all

pause-in : (m : ℕ) (s : Situation) (number : ℕ) (hits : List (List ℕ)) (cause : Option Cause) (x : Session)
    → NewOnes m x.handles.held
    → NewOnes m (pause_told s number hits cause x).handles.held
pause-in m s number hits cause x all =
    data-in m (sight_of s x) (value_told cause s.standing.thrown) (frames_told s number x).handles
    (frames-in m (sight_of s x) number 0 s.standing.frames x.handles all)

stop-in : (m : ℕ) (s : Situation) (number : ℕ) (a : Arrival) (x : Session) (b : Bool)
    → NewOnes m x.handles.held
    → NewOnes m (if b then (stop_told s number a x).handles else x.handles).held
stop-in m s number a x true all = pause-in m s number (hit_ids s.standing a x) (cause_of s.standing a x) x all
stop-in m s number a x false all = all

-- ---- what is found

found-in : (m n : ℕ) (hs : List Handle) (h : Handle)
    → NewOnes m hs
    → numbered hs n ≡ Some h
    → m < h.number
    → is_in_group of_a_stop h.group ≡ true
found-in m n [] h all is above = absurd cc
found-in m n (k ∷ hs) h all is above = at (λ there. found-in m n hs h all.1 there above) (has_number n k) is
  where
    at : (numbered hs n ≡ Some h → is_in_group of_a_stop h.group ≡ true)
        → (b : Bool)
        → cond b (Some k) (find (has_number n) hs) ≡ Some h
        → is_in_group of_a_stop h.group ≡ true
    at rest true there =
        let same : k ≡ h = cc in
        subst (λ (y : Handle). m < y.number → is_in_group of_a_stop y.group ≡ true) same all.0 above
    at rest false there = rest there

pub named-by-stop : (number : ℕ) (workspace : Workspace) (before : List Event) (s : Situation) (stop : ℕ) (a : Arrival)
    (id : List ℕ) (h : Handle)
    → handle_of (after_event (Stopped s stop a) (lived number workspace before)) id ≡ Some h
    → (lived number workspace before).handles.made < h.number
    → ends Resumed (after_event (Stopped s stop a) (lived number workspace before)) h ≡ true
named-by-stop number workspace before s stop a id h is above =
    let x : Session = lived number workspace before in
    let y : Session = after_event (Stopped s stop a) x in
    found-in x.handles.made h.number y.handles.held h
    (stop-in x.handles.made s stop a x x.rules.enabled
    (none-new x.handles.made x.handles.held (ordered number workspace before).below))
    (found-held y id h is) above
