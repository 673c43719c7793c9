-- What is described makes handles, and ends none.
use Rattle.std.proofs.Common.{◌≡◌, ℕ, ◌+◌, Bool, true, false, List, [], ◌∷◌, refl}
use Rattle.std.specs.Prelude.{if◌then◌else◌, Option, Some, None, option_map}
use Rattle.js_heap.specs.declared.value.Value.{Value}
use Rattle.js_heap.specs.declared.value.Value.TheVariants as values
use Rattle.stepping.specs.declared.cause.Cause.{Cause}
use Rattle.object_groups.specs.declared.fault.HandleFault.{HandleFault}
use Rattle.object_groups.specs.declared.handle.Target.{Target}
use Rattle.object_groups.specs.declared.handle.Target.TheVariants as targets
use Rattle.object_groups.specs.Handles.{HeldHandles, fault_of}
use Rattle.cdp_json.specs.Json.{Json}
use Rattle.frames_scopes_types.specs.Frames.{ShownFrame, ShownScope}
use Rattle.remote_objects.specs.CallFrames.{backtrace, frame_made, frames_from, scope_made, scopes_made}
use Rattle.remote_objects.specs.ByValue.{remote_by_value}
use Rattle.remote_objects.specs.Descriptors.{Content, a_text, a_value, content_made, descriptor, descriptors_with, slots_of}
use Rattle.remote_objects.specs.declared.detail.Detail.{Detail}
use Rattle.remote_objects.specs.declared.detail.Detail.TheVariants as details
use Rattle.remote_objects.specs.Making.{Made, handle_on, handles_by, made_all}
use Rattle.remote_objects.specs.Remote.{previewed, remote, remote_with}
use Rattle.remote_objects.specs.Sights.{Sight}
use Rattle.cdp_session.specs.Consoles.{console, value_made, values_made}
use Rattle.cdp_session.specs.Evaluations.{described_as, without_handle}
use Rattle.cdp_session.specs.Pauses.{data_made, enabling_told, frames_told, pause_told, sight_of, value_told}
use Rattle.cdp_session.specs.Sessions.{Session}
use Rattle.cdp_session.specs.Situations.{Situation}
use Rattle.cdp_session.specs.declared.situation.Pause.{Pause}
use Rattle.cdp_session_laws.proofs.GrowLemmas.{Grows, grows-more, grows-same, grows-then}

-- ---- values

-- a handle is made, or none can be
by-fault : (o : Option HandleFault) (t : Target) (g : Option (List ℕ)) (h : HeldHandles)
    → fault_of h ≡ o
    → Grows h (handles_by o t g h)
by-fault None t g h is = grows-more t g h is
by-fault (Some fault) t g h is = grows-same h

pub grows-handle : (t : Target) (g : Option (List ℕ)) (h : HeldHandles) → Grows h (handle_on t g h).handles
grows-handle t g h = by-fault (fault_of h) t g h refl

pub grows-remote : (s : Sight) (g : Option (List ℕ)) (v : Value) (h : HeldHandles) → Grows h (remote s g v h).handles
grows-remote s g values.Undefined h = grows-same h
grows-remote s g values.Null h = grows-same h
grows-remote s g (values.Bool b) h = grows-same h
grows-remote s g (values.Number z) h = grows-same h
grows-remote s g (values.Text a) h = grows-same h
grows-remote s g (values.Object a) h = grows-handle (targets.Object a) g h

grows-previewed : (s : Sight) (g : Option (List ℕ)) (v : Value) (h : HeldHandles) → Grows h (previewed s g v h).handles
grows-previewed s g values.Undefined h = grows-same h
grows-previewed s g values.Null h = grows-same h
grows-previewed s g (values.Bool b) h = grows-same h
grows-previewed s g (values.Number z) h = grows-same h
grows-previewed s g (values.Text a) h = grows-same h
grows-previewed s g (values.Object a) h = grows-handle (targets.Object a) g h

pub grows-remote-with : (s : Sight) (d : Detail) (g : Option (List ℕ)) (v : Value) (h : HeldHandles)
    → Grows h (remote_with s d g v h).handles
grows-remote-with s details.Plain g v h = grows-remote s g v h
grows-remote-with s details.Previewed g v h = grows-previewed s g v h

-- ---- lists

pub grows-all : {X Y : Type 0} (f : X → HeldHandles → Made Y) (xs : List X) (h : HeldHandles)
    → ((x : X) (k : HeldHandles) → Grows k (f x k).handles)
    → Grows h (made_all f xs h).handles
grows-all f [] h each = grows-same h
grows-all f (x ∷ xs) h each =
    grows-then h (f x h).handles (made_all f xs (f x h).handles).handles (each x h)
    (grows-all f xs (f x h).handles each)

grows-content : (s : Sight) (d : Detail) (g : Option (List ℕ)) (c : Content) (h : HeldHandles)
    → Grows h (content_made s d g c h).handles
grows-content s d g (a_value v) h = grows-remote-with s d g v h
grows-content s d g (a_text units) h = grows-same h

pub grows-descriptors : (s : Sight) (d : Detail) (g : Option (List ℕ)) (t : Target) (h : HeldHandles)
    → Grows h (descriptors_with s d g t h).handles
grows-descriptors s d g t h =
    grows-all (descriptor s d g) (slots_of s.world t) h (λ p k. grows-content s d g p.content k)

pub grows-values : (s : Sight) (vs : List Value) (h : HeldHandles) → Grows h (values_made s vs h).handles
grows-values s vs h = grows-all (value_made s) vs h (λ v k. grows-remote s (Some console) v k)

-- ---- frames

pub grows-scopes : (s : Sight) (scopes : List ShownScope) (h : HeldHandles) → Grows h (scopes_made s scopes h).handles
grows-scopes s scopes h =
    grows-all (scope_made s) scopes h (λ scope k. grows-handle (targets.Scope scope.bindings) (Some backtrace) k)

pub grows-frame : (s : Sight) (stop depth : ℕ) (f : ShownFrame) (h : HeldHandles)
    → Grows h (frame_made s stop depth f h).handles
grows-frame s stop depth f h =
    grows-then h (scopes_made s f.scopes h).handles (frame_made s stop depth f h).handles (grows-scopes s f.scopes h)
    (grows-remote s (Some backtrace) f.receiver (scopes_made s f.scopes h).handles)

pub grows-frames : (s : Sight) (stop depth : ℕ) (fs : List ShownFrame) (h : HeldHandles)
    → Grows h (frames_from s stop depth fs h).handles
grows-frames s stop depth [] h = grows-same h
grows-frames s stop depth (f ∷ fs) h =
    grows-then h (frame_made s stop depth f h).handles (frames_from s stop depth (f ∷ fs) h).handles
    (grows-frame s stop depth f h)
    (grows-frames s stop (depth + 1) fs (frame_made s stop depth f h).handles)

grows-data : (s : Sight) (o : Option Value) (h : HeldHandles) → Grows h (data_made s o h).handles
grows-data s None h = grows-same h
grows-data s (Some v) h = grows-remote s (Some backtrace) v h

pub grows-pause : (s : Situation) (number : ℕ) (hits : List (List ℕ)) (cause : Option Cause) (x : Session)
    → Grows x.handles (pause_told s number hits cause x).handles
grows-pause s number hits cause x =
    grows-then x.handles (frames_told s number x).handles (pause_told s number hits cause x).handles
    (grows-frames (sight_of s x) number 0 s.standing.frames x.handles)
    (grows-data (sight_of s x) (value_told cause s.standing.thrown) (frames_told s number x).handles)

pub grows-enabling : (s : Situation) (o : Option Pause) (enabled : Bool) (x : Session)
    → Grows x.handles (enabling_told s o enabled x).handles
grows-enabling s None enabled x = grows-same x.handles
grows-enabling s (Some p) true x = grows-same x.handles
grows-enabling s (Some p) false x = grows-pause s p.number [] None x

-- ---- values of evaluations

-- what is described, if it isn't too long
abbrev pub GrowsIf : HeldHandles → Option (Made Json) → Type 0
GrowsIf h None = Unit {0}
GrowsIf h (Some m) = Grows h m.handles

by-value : (h : HeldHandles) (o : Option Json) → GrowsIf h (option_map (without_handle h) o)
by-value h None = tt
by-value h (Some j) = grows-same h

as-described : (b : Bool) (s : Sight) (d : Detail) (g : Option (List ℕ)) (v : Value) (h : HeldHandles)
    → GrowsIf h
    (if b then option_map (without_handle h) (remote_by_value s v) else Some (remote_with s d g v h))
as-described true s d g v h = by-value h (remote_by_value s v)
as-described false s d g v h = grows-remote-with s d g v h

pub grows-described : (s : Sight) (how : _) (v : Value) (h : HeldHandles) → GrowsIf h (described_as s how v h)
grows-described s how v h = as-described how.by_value s how.detail how.group v h
