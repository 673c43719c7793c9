-- Active frames with handles on their scopes (Chrome DevTools Protocol 1.3, `Debugger.CallFrame` and `Debugger.Scope`).
use Rattle.std.specs.Prelude.{ℕ, ◌+◌, List, [], ◌∷◌, ◌++◌, codes, Option, Some, None}
use Rattle.cdp_text.specs.declared.position.Place.{Place}
use Rattle.js_tree.specs.declared.script.Script.{Script}
use Rattle.object_groups.specs.Handles as handles
use Rattle.cdp_json.specs.Json.{Json, text}
use Rattle.cdp_json.specs.Parts.{Pair, object_of, list_of, location}
use Rattle.frames_scopes_types.specs.Frames.{ShownFrame, ShownScope}
use Rattle.frames_scopes_types.specs.declared.kind.ListedKind.{ListedKind}
use Rattle.frames_scopes_types.specs.declared.kind.ListedKind.TheVariants as kinds
use Rattle.remote_objects.specs.Ids.{frame_id}
use Rattle.remote_objects.specs.Sights.{Sight}
use Rattle.js_tree.specs.Scripts.{script_numbered}
use Rattle.remote_objects.specs.Making.{Made, made_all}
use Rattle.remote_objects.specs.Remote.{remote, remote_scope}

-- the group of what is described at a stop, which ends when the program goes on
abbrev pub backtrace : List ℕ
backtrace = codes "backtrace"

-- ---- scopes

-- the type of a scope
abbrev pub kind_text : ListedKind → List ℕ
kind_text kinds.Block = codes "block"
kind_text kinds.Catch = codes "catch"
kind_text kinds.Local = codes "local"
kind_text kinds.Closure = codes "closure"
kind_text kinds.Script = codes "script"
kind_text kinds.Global = codes "global"

-- a name that isn't empty
abbrev pub name_pairs : List ℕ → List Pair
name_pairs [] = []
name_pairs (u ∷ us) = (codes "name", text (u ∷ us)) ∷ []

-- a scope with what its names are described as
abbrev pub scope_of : ShownScope → Json → Json
scope_of s described =
    object_of (name_pairs s.name ++ (codes "object", described) ∷ (codes "type", text (kind_text s.kind)) ∷ [])

-- a scope with a handle on its names
abbrev pub scope_made : Sight → ShownScope → handles.HeldHandles → Made Json
scope_made s scope h =
    record {
      made = scope_of scope
          (remote_scope s.session (Some backtrace) scope.bindings h).made;
      handles = (remote_scope s.session
          (Some backtrace) scope.bindings h).handles;
    }

-- scopes, in order
abbrev pub scopes_made : Sight → List ShownScope → handles.HeldHandles → Made (List Json)
scopes_made s scopes h = made_all (scope_made s) scopes h

-- ---- frames

-- where a frame's function begins; the script has none
abbrev pub function_pairs : Option Place → List Pair
function_pairs None = []
function_pairs (Some place) = (codes "functionLocation", location place) ∷ []

-- the URL of a script; that of none is empty
abbrev pub url_of : Option Script → List ℕ
url_of None = []
url_of (Some s) = s.url

-- a frame so far from the top one, with what its scopes and its `this` are described as
abbrev pub frame_object : Sight → ℕ → ℕ → ShownFrame → List Json → Json → Json
frame_object s stop depth f scopes receiver = object_of (
    (codes "callFrameId", text (frame_id s.session stop depth))
    ∷ function_pairs f.function_place
    ++ (codes "functionName", text f.name)
    ∷ (codes "location", location f.place)
    ∷ (codes "scopeChain", list_of scopes)
    ∷ (codes "this", receiver)
    ∷ (codes "url", text (url_of (script_numbered s.scripts f.place.script))) ∷ [])

-- its scopes from the innermost one outward, then its `this`
abbrev pub receiver_made : Sight → ShownFrame → handles.HeldHandles → Made Json
receiver_made s f h = remote s (Some backtrace) f.receiver (scopes_made s f.scopes h).handles

-- a frame so far from the top one
abbrev pub frame_made : Sight → ℕ → ℕ → ShownFrame → handles.HeldHandles → Made Json
frame_made s stop depth f h = record {
  made = frame_object s stop depth f (scopes_made s f.scopes h).made (receiver_made s f h).made;
  handles = (receiver_made s f h).handles;
}

-- frames outward, the first of them so far from the top one
abbrev pub frames_from : Sight → ℕ → ℕ → List ShownFrame → handles.HeldHandles → Made (List Json)
frames_from s stop depth [] h = record { made = []; handles = h }
frames_from s stop depth (f ∷ fs) h = record {
  made =
      (frame_made s stop depth f h).made ∷
      (frames_from s stop (depth + 1) fs (frame_made s stop depth f h).handles).made;
  handles = (frames_from s stop (depth + 1) fs (frame_made s stop depth f h).handles).handles;
}

-- the frames of the stop of this number, from the top one outward
abbrev pub frames_made : Sight → ℕ → List ShownFrame → handles.HeldHandles → Made (List Json)
frames_made s stop frames h = frames_from s stop 0 frames h
