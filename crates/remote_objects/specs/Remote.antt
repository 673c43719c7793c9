-- Remote objects (Chrome DevTools Protocol 1.3, `Runtime.RemoteObject`): what a value is described as, with a handle
-- where it is an object.
use Rattle.std.specs.Prelude.{ℕ, List, ◌++◌, Option}
use Rattle.js_heap.specs.World.{read_cell}
use Rattle.js_heap.specs.declared.value.Addr.{Addr}
use Rattle.js_heap.specs.declared.value.Value.{Value}
use Rattle.js_heap.specs.declared.value.Value.TheVariants as values
use Rattle.object_groups.specs.declared.handle.Target.{Target}
use Rattle.object_groups.specs.declared.handle.Target.TheVariants as targets
use Rattle.object_groups.specs.Handles as handles
use Rattle.cdp_json.specs.Json.{Json}
use Rattle.cdp_json.specs.Parts.{Pair, object_of}
use Rattle.remote_objects.specs.Sights.{Sight}
use Rattle.remote_objects.specs.Values.{cell_pairs, plain_pairs, value_pairs}
use Rattle.remote_objects.specs.Previews.{preview_pairs}
use Rattle.remote_objects.specs.declared.detail.Detail.{Detail}
use Rattle.remote_objects.specs.declared.detail.Detail.TheVariants as details
use Rattle.remote_objects.specs.Making.{Made, handle_on, id_pairs}

-- these members with the id of a handle on a target
abbrev pub with_handle_on : ℕ → Option (List ℕ) → Target → List Pair → handles.HeldHandles → Made Json
with_handle_on session group target pairs h =
    record {
      made = object_of
          (pairs ++ id_pairs session (handle_on target group h).made);
      handles = (handle_on target group h).handles;
    }

-- a value; its handle, if it is an object, is in this group or in none
abbrev pub remote : Sight → Option (List ℕ) → Value → handles.HeldHandles → Made Json
remote s group (values.Object a) h =
    with_handle_on s.session group (targets.Object a) (value_pairs s (values.Object a)) h
remote s group v h = record { made = object_of (value_pairs s v); handles = h }

-- a scope, as an object of its names
abbrev pub remote_scope : ℕ → Option (List ℕ) → Addr → handles.HeldHandles → Made Json
remote_scope session group a h = with_handle_on session group (targets.Scope a) plain_pairs h

-- ---- with previews

-- an object with its handle and its preview, which makes none
abbrev pub previewed_object : Sight → Option (List ℕ) → Addr → handles.HeldHandles → Made Json
previewed_object s group a h = record {
  made =
      object_of
      (cell_pairs s (read_cell s.world a) ++ id_pairs s.session
      (handle_on (targets.Object a) group h).made ++ preview_pairs s.world (read_cell s.world a));
  handles = (handle_on (targets.Object a) group h).handles;
}

-- a value with a preview, if it is an object
abbrev pub previewed : Sight → Option (List ℕ) → Value → handles.HeldHandles → Made Json
previewed s group (values.Object a) h = previewed_object s group a h
previewed s group v h = remote s group v h

-- a value with or without a preview, as is asked for
abbrev pub remote_with : Sight → Detail → Option (List ℕ) → Value → handles.HeldHandles → Made Json
remote_with s details.Plain group v h = remote s group v h
remote_with s details.Previewed group v h = previewed s group v h
