-- Active frames with their scopes, as they are listed.
use Rattle.std.specs.Prelude.{ℕ, List, Option}
use Rattle.cdp_text.specs.declared.position.Place.{Place}
use Rattle.js_heap.specs.declared.value.Addr.{Addr}
use Rattle.js_heap.specs.declared.value.Value.{Value}
use Rattle.frames_scopes_types.specs.declared.kind.ListedKind.{ListedKind}

-- a scope of a frame: how it is listed, the name that it shows, and where it is
pub record ShownScope : Type 0 where
  pub kind : ListedKind
  pub name : List ℕ
  pub bindings : Addr

-- an active frame: the name of its function, where it stands, where its function begins, its `this`, and its scopes
pub record ShownFrame : Type 0 where
  pub name : List ℕ
  pub place : Place
  pub function_place : Option Place
  pub receiver : Value
  pub scopes : List ShownScope
