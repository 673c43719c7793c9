-- The scopes of a frame, as they are listed.
use Rattle.std.specs.Prelude.{ℕ, Bool, List, [], Option, Some, None, map}
use Rattle.js_heap.specs.declared.value.Addr.{Addr}
use Rattle.js_heap.specs.declared.cell.ScopeKind.{ScopeKind}
use Rattle.js_heap.specs.declared.cell.Cell.{Cell}
use Rattle.js_heap.specs.declared.cell.Cell.TheVariants as cells
use Rattle.js_heap.specs.World.{World, read_cell}
use Rattle.js_semantics.specs.Frames.{Listed, as_block, as_catch, as_local, as_closure, as_script, as_global, ListedScope, listed_within, scope_chain}
use Rattle.frames_scopes_types.specs.declared.kind.ListedKind.{ListedKind}
use Rattle.frames_scopes_types.specs.declared.kind.ListedKind.TheVariants as listed
use Rattle.frames_scopes_types.specs.Frames.{ShownScope}

-- the code's word for it
abbrev pub shown_kind : Listed → ListedKind
shown_kind as_block = listed.Block
shown_kind as_catch = listed.Catch
shown_kind as_local = listed.Local
shown_kind as_closure = listed.Closure
shown_kind as_script = listed.Script
shown_kind as_global = listed.Global

-- a function's name is shown on the scope of its call, and where that scope is one of an outer function or of the name
-- itself
abbrev pub name_on : ListedKind → List ℕ → List ℕ
name_on listed.Local name = name
name_on listed.Closure name = name
name_on kind name = []

-- ---- cells that are scopes

-- a scope but for its names: what made it, the name of its function, and the scope around it
pub record ScopeParts : Type 0 where
  pub kind : ScopeKind
  pub name : List ℕ
  pub outer : Option Addr

-- a cell as a scope, if it is one
abbrev pub scope_parts : Option Cell → Option ScopeParts
scope_parts (Some (cells.Bindings kind name outer names)) = Some (record { kind = kind; name = name; outer = outer })
scope_parts c = None

-- the name of its function; what is no scope has none
abbrev pub name_of_scope : Option ScopeParts → List ℕ
name_of_scope None = []
name_of_scope (Some s) = s.name

-- ---- the scopes of a frame

-- a listed scope with the name that it shows
abbrev pub shown_scope : World → ListedScope → ShownScope
shown_scope w l =
    record {
      kind = shown_kind l.kind;
      name = name_on (shown_kind l.kind)
          (name_of_scope (scope_parts (read_cell w l.scope)));
      bindings = l.scope;
    }

-- those of a frame with this innermost scope, from it outward
abbrev pub shown_scopes : World → Addr → List ShownScope
shown_scopes w a = map (shown_scope w) (scope_chain w a)

-- those from a scope on, if one is left, and as many as this at most; `inside` says that no scope of a call came before
abbrev pub scopes_from : ℕ → World → Bool → Option Addr → List ShownScope
scopes_from n w inside None = []
scopes_from n w inside (Some a) = map (shown_scope w) (listed_within n w inside a)
