-- What a view of a scope shows.
use Rattle.frames_scopes.specs.declared.scopes.ScopeView.{ScopeView}
use Rattle.frames_scopes_types.specs.Frames.{ShownScope}

-- a view of a scope shows its kind, name and address
abbrev pub scope_shown : ScopeView → ShownScope
scope_shown v = record { kind = v.kind; name = v.name; bindings = v.bindings }
