-- What a frame and a scope of the code are.
use Rattle.std.specs.Prelude.{map}
use Rattle.frames_scopes_types.specs.declared.frame.CallFrame.{CallFrame}
use Rattle.frames_scopes_types.specs.declared.scope.Scope.{Scope}
use Rattle.frames_scopes_types.specs.Frames.{ShownFrame, ShownScope}

-- a scope with the name that is lent
abbrev pub scope_of : Scope → ShownScope
scope_of s = record { kind = s.kind; name = s.name.now; bindings = s.bindings }

-- a frame with its scopes
abbrev pub frame_of : CallFrame → ShownFrame
frame_of f =
    record {
      name = f.name.now;
      place = f.place;
      function_place = f.function_place;
      receiver = f.this;
      scopes = map scope_of f.scopes.items;
    }
