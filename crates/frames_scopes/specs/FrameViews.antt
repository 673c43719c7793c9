-- What a view of a frame shows.
use Rattle.frames_scopes.specs.declared.frames.FrameView.{FrameView}
use Rattle.frames_scopes_types.specs.Frames.{ShownFrame}

-- a view of a frame shows its name, place, function's place, `this` and scopes
abbrev pub frame_shown : FrameView → ShownFrame
frame_shown v =
    record { name = v.name; place = v.place; function_place = v.function_place; receiver = v.this; scopes = v.scopes }
