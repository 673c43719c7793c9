use Rattle.std.proofs.Common.{◌++◌, drop}
use Rattle.std.specs.Prelude.{map, nat_lt}
use Rattle.frames_scopes_types.specs.Views.{frame_of}
use Rattle.remote_objects.specs.CallFrames.{frames_from}
use Rattle.remote_objects.specs.Views.{sight_of}
use Rattle.remote_objects.specs.Written.{listed_text}
use Rattle.remote_objects.proofs.DescriptorTextLemmas.{Continues}
use Rattle.remote_objects.proofs.describer.Describer.write_frames.Given as goal

abbrev pub invariant-loop-depth : goal.invariant-loop-depth
invariant-loop-depth g l =
    let sight = sight_of g.S.FunctionSources.node_text (g.W.World.world l.self.names.now l.self.world.now)
    l.self.scripts.now l.self.session in
    let whole = frames_from sight l.stop 0 (map frame_of l.frames) l.fn.handles in
    Continues l.pen (l.fn.pen ++ listed_text whole) (nat_lt 0 l.depth)
    (frames_from sight l.stop l.depth (map frame_of (drop l.depth l.frames)) l.handles) whole
