use Rattle.std.proofs.Common.{◌++◌, drop}
use Rattle.std.specs.Prelude.{map, nat_lt}
use Rattle.frames_scopes_types.specs.Views.{scope_of}
use Rattle.remote_objects.specs.CallFrames.{scopes_made}
use Rattle.remote_objects.specs.Views.{sight_of}
use Rattle.remote_objects.specs.Written.{listed_text}
use Rattle.remote_objects.proofs.DescriptorTextLemmas.{Continues}
use Rattle.remote_objects.proofs.describer.Describer.write_scopes.Given as goal

abbrev pub invariant-loop-i : goal.invariant-loop-i
invariant-loop-i g l =
    let sight = sight_of g.S.FunctionSources.node_text (g.W.World.world l.self.names.now l.self.world.now)
    l.self.scripts.now l.self.session in
    let whole = scopes_made sight (map scope_of l.scopes) l.fn.handles in
    Continues l.pen (l.fn.pen ++ listed_text whole) (nat_lt 0 l.i)
    (scopes_made sight (map scope_of (drop l.i l.scopes)) l.handles) whole
