use Rattle.frames_scopes_types.specs.Views.{frame_of}
use Rattle.cdp_json.proofs.PieceLemmas.{further, on-written, written-as}
use Rattle.remote_objects.specs.CallFrames.{receiver_made, scopes_made}
use Rattle.remote_objects.specs.Views.{sight_of}
use Rattle.remote_objects.proofs.FrameTextLemmas.{frame-written}
use Rattle.remote_objects.proofs.describer.Describer.write_frame.Goals as goal

pub returns : goal.returns
returns g c =
    let sight = sight_of g.S.FunctionSources.node_text
    (g.W.World.world c.args.self.now.names.now c.args.self.now.world.now)
    c.args.self.now.scripts.now c.args.self.now.session in
    let f = frame_of c.args.frame.now in
    let h = c.args.handles.now in
    record {
      text =
          on-written c.write_frame_back.result c.write_frame_back.ensures.text
          (λ e. written-as
          (frame-written sight c.args.stop c.args.depth f (scopes_made sight f.scopes h).made
          (receiver_made sight f h).made)
          (further c.in_ok-write_frame_front.ensures e));
      handles = c.write_frame_back.ensures.handles;
    }
