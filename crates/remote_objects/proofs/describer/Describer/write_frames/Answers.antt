use Rattle.std.proofs.Common.{◌+◌, ◌++◌, ◌≤◌, length, drop, refl, ap, arith, drop_of_length-le}
use Rattle.std.specs.Prelude.{map, nat_lt}
use Rattle.std.proofs.lemmas.Bool.{lt-ltb}
use Rattle.frames_scopes_types.specs.Views.{frame_of}
use Rattle.cdp_json.proofs.PieceLemmas.{further}
use Rattle.remote_objects.specs.CallFrames.{frames_from}
use Rattle.remote_objects.specs.Views.{sight_of}
use Rattle.remote_objects.specs.Written.{listed_text}
use Rattle.remote_objects.proofs.FrameTextLemmas.{frame-here, frame-on, frames-all}
use Rattle.remote_objects.proofs.describer.Describer.write_frames.Goals as goal

pub loop-depth-init : goal.loop-depth-init
loop-depth-init g c = record { text = refl; handles = refl }

pub loop-depth-preserved : goal.loop-depth-preserved
loop-depth-preserved g c =
    let sight = sight_of g.S.FunctionSources.node_text
    (g.W.World.world c.args.self.now.names.now c.args.self.now.world.now)
    c.args.self.now.scripts.now c.args.self.now.session in
    let fs = c.args.frames.now in
    let i = c.loop-depth.depth in
    let f = c.index-frames-depth.result in
    let whole = frames_from sight c.args.stop 0 (map frame_of fs) c.args.handles.now in
    frame-on sight c.args.stop i (map frame_of (drop i fs)) (frame_of f) (map frame_of (drop (i + 1) fs)) (nat_lt 0 i)
    (nat_lt 0 (i + 1)) c.loop-depth.pen c.write_frame.new.pen (c.args.pen.now ++ listed_text whole) c.loop-depth.handles
    c.write_frame.new.handles whole (frame-here fs i f c.loop-depth-test.true c.index-frames-depth.is)
    (lt-ltb 0 (i + 1) (omega arith))
    (further c.in_ok-comma.ensures.put c.in_ok-write_frame.ensures.text) c.in_ok-write_frame.ensures.handles
    c.loop-depth.invariant

pub returns : goal.returns
returns g c =
    let sight = sight_of g.S.FunctionSources.node_text
    (g.W.World.world c.args.self.now.names.now c.args.self.now.world.now)
    c.args.self.now.scripts.now c.args.self.now.session in
    let fs = c.args.frames.now in
    let i = c.loop-depth.depth in
    let whole = frames_from sight c.args.stop 0 (map frame_of fs) c.args.handles.now in
    let past : length fs ≤ i = omega (arith, c.loop-depth-test.false) in
    let over = frames-all sight c.args.stop i (map frame_of (drop i fs)) (nat_lt 0 i) c.loop-depth.pen
    (c.args.pen.now ++ listed_text whole) c.loop-depth.handles whole (ap (map frame_of) (drop_of_length-le fs past))
    c.loop-depth.invariant in
    record { text = record { is = over.0 }; handles = over.1 }
