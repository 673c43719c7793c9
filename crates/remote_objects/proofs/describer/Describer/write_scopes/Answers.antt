use Rattle.std.proofs.Common.{◌+◌, ◌++◌, ◌≤◌, length, drop, refl, ap, arith, drop_of_length-le}
use Rattle.std.specs.Prelude.{map, nat_lt}
use Rattle.std.proofs.lemmas.Bool.{lt-ltb}
use Rattle.frames_scopes_types.specs.Views.{scope_of}
use Rattle.cdp_json.proofs.PieceLemmas.{further}
use Rattle.remote_objects.specs.CallFrames.{scope_made, scopes_made}
use Rattle.remote_objects.specs.Views.{sight_of}
use Rattle.remote_objects.specs.Written.{listed_text}
use Rattle.remote_objects.proofs.DescriptorTextLemmas.{all-written, text-on}
use Rattle.remote_objects.proofs.FrameTextLemmas.{scope-here}
use Rattle.remote_objects.proofs.describer.Describer.write_scopes.Goals as goal

pub loop-i-init : goal.loop-i-init
loop-i-init g c = record { text = refl; handles = refl }

pub loop-i-preserved : goal.loop-i-preserved
loop-i-preserved g c =
    let sight = sight_of g.S.FunctionSources.node_text
    (g.W.World.world c.args.self.now.names.now c.args.self.now.world.now)
    c.args.self.now.scripts.now c.args.self.now.session in
    let ss = c.args.scopes.now in
    let i = c.loop-i.i in
    let whole = scopes_made sight (map scope_of ss) c.args.handles.now in
    text-on (scope_made sight) (map scope_of (drop i ss)) _ (map scope_of (drop (i + 1) ss)) (nat_lt 0 i)
    (nat_lt 0 (i + 1)) c.loop-i.pen c.write_scope.new.pen (c.args.pen.now ++ listed_text whole) c.loop-i.handles
    c.write_scope.new.handles whole (scope-here ss i _ c.loop-i-test.true)
    (lt-ltb 0 (i + 1) (omega arith))
    (further c.in_ok-comma.ensures.put c.in_ok-write_scope.ensures.text) c.in_ok-write_scope.ensures.handles
    c.loop-i.invariant

pub returns : goal.returns
returns g c =
    let sight = sight_of g.S.FunctionSources.node_text
    (g.W.World.world c.args.self.now.names.now c.args.self.now.world.now)
    c.args.self.now.scripts.now c.args.self.now.session in
    let ss = c.args.scopes.now in
    let i = c.loop-i.i in
    let whole = scopes_made sight (map scope_of ss) c.args.handles.now in
    let past : length ss ≤ i = omega (arith, c.loop-i-test.false) in
    let over = all-written (scope_made sight) (map scope_of (drop i ss)) (nat_lt 0 i) c.loop-i.pen
    (c.args.pen.now ++ listed_text whole) c.loop-i.handles whole (ap (map scope_of) (drop_of_length-le ss past))
    c.loop-i.invariant in
    record { text = record { is = over.0 }; handles = over.1 }
