use Rattle.std.proofs.Common.{◌≡◌, Some, map, ap, ◌∙◌}
use Rattle.js_tree.specs.Scripts.{script_numbered}
use Rattle.frames_scopes_types.specs.Views.{scope_of}
use Rattle.cdp_json.specs.Compact.{compact_text, string_text}
use Rattle.cdp_json.proofs.PieceLemmas.{further, on-written, written-as}
use Rattle.remote_objects.specs.CallFrames.{backtrace, scopes_made, url_of}
use Rattle.remote_objects.specs.Remote.{remote}
use Rattle.remote_objects.specs.Views.{sight_of}
use Rattle.remote_objects.specs.Written.{listed_text}
use Rattle.remote_objects.proofs.FrameTextLemmas.{frame-back-written}
use Rattle.remote_objects.proofs.describer.Describer.write_frame_back.Goals as goal

pub returns : goal.returns
returns g c =
    let sight = sight_of g.S.FunctionSources.node_text
    (g.W.World.world c.args.self.now.names.now c.args.self.now.world.now)
    c.args.self.now.scripts.now c.args.self.now.session in
    let f = c.args.frame.now in
    let h = c.args.handles.now in
    let scopes = scopes_made sight (map scope_of f.scopes.items) h in
    let kept : c.write_scopes.new.handles ≡ scopes.handles =
    c.in_ok-write_scopes.ensures.handles
    ∙ ap (λ ss. (scopes_made sight (map scope_of ss) h).handles) c.as_slice.ensures.value in
    let url = url_of (script_numbered c.args.self.now.scripts.now f.place.script) in
    record {
      text =
          on-written c.put-4.result c.put-4.ensures.put
          (λ e. written-as
          (frame-back-written (listed_text scopes)
          (compact_text (remote sight (Some backtrace) f.this scopes.handles).made) url)
          (further c.in_ok-put.ensures.put
          (further (written-as (ap (λ ss. listed_text (scopes_made sight (map scope_of ss) h)) c.as_slice.ensures.value)
          c.in_ok-write_scopes.ensures.text)
          (further c.in_ok-put-2.ensures.put
          (further (written-as (ap (λ k. compact_text (remote sight (Some backtrace) f.this k).made) kept)
          c.in_ok-write_receiver.ensures.text)
          (further c.in_ok-put-3.ensures.put
          (further (written-as (ap string_text (c.url_of.ensures ∙ ap url_of c.script_numbered.ensures))
          c.in_ok-quoted.ensures.put)
          e)))))));
      handles =
          on-written c.put-4.result c.put-4.ensures.put
          (λ e. c.in_ok-write_receiver.ensures.handles
          ∙ ap (λ k. (remote sight (Some backtrace) f.this k).handles) kept);
    }
