use Rattle.std.proofs.Common.{Some, ap, ◌∙◌}
use Rattle.frames_scopes_types.specs.Views.{scope_of}
use Rattle.cdp_json.specs.Compact.{compact_text}
use Rattle.cdp_json.proofs.PieceLemmas.{further, on-written, written-as}
use Rattle.remote_objects.specs.CallFrames.{backtrace}
use Rattle.remote_objects.specs.Remote.{remote_scope}
use Rattle.remote_objects.proofs.FrameTextLemmas.{scope-written}
use Rattle.remote_objects.proofs.describer.Describer.write_scope.Goals as goal

pub returns : goal.returns
returns g c =
    let session = c.args.self.now.session in
    let s = c.args.scope.now in
    let h = c.args.handles.now in
    let same = ap (λ b. remote_scope session (Some b) s.bindings h) c.backtrace.ensures in
    record {
      text =
          on-written c.put.result c.put.ensures.put
          (λ e. written-as
          (scope-written (scope_of s) (remote_scope session (Some backtrace) s.bindings h).made)
          (further c.in_ok-write_scope_front.ensures
          (further (written-as (ap (λ m. compact_text m.made) same) c.in_ok-write_names_of.ensures.text)
          (written-as c.scope_back.ensures e))));
      handles =
          on-written c.put.result c.put.ensures.put
          (λ e. c.in_ok-write_names_of.ensures.handles ∙ ap (λ m. m.handles) same);
    }
