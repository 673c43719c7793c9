use Rattle.std.proofs.Common.{Some, ap, ◌∙◌}
use Rattle.cdp_json.specs.Compact.{compact_text}
use Rattle.cdp_json.proofs.PieceLemmas.{further, on-written, written-as}
use Rattle.remote_objects.specs.Remote.{remote}
use Rattle.cdp_session.specs.Pauses.{described_by}
use Rattle.cdp_session.proofs.pausing.write_thrown.Goals as goal

pub returns : goal.returns
returns c =
    let same = ap (λ b. remote (described_by c.args.describer.now) (Some b) c.args.value c.args.handles.now)
    c.backtrace.ensures in
    record {
      made =
          on-written c.write_remote.result c.write_remote.ensures.text
          (λ e. further c.in_ok-put.ensures.put (written-as (ap (λ m. compact_text m.made) same) e));
      held =
          on-written c.write_remote.result c.write_remote.ensures.handles (λ d. d ∙ ap (λ m. m.handles) same);
    }
