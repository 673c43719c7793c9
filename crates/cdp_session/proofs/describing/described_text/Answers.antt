use Rattle.std.proofs.Common.{ap, ◌∙◌}
use Rattle.std.specs.Prelude.{option_copied}
use Rattle.remote_objects.specs.Remote.{remote_with}
use Rattle.cdp_session.specs.Evaluations.{described_over}
use Rattle.cdp_session.specs.Made.{spelt}
use Rattle.cdp_session.proofs.ResultTextLemmas.{spelt-told}
use Rattle.cdp_session.proofs.describing.described_text.Goals as goal

pub returns : goal.returns
returns c =
    let g = option_copied c.args.group in
    let h = c.args.handles.now in
    let made = remote_with (described_over c.describer_of-describer.result) c.args.detail g c.args.value h in
    let same = ap (λ s. remote_with s c.args.detail g c.args.value h) c.describer_of-describer.ensures in
    record {
      made =
          spelt-told made.made c.in_ok-pen.ensures c.in_ok-write_remote.ensures.text c.finish.ensures
          ∙ ap (λ m. spelt m.made) same;
      handles = c.in_ok-write_remote.ensures.handles ∙ ap (λ m. m.handles) same;
    }
