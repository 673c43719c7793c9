use Rattle.std.proofs.Common.{◌++◌, ap, ◌∙◌}
use Rattle.cdp_json.specs.Compact.{compact_text}
use Rattle.cdp_json.specs.Parts.{object_of}
use Rattle.cdp_json.proofs.PieceLemmas.{further, on-written, written-as}
use Rattle.remote_objects.specs.Making.{id_pairs}
use Rattle.remote_objects.specs.Values.{plain_pairs}
use Rattle.remote_objects.proofs.RemoteTextLemmas.{plain-cell}
use Rattle.remote_objects.proofs.frame_text.write_names_of.Goals as goal

pub returns : goal.returns
returns c =
    let session = c.args.session in
    record {
      text =
          on-written c.put.result c.put.ensures.put
          (λ e. written-as
          (plain-cell session c.in_ok-number.number
          ∙ ap (λ n. compact_text (object_of (plain_pairs ++ id_pairs session n))) c.in_ok-number.ensures.made)
          (further c.in_ok-write_plain_front.ensures (further c.in_ok-write_id.ensures e)));
      handles = on-written c.put.result c.put.ensures.put (λ e. c.in_ok-number.ensures.handles);
    }
