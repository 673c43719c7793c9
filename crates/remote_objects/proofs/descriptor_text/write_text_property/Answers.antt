use Rattle.cdp_json.specs.Parts.{object_of}
use Rattle.cdp_json.proofs.PieceLemmas.{further, on-written, written-as}
use Rattle.remote_objects.specs.Slots.{text_slot}
use Rattle.remote_objects.specs.Values.{text_pairs}
use Rattle.remote_objects.proofs.DescriptorTextLemmas.{property-written}
use Rattle.remote_objects.proofs.descriptor_text.write_text_property.Goals as goal

pub returns : goal.returns
returns c =
    let units = c.args.units.now in
    on-written c.write_writable.result c.write_writable.ensures
    (λ e. written-as (property-written (text_slot c.args.name.now units c.args.flags) (object_of (text_pairs units)))
    (further c.in_ok-write_flags.ensures (further c.in_ok-quoted.ensures.put (further c.in_ok-put.ensures.put
    (further c.in_ok-write_text.ensures e)))))
