use Rattle.cdp_json.proofs.PieceLemmas.{further, on-written, written-as}
use Rattle.js_heap_parts.specs.Shown.{part_shown}
use Rattle.remote_objects.specs.Slots.{part_entry}
use Rattle.remote_objects.proofs.PreviewTextLemmas.{entry-written}
use Rattle.remote_objects.proofs.describer.Describer.write_entry.Goals as goal

pub returns : goal.returns
returns g c =
    let w = g.W.World.world c.args.self.now.names.now c.args.self.now.world.now in
    on-written c.put-3.result c.put-3.ensures.put
    (λ e. written-as (entry-written w (part_entry (part_shown c.args.part)))
    (further c.in_ok-put.ensures.put
    (further c.in_ok-write_short_key.ensures
    (further (written-as c.value_kind.ensures c.in_ok-put-2.ensures.put)
    (further c.in_ok-write_value_text.ensures e)))))
