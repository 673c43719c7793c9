use Rattle.std.specs.Prelude.{option_copied}
use Rattle.std.proofs.Common.{ap}
use Rattle.js_heap_memory.specs.Cells.{cell_at}
use Rattle.cdp_json.proofs.PieceLemmas.{further, on-written, written-as}
use Rattle.remote_objects.specs.Written.{truth_text}
use Rattle.remote_objects.proofs.PreviewTextLemmas.{listed-written}
use Rattle.remote_objects.proofs.describer.Describer.write_listed.Goals as goal

pub returns : goal.returns
returns g c =
    let names = c.args.self.now.names.now in
    let w = g.W.World.world names c.args.self.now.world.now in
    on-written c.put-3.result c.put-3.ensures.put
    (λ e. written-as
    (listed-written w (cell_at names (option_copied c.args.cell)) c.most_listed-most.result c.entries_of.result
    c.entries_of-2.result (c.most_listed-most.ensures names) (c.entries_of.ensures names)
    (c.entries_of-2.ensures names))
    (further c.in_ok-put.ensures.put
    (further (written-as (ap truth_text c.are_more_than.ensures) c.in_ok-boolean.ensures.put)
    (further c.in_ok-put-2.ensures.put (further c.in_ok-write_first.ensures e)))))
