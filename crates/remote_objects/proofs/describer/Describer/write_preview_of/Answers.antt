use Rattle.std.proofs.Common.{◌≡◌, true, rules}
use Rattle.js_heap.specs.World.{read_cell}
use Rattle.cdp_json.proofs.PieceLemmas.{on-written, written-as}
use Rattle.remote_objects.specs.Previews.{has_preview}
use Rattle.remote_objects.proofs.PreviewTextLemmas.{preview-written}
use Rattle.remote_objects.proofs.describer.Describer.write_preview_of.Goals as goal

pub returns : goal.returns
returns g c =
    let w = g.W.World.world c.args.self.now.names.now c.args.self.now.world.now in
    let cell = read_cell w c.args.a in
    let has : has_preview cell ≡ true = search rules in
    on-written c.write_preview.result c.write_preview.ensures (λ e. written-as (preview-written w cell has) e)
