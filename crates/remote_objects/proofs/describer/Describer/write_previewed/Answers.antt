use Rattle.std.proofs.Common.{◌++◌, ap, ◌∙◌}
use Rattle.js_heap.specs.World.{read_cell}
use Rattle.cdp_json.specs.Compact.{compact_text}
use Rattle.cdp_json.specs.Parts.{object_of}
use Rattle.cdp_json.proofs.PieceLemmas.{further, on-written, written-as}
use Rattle.remote_objects.specs.Making.{id_pairs}
use Rattle.remote_objects.specs.Previews.{preview_pairs}
use Rattle.remote_objects.specs.Values.{cell_pairs}
use Rattle.remote_objects.specs.Views.{sight_of}
use Rattle.remote_objects.specs.Written.{cell_back}
use Rattle.remote_objects.proofs.PreviewTextLemmas.{cell-previewed}
use Rattle.remote_objects.proofs.describer.Describer.write_previewed.Goals as goal

pub returns : goal.returns
returns g c =
    let sight = sight_of g.S.FunctionSources.node_text
    (g.W.World.world c.args.self.now.names.now c.args.self.now.world.now)
    c.args.self.now.scripts.now c.args.self.now.session in
    let names = c.args.self.now.names.now in
    let session = c.args.self.now.session in
    let w = g.W.World.world names c.args.self.now.world.now in
    let cell = read_cell w c.args.a in
    record {
      text =
          on-written c.put.result c.put.ensures.put
          (λ e. written-as
          (cell-previewed sight cell session c.in_ok-number.number
          ∙ ap (λ n. compact_text (object_of (cell_pairs sight cell ++ id_pairs session n ++ preview_pairs w cell)))
          c.in_ok-number.ensures.made)
          (further c.in_ok-write_front.ensures
          (further c.in_ok-write_id.ensures
          (further c.in_ok-write_preview_of.ensures
          (written-as (c.back_of.ensures names ∙ ap cell_back (c.find.ensures names)) e)))));
      handles = on-written c.put.result c.put.ensures.put (λ e. c.in_ok-number.ensures.handles);
    }
