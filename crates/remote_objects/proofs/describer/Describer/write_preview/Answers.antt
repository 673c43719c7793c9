use Rattle.std.proofs.Common.{ap, ◌∙◌}
use Rattle.cdp_json.proofs.PieceLemmas.{further, on-written, written-as}
use Rattle.remote_objects.specs.Previews.{listed}
use Rattle.remote_objects.specs.Written.{cell_back, listed_entries}
use Rattle.remote_objects.proofs.describer.Describer.write_preview.Goals as goal

pub returns : goal.returns
returns g c =
    let names = c.args.self.now.names.now in
    let w = g.W.World.world names c.args.self.now.world.now in
    let same = c.find-cell.ensures names in
    on-written c.put-2.result c.put-2.ensures.put
    (λ e. further c.in_ok-put.ensures.put
    (further c.in_ok-write_description.ensures
    (further (written-as (ap (λ x. listed_entries (listed w x)) same) c.in_ok-write_listed.ensures)
    (written-as (c.back_of.ensures names ∙ ap cell_back same) e))))
