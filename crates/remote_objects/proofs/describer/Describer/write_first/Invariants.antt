use Rattle.std.proofs.Common.{◌≡◌, ◌++◌, ◌-◌}
use Rattle.std.specs.Prelude.{nat_lt}
use Rattle.cdp_json.specs.Compact.{with_commas}
use Rattle.cdp_json.specs.Pieces.{commas_after}
use Rattle.remote_objects.specs.Previews.{property_preview}
use Rattle.remote_objects.proofs.PreviewTextLemmas.{first_texts}
use Rattle.remote_objects.proofs.describer.Describer.write_first.Given as goal

abbrev pub invariant-loop-turn : goal.invariant-loop-turn
invariant-loop-turn g l =
    let short = property_preview (g.W.World.world l.self.names.now l.self.world.now) in
    l.pen ++ commas_after (nat_lt 0 l.turn) (first_texts short (l.most - l.turn) l.parts)
    ≡ l.fn.pen ++ with_commas (first_texts short l.most l.fn.parts)
