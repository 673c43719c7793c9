use Rattle.std.proofs.Common.{All, sym, subst}
use Rattle.std.proofs.lemmas.List.Elements.{All-push}
use Rattle.breakpoints.specs.Found.{IsInOrder}
use Rattle.breakpoints.proofs.ResolvingLemmas.{found-more}
use Rattle.breakpoints.proofs.script_spots.ScriptSpots.of.Goals as goal

pub loop-script-preserved : goal.loop-script-preserved
loop-script-preserved c = record {
  found =
      found-more c.loop-script.lists.items c.push.new.self.items c.in_ok-break_locations.field-0 c.args.scripts.now
      c.loop-script.script-index c.script-item.result c.in_ok-push.ensures.items
      c.in_ok-break_locations.ensures.exact c.loop-script-test.true c.script-item.is c.loop-script.invariant.found;
  ascending =
      subst (λ vs. All IsInOrder vs) (sym c.in_ok-push.ensures.items)
      (All-push IsInOrder c.loop-script.lists.items c.in_ok-break_locations.field-0 c.loop-script.invariant.ascending
      c.in_ok-break_locations.ensures.ascending);
}
