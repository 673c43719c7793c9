use Rattle.std.proofs.Common.{[], ap, ◌∙◌}
use Rattle.std.specs.Option.{option_map}
use Rattle.js_heap.specs.BuiltIns.{first_world}
use Rattle.js_semantics.specs.State.{top_spot}
use Rattle.cdp_host.specs.Arrivals.{is_uncaught, place_at}
use Rattle.cdp_host.proofs.ArrivalLemmas.{same-arrival}
use Rattle.cdp_host.proofs.arrival.arrival_at.Goals as goal

pub returns : goal.returns
returns c = λ names.
    same-arrival _ _ _ _ _ _ _ _
    (c.place_at.ensures
    ∙ ap (λ s. place_at c.args.scripts.now s.source c.arrival-mark.result) c.spot_of.ensures
    ∙ ap (λ m. place_at c.args.scripts.now (top_spot c.args.context.now.frames).source m)
    (c.arrival-mark.ensures names))
    (c.depth.ensures (first_world []) [])
    (c.is_at_debugger.ensures names)
    (c.raised.ensures ∙ ap (option_map is_uncaught) (c.thrown.ensures names c.args.table.now c.requires.at))
