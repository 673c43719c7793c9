use Rattle.std.proofs.Common.{[], ap, ◌∙◌}
use Rattle.std.specs.Option.{option_map}
use Rattle.js_heap.specs.BuiltIns.{first_world}
use Rattle.js_machine.specs.Standing.{source_of}
use Rattle.cdp_host.specs.Arrivals.{is_uncaught, place_at}
use Rattle.cdp_host.proofs.ArrivalLemmas.{same-arrival}
use Rattle.cdp_host.proofs.arrival.arrival_of.Goals as goal

pub returns : goal.returns
returns c =
    same-arrival _ _ _ _ _ _ _ _
    (c.place_at.ensures
    ∙ ap (λ s. place_at c.args.scripts.now s c.at.result) c.source.ensures
    ∙ ap (λ m. place_at c.args.scripts.now (source_of c.args.machine.now) m) c.at.ensures)
    (c.depth.ensures (first_world []) [])
    c.at_debugger.ensures
    (c.raised.ensures ∙ ap (option_map is_uncaught) c.thrown.ensures)
