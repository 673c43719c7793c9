use Rattle.std.proofs.Common.{◌∙◌}
use Rattle.cdp_host.proofs.HolderLemmas.{holders-stop}
use Rattle.cdp_host.proofs.advance.Watch.is_held_at.Goals as goal

pub returns : goal.returns
returns c =
    λ unwanted. c.some_may_name.ensures
    ∙ holders-stop c.args.arrival.now c.args.place c.args.self.now.seats.now c.holders-holders.result.now c.requires
    (λ s. c.holders-holders.ensures.exact s ∙ c.args.self.now.indexed.exact s c.args.place) unwanted
