use Rattle.std.proofs.Common.{sym, ◌∙◌}
use Rattle.cdp_host.proofs.HolderLemmas.{wanted-stops}
use Rattle.cdp_host.proofs.advance.Watch.may_stop.Goals as goal

pub returns-then-is_wanted : goal.returns-then-is_wanted
returns-then-is_wanted c =
    c.if-is_wanted.true
    ∙ sym (wanted-stops c.args.arrival.now c.args.self.now.seats.now (sym c.is_wanted.ensures ∙ c.if-is_wanted.true))

pub returns-else-is_wanted : goal.returns-else-is_wanted
returns-else-is_wanted c = c.is_held.ensures (sym c.is_wanted.ensures ∙ c.if-is_wanted.false)
