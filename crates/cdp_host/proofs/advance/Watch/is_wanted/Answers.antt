use Rattle.std.proofs.Common.{not, sym, ◌∙◌}
use Rattle.std.proofs.lemmas.Bool.{not-false, or_parts}
use Rattle.stepping.specs.Beside.{is_plain}
use Rattle.cdp_host_isolation.specs.Seats.{some}
use Rattle.cdp_host.specs.Indexing.{has_request_in}
use Rattle.cdp_host.proofs.HolderLemmas.{plain-unwanted}
use Rattle.cdp_host.proofs.advance.Watch.is_wanted.Goals as goal

pub returns-else-may_be_wanted : goal.returns-else-may_be_wanted
returns-else-may_be_wanted c =
    let a = c.args.arrival.now in
    let seats = c.args.self.now.seats.now in
    let parts = or_parts (some has_request_in seats) (not (is_plain a))
    (sym c.may_be_wanted.ensures ∙ c.if-may_be_wanted.false) in
    c.if-may_be_wanted.false ∙ sym (plain-unwanted a seats parts.0 (not-false (is_plain a) parts.1))
