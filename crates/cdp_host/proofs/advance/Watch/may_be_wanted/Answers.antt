use Rattle.std.proofs.Common.{not, ◌||◌, ap, sym, ◌∙◌}
use Rattle.std.proofs.lemmas.Bool.{or_left}
use Rattle.stepping.specs.Beside.{is_plain}
use Rattle.cdp_host_isolation.specs.Seats.{some}
use Rattle.cdp_host.specs.Indexing.{has_request_in}
use Rattle.cdp_host.proofs.advance.Watch.may_be_wanted.Goals as goal

pub returns-then-self : goal.returns-then-self
returns-then-self c =
    c.if-self.true
    ∙ sym
    (or_left (some has_request_in c.args.self.now.seats.now) (not (is_plain c.args.arrival.now))
    (sym c.args.self.now.asked ∙ c.if-self.true))

pub returns-else-self : goal.returns-else-self
returns-else-self c =
    ap not c.is_plain.ensures
    ∙ ap (λ b. b || not (is_plain c.args.arrival.now)) (sym c.if-self.false ∙ c.args.self.now.asked)
