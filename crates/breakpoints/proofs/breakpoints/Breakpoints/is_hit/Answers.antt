use Rattle.std.proofs.Common.{◌∙◌, ◌&&◌, ap, sym}
use Rattle.std.specs.List.{list_any}
use Rattle.breakpoints.specs.Breakpoints.{is_hit}
use Rattle.breakpoints.specs.Hits.{stands_at}
use Rattle.breakpoints.proofs.breakpoints.Breakpoints.is_hit.Goals as goal

pub returns-then-self : goal.returns-then-self
returns-then-self c =
    c.has.ensures
    ∙ c.self.invariant.exact c.args.place
    ∙ ap (λ b. b && list_any (stands_at c.args.place) c.self.inside.list.items) (sym c.if-self.true)
    ∙ ap (is_hit c.args.place) c.self.view_is
