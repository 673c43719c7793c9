use Rattle.std.proofs.Common.{sym, subst, ◌↔◌, IsTrue}
use Rattle.stepping.proofs.BesideLemmas.{named-beside}
use Rattle.stepping.specs.Beside.{IsNamedBeside}
use Rattle.stepping.proofs.naming.wants.Goals as goal

pub returns-clause-named : goal.returns-clause-named
returns-clause-named c =
    subst (λ b. IsTrue b ↔ IsNamedBeside c.args.rules.now c.args.arrival.now) (sym c.is_some.ensures)
    (named-beside c.args.rules.now c.args.arrival.now c.first_cause.result c.first_cause.ensures.first
    c.first_cause.ensures.none)
