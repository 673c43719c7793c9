use Rattle.std.proofs.Common.{filter, map, ap, sym, ◌∙◌}
use Rattle.breakpoints.specs.Breakpoints.{id_of}
use Rattle.breakpoints.proofs.HitLemmas.{is_hit-none}
use Rattle.cdp_session.specs.Conditions.{is_met}
use Rattle.cdp_session.specs.Situations.{seen}
use Rattle.cdp_session.proofs.conditions.ids_there.Goals as goal

pub returns-then-not-is_hit-clause-ids : goal.returns-then-not-is_hit-clause-ids
returns-then-not-is_hit-clause-ids g c =
    let s = (seen g.P.Program.standing c.args.situation.now).standing in
    let w = c.args.evaluations.now in
    c.new.ensures.items
    ∙ sym
    (ap (λ bs. map id_of (filter (is_met s w) bs))
    (is_hit-none c.args.place c.args.breakpoints.now (sym c.is_hit.ensures ∙ c.if-not-is_hit.true)))
