use Rattle.std.proofs.Common.{filter, map}
use Rattle.breakpoints.specs.Breakpoints.{hits_at, id_of}
use Rattle.breakpoints.specs.Hits.{hits_in}
use Rattle.cdp_session.specs.Conditions.{is_met}
use Rattle.cdp_session.specs.Situations.{seen}
use Rattle.cdp_session.proofs.ConditionLemmas.{Collects}
use Rattle.cdp_session.proofs.conditions.ids_met.Given as goal

abbrev pub invariant-loop-breakpoint : goal.invariant-loop-breakpoint
invariant-loop-breakpoint g l =
    let s = (seen g.P.Program.standing l.fn.situation).standing in
    let w = l.fn.evaluations in
    Collects s w l.evaluations
    (map id_of (filter (is_met s w) (hits_at l.fn.place l.fn.breakpoints))) l.ids.items
    (hits_in l.breakpoint-iterator.place l.breakpoint-iterator.left.now)
