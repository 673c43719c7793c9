use Rattle.std.proofs.Common.{length, ap, sym, ◌∙◌}
use Rattle.std.specs.List.{list_any}
use Rattle.breakpoints.specs.Hits.{stands_at}
use Rattle.cdp_session.specs.Situations.{seen}
use Rattle.cdp_session.proofs.CountLemmas.{answer-counts}
use Rattle.cdp_host.proofs.telling.tell_indexed.Goals as goal

-- as many breakpoints are the same ones
pub returns-then-breakpoint_count-count-clause-indexed : goal.returns-then-breakpoint_count-count-clause-indexed
returns-then-breakpoint_count-count-clause-indexed g c = λ old place.
    let s = seen g.P.Program.standing c.args.situation.now in
    let session = c.in_ok-asks.ensures.session in
    let many = ap (λ y. length y.breakpoints.set) (sym session)
    ∙ sym c.breakpoint_count.ensures
    ∙ c.if-breakpoint_count-count.true
    ∙ c.breakpoint_count-count.ensures in
    let same = ap (λ y. y.breakpoints.set) session ∙ answer-counts s c.args.session.now c.args.text.now many in
    old place ∙ ap (list_any (stands_at place)) (sym same)

pub returns-clause-indexed : goal.returns-clause-indexed
returns-clause-indexed g c = λ old place. c.in_ok-set.ensures.own place ∙ c.places.ensures.exact place
