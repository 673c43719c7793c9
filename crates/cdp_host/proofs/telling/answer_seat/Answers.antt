use Rattle.std.proofs.Common.{ap, subst, ◌∙◌}
use Rattle.breakpoints.specs.PlaceIndex.{holds, without_session}
use Rattle.cdp_host.specs.Indexing.{IsIndexedAs}
use Rattle.cdp_host.proofs.IndexLemmas.{forgotten-twice, own-forgotten}
use Rattle.cdp_host.proofs.telling.answer_seat.Goals as goal

pub returns-in-Ok-clause-indexed : goal.returns-in-Ok-clause-indexed
returns-in-Ok-clause-indexed g c = λ old.
    c.in-Ok.ensures.indexed (subst (λ seat. IsIndexedAs c.args.s seat c.args.index.now) c.in-Attached.is old)

pub returns-in-Err-clause-indexed : goal.returns-in-Err-clause-indexed
returns-in-Err-clause-indexed g c = λ old place.
    ap (holds c.args.s place) c.forget.ensures ∙ own-forgotten c.args.s place c.tell_indexed.new.index

pub returns-in-Err-clause-others : goal.returns-in-Err-clause-others
returns-in-Err-clause-others g c =
    ap (without_session c.args.s) c.forget.ensures
    ∙ forgotten-twice c.args.s c.tell_indexed.new.index
    ∙ c.tell_indexed.ensures.others
