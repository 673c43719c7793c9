use Rattle.std.proofs.Common.{ℕ, ◌+◌, ◌<◌, ◌∙◌, ap, subst, arith}
use Rattle.std.proofs.lemmas.List.{length-set}
use Rattle.locations.proofs.KindLemmas.{none_yet, put_more, put_all}
use Rattle.locations.proofs.kinds.kinds_of.Goals as goal

pub loop-marked-init : goal.loop-marked-init
loop-marked-init c = record {
  long = c.in_ok-kinds.ensures.long ∙ ap (λ n. n + 1) c.len.ensures;
  stand =
      λ x. λ l. none_yet c.in_ok-kinds.kinds.items c.in_ok-kinds.ensures.empty c.args.script.now.spans c.args.marks.now
      x;
}

pub loop-marked-preserved : goal.loop-marked-preserved
loop-marked-preserved c = record {
  long =
      length-set c.loop-marked.kinds.items c.offset_of-offset.result c.with_mark.result ∙ c.loop-marked.invariant.long;
  stand =
      λ x. λ l. put_more c.args.script.now.spans c.args.marks.now c.loop-marked.marked-index _ c.loop-marked.kinds.items
      c.offset_of-offset.result c.index.result.now c.with_mark.result _ c.loop-marked-test.true
      c.offset_of-offset.ensures.offset
      (omega (arith, c.offset_of-offset.ensures.within, c.loop-marked.invariant.long))
      c.index.ensures c.with_mark.ensures x l
      (c.loop-marked.invariant.stand x
      (subst (λ (y : ℕ). x < y)
      (length-set c.loop-marked.kinds.items c.offset_of-offset.result c.with_mark.result) l));
}

pub returns : goal.returns
returns c = record {
  long = c.loop-marked.invariant.long;
  stand =
      λ x. λ l. put_all c.args.script.now.spans c.args.marks.now c.loop-marked.marked-index _ _ x
      c.loop-marked-test.false
      (c.loop-marked.invariant.stand x l);
}
