use Rattle.std.proofs.Common.{refl}
use Rattle.std.proofs.lemmas.Option.{slice_get_read}
use Rattle.pure_eval.proofs.holding.place_of.Goals as goal

pub returns-then-is_of : goal.returns-then-is_of
returns-then-is_of c = record {
  code = c.index-codes-place.result;
  there = slice_get_read c.args.codes.now _ c.loop-place.place c.index-codes-place.result refl c.loop-place-test.true
      c.index-codes-place.is;
  source_is = c.is_of.ensures.source c.if-is_of.true;
  at_is = c.is_of.ensures.at c.if-is_of.true;
}
