use Rattle.std.proofs.Common.{refl}
use Rattle.std.proofs.lemmas.Option.{slice_get_read}
use Rattle.pure_eval.proofs.HoldLemmas.{entry-found}
use Rattle.pure_eval.proofs.holding.entry_of.Goals as goal

pub returns-in_ok-copy_of-in-Some-get : goal.returns-in_ok-copy_of-in-Some-get
returns-in_ok-copy_of-in-Some-get c =
    let found = c.in-Some-get.ensures.lookup in
    let place = c.in-Some-place_of.place in
    entry-found c.args.held.now c.in-Some.held c.as_slice.result.now c.as_slice-2.result.now c.args.at
    c.args.source.now place c.in-Some-get.code.now c.in_ok-copy_of-in-Some-get.field-0 c.in-Some.is
    c.as_slice.ensures.value c.as_slice-2.ensures.value c.in-Some-place_of.ensures
    (slice_get_read c.as_slice-2.result.now _ place c.in-Some-get.code.now refl found.3.0 found.1)
    c.in_ok-copy_of-in-Some-get.ensures
