use Rattle.std.proofs.Common.{◌∙◌, sym, subst, arith}
use Rattle.std.specs.List.Sorted.{IsStrictlySortedBy}
use Rattle.breakpoints.proofs.AscendingLemmas.{put-standing, put-parted, put-sorted}
use Rattle.breakpoints.proofs.ascending.put.Goals as goal

pub insert-requires : goal.insert-requires
insert-requires g c =
    let s = rw c.as_slice.ensures.value at c.in-Err.ensures in
    omega (arith, s.0, c.args.values.now.ok.0)

pub unwrap-requires : goal.unwrap-requires
unwrap-requires g c = c.insert.ensures.succeeds c.requires.room

pub returns-in-Ok-clause-put : goal.returns-in-Ok-clause-put
returns-in-Ok-clause-put g c =
    let s = rw c.as_slice.ensures.value at c.in-Ok.ensures in
    sym (put-standing g.met.T.Ord.total c.args.values.now.items c.args.value c.in-Ok.field-0 c.requires.ascending s)

pub returns-in-Err-clause-put : goal.returns-in-Err-clause-put
returns-in-Err-clause-put g c =
    let s = rw c.as_slice.ensures.value at c.in-Err.ensures in
    let e = rw c.unwrap.ensures at c.insert.ensures.items in
    e ∙ put-parted g.met.T.Ord.total c.args.values.now.items c.args.value c.in-Err.place s

pub returns-in-Err-clause-ascending : goal.returns-in-Err-clause-ascending
returns-in-Err-clause-ascending g c =
    let s = rw c.as_slice.ensures.value at c.in-Err.ensures in
    let e = rw c.unwrap.ensures at c.insert.ensures.items in
    subst (IsStrictlySortedBy g.T.Ord.cmp)
    (sym (e ∙ put-parted g.met.T.Ord.total c.args.values.now.items c.args.value c.in-Err.place s))
    (put-sorted g.met.T.Ord.total c.args.values.now.items c.args.value c.requires.ascending)
