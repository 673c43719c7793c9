use Rattle.std.proofs.Common.{◌∙◌, sym, subst, arith}
use Rattle.std.specs.List.Sorted.{IsStrictlySortedBy}
use Rattle.std.specs.BTreeMap.{is_at}
use Rattle.breakpoints.proofs.AscendingLemmas.{take-standing, take-absent, take-sorted, has-parted}
use Rattle.breakpoints.proofs.ascending.take_out.Goals as goal

pub remove-requires : goal.remove-requires
remove-requires g c =
    let s = rw c.as_slice.ensures.value at c.in-Ok.ensures in
    omega (arith, s.0, c.args.values.now.ok.0)

pub returns-in-Ok-clause-taken : goal.returns-in-Ok-clause-taken
returns-in-Ok-clause-taken g c =
    let s = rw c.as_slice.ensures.value at c.in-Ok.ensures in
    c.remove.ensures.items
    ∙ take-standing g.met.T.Ord.total c.args.values.now.items c.args.value.now c.in-Ok.place c.requires s

pub returns-in-Ok-clause-ascending : goal.returns-in-Ok-clause-ascending
returns-in-Ok-clause-ascending g c =
    let s = rw c.as_slice.ensures.value at c.in-Ok.ensures in
    subst (IsStrictlySortedBy g.T.Ord.cmp)
    (sym (c.remove.ensures.items
    ∙ take-standing g.met.T.Ord.total c.args.values.now.items c.args.value.now c.in-Ok.place c.requires s))
    (take-sorted g.met.T.Ord.total (is_at (g.T.Ord.cmp c.args.value.now)) c.args.values.now.items c.requires)

pub returns-in-Err-clause-taken : goal.returns-in-Err-clause-taken
returns-in-Err-clause-taken g c =
    let s = rw c.as_slice.ensures.value at c.in-Err.ensures in
    take-absent g.met.T.Ord.total (is_at (g.T.Ord.cmp c.args.value.now)) c.args.values.now.items
    (has-parted g.met.T.Ord.total c.args.values.now.items c.args.value.now c.in-Err.field-0 s)
