use Rattle.std.proofs.Common.{◌∙◌, ap, rules, nat_cmp}
use Rattle.std.specs.Prelude.{Some}
use Rattle.std.specs.BTreeSet.{insert_key}
use Rattle.object_groups.specs.Groups.{numbers_of}
use Rattle.object_groups.proofs.GroupLemmas.{numbers-changed, numbers-same, numbers-begun}
use Rattle.object_groups.proofs.groups.Groups.add.Goals as goal
use Rattle.cdp_text.proofs.TestLemmas.{on-err}

pub returns-in_err-insert-clause-kept : goal.returns-in_err-insert-clause-kept
returns-in_err-insert-clause-kept c =
    let changes = (c.get_mut.follows.holds c.insert.new.self).3 (search rules) in
    on-err c.from_residual.result _
    (numbers-same c.args.group.now c.args.self.now.sets (c.get_mut.follows.lender c.insert.new.self)
    (Some c.insert.new.self) changes (c.in_err-insert.ensures.err ∙ ap numbers_of c.in-Some.ensures.value))

pub returns-in-Some-clause-added : goal.returns-in-Some-clause-added
returns-in-Some-clause-added c =
    let changes = (c.get_mut.follows.holds c.insert.new.self).3 (search rules) in
    numbers-changed c.args.group.now c.args.self.now.sets (c.get_mut.follows.lender c.insert.new.self)
    (Some c.insert.new.self) (λ ns. insert_key nat_cmp ns c.args.number) changes
    (c.in_ok-insert.ensures.keys ∙ ap (λ o. insert_key nat_cmp (numbers_of o) c.args.number) c.in-Some.ensures.value)

pub returns-clause-added : goal.returns-clause-added
returns-clause-added c =
    numbers-begun c.args.group.now c.in_ok-name.name.items c.args.self.now.sets c.get_mut.follows.lender-at-none
    c.insert-3.new.self c.insert-2.new.self c.args.number
    c.in_ok-name.ensures.items c.get_mut.follows.holds-at-none c.in_ok-insert-3.ensures.updates
    (c.in_ok-insert-2.ensures.keys ∙ ap (λ ns. insert_key nat_cmp ns c.args.number) c.new-numbers.ensures.empty)
    c.in_default.ensures.value
