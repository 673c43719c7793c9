use Rattle.std.proofs.Common.{◌∙◌, ap, sym, rules, nat_cmp}
use Rattle.std.specs.Prelude.{Some, None}
use Rattle.std.specs.Set.{remove_key}
use Rattle.std.specs.BTreeMap.{is_at}
use Rattle.object_groups.specs.Groups.{numbers_of}
use Rattle.object_groups.proofs.GroupLemmas.{numbers-changed, numbers-same, set-there, no-number}
use Rattle.object_groups.proofs.groups.Groups.remove.Goals as goal

pub returns-then-is_empty : goal.returns-then-is_empty
returns-then-is_empty c = λ q.
    let changes = (c.get_mut.follows.holds c.remove.new.self).3 (search rules) in
    let written = numbers-changed c.args.group.now c.args.self.now.sets (c.get_mut.follows.lender c.remove.new.self)
    (Some c.remove.new.self) (λ ns. remove_key (is_at (nat_cmp c.args.number)) ns) changes
    (c.remove.ensures.keys
    ∙ ap (λ o. remove_key (is_at (nat_cmp c.args.number)) (numbers_of o)) c.in-Some.ensures.value)
    in
    let empty = no-number c.remove.new.self.keys (c.is_empty.ensures.0 c.if-is_empty.true) in
    let dropped = numbers-same c.args.group.now (c.get_mut.follows.lender c.remove.new.self)
    c.remove-then-is_empty.new.self None c.remove-then-is_empty.ensures.updates
    (sym (ap numbers_of
    (set-there c.args.group.now c.args.self.now.sets (c.get_mut.follows.lender c.remove.new.self)
    (Some c.remove.new.self) changes)
    ∙ empty))
    in
    dropped q ∙ written q

pub returns-else-is_empty : goal.returns-else-is_empty
returns-else-is_empty c =
    let changes = (c.get_mut.follows.holds c.remove.new.self).3 (search rules) in
    numbers-changed c.args.group.now c.args.self.now.sets (c.get_mut.follows.lender c.remove.new.self)
    (Some c.remove.new.self) (λ ns. remove_key (is_at (nat_cmp c.args.number)) ns) changes
    (c.remove.ensures.keys
    ∙ ap (λ o. remove_key (is_at (nat_cmp c.args.number)) (numbers_of o)) c.in-Some.ensures.value)
