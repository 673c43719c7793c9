use Rattle.std.proofs.Common.{[], refl}
use Rattle.object_groups.proofs.GroupLemmas.{numbers-changed}
use Rattle.object_groups.proofs.groups.Groups.take.Goals as goal
use Rattle.std.specs.Prelude.{None}

pub returns-clause-rest : goal.returns-clause-rest
returns-clause-rest c =
    numbers-changed c.args.group.now c.args.self.now.sets c.remove.new.self None (λ _. []) c.remove.ensures.updates refl
