use Rattle.js_machine_compiler.proofs.EntryLemmas.{has_named}
use Rattle.js_machine_compiler.proofs.entries.named.Goals as goal

pub returns-clause-form : goal.returns-clause-form
returns-clause-form c =
    λ t. has_named c.number_of.new.names t c.args.op c.in_ok-name.name.number c.args.name.now c.requires
    c.in_ok-name.ensures.known
