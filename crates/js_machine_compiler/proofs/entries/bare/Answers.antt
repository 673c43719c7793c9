use Rattle.js_machine_compiler.proofs.EntryLemmas.{has_bare}
use Rattle.js_machine_compiler.proofs.entries.bare.Goals as goal

pub returns : goal.returns
returns c = λ ts t. has_bare ts t c.args.op c.requires
