use Rattle.std.proofs.Common.{sym}
use Rattle.js_heap_operators.proofs.TextLemmas.{same-long}
use Rattle.js_heap_operators.proofs.text.is_ascii.Goals as goal

pub returns-then-units-bytes : goal.returns-then-units-bytes
returns-then-units-bytes c = sym (same-long c.args.units.now c.args.bytes.now c.if-units-bytes.true)
