use Rattle.std.proofs.Common.{arith}
use Rattle.js_heap_memory.proofs.JoinedLemmas.{counted}
use Rattle.js_heap_memory.proofs.joined.JoinedTexts.len.Goals as goal

pub returns : goal.returns
returns c =
    grind (
      arith,
      counted c.self.inside.units.items c.self.inside.ends.items c.args.self.now c.self.view_is,
    )
