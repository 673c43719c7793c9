use Rattle.std.proofs.Common.{refl, arith}
use Rattle.js_heap_memory.proofs.JoinedLemmas.{later-start}
use Rattle.js_heap_memory.proofs.joined.start.Goals as goal

pub returns-else-at-eq0 : goal.returns-else-at-eq0
returns-else-at-eq0 c = λ ts e. later-start c.args.ends.now ts c.args.at _ _ e (grind arith) c.requires refl
