use Rattle.std.proofs.Common.{arith}
use Rattle.js_heap_memory.proofs.EarlierLemmas.{cut-fit, cut-min, cut-space}
use Rattle.js_heap_memory.proofs.overlay.Scratch.cut.Goals as goal

pub invariant_of-self : goal.invariant_of-self
invariant_of-self c = (
  cut-fit _ c.args.self.now _ c.args.mark c.truncate.new.self.items c.ends_at-self-inside.result c.self.view_is
      c.mark.view_is c.truncate.ensures.items c.ends_at-self-inside.ensures.within c.mark.invariant,
  cut-min c.self.inside.cells.items c.truncate.new.self.items c.mark.inside.count c.self.inside.earlier
      c.min-self-inside.result c.self.inside.earlier_ends c.truncate.ensures.items
      (grind arith) c.self.invariant.1,
)

pub returns-clause-space : goal.returns-clause-space
returns-clause-space c =
    cut-space _ c.args.self.now c.truncate.new.self.items _ c.args.mark c.self.view_is c.mark.view_is
    c.truncate.ensures.items
