use Rattle.std.proofs.Common.{◌++◌, ◌∷◌, [], ◌∙◌, ap, sym}
use Rattle.js_heap_memory.proofs.GrowLemmas.{number-next, take-next}
use Rattle.js_heap_memory.proofs.names.NameTable.copy.Goals as goal

pub push-requires : goal.push-requires
push-requires c =
    rw c.loop-i.invariant
    (number-next c.self.inside.texts c.loop-i.i c.text.result.now c.self.invariant.differ c.text.ensures)

pub loop-i-preserved : goal.loop-i-preserved
loop-i-preserved c =
    c.in_ok-push.ensures.more
    ∙ ap (λ names. names ++ c.text.result.now ∷ []) c.loop-i.invariant
    ∙ sym (take-next c.self.inside.texts c.loop-i.i c.text.result.now c.text.ensures)
