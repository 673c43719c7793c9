use Rattle.js_heap_memory.specs.Overlays.{over_world}
use Rattle.pure_eval.proofs.PlacedLemmas.{kept-keeps}
use Rattle.pure_eval.proofs.session.prepare.Goals as goal

pub returns-clause-keeps : goal.returns-clause-keeps
returns-clause-keeps c = λ names.
    kept-keeps (over_world names c.args.overlay.now) (over_world names c.keep.new.self)
    (over_world names c.make_literals.new.world) c.args.source c.in_ok-keep.field-0
    (c.in_ok-keep.ensures.source names) (c.make_literals.ensures.keeps names)
