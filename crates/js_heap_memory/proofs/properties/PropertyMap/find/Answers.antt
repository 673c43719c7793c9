use Rattle.std.proofs.Common.{sym, ap, ◌∙◌}
use Rattle.std.specs.Prelude.{slice_get}
use Rattle.js_heap_memory.proofs.PropertyLemmas.{find-place}
use Rattle.js_heap_memory.proofs.properties.PropertyMap.find.Goals as goal

pub returns : goal.returns
returns c =
    c.get.ensures ∙ ap (slice_get c.args.self.now) c.place.ensures ∙ sym (find-place c.args.self.now c.args.key.now)
