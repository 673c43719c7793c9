use Rattle.std.proofs.Common.{arith, subst, sym}
use Rattle.js_heap_memory.specs.Overlays.{Over}
use Rattle.js_heap_memory.specs.Changes.{ChangeWithin}
use Rattle.js_heap_memory.proofs.EarlierLemmas.{earlier-same}
use Rattle.js_heap_memory.proofs.overlay.OverlayWorld.write.Goals as goal

pub invariant_of-self-in-Scratch : goal.invariant_of-self-in-Scratch
invariant_of-self-in-Scratch c =
    let P : Over → Type 0 = λ h. ChangeWithin h.ends c.args.change in (
      record {
        within =
            c.change_in.ensures.within c.self.inside.ends (subst P (sym c.self.view_is) c.requires)
            c.self.invariant.0.within;
        places = grind (arith, c.self.invariant.0.places, c.change_in.ensures.len);
      },
      earlier-same c.self.inside.cells.items c.change_in.new.cells.items c.self.inside.start c.self.inside.earlier_ends
          (c.change_in.ensures.others c.self.inside.start (grind arith)) c.change_in.ensures.len c.self.invariant.1,
    )
