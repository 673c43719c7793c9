use Rattle.std.proofs.Common.{arith, subst, sym}
use Rattle.js_heap_memory.specs.Heaps.{Heap}
use Rattle.js_heap_memory.specs.Changes.{ChangeWithin}
use Rattle.js_heap_memory.proofs.heap.BaseHeapWorld.write.Goals as goal

pub invariant_of-self-in-Base : goal.invariant_of-self-in-Base
invariant_of-self-in-Base c =
    let P : Heap → Type 0 = λ h. ChangeWithin h.ends c.args.change in
    record {
      within =
          c.change_in.ensures.within c.self.inside.ends (subst P (sym c.self.view_is) c.requires)
          c.self.invariant.within;
      places = grind (arith, c.self.invariant.places, c.change_in.ensures.len);
    }
