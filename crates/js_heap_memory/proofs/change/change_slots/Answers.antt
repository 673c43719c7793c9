use Rattle.std.proofs.Common.{subst}
use Rattle.js_heap_memory.specs.declared.change.CellChange.{CellChange}
use Rattle.js_heap_memory.specs.Names.{name_of}
use Rattle.js_heap_memory.specs.Cells.{bindings}
use Rattle.js_heap_memory.specs.Changes.{Distinguishes, ChangeWithin}
use Rattle.js_heap_memory.proofs.HeapLemmas.{bind-moves}
use Rattle.js_heap_memory.proofs.change.change_slots.Goals as goal

pub returns-in-Declare-clause-within : goal.returns-in-Declare-clause-within
returns-in-Declare-clause-within c = λ end h k.
    let P : CellChange → Type 0 = λ x. ChangeWithin end x in
    c.declare_in.ensures.within end (subst P c.in-Declare.is h) k

pub returns-in-Bind-clause-value : goal.returns-in-Bind-clause-value
returns-in-Bind-clause-value c = λ names d.
    let P : CellChange → Type 0 = λ x. Distinguishes names x in
    rw c.in-Bind.is
    (bind-moves (bindings names c.args.slots.now) (bindings names c.bind.new.slots)
    (name_of names c.in-Bind.name.number) c.in-Bind.value c.args.units_left
    (c.bind.ensures.value names (subst P c.in-Bind.is d)))

pub returns-in-Bind-clause-within : goal.returns-in-Bind-clause-within
returns-in-Bind-clause-within c = λ end h k. c.bind.ensures.within end k
