-- The cells of a session's evaluations in which the objects stand that it holds.
use Rattle.std.specs.Prelude.{Option, None, slice_get}
use Rattle.js_heap.specs.ScratchSpaces.{ScratchSpace}
use Rattle.js_heap.specs.declared.cell.Cell.{Cell}
use Rattle.js_heap.specs.declared.value.Addr.{Addr}
use Rattle.js_heap.specs.declared.value.Addr.TheVariants.{Base, Scratch}
use Rattle.object_groups.specs.declared.handle.Handle.{Handle}
use Rattle.object_groups.specs.declared.handle.Target.{Target}
use Rattle.object_groups.specs.declared.handle.Target.TheVariants.{Object, Scope}
use Rattle.cdp_session.specs.Sessions.{Session}

-- where an object or a scope stands
abbrev pub address_of : Target → Addr
address_of (Object a) = a
address_of (Scope a) = a

-- the cell at an address, where an evaluation of the session made it
abbrev pub cell_at : ScratchSpace → Addr → Option Cell
cell_at space (Base i) = None
cell_at space (Scratch i) = slice_get space.cells i

-- the cell of a handle, where an evaluation of the session made it
abbrev pub cell_of : Session → Handle → Option Cell
cell_of x h = cell_at x.workspace.scratch (address_of h.target)
