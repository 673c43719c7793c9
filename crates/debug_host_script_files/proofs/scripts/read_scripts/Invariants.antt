use Rattle.std.proofs.Common.{◌≡◌, take}
use Rattle.cdp_edge.specs.Outside.{Given, HandsIn}
use Rattle.debug_host_script_files.specs.TopNames.{declared_in}
use Rattle.debug_host_script_files.specs.Scripts.{AreScripts, names_held}
use Rattle.debug_host_script_files.proofs.scripts.read_scripts.Given as goal

-- the files of the names so far were handed in and hold the scripts so far, and no read failed
abbrev pub invariant-loop-name : goal.invariant-loop-name
invariant-loop-name g l = record {
  are : Given (HandsIn (g.F.Shelf.files l.fn.shelf) (g.F.Shelf.handed l.fn.shelf) (g.F.Shelf.handed l.shelf))
      (λ given. AreScripts given (names_held (take l.name-index l.names)) l.scripts.items);
  declared : l.declared.items ≡ declared_in l.scripts.items;
  files : g.F.Shelf.files l.shelf ≡ g.F.Shelf.files l.fn.shelf;
  quiet : g.F.Shelf.faults l.shelf ≡ g.F.Shelf.faults l.fn.shelf;
  stored : g.F.Shelf.stored l.shelf ≡ g.F.Shelf.stored l.fn.shelf;
}
