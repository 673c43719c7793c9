-- A shelf in memory, and what its calls do to it.
use Rattle.std.specs.Prelude.{Result, Ok, Err, ℕ, List, [], ◌∷◌, string_bytes}
use Rattle.std.specs.declared.string.String.{String}
use Rattle.std.specs.declared.vec.Vec.{Vec}
use Rattle.std.specs.declared.alloc.Global.{Global}
use Rattle.cdp_edge.specs.Blame.{Read, Store, Faults, no_faults}
use Rattle.cdp_edge.specs.Logs.{NamedFile}
use Rattle.cdp_edge.specs.Outside.{one_more, faults_after, handed_after, stored_after}
use Rattle.cdp_edge.specs.declared.shelf.ShelfFault.{ShelfFault}

-- the files, what it handed in and stored, how often it was called, its faults, and the numbers of the calls that
-- fail, from 1
pub record MemoryShelf : Type 0 where
  pub files : List NamedFile
  pub handed : List NamedFile
  pub stored : List NamedFile
  pub calls : ℕ
  pub faults : Faults
  pub fails : List ℕ

-- a name and the bytes kept under it
abbrev pub named : String Global × Vec ℕ Global → NamedFile
named file = record { name = string_bytes file.0; bytes = file.1.items }

-- a shelf of these files that nobody called, whose calls of these numbers fail
abbrev pub unused_shelf : List NamedFile → List ℕ → MemoryShelf
unused_shelf files fails =
    record { files = files; handed = []; stored = []; calls = 0; faults = no_faults; fails = fails }

-- the shelf after a read of this name with this answer
abbrev pub after_read : Result (Vec ℕ Global) ShelfFault → List ℕ → MemoryShelf → MemoryShelf
after_read answer name old = record old {
  handed = handed_after answer name old.handed;
  calls = one_more old.calls;
  faults = faults_after answer (Read name) old.faults;
}

-- the files after a store of these bytes under this name with this answer: those come first
abbrev pub files_after : {A : Type 0} → Result A ShelfFault → List ℕ → List ℕ → List NamedFile → List NamedFile
files_after (Ok done) name bytes files = record { name = name; bytes = bytes } ∷ files
files_after (Err fault) name bytes files = files

-- the shelf after a store of these bytes under this name with this answer
abbrev pub after_store : {A : Type 0} → Result A ShelfFault → List ℕ → List ℕ → MemoryShelf → MemoryShelf
after_store answer name bytes old = record old {
  files = files_after answer name bytes old.files;
  stored = stored_after answer name bytes old.stored;
  calls = one_more old.calls;
  faults = faults_after answer (Store name) old.faults;
}
