-- A shelf over the system's files.
use Rattle.std.specs.Prelude.{List, []}
use Rattle.cdp_edge.specs.Blame.{Faults, no_faults}
use Rattle.cdp_edge.specs.Logs.{NamedFile}

-- its faults, what it handed in, and what it stored
pub record SystemShelf : Type 0 where
  pub faults : Faults
  pub handed : List NamedFile
  pub stored : List NamedFile

-- a shelf that nobody called
abbrev pub unused_shelf : SystemShelf
unused_shelf = record { faults = no_faults; handed = []; stored = [] }
