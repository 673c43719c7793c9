use Rattle.std.proofs.Common.{◌≡◌, map, drop}
use Rattle.cdp_edge.specs.Outside.{content_of}
use Rattle.cdp_edge.specs.MemShelf.{named}
use Rattle.cdp_edge.proofs.mem_shelf.find.Given as goal

-- no file so far has the name
abbrev pub invariant-loop-file : goal.invariant-loop-file
invariant-loop-file l =
    content_of l.name (map named l.files) ≡ content_of l.name (map named (drop l.file-index l.files))
