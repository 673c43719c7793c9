use Rattle.std.proofs.Common.{◌≡◌, take}
use Rattle.js_parser_readers.specs.Names.{texts}
use Rattle.js_parser_readers.proofs.words.names_of.Given as goal

abbrev pub invariant-loop-name : goal.invariant-loop-name
invariant-loop-name l = l.copies.items ≡ texts (take l.name-index l.names)
