use Rattle.std.proofs.Common.{◌≡◌, drop}
use Rattle.js_parser_readers.specs.Names.{texts}
use Rattle.js_parser_readers.specs.Parsing.{are_fresh}
use Rattle.js_parser_readers.specs.Reading.{with_names}
use Rattle.js_parser_readers.proofs.classes.arrows.take_fresh.Given as goal

abbrev pub invariant-loop-name : goal.invariant-loop-name
invariant-loop-name l =
    (are_fresh l.fn.taken (texts l.fn.names) ≡ are_fresh l.taken (drop l.name-index (texts l.fn.names)))
    × (with_names l.fn.taken (texts l.fn.names) ≡ with_names l.taken (drop l.name-index (texts l.fn.names)))
