use Rattle.std.proofs.Common.{◌≡◌, drop}
use Rattle.js_lexer.specs.Spellings.{first_in, entries}
use Rattle.js_lexer.proofs.spelling.first_in.Given as goal

abbrev pub invariant-loop-kind : goal.invariant-loop-kind
invariant-loop-kind l =
    first_in (entries (drop l.kind-index l.table)) l.units ≡ first_in (entries l.table) l.units
