use Rattle.std.proofs.Common.{◌≡◌, drop}
use Rattle.js_lexer.specs.Spellings.{kind_in, entries}
use Rattle.js_lexer.proofs.spelling.kind_in.Given as goal

abbrev pub invariant-loop-kind : goal.invariant-loop-kind
invariant-loop-kind l =
    kind_in (entries (drop l.kind-index l.table)) l.text ≡ kind_in (entries l.table) l.text
