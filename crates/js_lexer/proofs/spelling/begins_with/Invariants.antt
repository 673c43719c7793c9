use Rattle.std.proofs.Common.{◌≡◌, drop}
use Rattle.js_lexer.specs.Spellings.{is_prefix_of}
use Rattle.js_lexer.proofs.spelling.begins_with.Given as goal

abbrev pub invariant-loop-b : goal.invariant-loop-b
invariant-loop-b l = is_prefix_of (drop l.b-index l.b-items) l.rest ≡ is_prefix_of l.b-items l.units
