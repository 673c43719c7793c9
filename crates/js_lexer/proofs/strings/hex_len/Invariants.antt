use Rattle.std.proofs.Common.{◌≡◌, ◌+◌, drop}
use Rattle.js_lexer.specs.Classes.{leading}
use Rattle.js_lexer.specs.Strings.{is_hex}
use Rattle.js_lexer.proofs.strings.hex_len.Given as goal

abbrev pub invariant-loop-i : goal.invariant-loop-i
invariant-loop-i l = l.i + leading is_hex (drop l.i l.units) ≡ leading is_hex l.units
