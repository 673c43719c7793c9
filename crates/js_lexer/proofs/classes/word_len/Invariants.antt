use Rattle.std.proofs.Common.{◌≡◌, ◌+◌, drop}
use Rattle.js_lexer.specs.Classes.{is_word_part, leading}
use Rattle.js_lexer.proofs.classes.word_len.Given as goal

abbrev pub invariant-loop-i : goal.invariant-loop-i
invariant-loop-i l = l.i + leading is_word_part (drop l.i l.units) ≡ leading is_word_part l.units
