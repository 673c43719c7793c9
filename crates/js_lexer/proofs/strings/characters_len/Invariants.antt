use Rattle.std.proofs.Common.{◌≡◌, ◌+◌, length}
use Rattle.js_lexer.specs.Pieces.{run}
use Rattle.js_lexer.specs.Characters.{character_len}
use Rattle.js_lexer.proofs.strings.characters_len.Given as goal

abbrev pub invariant-loop-character : goal.invariant-loop-character
invariant-loop-character l = record {
  len : l.len + run (character_len l.quote) 0 l.rest ≡ run (character_len l.quote) 0 l.units;
  units : l.len + length l.rest ≡ length l.units;
}

abbrev pub decreases-loop-character : goal.decreases-loop-character
decreases-loop-character l = length l.rest
