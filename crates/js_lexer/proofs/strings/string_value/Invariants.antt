use Rattle.std.proofs.Common.{◌≡◌, ◌++◌, length}
use Rattle.js_lexer.specs.Characters.{decoded, string_value}
use Rattle.js_lexer.proofs.strings.string_value.Given as goal

abbrev pub invariant-loop-character : goal.invariant-loop-character
invariant-loop-character l =
    l.units.items ++ decoded l.quote 0 l.rest ≡ string_value l.text

abbrev pub decreases-loop-character : goal.decreases-loop-character
decreases-loop-character l = length l.rest
