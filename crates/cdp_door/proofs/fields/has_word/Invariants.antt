use Rattle.std.proofs.Common.{◌≡◌, length}
use Rattle.cdp_door.specs.Fields.{has_word}
use Rattle.cdp_door.proofs.fields.has_word.Given as goal

-- no part so far is the word
abbrev pub invariant-loop-part : goal.invariant-loop-part
invariant-loop-part l = has_word l.word l.value ≡ has_word l.word l.rest

abbrev pub decreases-loop-part : goal.decreases-loop-part
decreases-loop-part l = length l.rest
