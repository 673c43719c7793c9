use Rattle.js_parser_readers.proofs.PlacedLemmas.{closed}
use Rattle.js_parser_readers.proofs.PlacedTokenLemmas.{symbol}
use Rattle.std.proofs.Common.{refl}
use Rattle.js_parser_readers.proofs.words.single.Goals as goal

pub returns-clause-placed : goal.returns-clause-placed
returns-clause-placed c =
    λ s h. closed _ (symbol _ s _ _ h c.tail-rest.ensures) c.in_ok-add.ensures.span c.in_ok-add.ensures.number refl
