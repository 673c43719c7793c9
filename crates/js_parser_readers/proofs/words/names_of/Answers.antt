use Rattle.std.proofs.Common.{refl}
use Rattle.std.proofs.lemmas.List.{take_all}
use Rattle.js_parser_readers.proofs.words.names_of.Goals as goal

pub returns : goal.returns
returns c =
    rw (
      c.from_vec.ensures,
      c.loop-name.invariant,
      take_all c.loop-name.name-index c.args.names.now c.loop-name-test.false,
    )
    refl
