use Rattle.std.proofs.Common.{[], ◌∷◌, ◌++◌, inr, Option, None, refl, subst}
use Rattle.cdp_edge_wire.specs.Arrived.{Byte}
use Rattle.cdp_door.specs.Greetings.{Owes}
use Rattle.cdp_door.specs.declared.answer.Response.{Response}
use Rattle.cdp_door.proofs.HearLemmas.{byte-present}
use Rattle.cdp_door.proofs.hear.look.Goals as goal

pub returns-in-Err-push-clause-looks : goal.returns-in-Err-push-clause-looks
returns-in-Err-push-clause-looks g c =
    let owes : Owes c.args.reader.now None =
    subst (λ (o : Option Response). Owes c.args.reader.now o) c.in-Ok-None.field-0-is c.in-Ok-None.ensures.owes in
    inr (
      owes.0,
      c.args.reader.now ++ c.in-Byte.byte ∷ [],
      record {
        arrived = Byte c.in-Byte.byte;
        present = byte-present c.in-Byte.byte;
        answers = c.in-Byte.ensures.answers;
        after_is = refl;
        nothing = c.take.ensures.content;
      },
    )
